-- Laws of the bits of the trees that are owed: turning one bit changes that one alone, since a word and a power of two differ, as bits, in the
-- one bit of the power.
use Prim.Native.Nat.{ℕ, zero, suc, ◌+◌, ◌-◌, ◌*◌, ◌/◌, ◌%◌, ◌^◌, ◌<◌}
use mathlib.Core.Path.{◌≡◌, refl, sym, ap, ◌∙◌}
use mathlib.Core.List.{List}
use native.Mathlib.Decide.{ℕ_discrete, dec_lt}
use native.Mathlib.Nat.{zero-div, div_self, div-eq_of_lt, mul-div_cancel}
use native.Mathlib.Omega.{arith}
use lib.Bits.{bit_xor, xor_shr, xor_mod, xor_zero_r, shifted_even}
use lib.Pow.{pow-lt, pow-add, pow_pos}
use lib.ListN.{length, get_or, length-set, replicate}
use lib.Seq.{get_or-set_same, get_or-set_other}
use Rattle.table.specs.Due.{due_at, turned}

-- bit j of a power of two
own_bit : (r : ℕ) → 2 ^ r / 2 ^ r % 2 ≡ 1
own_bit r = ap (λ (x : ℕ). x % 2) (div_self (pow_pos r))

other_bit : (r j : ℕ) → (j ≡ r → ⊥) → 2 ^ r / 2 ^ j % 2 ≡ 0
other_bit r j h = by (dec_lt r j)
  where
    by : Dec (r < j) → 2 ^ r / 2 ^ j % 2 ≡ 0
    by (yes l) = ap (λ (x : ℕ). x % 2) (div-eq_of_lt (pow-lt l))
    by (no l) =
        let d : ℕ = r - j - 1 in
        let e : suc d + j ≡ r = omega arith in
        let q : 2 ^ r / 2 ^ j ≡ 2 ^ suc d =
        ap (λ (x : ℕ). 2 ^ x / 2 ^ j) (sym e) ∙ ap (λ (x : ℕ). x / 2 ^ j) (pow-add 2 (suc d) j) ∙ mul-div_cancel (2 ^ suc d) (pow_pos j) in
        let one : 2 ^ suc d ≡ 1 * 2 ^ suc d = omega arith in
        ap (λ (x : ℕ). x % 2) (q ∙ one) ∙ shifted_even 1 d

-- bit j of a word in which bit r is turned
bit_of : (x r j : ℕ) → bit_xor x (2 ^ r) / 2 ^ j % 2 ≡ bit_xor (x / 2 ^ j % 2) (2 ^ r / 2 ^ j % 2)
bit_of x r j = ap (λ (y : ℕ). y % 2) (xor_shr x (2 ^ r) j) ∙ xor_mod (x / 2 ^ j) (2 ^ r / 2 ^ j) 1

module _ (due : List ℕ) where
  pub turned_length : (k : ℕ) → length (turned due k) ≡ length due
  unfolding turned
  turned_length k = length-set due (k / 64) _

  word : (k j : ℕ) → k < length due * 64 → j / 64 ≡ k / 64 → get_or (turned due k) (j / 64) 0 ≡ bit_xor (get_or due (k / 64) 0) (2 ^ (k % 64))
  unfolding turned
  word k j h e = rw e (get_or-set_same due (k / 64) _ 0 (omega arith))

  same : (k : ℕ) → k < length due * 64 → due_at (turned due k) k ≡ bit_xor (due_at due k) 1
  unfolding due_at
  same k h = rw (word k k h refl) (bit_of (get_or due (k / 64) 0) (k % 64) (k % 64) ∙ ap (bit_xor (due_at due k)) (own_bit (k % 64)))

  pub set_bit : (k : ℕ) → k < length due * 64 → due_at due k ≡ 0 → due_at (turned due k) k ≡ 1
  set_bit k h z = same k h ∙ ap (λ (b : ℕ). bit_xor b 1) z

  pub cleared_bit : (k : ℕ) → k < length due * 64 → due_at due k ≡ 1 → due_at (turned due k) k ≡ 0
  cleared_bit k h z = same k h ∙ ap (λ (b : ℕ). bit_xor b 1) z

  pub other_bits : (k j : ℕ) → k < length due * 64 → (j ≡ k → ⊥) → due_at (turned due k) j ≡ due_at due j
  unfolding due_at turned
  other_bits k j h n = by (ℕ_discrete (j / 64) (k / 64))
    where
      by : Dec (j / 64 ≡ k / 64) → due_at (turned due k) j ≡ due_at due j
      by (no d) = rw (get_or-set_other due (k / 64) (j / 64) (bit_xor (get_or due (k / 64) 0) (2 ^ (k % 64))) 0 d) refl
      by (yes e) =
          let apart : j % 64 ≡ k % 64 → ⊥ = λ q. n (omega arith) in
          let x = get_or due (k / 64) 0 in
          rw (word k j h e, e)
          (bit_of x (k % 64) (j % 64) ∙ ap (bit_xor (x / 2 ^ (j % 64) % 2)) (other_bit (k % 64) (j % 64) apart) ∙ xor_zero_r (x / 2 ^ (j % 64) % 2))

-- at the start no bit is set
pub none_set : (m k : ℕ) → due_at (replicate m 0) k ≡ 0
unfolding due_at
none_set m k = rw (zeros m (k / 64), zero-div (2 ^ (k % 64))) refl
  where
    zeros : (m i : ℕ) → ◌≡◌ {A = ℕ} (get_or (replicate m 0) i 0) 0
    zeros zero i = refl
    zeros (suc m) zero = refl
    zeros (suc m) (suc i) = zeros m i

-- a bit is 0 or 1
pub not_set : (due : List ℕ) (k : ℕ) → (due_at due k ≡ 1 → ⊥) → due_at due k ≡ 0
unfolding due_at
not_set due k h = omega arith
