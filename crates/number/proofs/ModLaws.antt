-- The turns of repeated squaring. Products and powers keep congruence, so a factor and a base may be reduced first.
use Rattle.std.proofs.Common.{◌≡◌, ℕ, zero, suc, ◌+◌, ◌*◌, ◌/◌, ◌%◌, ◌^◌, ◌<◌, sym, ap, ◌∙◌, lt_of_le_of_lt, le_of_lt, mul-le-mul_left}
use Rattle.std.proofs.Common.{mul-lt-mul_of_pos_right, pow-suc, arith, pow_pos, pow-add}
use native.Mathlib.Nat.{pow-zero}
use Rattle.paper.proofs.Congruence.{Agree, agree_of, agree_refl, agree_trans, agree_mod, agree_mul, agree_pow}

-- the product of two numbers below 2^k
pub below : (k : ℕ) {a b : ℕ} → a < 2 ^ k → b < 2 ^ k → a * b < 2 ^ (k + k)
below k {a} {b} h l = rw (pow-add 2 k k) (lt_of_le_of_lt (mul-le-mul_left a (le_of_lt l)) (mul-lt-mul_of_pos_right h (pow_pos k)))

-- a power of a square
square : (b h : ℕ) → (b * b) ^ h ≡ b ^ (h + h)
square b zero = pow-zero (b * b) ∙ sym (pow-zero b)
square b (suc h) =
    let e : suc h + suc h ≡ suc (suc (h + h)) = omega arith in
    rw (e, pow-suc (b * b) h, pow-suc b (suc (h + h)), pow-suc b (h + h), square b h) (omega arith)

-- one turn of repeated squaring, at an odd and at an even exponent
module _ (acc base left m : ℕ) where
  squared : Agree m ((base * base % m) ^ (left / 2)) (base ^ (left / 2 + left / 2))
  squared = agree_trans (agree_pow (left / 2) (agree_mod (base * base))) (agree_of (square base (left / 2)))

  pub odd_turn : left % 2 ≡ 1 → (acc * base % m * (base * base % m) ^ (left / 2)) % m ≡ (acc * base ^ left) % m
  odd_turn h =
      let e : left ≡ suc (left / 2 + left / 2) = omega arith in
      let f : acc * base ^ left ≡ acc * (base ^ (left / 2 + left / 2) * base) =
      ap (λ (n : ℕ). acc * base ^ n) e ∙ ap (λ (n : ℕ). acc * n) (pow-suc base (left / 2 + left / 2)) in
      let g : Agree m (acc * base * base ^ (left / 2 + left / 2)) (acc * base ^ left) = agree_of (omega arith) in
      (agree_trans (agree_mul (agree_mod (acc * base)) squared) g).agree

  pub even_turn : left % 2 ≡ 0 → (acc * (base * base % m) ^ (left / 2)) % m ≡ (acc * base ^ left) % m
  even_turn h =
      let e : left / 2 + left / 2 ≡ left = omega arith in
      (agree_mul (agree_refl {a = acc}) (rw e at squared)).agree
