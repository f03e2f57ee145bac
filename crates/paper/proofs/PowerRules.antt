-- Steps 7, 8 and 9 are good rules: each takes two off the weight; v^1 is v, 0^n is 0 and 1^n is 1 for n of at least 1, and a power of a
-- power has the product of the exponents.
use Prim.Native.Nat.{ℕ, zero, suc, ◌*◌, ◌^◌, ◌≤◌}
use mathlib.Core.Path.{◌≡◌, refl, sym, ap, ◌∙◌}
use mathlib.Core.Bool.{Bool, true, false, ◌||◌}
use native.Mathlib.Omega.{arith}
use native.Mathlib.Nat.{pow-zero, pow-suc, mul-zero, mul-suc, mul-one, mul-pos}
use lib.Pow.{pow-add}
use lib.IntN.{pos}
use lib.Dec.{eqb, ltb}
use borrow.Author.Tests.{eqb-true, ltb-true}
use Rattle.paper.specs.Bytes.{word}
use Rattle.paper.specs.Tree.{Tree, integer, symbol, sum, product, power, marked, weight}
use Rattle.paper.specs.WellFormed.{Mark, WF}
use Rattle.paper.specs.Equal.{eq_z}
use Rattle.paper.specs.Rules.{Tried, as_integer, is_the, on_power_parts, power_one, power_constant, raised_if, power_power}
use Rattle.paper.specs.Good.{GoodAnswer, Good}
use Rattle.paper.proofs.Tests.{never, eq_z_true}
use Rattle.paper.proofs.Congruence.{agree_of}
use Rattle.paper.proofs.Value.{exact}
use Rattle.paper.proofs.MarkLaws.{marked_exact, marked_weight, marked_wf}
use Rattle.paper.proofs.LikeFactors.{pow_one}
use Rattle.paper.proofs.AnswerLaws.{applies_good, kept_agree}

on_power_good : (k : ℕ → Tree → ℕ → ℕ → Tried) → ((μ : ℕ) (b : Tree) (ξ e : ℕ) → WF (power μ b ξ e) → GoodAnswer (power μ b ξ e) (k μ b ξ e))
    → (t : Tree) → WF t → GoodAnswer t (on_power_parts k t)
unfolding on_power_parts
on_power_good k h (integer μ z) w = tt
on_power_good k h (symbol μ s) w = tt
on_power_good k h (sum μ f) w = tt
on_power_good k h (product μ f) w = tt
on_power_good k h (power μ b ξ e) w = h μ b ξ e w

-- ---- powers of numbers
zero_power : (e : ℕ) → 1 ≤ e → 0 ^ e ≡ 0
zero_power zero h = absurd (omega arith)
zero_power (suc e) h = pow-suc 0 e ∙ mul-zero (0 ^ e)

one_power : (e : ℕ) → 1 ^ e ≡ 1
one_power zero = pow-zero 1
one_power (suc e) = pow-suc 1 e ∙ mul-one (1 ^ e) ∙ one_power e

power_power_lem : (a m n : ℕ) → a ^ (m * n) ≡ (a ^ m) ^ n
power_power_lem a m zero = ap (λ (x : ℕ). a ^ x) (mul-zero m) ∙ pow-zero a ∙ sym (pow-zero (a ^ m))
power_power_lem a m (suc n) =
    ap (λ (x : ℕ). a ^ x) (mul-suc m n) ∙ pow-add a (m * n) m ∙ ap (λ (x : ℕ). x * a ^ m) (power_power_lem a m n) ∙ sym (pow-suc (a ^ m) n)

-- ---- step 7
pub power_one_good : Good (record { number = 7; try = power_one })
unfolding power_one exact weight
power_one_good =
    record {
      good =
          on_power_good _
          (λ μ b ξ e w.
          applies_good (power μ b ξ e) b (eqb e 1)
          (λ h. (w.0, kept_agree (power μ b ξ e) b (λ ρ. agree_of (sym (ap (λ n. exact b ρ ^ n) (eqb-true e 1 h) ∙ pow_one (exact b ρ)))) (omega arith))));
    }

-- ---- step 8
constant : (b : Tree) (e : ℕ) → 1 ≤ e → is_the (pos 0) b || is_the (pos 1) b ≡ true → (ρ : ℕ → ℕ) → exact b ρ ≡ exact b ρ ^ e
unfolding is_the as_integer exact word
constant (integer μ z) e h t ρ = go (eq_z z (pos 0)) refl t
  where
    go : (x : Bool) → eq_z z (pos 0) ≡ x → x || eq_z z (pos 1) ≡ true → word z ≡ word z ^ e
    go true p q = let k = eq_z_true z (pos 0) p in ap word k ∙ sym (zero_power e h) ∙ ap (λ y. word y ^ e) (sym k)
    go false p q = let k = eq_z_true z (pos 1) q in ap word k ∙ sym (one_power e) ∙ ap (λ y. word y ^ e) (sym k)
constant (symbol μ s) e h t ρ = never t
constant (sum μ f) e h t ρ = never t
constant (product μ f) e h t ρ = never t
constant (power μ b ξ n) e h t ρ = never t

pub power_constant_good : Good (record { number = 8; try = power_constant })
unfolding power_constant exact weight
power_constant_good =
    record {
      good =
          on_power_good _
          (λ μ b ξ e w.
          applies_good (power μ b ξ e) (marked μ b) (is_the (pos 0) b || is_the (pos 1) b)
          (λ h. (
            marked_wf μ b w.3 w.0,
            kept_agree (power μ b ξ e) (marked μ b) (λ ρ. agree_of (marked_exact μ b ρ ∙ constant b e w.1 h ρ)) (omega (arith, marked_weight μ b)),
          )));
    }

-- ---- step 9
raised_good : (μ ν : ℕ) (b : Tree) (ζ e ξ f : ℕ) → Mark μ → Mark ξ → WF b → 1 ≤ e → 1 ≤ f → (x : Bool) → ltb (e * f) (2 ^ 63) ≡ x
    → GoodAnswer (power μ (power ν b ζ e) ξ f) (raised_if x μ b ξ (e * f))
unfolding raised_if exact weight
raised_good μ ν b ζ e ξ f m n w p q true h = (
  (w, mul-pos p q, ltb-true (e * f) (2 ^ 63) h, m, n),
  kept_agree (power μ (power ν b ζ e) ξ f) (power μ b ξ (e * f)) (λ ρ. agree_of (power_power_lem (exact b ρ) e f)) (omega arith),
)
raised_good μ ν b ζ e ξ f m n w p q false h = tt

pub power_power_good : Good (record { number = 9; try = power_power })
unfolding power_power on_power_parts
power_power_good = record { good = on_power_good _ inner }
  where
    inner : (μ : ℕ) (b : Tree) (ξ f : ℕ) → WF (power μ b ξ f)
        → GoodAnswer (power μ b ξ f) (on_power_parts (λ ν c ζ e. raised_if (ltb (e * f) (2 ^ 63)) μ c ξ (e * f)) b)
    inner μ (integer ν z) ξ f w = tt
    inner μ (symbol ν s) ξ f w = tt
    inner μ (sum ν g) ξ f w = tt
    inner μ (product ν g) ξ f w = tt
    inner μ (power ν c ζ e) ξ f w = raised_good μ ν c ζ e ξ f w.3 w.4 w.0.0 w.0.1 w.1 (ltb (e * f) (2 ^ 63)) refl
