-- What the walks of steps 2 and 6, and step 9, judge: of two parts in range, the part that they become is judged in range exactly when its
-- number is one that a well-formed tree may hold: a coefficient, a base, an exponent; and so is the exponent of a power's power.
use Prim.Native.Nat.{ℕ, ◌+◌, ◌*◌, ◌^◌, ◌≤◌, ◌<◌}
use mathlib.Core.Path.{◌≡◌, refl, subst}
use mathlib.Core.Bool.{Bool, true, false}
use mathlib.Core.Option.{some, some-injective}
use mathlib.Core.Logic.{◌↔◌, ◌⊎◌, inl, inr}
use native.Mathlib.Omega.{arith}
use native.Mathlib.Nat.{ne_of_gt, mul-pos}
use lib.IntN.{ℤ}
use lib.Dec.{eqb, ltb}
use borrow.Author.Tests.{lt-ltb, ltb-true, ltb-false, ne_eqb}
use Rattle.paper.specs.Tree.{Tree, power}
use Rattle.paper.specs.WellFormed.{InRange, Mark, WF}
use Rattle.paper.specs.Rules.{Term, added, Factor, raise_if, multiply_if, power_unless, from_factor}
use Rattle.paper.specs.Rules.{applies, range_exceeded, on_power_parts, raised_if, power_power}
use Rattle.paper.proofs.RangeLaws.{fits_exactly}

-- step 2: the sum of two coefficients
pub coefficients_exactly : (c x : Term) → c.in_range ≡ true → x.in_range ≡ true
    → ((added c x).in_range ≡ true) ↔ InRange (added c x).coefficient
unfolding added
coefficients_exactly c x p q = rw (p, q) (fits_exactly (added c x).coefficient)

-- step 6: the product of two integer bases
pub bases_exactly : (z : ℤ) (c x d : Factor) → c.in_range ≡ true → x.in_range ≡ true → multiply_if true (some z) c x ≡ some d
    → (d.in_range ≡ true) ↔ InRange z
unfolding multiply_if
bases_exactly z c x d p q e =
    subst (λ (f : Factor). (f.in_range ≡ true) ↔ InRange z) (some-injective _ d e) (rw (p, q) (fits_exactly z))

-- step 6: the sum of two exponents, for the power that comes of it
pub exponents_exactly : (c x d : Factor) → Mark c.mark → WF c.base → 1 ≤ c.exponent → 1 ≤ x.exponent → c.in_range ≡ true → x.in_range ≡ true
    → raise_if true c x ≡ some d → (d.in_range ≡ true) ↔ WF (from_factor d).0
unfolding raise_if from_factor power_unless
exponents_exactly c x d μ w m k p q e =
    let n = c.exponent + x.exponent in
    let two : eqb n 1 ≡ false = ne_eqb n 1 (ne_of_gt (omega arith)) in
    let both : (ltb n (2 ^ 63) ≡ true) ↔ (WF c.base × (1 ≤ n) × (n < 2 ^ 63) × Mark c.mark × Mark c.mark) =
    (λ h. (w, omega arith, ltb-true n (2 ^ 63) h, μ, μ), λ h. lt-ltb n (2 ^ 63) h.2) in
    subst (λ (f : Factor). (f.in_range ≡ true) ↔ WF (from_factor f).0) (some-injective _ d e) (rw (two, p, q) both)

-- step 9: the product of two exponents, for the power that comes of it: it is made where a well-formed tree may hold it, and is out of range where none may
pub powers_exactly : (μ ν : ℕ) (c : Tree) (ζ e ξ f : ℕ) → WF (power μ (power ν c ζ e) ξ f)
    → ((power_power (power μ (power ν c ζ e) ξ f) ≡ applies (power μ c ξ (e * f))) × WF (power μ c ξ (e * f)))
    ⊎ ((power_power (power μ (power ν c ζ e) ξ f) ≡ range_exceeded) × (WF (power μ c ξ (e * f)) → ⊥))
unfolding power_power on_power_parts raised_if
powers_exactly μ ν c ζ e ξ f w = go (ltb (e * f) (2 ^ 63)) refl
  where
    go : (x : Bool) → ltb (e * f) (2 ^ 63) ≡ x
        → ((raised_if x μ c ξ (e * f) ≡ applies (power μ c ξ (e * f))) × WF (power μ c ξ (e * f)))
        ⊎ ((raised_if x μ c ξ (e * f) ≡ range_exceeded) × (WF (power μ c ξ (e * f)) → ⊥))
    go true h = inl (refl, (w.0.0, mul-pos w.0.1 w.1, ltb-true (e * f) (2 ^ 63) h, w.3, w.4))
    go false h = inr (refl, λ v. let above : 2 ^ 63 ≤ e * f = ltb-false (e * f) (2 ^ 63) h in omega (arith, above, v.2))
