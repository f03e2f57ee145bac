-- How step 6 merges two factors: by the product of two integer bases under equal exponents, or by the sum of the exponents of equal
-- bases. The test is inverted here once, into evidence.
use Prim.Native.Nat.{ℕ, ◌+◌, ◌^◌}
use mathlib.Core.Path.{◌≡◌, refl, ap, ◌∙◌, subst}
use mathlib.Core.Bool.{Bool, true, false, ◌&&◌}
use mathlib.Core.Option.{Option, none, some, some-injective, none-ne-some}
use lib.IntN.{ℤ, ◌*ℤ◌}
use lib.Dec.{eqb, ltb}
use borrow.Author.Tests.{eqb-true, eqb-false}
use Rattle.paper.specs.Tree.{Tree, integer, symbol, sum, product, power}
use Rattle.paper.specs.Equal.{equal}
use Rattle.paper.specs.Rules.{as_integer, fits, Factor, raise_if, both_integers, multiply_if, merge_factors}

-- what c becomes where it takes up x, by either way
unfoldable pub times_bases : Factor → Factor → ℤ → Factor
times_bases c x z = record { mark = c.mark; base = integer c.mark z; exponent = c.exponent; in_range = c.in_range && x.in_range && fits z }

unfoldable pub add_exponents : Factor → Factor → Factor
add_exponents c x =
    record {
      mark = c.mark;
      base = c.base;
      exponent = c.exponent + x.exponent;
      in_range = c.in_range && x.in_range && ltb (c.exponent + x.exponent) (2 ^ 63);
    }

-- c takes up x and becomes the third: exponents are added only where the first way was not open
pub data Merged (c x : Factor) : Factor → Type 0 where
  by_bases : {μ ν : ℕ} {y z : ℤ} → c.base ≡ integer μ y → x.base ≡ integer ν z → c.exponent ≡ x.exponent → Merged c x (times_bases c x (y *ℤ z))
  by_exponents : equal c.base x.base ≡ true
      → (c.exponent ≡ x.exponent → both_integers (as_integer c.base) (as_integer x.base) ≡ none) → Merged c x (add_exponents c x)

-- the product of the integers that t and u are, if both are
abbrev Integers : Tree → Tree → Option ℤ → Type 0
Integers t u none = Unit {0}
Integers t u (some w) = (y : ℤ) × (z : ℤ) × (μ : ℕ) × (ν : ℕ) × (t ≡ integer μ y) × (u ≡ integer ν z) × (y *ℤ z ≡ w)

both_view : (t u : Tree) → Integers t u (both_integers (as_integer t) (as_integer u))
unfolding both_integers as_integer
both_view (integer μ y) (integer ν z) = (y, z, μ, ν, refl, refl, refl)
both_view (integer μ y) (symbol ν s) = tt
both_view (integer μ y) (sum ν f) = tt
both_view (integer μ y) (product ν f) = tt
both_view (integer μ y) (power ν b ζ e) = tt
both_view (symbol μ s) u = tt
both_view (sum μ f) u = tt
both_view (product μ f) u = tt
both_view (power μ b ξ e) u = tt

module _ (c x d : Factor) where
  abbrev both : Option ℤ
  both = both_integers (as_integer c.base) (as_integer x.base)

  raise_if_some : (b : Bool) → equal c.base x.base ≡ b → (c.exponent ≡ x.exponent → both ≡ none) → raise_if b c x ≡ some d → Merged c x d
  unfolding raise_if add_exponents
  raise_if_some true e h m = subst (Merged c x) (some-injective _ d m) (by_exponents e h)
  raise_if_some false e h m = absurd (none-ne-some d m)

  multiply_if_some : (b : Bool) (w : Option ℤ) → eqb c.exponent x.exponent ≡ b → both ≡ w → Integers c.base x.base w
      → multiply_if b w c x ≡ some d → Merged c x d
  unfolding multiply_if times_bases
  multiply_if_some true (some w) e q (y, z, μ, ν, p, r, k) m =
      subst (Merged c x) (ap (times_bases c x) k ∙ some-injective _ d m) (by_bases p r (eqb-true c.exponent x.exponent e))
  multiply_if_some true none e q h m = raise_if_some (equal c.base x.base) refl (λ k. q) m
  multiply_if_some false w e q h m =
      raise_if_some (equal c.base x.base) refl (λ k. absurd (eqb-false c.exponent x.exponent e k)) m

  -- where two factors merge, it is in one of the two ways
  pub merge_factors_some : merge_factors c x ≡ some d → Merged c x d
  unfolding merge_factors
  merge_factors_some m = multiply_if_some (eqb c.exponent x.exponent) both refl refl (both_view c.base x.base) m
