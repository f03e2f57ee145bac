-- Step 6 lowers the weight by at least as many as it removes, on well-formed trees. A factor costs the bulk of its base, and 2 where
-- its exponent is not 1. A merge saves a whole base, and adds an exponent only where both were 1: two equal bases are then no
-- integers, and the one that is saved costs 3 at least.
use Prim.Native.Nat.{ℕ, ◌+◌, ◌≤◌}
use mathlib.Core.Path.{◌≡◌, refl, sym, ap, ◌∙◌}
use mathlib.Core.Bool.{Bool, true, false}
use mathlib.Core.List.{List}
use mathlib.Core.Option.{Option, none, some, none-ne-some}
use native.Mathlib.Omega.{arith}
use lib.IntN.{ℤ, ◌*ℤ◌}
use lib.Dec.{eqb}
use borrow.Author.Tests.{eqb-true}
use Rattle.paper.specs.Tree.{Tree, integer, symbol, sum, product, power, weight}
use Rattle.paper.specs.WellFormed.{WF, WFl}
use Rattle.paper.specs.Rules.{product_of, as_integer, Factor, factor, factor_of, both_integers, merge_factors, power_unless, from_factor}
use Rattle.paper.proofs.Value.{total}
use Rattle.paper.proofs.EqualView.{Same, same_view}
use Rattle.paper.proofs.MarkLaws.{marked_weight}
use Rattle.paper.proofs.OutcomeLaws.{product_of_weight, walked, come_out, combine_lowers}
use Rattle.paper.proofs.Bulk.{at_least, bulk, weight_bulk, bulk_pos, bulk_wf, same_integer, same_bulk}
use Rattle.paper.proofs.MergeFactors.{times_bases, add_exponents, Merged, by_bases, by_exponents, merge_factors_some}

-- what the exponent adds, where the flag says whether it is 1
unfoldable extra : Bool → ℕ
extra true = 0
extra false = 2

unfoldable cost : Factor → ℕ
cost c = extra (eqb c.exponent 1) + bulk c.base

extra_two : (b : Bool) → extra b ≤ 2
unfolding extra
extra_two true = omega arith
extra_two false = omega arith

-- ---- merging
integer_bulk : (μ : ℕ) (z : ℤ) → bulk (integer μ z) ≡ 1
unfolding bulk as_integer at_least weight
integer_bulk μ z = refl

-- equal trees that are not both integers are none
not_integers : {t u : Tree} → Same t u → both_integers (as_integer t) (as_integer u) ≡ none → 3 ≤ bulk t
unfolding bulk both_integers at_least
not_integers {t} {u} s h = go (as_integer t) (ap (both_integers (as_integer t)) (same_integer s) ∙ h)
  where
    go : (a : Option ℤ) → both_integers a a ≡ none → 3 ≤ at_least a (weight t)
    go (some z) h = absurd (none-ne-some _ (sym h))
    go none h = omega arith

-- two bases of bulk k with exponents e and f, where k is 3 at least if the exponents are equal
exponents_cost : (e f k : ℕ) → 1 ≤ k → (e ≡ f → 3 ≤ k) → extra (eqb (e + f) 1) + k + 1 ≤ extra (eqb e 1) + k + (extra (eqb f 1) + k)
unfolding extra
exponents_cost e f k low high = go (eqb e 1) (eqb f 1) refl refl
  where
    go : (a b : Bool) → eqb e 1 ≡ a → eqb f 1 ≡ b → extra (eqb (e + f) 1) + k + 1 ≤ extra a + k + (extra b + k)
    go true true p q = omega (arith, extra_two (eqb (e + f) 1), high (eqb-true e 1 p ∙ sym (eqb-true f 1 q)))
    go true false p q = omega (arith, extra_two (eqb (e + f) 1))
    go false b p q = omega (arith, extra_two (eqb (e + f) 1))

merge_factors_cost : (c x d : Factor) → merge_factors c x ≡ some d → cost d + 1 ≤ cost c + cost x
unfolding cost times_bases add_exponents
merge_factors_cost c x d m = go (merge_factors_some c x d m)
  where
    go : {d : Factor} → Merged c x d → cost d + 1 ≤ cost c + cost x
    go (by_bases {y = y} {z = z} p q e) = omega (arith, bulk_pos c.base, bulk_pos x.base, integer_bulk c.mark (y *ℤ z))
    go (by_exponents e h) =
        let s = same_view c.base x.base e in
        omega (
          arith,
          same_bulk s,
          exponents_cost c.exponent x.exponent (bulk c.base) (bulk_pos c.base) (λ k. not_integers s (h k)),
        )

-- ---- splitting and joining
factor_of_cost : (t : Tree) → WF t → cost (factor_of t) ≤ weight t
unfolding factor_of factor cost extra weight
factor_of_cost (integer μ z) w = omega (arith, bulk_wf (integer μ z) w)
factor_of_cost (symbol μ s) w = omega (arith, bulk_wf (symbol μ s) w)
factor_of_cost (sum μ f) w = omega (arith, bulk_wf (sum μ f) w)
factor_of_cost (product μ f) w = omega (arith, bulk_wf (product μ f) w)
factor_of_cost (power μ b ξ e) w = omega (arith, bulk_wf b w.0, extra_two (eqb e 1))

from_factor_cost : (c : Factor) → weight (from_factor c).0 ≤ cost c
unfolding from_factor power_unless cost extra weight
from_factor_cost c = go (eqb c.exponent 1)
  where
    go : (b : Bool) → weight (power_unless b c).0 ≤ extra b + bulk c.base
    go true = omega (arith, weight_bulk c.base, marked_weight c.mark c.base)
    go false = omega (arith, weight_bulk c.base)

-- step 6 lowers the weight by at least as many as it removes
pub like_factors_weight : (μ : ℕ) (l : List Tree) → WFl l
    → weight (product_of μ (come_out factor_of merge_factors from_factor l)) + (walked factor_of merge_factors from_factor l).removed ≤ 1 + total weight l
like_factors_weight μ l w =
    omega (
      arith,
      product_of_weight μ (come_out factor_of merge_factors from_factor l),
      combine_lowers factor_of merge_factors from_factor cost factor_of_cost merge_factors_cost from_factor_cost l w,
    )
