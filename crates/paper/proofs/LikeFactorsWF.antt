-- Step 6 keeps trees well-formed. Where its flag says so, base and exponent of a factor make a well-formed power: this holds of the
-- factors of well-formed members, and a merge keeps it, since its flag counts what it computes; so where the flags of the members that
-- come out say that all are in range, all are well-formed.
use Prim.Native.Nat.{ℕ, ◌+◌, ◌^◌}
use mathlib.Core.Path.{◌≡◌}
use mathlib.Core.Bool.{Bool, true, false, ◌&&◌}
use mathlib.Core.List.{List}
use mathlib.Core.Option.{some}
use native.Mathlib.Omega.{arith}
use lib.IntN.{◌*ℤ◌}
use lib.Signed.{mag}
use lib.Dec.{eqb, lit<, lit≤}
use borrow.Author.Tests.{ltb-true}
use Rattle.paper.specs.Tree.{Tree, integer, symbol, sum, product, power}
use Rattle.paper.specs.WellFormed.{Mark, WF, WFl}
use Rattle.paper.specs.Rules.{product_of, fits, Factor, factor, factor_of, merge_factors, power_unless, from_factor}
use Rattle.paper.proofs.Tests.{and_left, and_right}
use Rattle.paper.proofs.WFLaws.{product_of_wf}
use Rattle.paper.proofs.MarkLaws.{marked_wf}
use Rattle.paper.proofs.OutcomeLaws.{come_out, stay_in_range, combine_wf}
use Rattle.paper.proofs.MergeFactors.{times_bases, add_exponents, Merged, by_bases, by_exponents, merge_factors_some}

-- where the flag says so, base and exponent make a well-formed power
abbrev FactorWF : Factor → Type 0
FactorWF c = c.in_range ≡ true → WF (power c.mark c.base c.mark c.exponent)

factor_of_wf : (t : Tree) → WF t → FactorWF (factor_of t)
unfolding factor_of factor
factor_of_wf (integer μ z) w h = (w, lit≤ tt, lit< tt, w.1, w.1)
factor_of_wf (symbol μ s) w h = (w, lit≤ tt, lit< tt, w.1, w.1)
factor_of_wf (sum μ f) w h = (w, lit≤ tt, lit< tt, w.2, w.2)
factor_of_wf (product μ f) w h = (w, lit≤ tt, lit< tt, w.2, w.2)
factor_of_wf (power μ b ξ e) w h = (w.0, w.1, w.2, w.3, w.3)

merge_factors_wf : (c x d : Factor) → FactorWF c → FactorWF x → merge_factors c x ≡ some d → FactorWF d
unfolding times_bases add_exponents fits
merge_factors_wf c x d p q m = go (merge_factors_some c x d m)
  where
    -- the flag of c is one of those that make up the new flag
    own : (b : Bool) → c.in_range && x.in_range && b ≡ true → WF (power c.mark c.base c.mark c.exponent)
    own b h = p (and_left c.in_range x.in_range (and_left (c.in_range && x.in_range) b h))

    go : {d : Factor} → Merged c x d → FactorWF d
    go (by_bases {y = y} {z = z} a b e) h =
        ((ltb-true (mag (y *ℤ z)) (2 ^ 63) (and_right (c.in_range && x.in_range) _ h), (own _ h).3), (own _ h).1, (own _ h).2, (own _ h).3, (own _ h).3)
    go (by_exponents e a) h = (
      (own _ h).0,
      omega (arith, (own _ h).1),
      ltb-true (c.exponent + x.exponent) (2 ^ 63) (and_right (c.in_range && x.in_range) _ h),
      (own _ h).3,
      (own _ h).3,
    )

from_factor_wf : (c : Factor) → FactorWF c → (from_factor c).1 ≡ true → WF (from_factor c).0
unfolding from_factor power_unless
from_factor_wf c q = go (eqb c.exponent 1)
  where
    go : (b : Bool) → (power_unless b c).1 ≡ true → WF (power_unless b c).0
    go true h = marked_wf c.mark c.base (q h).3 (q h).0
    go false h = q h

-- step 6 keeps the tree well-formed, where all that comes out is in range
pub like_factors_wf : (μ : ℕ) → Mark μ → (l : List Tree) → WFl l → stay_in_range factor_of merge_factors from_factor l
    → WF (product_of μ (come_out factor_of merge_factors from_factor l))
like_factors_wf μ m l w h =
    product_of_wf μ m (come_out factor_of merge_factors from_factor l)
    (combine_wf factor_of merge_factors from_factor FactorWF factor_of_wf merge_factors_wf from_factor_wf l w h)
