-- Step 6, "combine like factors", is a good rule: the product that it gives is well-formed, has the value of the product it was given,
-- and weighs less by one at least, since it applies only where something was removed.
use Prim.Native.Nat.{ℕ}
use native.Mathlib.Omega.{arith}
use Rattle.paper.specs.Tree.{Forest, product, to_list, weight}
use Rattle.paper.specs.WellFormed.{WF}
use Rattle.paper.specs.Rules.{product_of, combine, factor_of, merge_factors, from_factor, combine_like_factors}
use Rattle.paper.specs.Good.{Good, GoodAnswer}
use Rattle.paper.proofs.Value.{weights_list}
use Rattle.paper.proofs.WFLaws.{wf_list}
use Rattle.paper.proofs.OutcomeLaws.{combine_good}
use Rattle.paper.proofs.AnswerLaws.{on_product_good, kept_agree}
use Rattle.paper.proofs.LikeFactors.{like_factors_exact}
use Rattle.paper.proofs.LikeFactorsWF.{like_factors_wf}
use Rattle.paper.proofs.LikeFactorsWeight.{like_factors_weight}

members_good : (μ : ℕ) (f : Forest) → WF (product μ f) → GoodAnswer (product μ f) (combine (product_of μ) factor_of merge_factors from_factor (to_list f))
unfolding weight
members_good μ f w =
    combine_good factor_of merge_factors from_factor (product μ f) (product_of μ) (to_list f)
    (λ inside removed. (
      like_factors_wf μ w.2 (to_list f) (wf_list f w.1) inside,
      kept_agree (product μ f) _ (like_factors_exact μ f)
          (omega (arith, removed, like_factors_weight μ (to_list f) (wf_list f w.1), weights_list f)),
    ))

-- step 6 is a good rule
pub like_factors_good : Good (record { number = 6; try = combine_like_factors })
unfolding combine_like_factors
like_factors_good = record { good = on_product_good _ members_good }
