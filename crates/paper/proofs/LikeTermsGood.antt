-- Step 2, "combine like terms", is a good rule: the sum that it gives is well-formed, has the value of the sum it was given, and weighs
-- less by one at least, since it applies only where something was removed.
use Prim.Native.Nat.{ℕ}
use native.Mathlib.Omega.{arith}
use Rattle.paper.specs.Tree.{Forest, sum, to_list, weight}
use Rattle.paper.specs.WellFormed.{WF}
use Rattle.paper.specs.Rules.{sum_of, combine, term_of, merge_terms, from_term, combine_like_terms}
use Rattle.paper.specs.Good.{Good, GoodAnswer}
use Rattle.paper.proofs.Value.{weights_list}
use Rattle.paper.proofs.WFLaws.{wf_list}
use Rattle.paper.proofs.OutcomeLaws.{combine_good}
use Rattle.paper.proofs.AnswerLaws.{on_sum_good}
use Rattle.paper.proofs.LikeTerms.{like_terms_value}
use Rattle.paper.proofs.LikeTermsWF.{like_terms_wf}
use Rattle.paper.proofs.LikeTermsWeight.{like_terms_weight}

members_good : (μ : ℕ) (f : Forest) → WF (sum μ f) → GoodAnswer (sum μ f) (combine (sum_of μ) term_of merge_terms from_term (to_list f))
unfolding weight
members_good μ f w =
    combine_good term_of merge_terms from_term (sum μ f) (sum_of μ) (to_list f)
    (λ inside removed. (
      like_terms_wf μ w.2 (to_list f) (wf_list f w.1) inside,
      record {
        value_kept = like_terms_value μ f;
        lighter = omega (arith, removed, like_terms_weight μ (to_list f) (wf_list f w.1), weights_list f);
      },
    ))

-- step 2 is a good rule
pub like_terms_good : Good (record { number = 2; try = combine_like_terms })
unfolding combine_like_terms
like_terms_good = record { good = on_sum_good _ members_good }
