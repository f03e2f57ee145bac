-- Step 2 lowers the weight by at least as many as it removes, on well-formed trees. A term costs what its rest weighs (3 at least if
-- that is no integer) and what a coefficient other than 1 adds (2 at most, nothing to an integer). A merge saves a whole rest, which
-- costs more than any coefficient can add; splitting a well-formed member and putting a member together cost nothing.
use Prim.Native.Nat.{ℕ, ◌+◌, ◌≤◌}
use mathlib.Core.Path.{◌≡◌, refl, subst}
use mathlib.Core.Bool.{Bool, true, false}
use mathlib.Core.List.{List, [], ◌∷◌, ◌++◌}
use mathlib.Core.Option.{some}
use native.Mathlib.Omega.{arith}
use lib.IntN.{ℤ, pos, ◌+ℤ◌}
use lib.ListN.{length}
use Rattle.paper.specs.Tree.{Tree, integer, symbol, sum, product, power, to_list, of_list, weight}
use Rattle.paper.specs.WellFormed.{WF, WFl}
use Rattle.paper.specs.Equal.{eq_z}
use Rattle.paper.specs.Rules.{as_integer, collapse, sum_of, product_of, Term, term, with_integer, with_other, integers_of, others_of, times_each, unit}
use Rattle.paper.specs.Rules.{product_term, term_of, added, merge_terms, coefficient_times, times_unless, from_term}
use Rattle.paper.proofs.Value.{total, total_append, weights_list, list_weights}
use Rattle.paper.proofs.Bulk.{at_least, bulk, weight_bulk, bulk_wf}
use Rattle.paper.proofs.EqualView.{Same, s_integer, s_symbol, s_sum, s_product, s_power, same_view}
use Rattle.paper.proofs.MarkLaws.{marked_weight}
use Rattle.paper.proofs.OutcomeLaws.{sum_of_weight, product_of_weight, walked, come_out, combine_lowers}
use Rattle.paper.proofs.LikeTerms.{merge_terms_some}
use Rattle.paper.proofs.LikeTermsWF.{term_of_wf}

-- what the coefficient adds, where the flag says whether it is 1
unfoldable extra : Bool → Tree → ℕ
extra true t = 0
extra false (integer μ z) = 0
extra false (symbol μ s) = 2
extra false (sum μ f) = 2
extra false (product μ f) = 1
extra false (power μ b ξ e) = 2

unfoldable cost : Term → ℕ
cost c = bulk c.rest + extra (eq_z c.coefficient (pos 1)) c.rest

extra_two : (b : Bool) (t : Tree) → extra b t ≤ 2
unfolding extra
extra_two true t = omega arith
extra_two false (integer μ z) = omega arith
extra_two false (symbol μ s) = omega arith
extra_two false (sum μ f) = omega arith
extra_two false (product μ f) = omega arith
extra_two false (power μ b ξ e) = omega arith

extra_integer : (b : Bool) (μ : ℕ) (z : ℤ) → extra b (integer μ z) ≡ 0
unfolding extra
extra_integer true μ z = refl
extra_integer false μ z = refl

-- ---- merging: the rest that is saved costs more than the coefficient adds
saved : (b : Bool) {t u : Tree} → Same t u → extra b t + 1 ≤ bulk u
unfolding bulk at_least as_integer weight
saved b (s_integer {μ = μ} {z = z}) = omega (arith, extra_integer b μ z)
saved b (s_symbol {μ = μ} {s = s}) = omega (arith, extra_two b (symbol μ s))
saved b (s_sum {μ = μ} {f = f} r) = omega (arith, extra_two b (sum μ f))
saved b (s_product {μ = μ} {f = f} r) = omega (arith, extra_two b (product μ f))
saved b (s_power {μ = μ} {ξ = ξ} {a = a} {e = e} r) = omega (arith, extra_two b (power μ a ξ e))

merge_terms_cost : (c x d : Term) → merge_terms c x ≡ some d → cost d + 1 ≤ cost c + cost x
unfolding cost added
merge_terms_cost c x d h =
    let m = merge_terms_some c x d h in
    let one = eq_z (c.coefficient +ℤ x.coefficient) (pos 1) in
    subst (λ d. cost d + 1 ≤ cost c + cost x) m.1 (omega (arith, saved one (same_view c.rest x.rest m.0)))

-- ---- putting together: a member weighs no more than its term costs
times_cost : (μ : ℕ) (z : ℤ) (t : Tree) → weight (coefficient_times μ z t).0 ≤ weight t + extra false t
unfolding coefficient_times extra weight of_list total
times_cost μ z (integer ν y) = omega arith
times_cost μ z (symbol ν s) = omega arith
times_cost μ z (sum ν f) = omega arith
times_cost μ z (product ν f) = omega (arith, list_weights (to_list f ++ last), total_append weight (to_list f) last, weights_list f, alone)
  where
    last : List Tree
    last = integer μ z ∷ []

    alone : total weight (integer μ z ∷ []) ≡ 1
    alone = refl
times_cost μ z (power ν b ξ e) = omega arith

from_term_cost : (c : Term) → weight (from_term c).0 ≤ cost c
unfolding from_term cost times_unless
from_term_cost c = go (eq_z c.coefficient (pos 1))
  where
    go : (b : Bool) → weight (times_unless b c).0 ≤ bulk c.rest + extra b c.rest
    go true = omega (arith, weight_bulk c.rest, marked_weight c.mark c.rest)
    go false = omega (arith, times_cost c.mark c.coefficient c.rest, weight_bulk c.rest)

product_of_extra : (b : Bool) (μ : ℕ) (l : List Tree) → weight (product_of μ l) + extra b (product_of μ l) ≤ 2 + total weight l
unfolding product_of collapse total weight of_list extra
product_of_extra b μ [] = omega (arith, extra_integer b μ (pos 1))
product_of_extra b μ (t ∷ []) = omega (arith, extra_two b t)
product_of_extra true μ (t ∷ u ∷ l) = omega (arith, list_weights l)
product_of_extra false μ (t ∷ u ∷ l) = omega (arith, list_weights l)

-- an integer weighs 1
pub parted_weight : (l : List Tree) → length (integers_of l) + total weight (others_of l) ≡ total weight l
unfolding integers_of others_of with_integer with_other as_integer total weight
parted_weight [] = refl
parted_weight (integer μ z ∷ l) = omega (arith, parted_weight l)
parted_weight (symbol μ s ∷ l) = omega (arith, parted_weight l)
parted_weight (sum μ f ∷ l) = omega (arith, parted_weight l)
parted_weight (product μ f ∷ l) = omega (arith, parted_weight l)
parted_weight (power μ b ξ e ∷ l) = omega (arith, parted_weight l)

-- with no integer the coefficient is 1 and adds nothing; else an integer pays for it
product_term_cost : (μ : ℕ) (l : List Tree) → WF (product_term μ l).rest → cost (product_term μ l) ≤ 1 + total weight l
unfolding product_term cost times_each unit extra eq_z
product_term_cost μ l w = go (integers_of l) (parted_weight l)
  where
    rest : Tree
    rest = product_of μ (others_of l)

    go : (is : List ℤ) → length is + total weight (others_of l) ≡ total weight l
        → bulk rest + extra (eq_z (times_each unit is).number (pos 1)) rest ≤ 1 + total weight l
    go [] h = omega (arith, bulk_wf rest w, product_of_weight μ (others_of l))
    go (z ∷ is) h =
        omega (arith, bulk_wf rest w, product_of_extra (eq_z (times_each unit (z ∷ is)).number (pos 1)) μ (others_of l))

term_of_cost : (t : Tree) → WF t → cost (term_of t) ≤ weight t
unfolding term_of cost term eq_z bulk at_least as_integer extra weight
term_of_cost (integer μ z) w = omega (arith, extra_integer (eq_z z (pos 1)) 0 (pos 1))
term_of_cost (symbol μ s) w = omega arith
term_of_cost (sum μ f) w = omega (arith, bulk_wf (sum μ f) w)
term_of_cost (product μ f) w =
    omega (arith, product_term_cost μ (to_list f) (term_of_wf (product μ f) w).rest_wf, weights_list f)
term_of_cost (power μ b ξ e) w = omega (arith, bulk_wf (power μ b ξ e) w)

-- step 2 lowers the weight by at least as many as it removes
pub like_terms_weight : (μ : ℕ) (l : List Tree) → WFl l
    → weight (sum_of μ (come_out term_of merge_terms from_term l)) + (walked term_of merge_terms from_term l).removed ≤ 1 + total weight l
like_terms_weight μ l w =
    omega (
      arith,
      sum_of_weight μ (come_out term_of merge_terms from_term l),
      combine_lowers term_of merge_terms from_term cost term_of_cost merge_terms_cost from_term_cost l w,
    )
