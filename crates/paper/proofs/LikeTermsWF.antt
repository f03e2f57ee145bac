-- Step 2 keeps trees well-formed. The rest of a term is well-formed all along, and its coefficient is in range where its flag says
-- so: this holds of the terms of well-formed members, and a merge keeps it; so where the flags of the members that come out say that
-- all are in range, all are well-formed.
use Prim.Native.Nat.{ℕ, ◌^◌}
use mathlib.Core.Path.{◌≡◌, subst}
use mathlib.Core.Bool.{Bool, true, false, ◌&&◌}
use mathlib.Core.List.{List, [], ◌∷◌, ◌++◌}
use mathlib.Core.Option.{some}
use native.Mathlib.Omega.{arith}
use lib.ListN.{length-append}
use lib.IntN.{ℤ, pos, ◌+ℤ◌, ◌*ℤ◌}
use lib.Signed.{mag}
use lib.Dec.{lit<}
use borrow.Author.Tests.{ltb-true}
use Rattle.paper.specs.Tree.{Tree, integer, symbol, sum, product, power, to_list, of_list, count}
use Rattle.paper.specs.WellFormed.{InRange, Mark, WF, WFl}
use Rattle.paper.specs.Equal.{eq_z}
use Rattle.paper.specs.Rules.{fits, sum_of, Term, term, as_integer, with_other, others_of, integers_of, Multiplied, times_one, times_each, unit, product_term}
use Rattle.paper.specs.Rules.{term_of, added, merge_terms, coefficient_times, times_unless, from_term}
use Rattle.paper.proofs.Tests.{and_left, and_right}
use Rattle.paper.proofs.WFLaws.{wf_list, list_wf, count_list, list_count, wf_append, sum_of_wf, product_of_wf}
use Rattle.paper.proofs.MarkLaws.{marked_wf}
use Rattle.paper.proofs.OutcomeLaws.{come_out, stay_in_range, combine_wf}
use Rattle.paper.proofs.LikeTerms.{merge_terms_some}

-- the mark and the rest are well-formed, and the coefficient is in range where the flag says so
pub record TermWF (c : Term) : Type 0 where
  pub mark_wf : Mark c.mark
  pub rest_wf : WF c.rest
  pub coefficient_in_range : c.in_range ≡ true → InRange c.coefficient

pub fits_true : (z : ℤ) → fits z ≡ true → InRange z
unfolding fits
fits_true z h = ltb-true (mag z) (2 ^ 63) h

-- ---- splitting
term_wf : (μ : ℕ) (z : ℤ) (t : Tree) → Mark μ → InRange z → WF t → TermWF (term μ z t)
unfolding term
term_wf μ z t m r w = record { mark_wf = m; rest_wf = w; coefficient_in_range = λ h. r }

one_in_range : InRange (pos 1)
one_in_range = lit< tt

others_wf : (l : List Tree) → WFl l → WFl (others_of l)
unfolding others_of with_other as_integer
others_wf [] w = tt
others_wf (integer μ z ∷ l) w = others_wf l w.1
others_wf (symbol μ s ∷ l) w = (w.0, others_wf l w.1)
others_wf (sum μ f ∷ l) w = (w.0, others_wf l w.1)
others_wf (product μ f ∷ l) w = (w.0, others_wf l w.1)
others_wf (power μ b ξ e ∷ l) w = (w.0, others_wf l w.1)

-- where every partial product was in range, so is the last
each_in_range : (c : Multiplied) (l : List ℤ) → (c.in_range ≡ true → InRange c.number) → (times_each c l).in_range ≡ true
    → InRange (times_each c l).number
unfolding times_each times_one
each_in_range c [] r h = r h
each_in_range c (z ∷ l) r h =
    each_in_range (times_one c z) l (λ k. fits_true (c.number *ℤ z) (and_right c.in_range _ k)) h

product_term_wf : (μ : ℕ) → Mark μ → (l : List Tree) → WFl l → TermWF (product_term μ l)
unfolding product_term unit
product_term_wf μ m l w =
    record {
      mark_wf = m;
      rest_wf = product_of_wf μ m (others_of l) (others_wf l w);
      coefficient_in_range = each_in_range unit (integers_of l) (λ h. one_in_range);
    }

pub term_of_wf : (t : Tree) → WF t → TermWF (term_of t)
unfolding term_of
term_of_wf (integer μ z) w = term_wf μ z (integer 0 (pos 1)) w.1 w.0 (one_in_range, lit< tt)
term_of_wf (symbol μ s) w = term_wf μ (pos 1) (symbol μ s) w.1 one_in_range w
term_of_wf (sum μ f) w = term_wf μ (pos 1) (sum μ f) w.2 one_in_range w
term_of_wf (product μ f) w = product_term_wf μ w.2 (to_list f) (wf_list f w.1)
term_of_wf (power μ b ξ e) w = term_wf μ (pos 1) (power μ b ξ e) w.3 one_in_range w

-- ---- merging
added_wf : (c x : Term) → TermWF c → TermWF (added c x)
unfolding added
added_wf c x q =
    record {
      mark_wf = q.mark_wf;
      rest_wf = q.rest_wf;
      coefficient_in_range = λ h. fits_true (c.coefficient +ℤ x.coefficient) (and_right (c.in_range && x.in_range) _ h);
    }

merge_terms_wf : (c x d : Term) → TermWF c → TermWF x → merge_terms c x ≡ some d → TermWF d
merge_terms_wf c x d q p h = subst TermWF (merge_terms_some c x d h).1 (added_wf c x q)

-- ---- putting together
times_wf : (μ : ℕ) (z : ℤ) (t : Tree) → Mark μ → InRange z → WF t → (coefficient_times μ z t).1 ≡ true → WF (coefficient_times μ z t).0
unfolding coefficient_times of_list count
times_wf μ z (integer ν y) m r w h = (fits_true (z *ℤ y) h, m)
times_wf μ z (symbol ν s) m r w h = (omega arith, ((r, m), (w, tt)), m)
times_wf μ z (sum ν f) m r w h = (omega arith, ((r, m), (w, tt)), m)
times_wf μ z (product ν f) m r w h = (
  omega (arith, list_count (to_list f ++ last), length-append (to_list f) last, count_list f, w.0),
  list_wf (to_list f ++ last) (wf_append (to_list f) last (wf_list f w.1) ((r, m), tt)),
  m,
)
  where
    last : List Tree
    last = integer μ z ∷ []
times_wf μ z (power ν b ξ e) m r w h = (omega arith, ((r, m), (w, tt)), m)

from_term_wf : (c : Term) → TermWF c → (from_term c).1 ≡ true → WF (from_term c).0
unfolding from_term times_unless
from_term_wf c q h = go (eq_z c.coefficient (pos 1)) h
  where
    go : (b : Bool) → (times_unless b c).1 ≡ true → WF (times_unless b c).0
    go true h = marked_wf c.mark c.rest q.mark_wf q.rest_wf
    go false h =
        times_wf c.mark c.coefficient c.rest q.mark_wf (q.coefficient_in_range (and_left c.in_range _ h)) q.rest_wf
        (and_right c.in_range _ h)

-- step 2 keeps the tree well-formed, where all that comes out is in range
pub like_terms_wf : (μ : ℕ) → Mark μ → (l : List Tree) → WFl l → stay_in_range term_of merge_terms from_term l
    → WF (sum_of μ (come_out term_of merge_terms from_term l))
like_terms_wf μ m l w h =
    sum_of_wf μ m (come_out term_of merge_terms from_term l)
    (combine_wf term_of merge_terms from_term TermWF term_of_wf merge_terms_wf from_term_wf l w h)
