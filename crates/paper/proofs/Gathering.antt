-- Where results are gathered, a sum or product has two members or more: the results are as many as the members, which are two or more
-- in a well-formed tree, and an opening leaves no fewer. So a branch for fewer is never reached: by
-- induction on the fuel, since every tree that is visited is well-formed.
use Prim.Native.Nat.{ℕ, zero, suc, ◌+◌, ◌≤◌, ◌<◌}
use mathlib.Core.Path.{◌≡◌, refl, sym, ap, ◌∙◌, subst}
use mathlib.Core.Bool.{Bool, true, false}
use mathlib.Core.List.{List, [], ◌∷◌, ◌++◌}
use mathlib.Core.Option.{Option, none, some, none-ne-some}
use native.Mathlib.Omega.{arith}
use lib.ListN.{length}
use lib.IntN.{pos}
use borrow.Author.Tests.{le-ltb, lt-ltb}
use Rattle.paper.specs.Bytes.{Bytes}
use Rattle.paper.specs.Tree.{Tree, Forest, integer, symbol, sum, product, power, weight}
use Rattle.paper.specs.WellFormed.{WF, WFl}
use Rattle.paper.specs.Table.{tree_of}
use Rattle.paper.specs.Verdict.{accepted, verdict}
use Rattle.paper.specs.Rules.{Rule, rules_of, collapse, sum_of, product_of}
use Rattle.paper.specs.Driver.{Asked, no_rule, step, out_of_range, ask, Ran, Rans, dones, overs, after, tried, each, members}
use Rattle.paper.specs.Driver.{as_sum, as_product, open_one, opened, gather, settle, gathered, visit, run, simplify}
use Rattle.paper.specs.Good.{Goods}
use Rattle.paper.specs.Gathering.{Branch, tells, collapses, unless_fewer, gather_with, onward, and_then_with, each_with, settle_with, settle_gathered}
use Rattle.paper.specs.Gathering.{gathered_with, visit_with, run_with, simplify_with, BranchNotReached}
use Rattle.paper.proofs.EditionTwo.{edition_good}
use Rattle.paper.proofs.WFLaws.{count_list}
use Rattle.paper.proofs.GatherLaws.{gathered_list, gathers_two, members_wf}
use Rattle.paper.proofs.DriverLaws.{AskedKept, ask_kept, RunKept, RunsKept, each_kept, gathered_tree, run_kept}
use Rattle.paper.proofs.AcceptedLaws.{accepted_holds}
use Rattle.paper.proofs.CallLaws.{same_tree}

-- whatever the members' runs end with, two members or more are gathered
pub each_gathers_two : {rs : List Rule} → Goods rs → (t : Tree) → WF t → 0 < length (members t)
    → (l : List Tree) (s : List ℕ) (o n : ℕ) → each (simplify rs) (members t) ≡ dones l s o n → 2 ≤ length (gathered_list t l)
unfolding simplify
each_gathers_two {rs} gs t w m l s o n e =
    let k = subst (RunsKept (members t)) e (each_kept (simplify rs) (λ u v. run_kept gs (weight u) u v) (members t) (members_wf t w)) in
    gathers_two t l (length s + o) w m k.0 k.1

-- ---- the branch is there: fewer than two are its own, and its outcome is that of the whole run
pub fewer_are_told : (fewer : Branch) (μ : ℕ) (f : Forest) (l : List Tree)
    → (length (opened as_sum l).0 < 2 → gather_with fewer (sum μ f) l ≡ fewer (sum μ f) l)
    × (length (opened as_product l).0 < 2 → gather_with fewer (product μ f) l ≡ fewer (product μ f) l)
unfolding gather_with unless_fewer
fewer_are_told fewer μ f l =
    (λ h. rw (lt-ltb (length (opened as_sum l).0) 2 h) refl, λ h. rw (lt-ltb (length (opened as_product l).0) 2 h) refl)

pub told_onward : (fewer : Branch) (again : Tree → Option Ran) (t u : Tree) → again u ≡ none
    → ((l m : List Tree) → each_with again (l ++ (u ∷ m)) ≡ none)
    × (gathered_with fewer again t none ≡ none)
    × ((l : List Tree) (s : List ℕ) (o n : ℕ) → gather_with fewer t l ≡ none → gathered_with fewer again t (some (dones l s o n)) ≡ none)
    × ((s : List ℕ) (o n : ℕ) → settle_with again s o n u false ≡ none)
    × ((k : ℕ) → visit_with fewer again t (step k u) ≡ none)
unfolding each_with and_then_with gathered_with settle_gathered settle_with visit_with onward
told_onward fewer again t u e = (each_none, refl, λ l s o n g. ap (settle_gathered again s o n) g, λ s o n. rw e refl, λ k. rw e refl)
  where
    stops : (r : Option Ran) → and_then_with r none ≡ none
    stops none = refl
    stops (some r) = refl

    each_none : (l m : List Tree) → each_with again (l ++ (u ∷ m)) ≡ none
    each_none [] m = rw e refl
    each_none (x ∷ l) m = ap (and_then_with (again x)) (each_none l m) ∙ stops (again x)

-- document 01's branch: "as after a rule"
pub collapses_as_after_a_rule : (μ : ℕ) (f : Forest) (t : Tree)
    → (collapses (sum μ f) [] ≡ some (integer μ (pos 0), 0)) × (collapses (product μ f) [] ≡ some (integer μ (pos 1), 0))
    × (as_sum t ≡ none → collapses (sum μ f) (t ∷ []) ≡ some (t, 0)) × (as_product t ≡ none → collapses (product μ f) (t ∷ []) ≡ some (t, 0))
unfolding collapses opened open_one sum_of product_of collapse
collapses_as_after_a_rule μ f t = (refl, refl, λ e. rw e refl, λ e. rw e refl)

-- where two members or more are gathered, the two gatherings agree
two_gathered : (fewer : Branch) (t : Tree) (l : List Tree) → WF t → (0 < length (members t) → 2 ≤ length (gathered_list t l))
    → gather_with fewer t l ≡ some (gather t l)
unfolding gather_with unless_fewer gathered_list members
two_gathered fewer (integer μ z) l w h = refl
two_gathered fewer (symbol μ s) l w h = refl
two_gathered fewer (sum μ f) l w h = rw (le-ltb (length (opened as_sum l).0) 2 (h (omega (arith, count_list f, w.0)))) refl
two_gathered fewer (product μ f) l w h = rw (le-ltb (length (opened as_product l).0) 2 (h (omega (arith, count_list f, w.0)))) refl
two_gathered fewer (power μ b ξ e) l w h = refl

-- ---- two drivers that agree on well-formed trees, one of them with the branch
module _ (fewer : Branch) (a : Tree → Option Ran) (b : Tree → Ran) (alike : (u : Tree) → WF u → a u ≡ some (b u))
    (kept : (u : Tree) → WF u → RunKept u (b u)) where
  each_alike : (l : List Tree) → WFl l → each_with a l ≡ some (each b l)
  unfolding each each_with and_then_with
  each_alike [] w = refl
  each_alike (t ∷ l) w = rw (alike t w.0, each_alike l w.1) refl

  settle_alike : (s : List ℕ) (o n : ℕ) (u : Tree) (c : Bool) → WF u → settle_with a s o n u c ≡ some (settle b s o n u c)
  unfolding settle settle_with onward
  settle_alike s o n u true w = refl
  settle_alike s o n u false w = ap (onward (after s o n)) (alike u w)

  gathered_alike : (t : Tree) → WF t → (r : Rans) → RunsKept (members t) r → gathered_with fewer a t (some r) ≡ some (gathered b t r)
  unfolding gathered_with settle_gathered gathered
  gathered_alike t w (overs k) p = refl
  gathered_alike t w (dones l s o n) p =
      ap (settle_gathered a s o n) (two_gathered fewer t l w (λ m. gathers_two t l (length s + o) w m p.0 p.1))
      ∙ settle_alike s _ n _ _ (gathered_tree t l s o n w p).0

  visit_alike : (t : Tree) → WF t → (q : Asked) → AskedKept t q → visit_with fewer a t q ≡ some (visit b t q)
  unfolding visit_with visit onward
  visit_alike t w (step k u) p = ap (onward (after (k ∷ []) 0 0)) (alike u p.0)
  visit_alike t w out_of_range p = refl
  visit_alike t w no_rule p =
      ap (gathered_with fewer a t) (each_alike (members t) (members_wf t w))
      ∙ gathered_alike t w (each b (members t)) (each_kept b kept (members t) (members_wf t w))

run_alike : {rs : List Rule} → Goods rs → (fewer : Branch) (n : ℕ) (t : Tree) → WF t → run_with fewer rs n t ≡ some (run rs n t)
unfolding run_with run onward
run_alike gs fewer zero t w = refl
run_alike {rs} gs fewer (suc n) t w =
    ap (onward tried)
    (visit_alike fewer (λ u. run_with fewer rs n u) (λ u. run rs n u) (λ u v. run_alike gs fewer n u v) (λ u v. run_kept gs n u v) t w (ask rs t)
    (ask_kept gs t w))

-- from an accepted table no branch is ever reached
pub branch_not_reached : {rs : List Rule} → Goods rs → BranchNotReached rs
unfolding simplify_with simplify
branch_not_reached gs fewer lim s b v t e =
    let h = accepted_holds lim s b v in
    run_alike gs fewer (weight t) t (subst WF (same_tree h.read e) h.wf)

-- said directly: where the branch has an outcome of its own, no run from an accepted table has it, in either edition
pub never_told : (ed lim : ℕ) (s : List ℕ) → Bytes s → verdict lim s ≡ accepted → (t : Tree) → tree_of s ≡ some t → ¬
    (simplify_with tells (rules_of ed) t ≡ none)
never_told ed lim s b v t e h = none-ne-some (simplify (rules_of ed) t) (sym h ∙ branch_not_reached (edition_good ed) tells lim s b v t e)
