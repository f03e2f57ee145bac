-- The place of 7 is at most the weight: each step completed before it has lightened the tree. By induction on the fuel, as for what a
-- run keeps (DriverLaws).
use Prim.Native.Nat.{ℕ, zero, suc, ◌+◌, ◌≤◌}
use mathlib.Core.Bool.{Bool, true, false}
use mathlib.Core.List.{List, [], ◌∷◌}
use native.Mathlib.Omega.{arith}
use lib.ListN.{length}
use lib.Dec.{eqb}
use Rattle.paper.specs.Tree.{Tree, weight}
use Rattle.paper.specs.WellFormed.{WF, WFl}
use Rattle.paper.specs.Rules.{Rule}
use Rattle.paper.specs.Driver.{Asked, no_rule, step, out_of_range, ask, Ran, done, over, Rans, dones, overs, after, and_then, each, members}
use Rattle.paper.specs.Driver.{gather, settle, gathered, visit, tried, run}
use Rattle.paper.specs.Good.{Kept, Goods}
use Rattle.paper.proofs.Value.{total}
use Rattle.paper.proofs.GatherLaws.{members_wf}
use Rattle.paper.proofs.DriverLaws.{RunKept, RunsKept, AskedKept, ask_kept, each_kept, gathered_tree, run_kept}
use Rattle.paper.proofs.Fuel.{members_lighter}

-- of a run on t, and of the runs on the members l
abbrev pub Within : Tree → Ran → Type 0
Within t (done u s o n) = Unit {0}
Within t (over k) = k ≤ weight t

abbrev Withins : List Tree → Rans → Type 0
Withins l (dones m s o n) = Unit {0}
Withins l (overs k) = k ≤ total weight l

after_within : (t u : Tree) (s : List ℕ) (o n : ℕ) (r : Ran) → Kept (length s + o) t u → Within u r → Within t (after s o n r)
unfolding after
after_within t u s o n (done v s' o' n') h p = tt
after_within t u s o n (over k) h p = omega (arith, h.lighter)

tried_within : (t : Tree) (r : Ran) → Within t r → Within t (tried r)
unfolding tried after
tried_within t (done u s o n) p = tt
tried_within t (over k) p = omega arith

and_then_within : (t : Tree) (l : List Tree) (r : Ran) (rs : Rans) → RunKept t r → Within t r → Withins l rs → Withins (t ∷ l) (and_then r rs)
unfolding and_then total
and_then_within t l (over k) rs h p q = omega arith
and_then_within t l (done u s o n) (overs k) h p q = omega (arith, h.1.lighter)
and_then_within t l (done u s o n) (dones m s' o' n') h p q = tt

module _ (again : Tree → Ran) (kept : (u : Tree) → WF u → RunKept u (again u)) (ih : (u : Tree) → WF u → Within u (again u)) where
  each_within : (l : List Tree) → WFl l → Withins l (each again l)
  unfolding each
  each_within [] w = tt
  each_within (t ∷ l) w = and_then_within t l (again t) (each again l) (kept t w.0) (ih t w.0) (each_within l w.1)

  gathered_within : (t : Tree) → WF t → (r : Rans) → RunsKept (members t) r → Withins (members t) r → Within t (gathered again t r)
  unfolding gathered settle
  gathered_within t w (overs k) h p = omega (arith, members_lighter t)
  gathered_within t w (dones l s o n) h p = go (eqb (length s + (o + (gather t l).1)) 0)
    where
      go : (b : Bool) → Within t (settle again s (o + (gather t l).1) n (gather t l).0 b)
      go true = tt
      go false =
          let g = gathered_tree t l s o n w h in
          after_within t (gather t l).0 s (o + (gather t l).1) n (again (gather t l).0) g.1 (ih (gather t l).0 g.0)

  visit_within : (t : Tree) → WF t → (a : Asked) → AskedKept t a → Within t (visit again t a)
  unfolding visit
  visit_within t w (step k u) p = after_within t u (k ∷ []) 0 0 (again u) p.1 (ih u p.0)
  visit_within t w out_of_range p = omega arith
  visit_within t w no_rule p =
      let ms = members_wf t w in
      gathered_within t w (each again (members t)) (each_kept again kept (members t) ms) (each_within (members t) ms)

pub run_within : {rs : List Rule} → Goods rs → (n : ℕ) (t : Tree) → WF t → Within t (run rs n t)
unfolding run
run_within {rs} gs zero t w = tt
run_within {rs} gs (suc n) t w =
    tried_within t _ (visit_within (λ u. run rs n u) (λ u v. run_kept gs n u v) (λ u v. run_within gs n u v) t w (ask rs t) (ask_kept gs t w))
