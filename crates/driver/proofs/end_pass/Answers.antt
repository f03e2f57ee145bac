-- `driver::end_pass`: each need is one law of Between, for the call that is named, and each answer one for every call.
use Prim.Native.Nat.{ℕ, ◌<◌, ◌≤◌}
use mathlib.Core.Path.{◌≡◌, sym, subst}
use mathlib.Core.List.{List}
use native.Mathlib.Omega.{arith}
use Rattle.std.proofs.lemmas.Result.{err_from_is_err_and}
use Rattle.paper.specs.Tree.{Tree}
use Rattle.note.proofs.NotedLaws.{kind_lt}
use Rattle.paper.specs.Record.{kind}
use Rattle.driver.specs.declared.Stand.{Stand}
use Rattle.driver.specs.Driven.{closed_over, Gathers, Closed}
use Rattle.driver.specs.Paused.{Call, Midway}
use Rattle.driver.proofs.Between.{tries_now, gave, gathers, unchanged, finish_fits, taken_back}
use Rattle.driver.proofs.Between.{turned_over, turned_finished, quiet_fits, turned_quiet, again_fits, turned_again}
use Rattle.driver.proofs.end_pass.Goals as goal

-- the members being gathered behind the node's record, its kind is read, and the node is closed up
module _ {x : Call} {out work steps : List ℕ} {s : Stand} (v : Midway x out work steps s) (l : s.left ≤ 0) {k : ℕ}
    (named : kind out s.node < 5 → k ≡ kind out s.node) where
  there : Gathers v.come.u (gave v l).to out s.node s.end k s.gathered
  there =
      let g = gathers v l in
      subst (λ j. Gathers v.come.u (gave v l).to out s.node s.end j s.gathered) (sym (named (omega (arith, g.kind_is, kind_lt v.come.u)))) g

  closed : {out' : List ℕ}
      → ((t : Tree) (m : List Tree) (e : ℕ) → Gathers t m out s.node e k s.gathered → Closed (closed_over t m) out out' s.node e)
      → Closed (closed_over v.come.u (gave v l).to) out out' s.node s.end
  closed says = says _ _ _ there

pub overflow_add-tries : goal.overflow_add-tries
overflow_add-tries c = omega (arith, tries_now c.requires.1.1)

pub returns-then-s : goal.returns-then-s
returns-then-s c = λ x v. (unchanged v c.requires.0 c.if-s.true, omega arith)

pub close_up-requires : goal.close_up-requires
close_up-requires c = (_, _, _, there c.requires.1.1 c.requires.0 c.at.ensures.named)

pub take_up-requires : goal.take_up-requires
take_up-requires c =
    let v = c.requires.1.1 in
    let l = c.requires.0 in
    (_, _, taken_back v l c.if-s.false (closed v l c.at.ensures.named c.close_up.ensures) c.close_up.auto.out)

pub returns-in_err-taken : goal.returns-in_err-taken
returns-in_err-taken c =
    let r = c.take_up in
    let l = c.requires.0 in
    let changed = c.if-s.false in
    let lo = c.close_up.auto.out in
    let left = err_from_is_err_and c.from_residual.result c.from_residual.ensures.1 in
    λ x v.
    let shut = closed v l c.at.ensures.named c.close_up.ensures in
    rw (left.1, left.2)
    (turned_over v l changed shut lo r.new.out r.new.work r.new.steps r.auto.out r.auto.work r.auto.steps c.in_err-taken.field-0.0
    (c.in_err-taken.ensures _ _ (taken_back v l changed shut lo)))

pub overflow_add-turn : goal.overflow_add-turn
overflow_add-turn c = omega (arith, (finish_fits c.requires.1.1 c.requires.0).1)

pub overflow_add-turn-in-Quiet-2 : goal.overflow_add-turn-in-Quiet-2
overflow_add-turn-in-Quiet-2 c = omega (arith, tries_now c.requires.1.1)

-- the numbers where it is finished after one step more, and where it begins again
pub overflow_sub-turn-in-Quiet : goal.overflow_sub-turn-in-Quiet
overflow_sub-turn-in-Quiet c =
    let r = c.take_up in
    let v = c.requires.1.1 in
    let l = c.requires.0 in
    let changed = c.if-s.false in
    let lo = c.close_up.auto.out in
    let shut = closed v l c.at.ensures.named c.close_up.ensures in
    (quiet_fits v l changed shut lo r.new.out r.new.work r.new.steps r.auto.out r.auto.work r.auto.steps c.in-Quiet.f c.in-Quiet.r
    (rw c.in-Quiet.is at (c.in_ok-taken.ensures _ _ (taken_back v l changed shut lo)))).0

pub overflow_add-turn-in-Quiet-3 : goal.overflow_add-turn-in-Quiet-3
overflow_add-turn-in-Quiet-3 c =
    let r = c.take_up in
    let v = c.requires.1.1 in
    let l = c.requires.0 in
    let changed = c.if-s.false in
    let lo = c.close_up.auto.out in
    let shut = closed v l c.at.ensures.named c.close_up.ensures in
    let fits = quiet_fits v l changed shut lo r.new.out r.new.work r.new.steps r.auto.out r.auto.work r.auto.steps c.in-Quiet.f c.in-Quiet.r
    (rw c.in-Quiet.is at (c.in_ok-taken.ensures _ _ (taken_back v l changed shut lo))) in
    omega (arith, fits.1)

pub overflow_sub-turn-in-Stepped : goal.overflow_sub-turn-in-Stepped
overflow_sub-turn-in-Stepped c =
    let r = c.take_up in
    let v = c.requires.1.1 in
    let l = c.requires.0 in
    let changed = c.if-s.false in
    let lo = c.close_up.auto.out in
    let shut = closed v l c.at.ensures.named c.close_up.ensures in
    (again_fits v l changed shut lo r.new.out r.new.work r.new.steps r.auto.out r.auto.work r.auto.steps c.in-Stepped.settled
    (rw c.in-Stepped.is at (c.in_ok-taken.ensures _ _ (taken_back v l changed shut lo)))).0

pub overflow_add-turn-in-Stepped : goal.overflow_add-turn-in-Stepped
overflow_add-turn-in-Stepped c =
    let r = c.take_up in
    let v = c.requires.1.1 in
    let l = c.requires.0 in
    let changed = c.if-s.false in
    let lo = c.close_up.auto.out in
    let shut = closed v l c.at.ensures.named c.close_up.ensures in
    let fits = again_fits v l changed shut lo r.new.out r.new.work r.new.steps r.auto.out r.auto.work r.auto.steps c.in-Stepped.settled
    (rw c.in-Stepped.is at (c.in_ok-taken.ensures _ _ (taken_back v l changed shut lo))) in
    omega (arith, fits.1)

pub returns-in-Finished : goal.returns-in-Finished
returns-in-Finished c =
    let r = c.take_up in
    let l = c.requires.0 in
    let changed = c.if-s.false in
    let lo = c.close_up.auto.out in
    λ x v.
    let shut = closed v l c.at.ensures.named c.close_up.ensures in
    turned_finished v l changed shut lo r.new.out r.new.work r.new.steps r.auto.out r.auto.work r.auto.steps c.in-Finished.r
    (rw c.in-Finished.is at (c.in_ok-taken.ensures _ _ (taken_back v l changed shut lo)))

pub returns-in-Quiet : goal.returns-in-Quiet
returns-in-Quiet c =
    let r = c.take_up in
    let l = c.requires.0 in
    let changed = c.if-s.false in
    let lo = c.close_up.auto.out in
    λ x v.
    let shut = closed v l c.at.ensures.named c.close_up.ensures in
    turned_quiet v l changed shut lo r.new.out r.new.work r.new.steps r.auto.out r.auto.work r.auto.steps c.in-Quiet.f c.in-Quiet.r
    (rw c.in-Quiet.is at (c.in_ok-taken.ensures _ _ (taken_back v l changed shut lo)))

pub returns-in-Stepped : goal.returns-in-Stepped
returns-in-Stepped c =
    let r = c.take_up in
    let l = c.requires.0 in
    let changed = c.if-s.false in
    let lo = c.close_up.auto.out in
    λ x v.
    let shut = closed v l c.at.ensures.named c.close_up.ensures in
    turned_again v l changed shut lo r.new.out r.new.work r.new.steps r.auto.out r.auto.work r.auto.steps c.in-Stepped.settled
    (rw c.in-Stepped.is at (c.in_ok-taken.ensures _ _ (taken_back v l changed shut lo)))
