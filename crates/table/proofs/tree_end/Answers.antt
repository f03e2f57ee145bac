-- `table::tree_end`: where nothing is owed the tree ends, else it goes on by one record, or the records end before it.
use Prim.Native.Nat.{◌+◌, ◌-◌, ◌<◌}
use mathlib.Core.Path.{◌≡◌, refl, sym, ◌∙◌}
use native.Mathlib.Omega.{arith}
use Rattle.paper.proofs.SkipLaws.{skip_none, skip_out, skip_one, skip_step}
use Rattle.record.proofs.FoundLaws.{found_here, found_nowhere}
use Rattle.table.proofs.tree_end.Goals as goal

pub loop-i-init : goal.loop-i-init
loop-i-init c = record { few = omega arith; ends = sym (skip_one _ _ 0) }

pub returns-then-owed-lt1 : goal.returns-then-owed-lt1
returns-then-owed-lt1 c =
    let a = c.args in
    let l = c.loop-i in
    let none : l.owed ≡ 0 = omega arith in
    found_here (a.n + 1) l.i _ (omega arith) (l.invariant.ends ∙ rw none (skip_none a.s.now a.n (a.n - l.i) l.i))

pub loop-i-preserved : goal.loop-i-preserved
loop-i-preserved c =
    let a = c.args in
    let l = c.loop-i in
    let some : 0 < l.owed = omega arith in
    record {
      few = omega arith;
      ends = l.invariant.ends ∙ skip_step a.s.now a.n l.i l.owed some c.loop-i-test.true ∙ rw (← c.arity.ensures.0) refl;
    }

pub returns-then-owed-lt1-2 : goal.returns-then-owed-lt1-2
returns-then-owed-lt1-2 c =
    let a = c.args in
    let l = c.loop-i in
    let none : l.owed ≡ 0 = omega arith in
    let last : l.i ≡ a.n = omega arith in
    found_here (a.n + 1) a.n _ (omega arith) (l.invariant.ends ∙ rw none (skip_none a.s.now a.n (a.n - l.i) l.i) ∙ last)

pub returns-else-owed-lt1-2 : goal.returns-else-owed-lt1-2
returns-else-owed-lt1-2 c =
    let a = c.args in
    let l = c.loop-i in
    let past = l.invariant.ends ∙ skip_out a.s.now a.n l.owed l.i (omega arith) c.loop-i-test.false in
    found_nowhere (a.n + 1) _ (omega (arith, past))
