-- `table::look`: each way through a turn, and each way out, is one law of what is counted (LookLaws).
use Rattle.table.proofs.LookLaws.{begin_looking, ended_early, found_flawed, ended_late, looked}
use Rattle.table.proofs.LookLaws.{passed_integer, passed_symbol, passed_members, passed_power}
use Rattle.table.proofs.look.Goals as goal
use Rattle.table.proofs.look.Goals.{in-Integer, in-Symbol, in-Members, in-Power}

pub loop-i-init : goal.loop-i-init
loop-i-init c = begin_looking _ _

pub returns-then-owed-lt1 : goal.returns-then-owed-lt1
returns-then-owed-lt1 c =
    let l = c.loop-i in
    ended_early c.args.s.now c.args.n l.i l.owed l.weight l.power l.invariant c.loop-i-test.true c.if-owed-lt1.true

pub returns-in_err-glance : goal.returns-in_err-glance
returns-in_err-glance c =
    let l = c.loop-i in
    rw c.from_residual.ensures
    (found_flawed c.args.s.now c.args.n l.i l.owed l.weight l.power l.invariant c.loop-i-test.true c.in_err-glance.ensures)

pub loop-i-preserved : goal.loop-i-preserved
loop-i-preserved c =
    let s = c.args.s.now in
    let n = c.args.n in
    let l = c.loop-i in
    let more = c.loop-i-test.true in
    let some = c.if-owed-lt1.false in
    let seen = c.in_ok-glance.ensures in
    elim c.match-branch-2.branch [
      | in-Integer w ↦ rw (w.owed-is, w.weight-is, w.power-is)
          (passed_integer s n l.i l.owed l.weight l.power l.invariant more some (rw w.in-Integer.is at seen))
      | in-Symbol w ↦ rw (w.owed-is, w.weight-is, w.power-is)
          (passed_symbol s n l.i l.owed l.weight l.power l.invariant more some (rw w.in-Symbol.is at seen))
      | in-Members w ↦ rw (w.owed-is, w.weight-is, w.power-is)
          (passed_members s n l.i l.owed l.weight l.power l.invariant more some w.in-Members.c (rw w.in-Members.is at seen))
      | in-Power w ↦ rw (w.owed-is, w.weight-is, w.power-is)
          (passed_power s n l.i l.owed l.weight l.power l.invariant more some (rw w.in-Power.is at seen))
    ]

pub returns-then-owed-gt0 : goal.returns-then-owed-gt0
returns-then-owed-gt0 c =
    let l = c.loop-i in
    ended_late c.args.s.now c.args.n l.i l.owed l.weight l.power l.invariant c.loop-i-test.false c.if-owed-gt0.true

pub returns : goal.returns
returns c =
    let l = c.loop-i in
    looked c.args.s.now c.args.n l.i l.owed l.weight l.power l.invariant c.loop-i-test.false c.if-owed-gt0.false
