-- `table::first_bad`: each way through a turn is one law of what is owed (OwedLaws).
use Prim.Native.Nat.{ℕ}
use mathlib.Core.Path.{sym, ◌∙◌}
use native.Mathlib.Omega.{arith}
use borrow.Author.Tests.{eqb-true, eqb-false}
use lib.ListN.{replicate, length-replicate}
use Rattle.record.proofs.FoundLaws.{found_here, found_nowhere}
use Rattle.table.proofs.DueLaws.{none_set, not_set}
use Rattle.table.proofs.OwedLaws.{begins, some_owed, one_on_top, owed_within, all_taken, bad_taken, good_taken, members_owed}
use Rattle.table.proofs.first_bad.Goals as goal
use Rattle.table.proofs.first_bad.Goals.{then-is_due+else-not-is_positive, else-is_due}

pub loop-i-init : goal.loop-i-init
loop-i-init c = begins (replicate 256 0) (length-replicate {A = ℕ} 256 0) (none_set 256) c.requires.2

pub overflow_sub-owed : goal.overflow_sub-owed
overflow_sub-owed c = some_owed c.loop-i.invariant c.loop-i-test.true

pub is_due-requires : goal.is_due-requires
is_due-requires c = omega (arith, some_owed c.loop-i.invariant c.loop-i-test.true, owed_within c.loop-i.invariant)

pub returns-then-not-is_positive : goal.returns-then-not-is_positive
returns-then-not-is_positive c =
    let test = c.loop-i-test.true in
    let set = eqb-true _ _ (sym c.is_due.ensures ∙ c.if-is_due.true) in
    let bad = sym c.is_positive.ensures ∙ c.if-not-is_positive.true in
    found_here c.args.n c.loop-i.i _ test (bad_taken c.requires.1 (one_on_top c.loop-i.invariant test) test set bad)

pub turn-requires : goal.turn-requires
turn-requires c = omega (arith, some_owed c.loop-i.invariant c.loop-i-test.true, owed_within c.loop-i.invariant)

pub owe_members-owed-requires : goal.owe_members-owed-requires
owe_members-owed-requires c =
    (omega arith, omega (arith, some_owed c.loop-i.invariant c.loop-i-test.true, owed_within c.loop-i.invariant))

-- an exponent, which is good; or its members are owed
pub loop-i-preserved : goal.loop-i-preserved
loop-i-preserved c =
    let test = c.loop-i-test.true in
    let small = c.requires.1 in
    let top = one_on_top c.loop-i.invariant test in
    let asked = sym c.is_due.ensures in
    elim c.if-is_due.branch [
      | then-is_due+else-not-is_positive w ↦
          let good = sym w.is_positive.ensures ∙ w.if-not-is_positive.false in
          rw (w.owed-is, w.due-is ∙ w.turn.ensures) (good_taken small top test (eqb-true _ _ (asked ∙ w.if-is_due.true)) good)
      | else-is_due w ↦
          let clear = not_set _ _ (eqb-false _ _ (asked ∙ w.if-is_due.false)) in
          rw (w.owed-is ∙ w.owe_members-owed.ensures.0, w.due-is ∙ w.owe_members-owed.ensures.1) (members_owed small top test clear)
    ]

pub returns : goal.returns
returns c = found_nowhere c.args.n _ (omega (arith, all_taken c.loop-i.invariant c.loop-i-test.false))
