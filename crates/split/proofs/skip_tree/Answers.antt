-- `split::skip_tree` meets its contract. A leaf owes nothing, so it ends at the next record; a node's record tells its number of records,
-- or nothing.
use Rattle.std.proofs.Common.{◌<◌, ◌≤◌, arith}
use Rattle.paper.specs.Record.{kind}
use Rattle.record.proofs.KindLaws.{leaf_low, node_high}
use Rattle.note.proofs.ToldLaws.{record_within, node_size}
use Rattle.split.proofs.OwedLaws.{owed_one, owed_within, owed_step, owed_none, leaf_owes_none}
use Rattle.split.proofs.skip_tree.Goals as goal
use Rattle.split.proofs.skip_tree.Goals.{in-Integer, in_default}

pub at-requires : goal.at-requires
at-requires c = record_within c.requires.there

pub overflow_add-result : goal.overflow_add-result
overflow_add-result c = omega (arith, record_within c.requires.there)

pub returns-then-matches : goal.returns-then-matches
returns-then-matches c =
    let leaf : kind c.args.s.now c.args.i < 2 =
    elim c.match-matches.branch [
      | in-Integer w ↦ leaf_low _ (kind c.args.s.now c.args.i) c.at.ensures.all w.in-Integer.is
      | in_default w ↦ absurd cc
    ] in
    λ how t h. owed_none (owed_step (owed_one h) (omega arith)) (leaf_owes_none c.args.s.now c.args.i leaf)

pub bits-requires : goal.bits-requires
bits-requires c = record_within c.requires.there

pub overflow_add-result-then-told-gt0 : goal.overflow_add-result-then-told-gt0
overflow_add-result-then-told-gt0 c = omega (arith, record_within c.requires.there)

pub returns-then-told-gt0 : goal.returns-then-told-gt0
returns-then-told-gt0 c = λ how t h.
    let r = c.records_of-told.ensures in
    let b = c.bits.ensures in
    let k : 2 ≤ kind c.args.s.now c.args.i =
    elim c.match-matches.branch [
      | in-Integer w ↦ absurd cc
      | in_default w ↦ node_high _ (kind c.args.s.now c.args.i) c.at.ensures.all w.in_default.not-Integer w.in_default.not-Symbol
    ] in
    omega (arith, r, node_size h k (omega (arith, r, b, c.if-told-gt0.true)))

pub loop-owed-init : goal.loop-owed-init
loop-owed-init c = record { on = omega arith; few = omega arith; owed = λ how t h. owed_one h }

pub arity-requires : goal.arity-requires
arity-requires c =
    let some = c.requires in
    (owed_within some.there (c.loop-owed.invariant.owed some.how some.tree some.there) c.loop-owed-test.true).0

pub overflow_add-owed : goal.overflow_add-owed
overflow_add-owed c =
    let some = c.requires in
    omega (arith, (owed_within some.there (c.loop-owed.invariant.owed some.how some.tree some.there) c.loop-owed-test.true).1)

pub overflow_add-at : goal.overflow_add-at
overflow_add-at c =
    let some = c.requires in
    omega (arith, (owed_within some.there (c.loop-owed.invariant.owed some.how some.tree some.there) c.loop-owed-test.true).0)

pub loop-owed-smaller : goal.loop-owed-smaller
loop-owed-smaller c =
    let some = c.requires in
    omega (arith, (owed_within some.there (c.loop-owed.invariant.owed some.how some.tree some.there) c.loop-owed-test.true).0)

pub loop-owed-preserved : goal.loop-owed-preserved
loop-owed-preserved c = record {
  on = omega arith;
  few = omega arith;
  owed = λ how t h. rw c.arity.ensures.0 (owed_step (c.loop-owed.invariant.owed how t h) c.loop-owed-test.true);
}

pub returns : goal.returns
returns c = λ how t h. owed_none (c.loop-owed.invariant.owed how t h) (omega arith)
