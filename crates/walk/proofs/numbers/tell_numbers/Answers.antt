-- The members are listed, and each round keeps what was told.
use Rattle.std.proofs.Common.{arith}
use Rattle.note.proofs.ToldLaws.{record_within}
use Rattle.walk.proofs.NumbersLaws.{listed_numbered, numbered_still, told_both}
use Rattle.walk.proofs.numbers.tell_numbers.Goals as goal

pub factor-f-requires : goal.factor-f-requires
factor-f-requires c = let q = c.requires in omega (arith, q.0.1.within, record_within ((listed_numbered _ _ _ _ _ q.0.1 q.1 q.2).there 0 q.1).1.there)

pub put_down-requires : goal.put_down-requires
put_down-requires c =
    let q = c.requires in
    (listed_numbered _ _ _ _ _ q.0.1 q.1 q.2, c.pays.ensures c.if-not-pays.false, c.many_open-m.ensures, q.3)

pub room-requires : goal.room-requires
room-requires c = let v = c.loop.invariant in (omega (arith, v.1, c.requires.2), v.0, v.1)

pub put_down-shared-requires : goal.put_down-shared-requires
put_down-shared-requires c =
    let q = c.requires in
    let first = c.put_down.ensures.1 in
    let v = c.loop.invariant.2 in
    let room = c.room.ensures in (
      numbered_still v.only (numbered_still first.only (listed_numbered _ _ _ _ _ q.0.1 q.1 q.2)),
      room.1,
      room.0,
      omega (arith, q.3, first.long, v.long),
    )

pub returns-then-m-shared : goal.returns-then-m-shared
returns-then-m-shared c = told_both c.put_down.ensures.1 (told_both c.loop.invariant.2 c.put_down-shared.ensures.1)

pub returns-then-not-pays-2 : goal.returns-then-not-pays-2
returns-then-not-pays-2 c = told_both c.put_down.ensures.1 (told_both c.loop.invariant.2 c.put_down-shared.ensures.1)

pub loop-preserved : goal.loop-preserved
loop-preserved c =
    let v = c.loop.invariant in (
      c.pays-in-loop.ensures c.if-not-pays-2.false,
      omega (arith, v.1, c.if-m-shared.false),
      told_both v.2 c.put_down-shared.ensures.1,
    )

pub returns : goal.returns
returns c = told_both c.put_down.ensures.1 c.loop.invariant.2
