-- An entry with its bit is passed by, and of an open one the flags tell.
use Rattle.std.proofs.Common.{arith}
use Rattle.walk.proofs.NumbersLaws.{visited_new, marked_one}
use Rattle.walk.proofs.numbers.visit.Goals as goal

pub overflow_add-h : goal.overflow_add-h
overflow_add-h c =
    let q = c.requires in
    let t = q.0.there _ q.1 in
    let h = (c.put-h.ensures t.0 t.1).small in
    record { fits = omega (arith, h.0, h.1) }

pub returns : goal.returns
returns c =
    let q = c.requires in
    let one = c.unmark.ensures in
    let two = c.unmark-2.ensures in
    λ t e.
    visited_new q.1 (c.put-h.ensures t e) one two (omega (arith, c.if-h-gt0.false))
    (marked_one _ _ _ _ _ q.1 (omega (arith, q.0.low, q.0.within, q.1, one.only.wide, two.only.wide)) c.mark.ensures)
