-- The refusals are the checker's, and 6 where the text, measured first, is longer than the area; the tree that an accepted table holds stands at its
-- record 0, and its text is put at place 0, where it fits.
use Rattle.std.proofs.Common.{arith, sym}
use Rattle.std.proofs.lemmas.Result.{err_from_is_err_and}
use Rattle.paper.proofs.AcceptedLaws.{accepted_holds, holds_tree}
use Rattle.paper.proofs.BytesLaws.{are_bytes}
use Rattle.text.proofs.WriteLaws.{refused_table, no_room_lem, text_written, tree_there, roomy}
use Rattle.text.proofs.write.Goals as goal

pub returns-in_err-check : goal.returns-in_err-check
returns-in_err-check c =
    let a = c.args in
    let p = err_from_is_err_and c.from_residual.result c.from_residual.ensures.1 in
    rw (p.1, p.2) (refused_table a.limit a.table.now a.text.now c.in_err-check.field-0.0 c.in_err-check.ensures)

pub measure-length-requires : goal.measure-length-requires
measure-length-requires c =
    let a = c.args in
    let h = accepted_holds a.limit a.table.now (are_bytes a.table.now c.type_inv.table) (sym c.in_ok-check.ensures) in
    (tree_there a.limit a.table.now h, roomy a.limit a.table.now h)

pub returns-then-text-length : goal.returns-then-text-length
returns-then-text-length c =
    let a = c.args in
    let s = a.table.now in
    let fine = sym c.in_ok-check.ensures in
    let h = accepted_holds a.limit s (are_bytes s c.type_inv.table) fine in
    let n = c.measure-length.ensures h.tree (holds_tree a.limit s h) in
    no_room_lem a.limit s a.text.now h fine (omega (arith, n))

pub spell-requires : goal.spell-requires
spell-requires c =
    let a = c.args in
    let h = accepted_holds a.limit a.table.now (are_bytes a.table.now c.type_inv.table) (sym c.in_ok-check.ensures) in
    (tree_there a.limit a.table.now h, roomy a.limit a.table.now h)

pub returns : goal.returns
returns c =
    let a = c.args in
    let s = a.table.now in
    let fine = sym c.in_ok-check.ensures in
    let h = accepted_holds a.limit s (are_bytes s c.type_inv.table) fine in
    let n = c.measure-length.ensures h.tree (holds_tree a.limit s h) in
    let put_there = (c.spell.ensures h.tree (holds_tree a.limit s h)).text_put.put_there in
    text_written a.limit s a.text.now h fine _ _ n (omega (arith, n)) (put_there (omega (arith, n)))
