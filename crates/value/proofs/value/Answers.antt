-- `value::value`: the refusals are the checker's, and 6; the tree that an accepted table holds stands at its record 0, so that what is returned is
-- that tree's value, the array being the registers.
use Rattle.std.proofs.Common.{refl, sym, ◌∙◌, arith}
use Rattle.std.proofs.lemmas.Result.{err_from_is_err_and}
use Rattle.paper.specs.Answers.{register}
use Rattle.paper.proofs.AcceptedLaws.{accepted_holds, holds_tree}
use Rattle.paper.proofs.BytesLaws.{are_bytes}
use Rattle.table.proofs.RefusalLaws.{some_number}
use Rattle.value.specs.Evaluated.{held}
use Rattle.value.proofs.AnswerLaws.{same_value, refused_table, refused_registers, value_told}
use Rattle.value.proofs.value.Goals as goal

pub returns-in_err-check : goal.returns-in_err-check
returns-in_err-check c =
    let a = c.args in
    let r = c.in_err-check.field-0.0 in
    let p = err_from_is_err_and c.from_residual.result c.from_residual.ensures.1 in
    rw (p.1, p.2) (refused_table a.limit a.s.now a.registers.now _ _ _ c.in_err-check.ensures (some_number r))

pub returns-then-registers-ne-REGISTER_BYTES : goal.returns-then-registers-ne-REGISTER_BYTES
returns-then-registers-ne-REGISTER_BYTES c =
    refused_registers c.args.limit c.args.s.now c.args.registers.now (sym c.in_ok-check.ensures) c.if-registers-ne-REGISTER_BYTES.true

pub value_at-requires : goal.value_at-requires
value_at-requires c =
    let h = accepted_holds c.args.limit c.args.s.now (are_bytes c.args.s.now c.type_inv.s) (sym c.in_ok-check.ensures) in
    (refl, record { tree = h.tree; there = holds_tree c.args.limit c.args.s.now h }, omega arith)

pub returns : goal.returns
returns c =
    let lim = c.args.limit in
    let s = c.args.s.now in
    let fine = sym c.in_ok-check.ensures in
    let h = accepted_holds lim s (are_bytes s c.type_inv.s) fine in
    let v = (c.value_at.ensures h.tree (holds_tree lim s h)).value in
    let told = v ∙ same_value (held c.fill-regs.result) (register c.args.registers.now) c.fill-regs.ensures h.tree h.wf in
    value_told lim s c.args.registers.now h fine c.if-registers-ne-REGISTER_BYTES.false c.value_at.result told
