-- `batch::judge` meets its contract: 19 goes first, then 9, then 8.
use Rattle.std.proofs.Common.{true, false, sym}
use Rattle.std.proofs.lemmas.Result.{err_from_is_err_and}
use Rattle.simplify.proofs.Calling.{both_known}
use Rattle.batch.proofs.FitLaws.{called_off, known}
use Rattle.batch.proofs.judge.Goals as goal

pub returns-in_err-judge_call : goal.returns-in_err-judge_call
returns-in_err-judge_call c =
    let g = c.args in
    let p = err_from_is_err_and c.from_residual.result c.from_residual.ensures.1 in
    rw (p.1, p.2) (called_off g.tables.now g.lengths.now g.answers.now g.limit g.edition c.in_err-judge_call.field-0.0 c.in_err-judge_call.ensures)

pub returns-then-turns_down : goal.returns-then-turns_down
returns-then-turns_down c =
    let g = c.args in
    let k = both_known g.limit g.edition c.in_ok-judge_call.ensures in
    known g.tables.now g.lengths.now g.answers.now g.limit g.edition true k.0 k.1 (sym c.if-turns_down.ensures)

pub returns : goal.returns
returns c =
    let g = c.args in
    let k = both_known g.limit g.edition c.in_ok-judge_call.ensures in
    known g.tables.now g.lengths.now g.answers.now g.limit g.edition false k.0 k.1 (sym c.if-turns_down.ensures)
