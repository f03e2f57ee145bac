-- As `fetch`, by the old release's verdict, and without the unit.
use Rattle.std.proofs.lemmas.Result.{err_from_is_err_and}
use Rattle.table.specs.Refusals.{number_of}
use Rattle.settings.proofs.CallLaws.{old_answer}
use Rattle.settings.proofs.fetch_1.Goals as goal

pub returns-in_err-show : goal.returns-in_err-show
returns-in_err-show c =
    let p = err_from_is_err_and c.from_residual.result c.from_residual.ensures.1 in
    rw (p.1, p.2) (old_answer c.args.key c.args.area.now (number_of c.in_err-show.field-0.0) 0 0 c.in_err-show.ensures)

pub returns : goal.returns
returns c =
    let shown = c.in_ok-show.field-0 in
    old_answer c.args.key c.args.area.now 0 shown.setting shown.unit c.in_ok-show.ensures
