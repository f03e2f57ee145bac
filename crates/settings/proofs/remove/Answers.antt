-- The verdict, then the search, then the one write.
use Rattle.std.proofs.Common.{sym, ◌∙◌}
use Rattle.std.proofs.lemmas.Result.{err_from_is_err_and}
use Rattle.paper_settings.specs.Settings.{holds, to_remove}
use Rattle.settings.proofs.StepLaws.{first_told}
use Rattle.settings.proofs.CallLaws.{call_refused, remove_done, remove_absent}
use Rattle.settings.proofs.remove.Goals as goal

pub returns-in_err-judge : goal.returns-in_err-judge
returns-in_err-judge c =
    let g = c.args in
    let p = err_from_is_err_and c.from_residual.result c.from_residual.ensures.1 in
    rw (p.1, p.2) (call_refused g.area.now (to_remove g.key) c.in_err-judge.field-0.0 c.in_err-judge.ensures)

pub returns-in-Some : goal.returns-in-Some
returns-in-Some c =
    let g = c.args in
    let told = first_told g.area.now (holds g.key) c.find.result c.find.ensures in
    remove_done g.area.now g.key c.in_ok-judge.ensures c.in-Some.i (sym c.in-Some.is ∙ told) c.close_up.new.area c.close_up.ensures

pub returns-in-None : goal.returns-in-None
returns-in-None c =
    let g = c.args in
    let told = first_told g.area.now (holds g.key) c.find.result c.find.ensures in
    remove_absent g.area.now g.key c.in_ok-judge.ensures (sym c.in-None.is ∙ told)
