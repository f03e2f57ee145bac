-- The verdict, then the first slot with the key, whose fields are read.
use Rattle.std.proofs.Common.{sym, ◌∙◌}
use Rattle.std.proofs.lemmas.Result.{err_from_is_err_and}
use Rattle.paper_settings.specs.Settings.{holds}
use Rattle.settings.proofs.StepLaws.{first_told}
use Rattle.settings.proofs.CallLaws.{fetch_refused, fetch_found, fetch_absent}
use Rattle.settings.proofs.show.Goals as goal

pub returns-in_err-judge : goal.returns-in_err-judge
returns-in_err-judge c =
    let g = c.args in
    let p = err_from_is_err_and c.from_residual.result c.from_residual.ensures.1 in
    rw (p.1, p.2) (fetch_refused g.newest g.key g.area.now c.in_err-judge.field-0.0 c.in_err-judge.ensures)

pub returns-in-Some : goal.returns-in-Some
returns-in-Some c =
    let g = c.args in
    let told = first_told g.area.now (holds g.key) c.find.result c.find.ensures in
    fetch_found g.newest g.key g.area.now c.in_ok-judge.ensures
    c.in-Some.i (sym c.in-Some.is ∙ told) c.read8.result c.read2.result c.read8.ensures c.read2.ensures.0

pub returns-in-None : goal.returns-in-None
returns-in-None c =
    let g = c.args in
    let told = first_told g.area.now (holds g.key) c.find.result c.find.ensures in
    fetch_absent g.newest g.key g.area.now c.in_ok-judge.ensures (sym c.in-None.is ∙ told)
