-- The verdict, then the search, then the one write.
use Rattle.std.proofs.Common.{sym, ◌∙◌}
use Rattle.std.proofs.lemmas.Result.{err_from_is_err_and}
use Rattle.paper_settings.specs.Settings.{to_store}
use Rattle.settings.specs.Slots.{takes}
use Rattle.settings.proofs.StepLaws.{first_told}
use Rattle.settings.proofs.CallLaws.{call_refused, store_done, store_full}
use Rattle.settings.proofs.store.Goals as goal

pub returns-in_err-judge : goal.returns-in_err-judge
returns-in_err-judge c =
    let g = c.args in
    let p = err_from_is_err_and c.from_residual.result c.from_residual.ensures.1 in
    rw (p.1, p.2) (call_refused g.area.now (to_store g.key g.setting g.unit) c.in_err-judge.field-0.0 c.in_err-judge.ensures)

pub returns-in-Some : goal.returns-in-Some
returns-in-Some c =
    let g = c.args in
    let told = first_told g.area.now (takes g.key) c.room_for.result c.room_for.ensures in
    store_done g.area.now g.key c.in_ok-judge.ensures g.setting g.unit c.in-Some.i (sym c.in-Some.is ∙ told) c.write_slot.new.area c.write_slot.ensures

pub returns-in-None : goal.returns-in-None
returns-in-None c =
    let g = c.args in
    let told = first_told g.area.now (takes g.key) c.room_for.result c.room_for.ensures in
    store_full g.area.now g.key c.in_ok-judge.ensures g.setting g.unit (sym c.in-None.is ∙ told)
