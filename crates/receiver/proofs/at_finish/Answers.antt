-- `receiver::at_finish`: what was kept is judged where the limit is known and the area is long enough; else the paper's law of the refusal says that
-- the record stays (StepLaws).
use mathlib.Core.Path.{sym, ◌∙◌}
use Rattle.receiver.specs.Receiving.{held}
use Rattle.receiver.proofs.StepLaws.{known, most_within, finished, refuses}
use Rattle.receiver.proofs.at_finish.Goals as goal

pub judge-requires : goal.judge-requires
judge-requires c = most_within (known c.args.limit _ _ c.in-Ok.ensures)

pub returns-in-Ok : goal.returns-in-Ok
returns-in-Ok c =
    let a = c.args in
    let q = finished a.limit _ (held a.r a.area.now) (known a.limit _ _ c.in-Ok.ensures) in
    (c.judge.ensures ∙ sym q.0, sym q.1)

pub returns-in-Err : goal.returns-in-Err
returns-in-Err c =
    let q = refuses c.args.limit _ (held c.args.r c.args.area.now) c.in-Err.ensures in
    (sym q.finishes, sym q.leaves)
