-- `receiver::after_piece`: a piece is taken where the limit is known and the area is long enough; else the paper's law of the refusal says that all
-- stays (StepLaws).
use mathlib.Core.Path.{sym, ap, ◌∙◌}
use Rattle.paper_receiver.specs.Receiver.{receipt}
use Rattle.paper_receiver.proofs.ReceiverLaws.{receives}
use Rattle.receiver.specs.Receiving.{held}
use Rattle.receiver.proofs.StepLaws.{known, most_within, refuses}
use Rattle.receiver.proofs.after_piece.Goals as goal

pub keep-requires : goal.keep-requires
keep-requires c = most_within (known c.args.limit _ _ c.in-Ok.ensures)

pub returns-in-Ok : goal.returns-in-Ok
returns-in-Ok c =
    let a = c.args in
    let k = known a.limit _ _ c.in-Ok.ensures in
    ap (receipt 0) (rw k.most at c.keep.ensures) ∙ sym (receives a.limit (held a.r a.area.now) a.piece.now k.limit k.room)

pub returns-in-Err : goal.returns-in-Err
returns-in-Err c = sym ((refuses c.args.limit _ (held c.args.r c.args.area.now) c.in-Err.ensures).receives c.args.piece.now)
