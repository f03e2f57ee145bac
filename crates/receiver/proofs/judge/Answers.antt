-- `receiver::judge`: what was kept is the front of the area.
use mathlib.Core.Path.{sym, ◌∙◌}
use native.Mathlib.Omega.{arith}
use lib.Seq.{length-take-le}
use Rattle.receiver.proofs.StepLaws.{count_within}
use Rattle.receiver.proofs.judge.Goals as goal

pub slice_bounds-check-end : goal.slice_bounds-check-end
slice_bounds-check-end c =
    let h = count_within c.args.most c.args.r (sym c.is_past.ensures ∙ c.if-is_past.false) in
    sym (length-take-le c.args.r.count c.args.area.now (omega arith))
