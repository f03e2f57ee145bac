-- The tests are the definition's, in its order.
use Rattle.std.proofs.Common.{arith, sym, ◌∙◌}
use Rattle.settings.proofs.CallLaws.{judged_newer, judged_length, judged_order, judged_fine}
use Rattle.settings.proofs.judge.Goals as goal
use Rattle.settings.proofs.judge.Goals.{then-area-ne0-via-then-area-ne0, then-area-ne0-via-else-area-ne0+then-not-in_order}

pub returns-then-any_newer : goal.returns-then-any_newer
returns-then-any_newer c = judged_newer c.args.newest c.args.area.now (sym c.any_newer.ensures ∙ c.if-any_newer.true)

pub returns-then-area-ne0 : goal.returns-then-area-ne0
returns-then-area-ne0 c =
    let newest = c.args.newest in
    let a = c.args.area.now in
    let known = sym c.any_newer.ensures ∙ c.if-any_newer.false in
    elim c.then-area-ne0.branch [
      | then-area-ne0-via-then-area-ne0 w ↦ judged_length newest a known (omega (arith, w.if-area-ne0.true))
      | then-area-ne0-via-else-area-ne0+then-not-in_order w ↦
          judged_order newest a known (omega (arith, w.if-area-ne0.false)) (sym w.in_order.ensures ∙ w.if-not-in_order.true)
    ]

pub returns : goal.returns
returns c =
    judged_fine c.args.newest c.args.area.now (sym c.any_newer.ensures ∙ c.if-any_newer.false) (omega (arith, c.if-area-ne0.false))
    (sym c.in_order.ensures ∙ c.if-not-in_order.false)
