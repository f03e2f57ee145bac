-- Each slot tells, or leaves it to those after it.
use Rattle.std.proofs.Common.{arith, sym, ap, ◌∙◌}
use Rattle.paper_settings.specs.Settings.{any_newer}
use Rattle.settings.proofs.StepLaws.{rest_all, newer_here, newer_later, newer_done}
use Rattle.settings.proofs.any_newer.Goals as goal

pub loop-i-init : goal.loop-i-init
loop-i-init c = ap (any_newer c.args.newest) (rest_all c.args.area.now)

pub returns-then-newest-version_of : goal.returns-then-newest-version_of
returns-then-newest-version_of c =
    let a = c.args in
    sym (c.loop-i.invariant ∙ newer_here a.area.now c.loop-i.i a.newest c.loop-i-test.true (omega (arith, c.version_of.ensures)))

pub loop-i-preserved : goal.loop-i-preserved
loop-i-preserved c =
    let a = c.args in
    c.loop-i.invariant ∙ newer_later a.area.now c.loop-i.i a.newest c.loop-i-test.true (omega (arith, c.version_of.ensures))

pub returns : goal.returns
returns c = sym (c.loop-i.invariant ∙ newer_done c.args.area.now c.loop-i.i c.args.newest c.loop-i-test.false)
