-- Each slot tells, or leaves it to those after it.
use Rattle.std.proofs.Common.{sym, ◌∙◌}
use Rattle.settings.proofs.StepLaws.{frees_here, frees_later, frees_done}
use Rattle.settings.proofs.all_free.Goals as goal

pub returns-then-not-is_free : goal.returns-then-not-is_free
returns-then-not-is_free c =
    sym (c.loop-i.invariant ∙ frees_here c.args.area.now c.loop-i.i c.loop-i-test.true (sym c.is_free.ensures ∙ c.if-not-is_free.true))

pub loop-i-preserved : goal.loop-i-preserved
loop-i-preserved c =
    c.loop-i.invariant ∙ frees_later c.args.area.now c.loop-i.i c.loop-i-test.true (sym c.is_free.ensures ∙ c.if-not-is_free.false)

pub returns : goal.returns
returns c = sym (c.loop-i.invariant ∙ frees_done c.args.area.now c.loop-i.i c.loop-i-test.false)
