-- A free slot leaves it to the free ones after it, a malformed record tells, a sound one leaves it to the slots after it.
use Rattle.std.proofs.Common.{sym, ap, ◌∙◌}
use Rattle.settings.specs.Slots.{in_place}
use Rattle.settings.proofs.StepLaws.{rest_all}
use Rattle.settings.proofs.AreaLaws.{place_free, place_bad, place_later, place_done}
use Rattle.settings.proofs.in_place.Goals as goal

pub loop-i-init : goal.loop-i-init
loop-i-init c = ap in_place (rest_all c.args.area.now)

pub returns-then-is_free : goal.returns-then-is_free
returns-then-is_free c =
    let free = sym c.is_free.ensures ∙ c.if-is_free.true in
    c.all_free.ensures ∙ sym (c.loop-i.invariant ∙ place_free c.args.area.now c.loop-i.i c.loop-i-test.true free)

pub returns-then-is_malformed : goal.returns-then-is_malformed
returns-then-is_malformed c =
    let used = sym c.is_free.ensures ∙ c.if-is_free.false in
    let bad = sym c.is_malformed.ensures ∙ c.if-is_malformed.true in
    sym (c.loop-i.invariant ∙ place_bad c.args.area.now c.loop-i.i c.loop-i-test.true used bad)

pub loop-i-preserved : goal.loop-i-preserved
loop-i-preserved c =
    let used = sym c.is_free.ensures ∙ c.if-is_free.false in
    let sound = sym c.is_malformed.ensures ∙ c.if-is_malformed.false in
    c.loop-i.invariant ∙ place_later c.args.area.now c.loop-i.i c.loop-i-test.true used sound

pub returns : goal.returns
returns c = sym (c.loop-i.invariant ∙ place_done c.args.area.now c.loop-i.i c.loop-i-test.false)
