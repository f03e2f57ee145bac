-- Part by part; after the last part no key is there.
use Rattle.std.proofs.Common.{arith, sym, ◌∙◌}
use Rattle.settings.specs.Slots.{keys_in}
use Rattle.paper_settings.specs.Settings.{slots_of}
use Rattle.settings.proofs.KeyLaws.{parts_split, parts_over}
use Rattle.settings.proofs.any_twice.Goals as goal

pub returns-then-twice_in : goal.returns-then-twice_in
returns-then-twice_in c =
    sym (c.loop-part.invariant ∙ parts_split c.loop-part.part (keys_in (slots_of c.args.area.now)) ∙ rw (sym c.twice_in.ensures ∙ c.if-twice_in.true))

pub loop-part-preserved : goal.loop-part-preserved
loop-part-preserved c =
    c.loop-part.invariant ∙ parts_split c.loop-part.part (keys_in (slots_of c.args.area.now)) ∙ rw (sym c.twice_in.ensures ∙ c.if-twice_in.false)

pub returns : goal.returns
returns c =
    sym (c.loop-part.invariant
    ∙ parts_over c.loop-part.part 0 (keys_in (slots_of c.args.area.now)) (omega (arith, c.parts-part-end.ensures)))
