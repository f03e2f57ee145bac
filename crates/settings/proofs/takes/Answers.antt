-- By the slot being free or not.
use Rattle.std.proofs.Common.{sym, ◌∙◌}
use Rattle.settings.specs.Slots.{takes}
use Rattle.settings.proofs.takes.Goals as goal

pub returns-then-is_free : goal.returns-then-is_free
unfolding takes
returns-then-is_free c =
    let free = sym c.is_free.ensures ∙ c.if-is_free.true in
    rw (c.if-is_free.true, free)

pub returns-else-is_free : goal.returns-else-is_free
unfolding takes
returns-else-is_free c =
    let used = sym c.is_free.ensures ∙ c.if-is_free.false in
    rw (used, sym c.key_of.ensures)
