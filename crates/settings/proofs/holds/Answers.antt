-- By the slot being free or not.
use Rattle.std.proofs.Common.{sym, ◌∙◌}
use Rattle.paper_settings.specs.Settings.{holds}
use Rattle.settings.proofs.holds.Goals as goal

pub returns-then-not-is_free : goal.returns-then-not-is_free
unfolding holds
returns-then-not-is_free c =
    let used = sym c.is_free.ensures ∙ c.if-not-is_free.true in
    rw (used, sym c.key_of.ensures)

pub returns-else-not-is_free : goal.returns-else-not-is_free
unfolding holds
returns-else-not-is_free c =
    let free = sym c.is_free.ensures ∙ c.if-not-is_free.false in
    rw (c.if-not-is_free.false, free)
