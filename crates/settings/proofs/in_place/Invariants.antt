-- The slots before i are records, and sound, so that the slots from i on tell.
use Rattle.std.proofs.Common.{◌≡◌}
use Rattle.paper_settings.specs.Settings.{slots_of}
use Rattle.settings.specs.Slots.{rest, in_place}
use Rattle.settings.proofs.in_place.Given as goal

abbrev pub invariant-loop-i : goal.invariant-loop-i
invariant-loop-i l = in_place (slots_of l.area) ≡ in_place (rest l.area l.i)
