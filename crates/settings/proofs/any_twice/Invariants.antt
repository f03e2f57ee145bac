-- A key that is there twice is of this part or a later one.
use Rattle.std.proofs.Common.{◌≡◌}
use Rattle.paper_settings.specs.Settings.{slots_of}
use Rattle.settings.specs.Slots.{keys_in}
use Rattle.settings.specs.Keys.{twice, part_from}
use Rattle.settings.proofs.any_twice.Given as goal

abbrev pub invariant-loop-part : goal.invariant-loop-part
invariant-loop-part l = twice (part_from 0) (keys_in (slots_of l.area)) ≡ twice (part_from l.part) (keys_in (slots_of l.area))
