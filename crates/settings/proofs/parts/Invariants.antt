-- The parts of the keys from slot i on, counted from those that were found, are the parts of all.
use Rattle.std.proofs.Common.{◌≡◌}
use Rattle.paper_settings.specs.Settings.{slots_of}
use Rattle.settings.specs.Slots.{rest, keys_in}
use Rattle.settings.specs.Keys.{parts_of}
use Rattle.settings.proofs.parts.Given as goal

abbrev pub invariant-loop-i : goal.invariant-loop-i
invariant-loop-i l = parts_of 0 (keys_in (slots_of l.area)) ≡ parts_of l.most (keys_in (rest l.area l.i))
