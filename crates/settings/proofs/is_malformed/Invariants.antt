-- No byte before this one is stray.
use Rattle.std.proofs.Common.{◌≡◌}
use Rattle.paper_settings.specs.Settings.{is_malformed}
use Rattle.settings.specs.Slots.{slot_at}
use Rattle.settings.proofs.StepLaws.{strays_from}
use Rattle.settings.proofs.is_malformed.Given as goal

abbrev pub invariant-loop-byte : goal.invariant-loop-byte
invariant-loop-byte l = is_malformed (slot_at l.area l.i) ≡ strays_from l.area l.i l.v l.byte
