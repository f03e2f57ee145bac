-- What is left to search from slot i on gives what the whole gives.
use Rattle.std.proofs.Common.{◌≡◌}
use Rattle.paper_settings.specs.Settings.{slots_of, any_newer}
use Rattle.settings.specs.Slots.{rest}
use Rattle.settings.proofs.any_newer.Given as goal

abbrev pub invariant-loop-i : goal.invariant-loop-i
invariant-loop-i l = any_newer l.newest (slots_of l.area) ≡ any_newer l.newest (rest l.area l.i)
