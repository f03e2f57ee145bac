-- What is left to look at from slot i on gives what the whole gives.
use Rattle.std.proofs.Common.{◌≡◌}
use Rattle.paper_settings.specs.Settings.{all_free}
use Rattle.settings.specs.Slots.{rest}
use Rattle.settings.proofs.all_free.Given as goal

abbrev pub invariant-loop-i : goal.invariant-loop-i
invariant-loop-i l = all_free (rest l.area l.from) ≡ all_free (rest l.area l.i)
