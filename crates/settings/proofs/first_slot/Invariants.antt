-- None of the slots before i passes.
use Rattle.std.proofs.Common.{ℕ, ◌<◌, false}
use Rattle.settings.proofs.first_slot.Given as goal

abbrev pub invariant-loop-i : goal.invariant-loop-i
invariant-loop-i g l = (k : ℕ) → k < l.i → goal.F-post g l.fn.passes k false
