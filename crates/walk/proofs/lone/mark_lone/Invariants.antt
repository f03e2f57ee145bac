-- After k turns the first k entries have their bits.
use Rattle.std.proofs.Common.{◌≡◌}
use Rattle.walk.specs.Lone.{marked}
use Rattle.walk.proofs.lone.mark_lone.Given as goal

abbrev pub invariant-loop-k : goal.invariant-loop-k
invariant-loop-k l = l.work ≡ marked l.initial.work l.out l.at l.n l.k
