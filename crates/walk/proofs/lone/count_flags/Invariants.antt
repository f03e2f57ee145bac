-- After k turns the first k entries are counted.
use Rattle.std.proofs.Common.{◌≡◌}
use Rattle.walk.specs.Lone.{counted}
use Rattle.walk.proofs.lone.count_flags.Given as goal

abbrev pub invariant-loop-k : goal.invariant-loop-k
invariant-loop-k l = l.out ≡ counted l.initial.out l.work l.at l.n l.k
