-- After each turn the entries before entry k, or some of them, were visited.
use Rattle.std.proofs.Common.{◌+◌, ◌-◌, ◌<◌, ◌≤◌}
use Rattle.walk.specs.Numbers.{Passed}
use Rattle.walk.proofs.numbers.put_down.Given as goal

abbrev pub invariant-loop-k : goal.invariant-loop-k
invariant-loop-k l =
    (l.shared ≤ l.k)
    × (l.k < l.round.n + l.k-step)
    × Passed l.round.terms l.initial.out l.out l.initial.work l.work l.round.p l.at l.round.n l.round.m l.round.f l.marks l.k

abbrev pub decreases-loop-k : goal.decreases-loop-k
decreases-loop-k l = l.round.n - l.k
