-- Each round keeps what was told, and takes it further.
use Rattle.std.proofs.Common.{◌<◌, ◌≤◌}
use Rattle.walk.specs.Numbers.{ToldMore}
use Rattle.walk.proofs.numbers.tell_numbers.Given as goal

abbrev pub invariant-loop : goal.invariant-loop
invariant-loop l = (0 < l.m) × (l.m ≤ l.n) × ToldMore l.terms l.initial.out l.out l.initial.work l.work l.d l.p l.n
