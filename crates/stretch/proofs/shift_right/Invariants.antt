-- Before the turn of j the part's bytes from j + 1 on, as they were at entry, are put.
use Rattle.std.proofs.Common.{◌≡◌, ◌+◌, ◌-◌, ◌≤◌, length}
use Rattle.stretch.specs.Put.{part, put}
use Rattle.stretch.proofs.shift_right.Given as goal

abbrev pub invariant-loop-j : goal.invariant-loop-j
invariant-loop-j l = record {
  few : l.j ≤ l.n;
  long : length l.d ≡ length l.initial.d;
  done : l.d ≡ put l.initial.d (l.to + l.j) (part l.initial.d (l.from + l.j) (l.n - l.j));
}
