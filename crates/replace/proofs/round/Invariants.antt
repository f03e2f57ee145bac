-- The first j weights are written, and none is over the most that is counted.
use Rattle.std.proofs.Common.{◌≡◌, ℕ, ◌<◌, length, get_or, None}
use Rattle.replace.specs.Weighed.{weighs, AllCounted}
use Rattle.replace.specs.Index.{piece_at}
use Rattle.replace.proofs.round.Given as goal

abbrev pub invariant-loop-j : goal.invariant-loop-j
invariant-loop-j l = record {
  long : length l.next ≡ 16;
  written : (k : ℕ) → k < l.j → get_or l.next k None ≡ weighs l.limit l.which l.weights (piece_at l.definitions l.from k);
  few : AllCounted l.next;
}
