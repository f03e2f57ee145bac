-- Where the next definition begins, and where those up to it do.
use Rattle.std.proofs.Common.{◌≡◌, ℕ, ◌≤◌, length, get_or}
use Rattle.paper_shared.specs.Answers.{beginning}
use Rattle.replace.proofs.from_of.Given as goal

abbrev pub invariant-loop-i : goal.invariant-loop-i
invariant-loop-i l = record {
  long : length l.from ≡ 17;
  next : l.a ≡ beginning l.lengths l.i;
  begin : (j : ℕ) → j ≤ l.i → get_or l.from j 0 ≡ beginning l.lengths j;
}
