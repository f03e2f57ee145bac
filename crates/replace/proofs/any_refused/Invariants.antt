-- Where the next definition begins, and the definitions left tell the whole.
use Rattle.std.proofs.Common.{◌≡◌, ◌-◌}
use Rattle.paper_shared.specs.Answers.{beginning, any_refused}
use Rattle.replace.proofs.any_refused.Given as goal

abbrev pub invariant-loop-i : goal.invariant-loop-i
invariant-loop-i l = record {
  begins : l.a ≡ beginning l.lengths l.i;
  left : any_refused l.limit l.lengths l.definitions 0 l.n ≡ any_refused l.limit l.lengths l.definitions l.i (l.n - l.i);
}
