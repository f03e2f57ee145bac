-- How deep the rest may go from each place on is how deep the whole may go.
use Rattle.parse.proofs.WeighLaws.{Diving}
use Rattle.parse.proofs.is_shallow.Given as goal

abbrev pub invariant-loop-c : goal.invariant-loop-c
invariant-loop-c l = Diving l.text l.k l.left l.c-index
