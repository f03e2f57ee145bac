-- What is passed from each place on is what is passed of the whole group; the area is not touched before its end.
use Rattle.parse.proofs.SkimLaws.{Kept}
use Rattle.parse.proofs.passed.Given as goal

abbrev pub invariant-loop-e : goal.invariant-loop-e
invariant-loop-e l = Kept l.text l.at l.fn.out l.out l.k l.deep l.e
