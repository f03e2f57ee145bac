-- The weights are those of the definitions, opened as deep as there were rounds, and none is over the most that is counted.
use Rattle.std.proofs.Common.{List}
use Rattle.paper_shared.specs.Shared.{Definition}
use Rattle.replace.specs.Index.{Index, Knows}
use Rattle.replace.specs.Weighed.{AllCounted}
use Rattle.replace.proofs.rounds.Given as goal

abbrev pub invariant-loop : goal.invariant-loop
invariant-loop l = record {
  knows : (ds : List Definition) → Index ds l.definitions l.which l.from l.n → Knows l.limit ds l.which l.weights l.counter;
  few : AllCounted l.weights;
}
