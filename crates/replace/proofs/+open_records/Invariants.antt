-- `replace::open_records` ends because it goes one definition deeper at each call. What its loop keeps: what is written and what the records
-- left give are together the opened records.
use Rattle.std.proofs.Common.{ℕ, List}
use Rattle.paper.specs.Tree.{Tree}
use Rattle.paper_shared.specs.Shared.{Definition}
use Rattle.replace.specs.Index.{Openable}
use Rattle.replace.proofs.OpenLaws.{Copying}
use Rattle.replace.proofs.+open_records.Given as goal

abbrev pub decreases-open_records : goal.decreases-open_records
decreases-open_records l = l.deep

abbrev pub invariant-loop-i : goal.invariant-loop-i
invariant-loop-i l =
    (ds : List Definition) (m : ℕ) (t v : Tree) (o : Openable ds l.definitions l.which l.from l.s l.fn.area m l.deep l.d t v)
    → Copying o l.area l.at l.i
