-- It ends because the records left fall: what stands behind a node's record begins there. What is added and what the trees still to come
-- add make what they add all together.
use Rattle.std.proofs.Common.{◌-◌}
use Rattle.paper.specs.Verdict.{records_in}
use Rattle.note.proofs.TreeLaws.{Summed}
use Rattle.note.proofs.tree.+note_from.Given as goal

abbrev pub decreases-note_from : goal.decreases-note_from
decreases-note_from l = records_in l.s.now.now - l.i

abbrev pub invariant-loop : goal.invariant-loop
invariant-loop l = Summed l.s.now l.i l.sum l.at (l.end - l.counter)
