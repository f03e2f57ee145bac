-- `table::look`: what was counted up to record i and what is left to count is what the definitions say of all records (LookLaws).
use Rattle.table.proofs.LookLaws.{Looking}
use Rattle.table.proofs.look.Given as goal

abbrev pub invariant-loop-i : goal.invariant-loop-i
invariant-loop-i l = Looking l.s l.n l.i l.owed l.weight l.power
