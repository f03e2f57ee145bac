-- `table::first_bad`: what the trees that are owed and the records that are left tell of bad exponents is what the whole table tells.
use Rattle.table.proofs.OwedLaws.{Owing}
use Rattle.table.proofs.first_bad.Given as goal

abbrev pub invariant-loop-i : goal.invariant-loop-i
invariant-loop-i l = Owing l.s l.n l.i l.owed l.due
