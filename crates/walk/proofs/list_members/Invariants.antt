-- The entries of the members that were passed are written, and the others stand where the loop is.
use Rattle.paper.specs.Tree.{Forest}
use Rattle.walk.specs.Listed.{Listable}
use Rattle.walk.proofs.EntryLaws.{Listing}
use Rattle.walk.proofs.list_members.Given as goal

abbrev pub invariant-loop-k : goal.invariant-loop-k
invariant-loop-k l = (f : Forest) → Listable l.fn.work l.p f → Listing l.terms l.fn.work l.work l.p l.k-end f l.at l.k
