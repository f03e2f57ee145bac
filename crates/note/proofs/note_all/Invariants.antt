-- from the record that is reached on all nodes are noted, and before it the table is as it was
use Rattle.paper.specs.Tree.{Tree}
use Rattle.note.specs.Note.{note}
use Rattle.note.specs.Noted.{Whole}
use Rattle.note.proofs.RelabelLaws.{Half, rest}
use Rattle.note.proofs.note_all.Given as goal

abbrev pub invariant-loop-j : goal.invariant-loop-j
invariant-loop-j l = (t : Tree) (q : Whole (λ u. 0) l.initial.s l.i l.n t) → Half note l.initial.s l.s l.i l.j t (rest q)
