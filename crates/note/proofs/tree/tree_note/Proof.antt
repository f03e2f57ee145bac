-- `note::tree::tree_note` meets its contract: the recursion over the table behind a reference.
use Rattle.std.proofs.Common.{arith}
use Rattle.note.proofs.tree.tree_note.Statement.{statement}
use Rattle.note.proofs.tree.tree_note.Tie as tie

note_from_requires : tie.Need-note_from-requires
note_from_requires c κs = (c.requires, omega arith)

returns : tie.Need-returns
returns c = c.note_from.ensures

pub tree_note_spec : {M : Type 1} → statement M
tree_note_spec = tie.close (tie.spec note_from_requires returns)
