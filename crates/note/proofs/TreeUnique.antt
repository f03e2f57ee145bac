-- The contract of `tree_note`, as the check reads it off the source, leaves one answer open: some tree stands at the record, and the answer
-- is its note.
use Rattle.std.proofs.Common.{sym, ◌∙◌}
use Rattle.paper.specs.Once.{Once}
use Rattle.note.proofs.tree.tree_note.Reads as tree-note
use Rattle.note.proofs.tree.tree_note.Kinds as tree-note-kinds

pub tree_note_once : Once 1 tree-note-kinds.ps tree-note-kinds.r tree-note.Pre tree-note.Post
tree_note_once κs a v v' x x' h p q = p h.0 h.1 h.2 ∙ sym (q h.0 h.1 h.2)
