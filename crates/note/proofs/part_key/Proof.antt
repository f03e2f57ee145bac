-- `note::part_key` meets its contract: the definition's two cases.
use Rattle.note.specs.Part.{part_key}
use Rattle.std.proofs.Common.{rules}
use Rattle.note.proofs.part_key.Statement.{statement}
use Rattle.note.proofs.part_key.Tie as tie

returns : tie.Need-returns-then-terms
unfolding part_key
returns c = λ t h. rw c.if-terms.true (c.rest_note.ensures t h)

returns_2 : tie.Need-returns
unfolding part_key
returns_2 c = λ t h. rw c.if-terms.false (c.base_note.ensures t h)

pub part_key_spec : {M : Type 1} → statement M
part_key_spec = tie.close (tie.spec (λ c κs. search rules) returns (λ c κs. search rules) returns_2)
