-- `note::size_at` meets its contract: a leaf is one record, and a node's note tells.
use Rattle.std.proofs.Common.{◌∙◌, arith, rules}
use Rattle.note.proofs.ToldLaws.{noted_told, record_within}
use Rattle.note.proofs.LightLaws.{size_of_leaf, size_of_node}
use Rattle.note.proofs.size_at.Statement.{statement}
use Rattle.note.proofs.size_at.Tie as tie

returns : tie.Need-returns-then-k-lt-SUM
returns c = λ t h k. size_of_leaf t (omega arith)

bits_requires : tie.Need-bits-requires
bits_requires c κs = record_within (noted_told c.requires.1)

returns_2 : tie.Need-returns
returns_2 c = λ t h k. c.records_of.ensures ∙ size_of_node h (omega arith) c.bits.result c.bits.ensures

pub size_at_spec : {M : Type 1} → statement M
size_at_spec = tie.close (tie.spec returns bits_requires (λ c κs. search rules) returns_2)
