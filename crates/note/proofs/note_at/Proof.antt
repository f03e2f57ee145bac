-- `note::note_at` meets its contract: a leaf's note is made from its record, a node's stands in it.
use Rattle.std.proofs.Common.{◌∙◌, rules}
use Rattle.note.proofs.ToldLaws.{noted_told, record_within}
use Rattle.note.proofs.LightLaws.{note_of_leaf, note_of_node}
use Rattle.note.proofs.note_at.Statement.{statement}
use Rattle.note.proofs.note_at.Tie as tie

kind_requires : tie.Need-kind-k-requires
kind_requires c κs = record_within (noted_told c.requires.1)

bits_requires : tie.Need-bits-v-requires
bits_requires c κs = record_within (noted_told c.requires.1)

returns : tie.Need-returns-then-k-lt-SUM
returns c = λ t q.
    let v = c.bits-v in
    let k = c.kind-k in
    c.leaf_note.ensures ∙ note_of_leaf q k.result v.result k.ensures v.ensures c.if-k-lt-SUM.true

returns_2 : tie.Need-returns
returns_2 c = λ t q.
    let v = c.bits-v in
    let k = c.kind-k in
    note_of_node q k.result v.result k.ensures v.ensures c.if-k-lt-SUM.false

pub note_at_spec : {M : Type 1} → statement M
note_at_spec =
    tie.close (tie.spec kind_requires bits_requires (λ c κs. search rules) returns returns_2)
