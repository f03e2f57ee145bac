-- `note::base_note` meets its contract: a tree that is no power is its own base, and a power's base stands behind its record. Assumes
-- nothing.
use Rattle.std.proofs.Common.{◌∙◌, arith}
use Rattle.note.proofs.ToldLaws.{noted_told, record_within}
use Rattle.note.proofs.BaseLaws.{integer_base, other_base, own_base, base_behind}
use Rattle.note.proofs.base_note.Statement.{statement}
use Rattle.note.proofs.base_note.Tie as tie

returns : tie.Need-returns-then-k-lt-SYMBOL
returns c = λ t h. let k = h.kind_known in integer_base t (omega arith) ∙ own_base t (omega arith)

returns_2 : tie.Need-returns-then-k-lt-POWER
returns_2 c = λ t h. let k = h.kind_known in h.note_known ∙ other_base t (omega arith) ∙ own_base t (omega arith)

add_base_key : tie.Need-overflow_add-i
add_base_key c = omega (arith, record_within (noted_told c.requires.1.there))

base_key_requires : tie.Need-base_key-requires
base_key_requires c κs =
    let some = c.requires in
    let k = some.1.kind_known in
    let b = base_behind some.0 some.1.there (omega arith) in
    (b.base, b.there)

returns_3 : tie.Need-returns
returns_3 c = λ t h.
    let k = h.kind_known in
    let b = base_behind t h.there (omega arith) in
    c.base_key.ensures b.base b.there ∙ b.its

pub base_note_spec : {M : Type 1} → statement M
base_note_spec = tie.close (tie.spec returns returns_2 add_base_key base_key_requires returns_3)
