-- The part of the table that is copied is the tree's records, which lie in the table; there is room for them by the contract.
use Rattle.std.proofs.Common.{◌+◌, ◌*◌, ◌≤◌, length, arith}
use Rattle.note.specs.Note.{note}
use Rattle.note.specs.Noted.{encode_by}
use Rattle.note.proofs.NotedLaws.{encode_by_length}
use Rattle.note.proofs.ToldLaws.{tree_within}
use Rattle.part.specs.Part.{Sized}
use Rattle.rebuilt.proofs.Encoded.{copied}
use Rattle.rebuilt.proofs.copy_tree.Goals as goal

-- the tree's k records lie in the table
within : {s : _} {i k : _} {t : _} → Sized s i k t → (i + k) * 16 ≤ length s
within h = omega (arith, h.size, tree_within h.there)

pub overflow_mul-i : goal.overflow_mul-i
overflow_mul-i c = record { fits = omega (arith, within c.requires.0.1) }

pub copy_bytes-requires : goal.copy_bytes-requires
copy_bytes-requires c =
    let h = within c.requires.0.1 in
    (omega (arith, h, c.requires.1), omega (arith, h, c.requires.1))

pub returns : goal.returns
returns c = λ t h.
    let g = c.args in
    copied g.out.now _ g.s.now (g.m * 16) g.i (g.k * 16) (encode_by note t) h.there.stands (omega (arith, encode_by_length note t, h.size))
    c.copy_bytes.ensures
