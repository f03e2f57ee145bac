-- Each contract, as the check reads it off the source, leaves one answer open and no other, and one list of bytes: some tree stands at the
-- record, and both ends of a call equal one definition of it.
use Rattle.std.proofs.Common.{ℕ, List, sym, refl, ◌∙◌}
use Rattle.paper.specs.Once.{Once, OnceLeft}
use Rattle.note.proofs.records_of.Reads as records-of
use Rattle.note.proofs.records_of.Kinds as records-of-kinds
use Rattle.note.proofs.weight_of.Reads as weight-of
use Rattle.note.proofs.weight_of.Kinds as weight-of-kinds
use Rattle.note.proofs.key_of.Reads as key_of
use Rattle.note.proofs.key_of.Kinds as key-of-kinds
use Rattle.note.proofs.odd_key.Reads as odd-key
use Rattle.note.proofs.odd_key.Kinds as odd-key-kinds
use Rattle.note.proofs.leaf_note.Reads as leaf_note_lem
use Rattle.note.proofs.leaf_note.Kinds as leaf-note-kinds
use Rattle.note.proofs.note_at.Reads as note-at
use Rattle.note.proofs.note_at.Kinds as note-at-kinds
use Rattle.note.proofs.rest_note.Reads as rest_note
use Rattle.note.proofs.rest_note.Kinds as rest-note-kinds
use Rattle.note.proofs.base_note.Reads as base-note
use Rattle.note.proofs.base_note.Kinds as base-note-kinds
use Rattle.note.proofs.part_key.Reads as part_key_lem
use Rattle.note.proofs.part_key.Kinds as part-key-kinds
use Rattle.note.proofs.close.Reads as close
use Rattle.note.proofs.close.Kinds as close-kinds
use Rattle.note.proofs.note_all.Reads as note-all
use Rattle.note.proofs.note_all.Kinds as note-all-kinds
use Rattle.note.proofs.strip.Reads as strip
use Rattle.note.proofs.strip.Kinds as strip-kinds

pub records_of_once : Once 0 records-of-kinds.ps records-of-kinds.r records-of.Pre records-of.Post
records_of_once κs a v v' x x' h p q = p ∙ sym q

pub weight_of_once : Once 0 weight-of-kinds.ps weight-of-kinds.r weight-of.Pre weight-of.Post
weight_of_once κs a v v' x x' h p q = p ∙ sym q

pub key_of_once : Once 0 key-of-kinds.ps key-of-kinds.r key_of.Pre key_of.Post
key_of_once κs a v v' x x' h p q = p ∙ sym q

pub odd_key_once : Once 1 odd-key-kinds.ps odd-key-kinds.r odd-key.Pre odd-key.Post
odd_key_once κs a v v' x x' h p q = p ∙ sym q

pub leaf_note_once : Once 0 leaf-note-kinds.ps leaf-note-kinds.r leaf_note_lem.Pre leaf_note_lem.Post
leaf_note_once κs a v v' x x' h p q = p ∙ sym q

pub note_at_once : Once 1 note-at-kinds.ps note-at-kinds.r note-at.Pre note-at.Post
note_at_once κs a v v' x x' h p q = p h.0 h.1 ∙ sym (q h.0 h.1)

pub rest_note_once : Once 1 rest-note-kinds.ps rest-note-kinds.r rest_note.Pre rest_note.Post
rest_note_once κs a v v' x x' h p q = p h.0 h.1 ∙ sym (q h.0 h.1)

pub base_note_once : Once 1 base-note-kinds.ps base-note-kinds.r base-note.Pre base-note.Post
base_note_once κs a v v' x x' h p q = p h.0 h.1 ∙ sym (q h.0 h.1)

pub part_key_once : Once 1 part-key-kinds.ps part-key-kinds.r part_key_lem.Pre part_key_lem.Post
part_key_once κs a v v' x x' h p q = p h.0 h.1 ∙ sym (q h.0 h.1)

pub close_once : OnceLeft 1 close-kinds.ps close-kinds.r close.Pre close.Post (List ℕ) (λ κs x. x.0.now)
close_once κs a v v' x x' h p q = (refl, p h.0 h.1 ∙ sym (q h.0 h.1))

pub note_all_once : OnceLeft 1 note-all-kinds.ps note-all-kinds.r note-all.Pre note-all.Post (List ℕ) (λ κs x. x.0.now)
note_all_once κs a v v' x x' h p q = (refl, p h.0 h.1 ∙ sym (q h.0 h.1))

pub strip_once : OnceLeft 1 strip-kinds.ps strip-kinds.r strip.Pre strip.Post (List ℕ) (λ κs x. x.0.now)
strip_once κs a v v' x x' h p q = (refl, p h.0 h.1 ∙ sym (q h.0 h.1))
