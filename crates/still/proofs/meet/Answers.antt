-- `still::meet` meets its contract: the record's kind and the note tell the member's key and size.
use Rattle.std.proofs.Common.{◌%◌, sym, ap, ◌∙◌}
use Rattle.note.proofs.KeyLaws.{note_records}
use Rattle.note.proofs.ToldLaws.{noted_told, record_within, kind_number_lem}
use Rattle.still.proofs.KeepLaws.{met_sought, met_passed, member_known}
use Rattle.still.proofs.meet.Goals as goal

pub kind-k-requires : goal.kind-k-requires
kind-k-requires c = record_within (noted_told c.requires.1)

pub is_sought-requires : goal.is_sought-requires
is_sought-requires c = (c.requires.0, c.requires.1, c.kind-k.ensures ∙ kind_number_lem (noted_told c.requires.1))

pub returns-then-is_sought : goal.returns-then-is_sought
returns-then-is_sought c = λ t h.
    met_sought c.args.terms t (sym (c.is_sought.ensures t h (c.kind-k.ensures ∙ kind_number_lem (noted_told h))) ∙ c.if-is_sought.true)

pub part_key-key-requires : goal.part_key-key-requires
part_key-key-requires c =
    (c.requires.0, member_known c.requires.1 c.kind-k.result c.note_at-v.result c.kind-k.ensures c.note_at-v.ensures)

pub returns : goal.returns
returns c = λ t h.
    met_passed c.args.terms t _ _
    (sym (c.is_sought.ensures t h (c.kind-k.ensures ∙ kind_number_lem (noted_told h))) ∙ c.if-is_sought.false)
    (c.part_key-key.ensures t (member_known h c.kind-k.result c.note_at-v.result c.kind-k.ensures c.note_at-v.ensures))
    (c.records_of-size.ensures ∙ ap (λ r. r % 65536) (c.note_at-v.ensures t h) ∙ note_records t h.light)
