-- A turn reads one member's note and the key of its part, and writes its entry; where none is left all are listed.
use Rattle.std.proofs.Common.{◌%◌, ap, ◌∙◌, arith}
use Rattle.note.specs.Noted.{Known}
use Rattle.note.proofs.KeyLaws.{note_size}
use Rattle.note.proofs.ToldLaws.{told_noted, record_within, kind_number_lem}
use Rattle.walk.specs.Listed.{short_key}
use Rattle.walk.proofs.EntryLaws.{listing_begins, head, head_light, listing_more, listing_ends}
use Rattle.walk.proofs.list_members.Goals as goal

pub count-k-end-requires : goal.count-k-end-requires
count-k-end-requires c = omega (arith, c.requires.1.within)

pub overflow_add-at : goal.overflow_add-at
overflow_add-at c = record { fits = omega (arith, c.requires.1.within) }

pub loop-k-init : goal.loop-k-init
loop-k-init c = λ f h. listing_begins _ h c.count-k-end.ensures.0

pub note_at-v-requires : goal.note_at-v-requires
note_at-v-requires c =
    let q = c.requires in
    let v = c.loop-k.invariant q.0 q.1 in
    let t = head v c.loop-k-test.true in
    (t.tree, told_noted t.there (head_light v c.loop-k-test.true q.1.light))

pub kind-requires : goal.kind-requires
kind-requires c =
    let q = c.requires in
    record_within (head (c.loop-k.invariant q.0 q.1) c.loop-k-test.true).there

pub part_key-key-requires : goal.part_key-key-requires
part_key-key-requires c =
    let q = c.requires in
    let v = c.loop-k.invariant q.0 q.1 in
    let t = head v c.loop-k-test.true in
    let there = told_noted t.there (head_light v c.loop-k-test.true q.1.light) in
    (t.tree, record { there = there; kind_known = c.kind.ensures ∙ kind_number_lem t.there; note_known = c.note_at-v.ensures t.tree there })

pub overflow_sub-at : goal.overflow_sub-at
overflow_sub-at c = let q = c.requires in omega (arith, (c.loop-k.invariant q.0 q.1).past)

pub write_entry-requires : goal.write_entry-requires
write_entry-requires c = let h = c.requires.1 in omega (arith, h.low, h.within, c.count-k-end.ensures.0, c.loop-k-test.true, c.loop-k.auto.work)

pub overflow_add-at-in-loop-k : goal.overflow_add-at-in-loop-k
overflow_add-at-in-loop-k c =
    let q = c.requires in
    record { fits = omega (arith, record_within (head (c.loop-k.invariant q.0 q.1) c.loop-k-test.true).there, c.records_of-at.ensures) }

pub loop-k-preserved : goal.loop-k-preserved
unfolding short_key
loop-k-preserved c = λ f h.
    let v = c.loop-k.invariant f h in
    let less = c.loop-k-test.true in
    let t = head v less in
    let there = told_noted t.there (head_light v less h.light) in
    let note-is = c.note_at-v.ensures t.tree there in
    let known : Known c.loop-k.work c.loop-k.at c.kind.result c.note_at-v.result t.tree =
    record { there = there; kind_known = c.kind.ensures ∙ kind_number_lem t.there; note_known = note-is } in
    listing_more v less _ _ _ (omega (arith, c.records_of-at.ensures, note-is, note_size t.tree t.there.few))
    (ap (λ x. x % 32768) c.key_of.ensures ∙ ap short_key (c.part_key-key.ensures t.tree known)) h.stand.few
    (omega (arith, h.low, c.count-k-end.ensures.0)) (omega (arith, h.within, c.loop-k.auto.work)) c.write_entry.ensures

pub returns : goal.returns
returns c = λ f h.
    listing_ends (c.loop-k.invariant f h) c.loop-k-test.false c.loop-k.auto.k-end c.count-k-end.ensures.0
    (omega (arith, h.low, c.count-k-end.ensures.0)) (omega (arith, h.within, c.loop-k.auto.work))
