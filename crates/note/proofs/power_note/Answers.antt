-- `note::power_note` meets its contract: the base stands behind the record, and the exponent as many records later as the base's note
-- says.
use Rattle.std.proofs.Common.{◌≡◌, ◌+◌, refl, ap, ◌∙◌, arith}
use Rattle.paper.specs.Record.{bits}
use Rattle.note.proofs.NotedLaws.{kind_lt, own_within}
use Rattle.note.proofs.ToldLaws.{noted_told, record_within, kind_number_lem}
use Rattle.note.proofs.AddingLaws.{headed, raised, raised_size, raised_note}
use Rattle.note.proofs.power_note.Goals as goal

pub overflow_add-i : goal.overflow_add-i
overflow_add-i c = omega (arith, own_within (headed c.requires.1))

pub note_at-n-requires : goal.note_at-n-requires
note_at-n-requires c =
    let some = c.requires in
    let r = raised some.0 some.1 some.2 in
    (r.base, r.there)

pub overflow_add-i-2 : goal.overflow_add-i-2
overflow_add-i-2 c = omega (arith, own_within (headed c.requires.1))

pub kind-requires : goal.kind-requires
kind-requires c =
    let some = c.requires in
    record_within (noted_told (raised some.0 some.1 some.2).there)

pub added-base-requires : goal.added-base-requires
added-base-requires c =
    let some = c.requires in
    let r = raised some.0 some.1 some.2 in
    omega (arith, c.kind.ensures, kind_number_lem (noted_told r.there), kind_lt r.base)

pub overflow_add-i-3 : goal.overflow_add-i-3
overflow_add-i-3 c = omega (arith, own_within (headed c.requires.1))

pub overflow_add-i-4 : goal.overflow_add-i-4
overflow_add-i-4 c = omega (arith, own_within (headed c.requires.1))

pub bits-e-requires : goal.bits-e-requires
bits-e-requires c =
    let some = c.requires in
    let r = raised some.0 some.1 some.2 in
    let k = c.kind in
    let n = c.note_at-n in
    let size = raised_size r k.result n.result 0 k.ensures (n.ensures r.base r.there) in
    omega (arith, c.records_of.ensures, size, r.within)

pub returns : goal.returns
returns c = λ t q l.
    let a = c.args in
    let r = raised t q l in
    let x = c.bits-e in
    let k = c.kind in
    let n = c.note_at-n in
    let y = n.ensures r.base r.there in
    let size = raised_size r k.result n.result x.result k.ensures y in
    let place : x.result ≡ r.exponent = x.ensures ∙ ap (λ m. bits a.s.now (a.i + 1 + m)) (c.records_of.ensures ∙ size) ∙ r.bits_there in
    raised_note r k.result n.result x.result k.ensures y c.added-base.result c.added_exponent.result _ c.added-base.ensures place
    c.added_exponent.ensures refl
