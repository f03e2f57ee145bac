-- `note::members_note` meets its contract: a turn adds what the next member adds.
use Rattle.std.proofs.Common.{◌≡◌, ◌+◌, ◌-◌, ◌%◌, ap, arith}
use native.Mathlib.Nat.{sub-zero}
use Rattle.paper.specs.Limits.{modulus}
use Rattle.note.proofs.NotedLaws.{kind_lt, own_within}
use Rattle.note.proofs.ToldLaws.{noted_told, record_within, kind_number_lem}
use Rattle.note.proofs.AddingLaws.{headed, adding_start, adding_end}
use Rattle.note.proofs.SumLaws.{summing_first, summing_step}
use Rattle.note.proofs.members_note.Goals as goal

pub kind-requires : goal.kind-requires
kind-requires c = own_within (headed c.requires.1)

pub overflow_add-at : goal.overflow_add-at
overflow_add-at c = omega (arith, own_within (headed c.requires.1))

pub count-end-requires : goal.count-end-requires
count-end-requires c = own_within (headed c.requires.1)

pub loop-init : goal.loop-init
loop-init c = λ t q l. rw sub-zero (adding_start q l c.kind.result c.count-end.result c.kind.ensures c.count-end.ensures.0)

pub note_at-n-requires : goal.note_at-n-requires
note_at-n-requires c =
    let some = c.requires in
    let f = summing_first (c.loop.invariant some.0 some.1 some.2) (omega arith) in
    (f.tree, f.there)

pub kind-requires-in-loop : goal.kind-requires-in-loop
kind-requires-in-loop c =
    let some = c.requires in
    record_within (noted_told (summing_first (c.loop.invariant some.0 some.1 some.2) (omega arith)).there)

pub added-sum-requires : goal.added-sum-requires
added-sum-requires c =
    let some = c.requires in
    let f = summing_first (c.loop.invariant some.0 some.1 some.2) (omega arith) in
    omega (arith, c.kind-in-loop.ensures, kind_number_lem (noted_told f.there), kind_lt f.tree)

pub overflow_add-at-in-loop : goal.overflow_add-at-in-loop
overflow_add-at-in-loop c =
    let some = c.requires in
    omega (arith, record_within (noted_told (summing_first (c.loop.invariant some.0 some.1 some.2) (omega arith)).there))

pub loop-preserved : goal.loop-preserved
loop-preserved c = λ t q l.
    let k = c.kind-in-loop in
    let n = c.note_at-n in
    let fewer : c.count-end.result - (c.loop.counter + 1) ≡ c.count-end.result - c.loop.counter - 1 = omega arith in
    rw (c.records_of-at.ensures, fewer)
    (summing_step (c.loop.invariant t q l) (omega arith) k.result n.result k.ensures n.ensures _
    (ap (λ x. (c.loop.sum + x) % modulus) c.added-sum.ensures))

pub returns : goal.returns
returns c = λ t q l. adding_end c.args.i t (c.loop.invariant t q l) (omega arith) (omega arith)
