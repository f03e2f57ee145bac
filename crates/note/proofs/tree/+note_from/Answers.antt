-- `note::tree::note_from` meets its contract: a turn adds what the next tree adds.
use Rattle.std.proofs.Common.{◌≡◌, ◌+◌, ◌-◌, ◌%◌, refl, ap, ◌∙◌, arith}
use native.Mathlib.Nat.{sub-zero}
use Rattle.paper.specs.Limits.{modulus}
use Rattle.paper.specs.Verdict.{records_in}
use Rattle.note.proofs.TreeLaws.{plain_by, inside, given_kind, leaf_told, summing_start, part_given}
use Rattle.note.proofs.TreeLaws.{summed_step, summed_node, exponent_inside, summed_power}
use Rattle.note.proofs.tree.+note_from.Goals as goal

pub kind-k-requires : goal.kind-k-requires
kind-k-requires t c = inside c.requires.0

pub bits-requires : goal.bits-requires
bits-requires t c = inside c.requires.0

pub returns-then-k-lt-SUM : goal.returns-then-k-lt-SUM
returns-then-k-lt-SUM t c = λ u h w.
    c.leaf_note.ensures ∙ leaf_told (plain_by h w) c.kind-k.result c.bits.result c.kind-k.ensures c.bits.ensures (omega arith)

pub overflow_add-at : goal.overflow_add-at
overflow_add-at t c = omega (arith, inside c.requires.0)

pub parts-end-requires : goal.parts-end-requires
parts-end-requires t c = inside c.requires.0

pub loop-init : goal.loop-init
loop-init t c =
    rw sub-zero
    (record {
      fits = omega arith;
      ahead = omega arith;
      each = λ u q. summing_start q c.kind-k.result c.parts-end.result c.kind-k.ensures (omega arith) c.parts-end.ensures;
    })

pub note_from-n-requires : goal.note_from-n-requires
unfolding records_in
note_from-n-requires t c = (
  omega (arith, c.loop.invariant.ahead, inside c.requires.0),
  (part_given c.loop.invariant c.requires.0 (omega arith), c.requires.1),
)

pub kind-requires : goal.kind-requires
kind-requires t c = inside (part_given c.loop.invariant c.requires.0 (omega arith))

pub added-sum-requires : goal.added-sum-requires
added-sum-requires t c = omega (arith, c.kind.ensures, given_kind (part_given c.loop.invariant c.requires.0 (omega arith)))

pub overflow_add-at-in-loop : goal.overflow_add-at-in-loop
overflow_add-at-in-loop t c = omega (arith, inside (part_given c.loop.invariant c.requires.0 (omega arith)))

pub loop-preserved : goal.loop-preserved
loop-preserved t c =
    let kind = c.kind in
    let part = c.note_from-n in
    let fewer : c.parts-end.result - (c.loop.counter + 1) ≡ c.parts-end.result - c.loop.counter - 1 = omega arith in
    rw (c.records_of-at.ensures, fewer)
    (summed_step c.loop.invariant (omega arith) kind.result part.result kind.ensures part.ensures _
    (ap (λ x. (c.loop.sum + x) % modulus) c.added-sum.ensures))

pub bits-requires-then-k-gt-PRODUCT : goal.bits-requires-then-k-gt-PRODUCT
bits-requires-then-k-gt-PRODUCT t c =
    exponent_inside c.loop.invariant (omega arith) c.kind-k.result c.kind-k.ensures (omega arith) c.requires.0

pub returns-then-k-gt-PRODUCT : goal.returns-then-k-gt-PRODUCT
returns-then-k-gt-PRODUCT t c =
    summed_power c.loop.invariant (omega arith) c.kind-k.result c.kind-k.ensures (omega arith)
    c.bits-then-k-gt-PRODUCT.result c.added_exponent.result _ c.bits-then-k-gt-PRODUCT.ensures c.added_exponent.ensures refl

pub returns : goal.returns
returns t c = summed_node c.loop.invariant (omega arith) c.kind-k.result c.kind-k.ensures (omega arith) (omega arith)
