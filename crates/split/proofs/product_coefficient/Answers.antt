-- `split::product_coefficient` meets its contract: a turn multiplies by the next member, where it is an integer.
use Rattle.std.proofs.Common.{◌≡◌, ◌+◌, ◌-◌, ◌*ℤ◌, sym, ap, ◌∙◌, arith}
use Rattle.paper.specs.Bytes.{signed}
use Rattle.paper.specs.Record.{kind, bits}
use Rattle.record.specs.declared.kinds.Kind.TheVariants.{Integer}
use Rattle.record.proofs.KindLaws.{kind_is, kind_is_not}
use native.Mathlib.Nat.{sub-zero}
use Rattle.number.specs.Num.{num_of, out_of_range}
use Rattle.number.proofs.NumLaws.{an_error}
use Rattle.note.proofs.ToldLaws.{record_within}
use Rattle.split.proofs.SplitLaws.{multiplying_start, multiplying_tree, multiplied_in, multiplied_out, multiplied_by, multiplied_all}
use Rattle.split.proofs.product_coefficient.Goals as goal
use Rattle.split.proofs.product_coefficient.Goals.{then-eq+in_ok-n, else-eq}

pub overflow_add-at : goal.overflow_add-at
overflow_add-at c = omega (arith, record_within c.requires.there)

pub count-end-requires : goal.count-end-requires
count-end-requires c = record_within c.requires.there

pub loop-init : goal.loop-init
loop-init c = λ how μ f h. rw (c.count-end.ensures.0, sub-zero) (multiplying_start h)

pub at-requires : goal.at-requires
at-requires c =
    let some = c.requires in
    record_within (multiplying_tree (c.loop.invariant some.how some.mark some.members some.there) (omega arith)).there

pub bits-requires : goal.bits-requires
bits-requires c =
    let some = c.requires in
    record_within (multiplying_tree (c.loop.invariant some.how some.mark some.members some.there) (omega arith)).there

pub returns-in_err-n : goal.returns-in_err-n
returns-in_err-n c = λ how μ f h.
    let answer : num_of (signed c.loop.n *ℤ signed (bits c.args.s.now c.loop.at)) ≡ out_of_range =
    ap (λ b. num_of (signed c.loop.n *ℤ signed b)) (sym c.bits.ensures) ∙ sym c.mul.ensures ∙ c.in_err-n.was in
    let k = kind_is _ Integer _ (kind c.args.s.now c.loop.at) c.at.ensures.all c.eq.ensures c.if-eq.true in
    an_error c.from_residual.ensures.0 ∙ multiplied_out (c.loop.invariant how μ f h) (omega arith) (omega (arith, k)) μ answer

pub skip_tree-at-requires : goal.skip_tree-at-requires
skip_tree-at-requires c =
    let some = c.requires in
    multiplying_tree (c.loop.invariant some.how some.mark some.members some.there) (omega arith)

pub loop-preserved : goal.loop-preserved
loop-preserved c = λ how μ f h.
    let inv = c.loop.invariant how μ f h in
    let next = c.skip_tree-at in
    let fewer : c.count-end.result - (c.loop.counter + 1) ≡ c.count-end.result - c.loop.counter - 1 = omega arith in
    elim c.if-eq.branch [
      | then-eq+in_ok-n w ↦
          let answer = ap (λ b. num_of (signed c.loop.n *ℤ signed b)) (sym w.bits.ensures) ∙ sym w.mul.ensures ∙ w.in_ok-n.was in
          let k = kind_is _ Integer _ (kind c.args.s.now c.loop.at) c.at.ensures.all c.eq.ensures w.if-eq.true in
          rw (w.n-is, fewer) (multiplied_in inv (omega arith) (omega (arith, k)) answer next.result (next.ensures how))
      | else-eq w ↦
          let k = kind_is_not _ Integer _ (kind c.args.s.now c.loop.at) c.at.ensures.all c.eq.ensures w.if-eq.false in
          rw (w.n-is, fewer) (multiplied_by inv (omega arith) (omega (arith, k)) next.result (next.ensures how))
    ]

pub returns : goal.returns
returns c = λ how μ f h. multiplied_all (c.loop.invariant how μ f h) μ (omega arith)
