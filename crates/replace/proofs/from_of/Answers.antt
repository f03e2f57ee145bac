-- `replace::from_of` meets its contract: each turn writes where the next definition begins.
use Rattle.std.proofs.Common.{ℕ, ◌+◌, refl, sym, ap, ◌∙◌, arith}
use Rattle.std.proofs.Math.ListN.{length-set}
use Rattle.paper_shared.specs.Answers.{length_at, beginning}
use Rattle.replace.proofs.PartLaws.{zeros, begins_none, begins_next, begins_up, from_none, from_turn}
use Rattle.replace.proofs.from_of.Goals as goal

pub loop-i-init : goal.loop-i-init
loop-i-init c =
    let lengths = c.args.lengths.now in
    record { long = refl; next = sym (begins_none lengths); begin = λ j l. zeros 17 j ∙ from_none lengths j l }

pub overflow_add-a : goal.overflow_add-a
unfolding length_at
overflow_add-a c =
    let v = c.read8.ensures in
    let n = begins_next c.args.lengths.now c.loop-i.i in
    let u = begins_up c.args.lengths.now (c.loop-i.i + 1) c.args.n (omega arith) in
    omega arith

pub loop-i-preserved : goal.loop-i-preserved
unfolding length_at
loop-i-preserved c =
    let l = c.loop-i in
    let v = c.read8.ensures in
    let lengths = c.args.lengths.now in
    record {
      long = length-set l.from (l.i + 1) (l.a + c.read8.result) ∙ l.invariant.long;
      next = ap (λ (m : ℕ). m + c.read8.result) l.invariant.next ∙ ap (λ (m : ℕ). beginning lengths l.i + m) v ∙ sym (begins_next lengths l.i);
      begin = from_turn l.from lengths l.i l.a c.read8.result l.invariant.long (omega arith) l.invariant.next v l.invariant.begin;
    }

pub returns : goal.returns
returns c = λ j l. c.loop-i.invariant.begin j (omega arith)
