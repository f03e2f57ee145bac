-- `replace::any_refused` meets its contract.
use Rattle.std.proofs.Common.{ℕ, ◌+◌, refl, sym, ap, ◌∙◌, arith}
use native.Mathlib.Nat.{sub-zero}
use Rattle.paper_shared.specs.Answers.{length_at, beginning}
use Rattle.replace.proofs.PartLaws.{begins_none, begins_next, begins_up, any_step, any_done, is_refused, is_fine}
use Rattle.replace.proofs.any_refused.Goals as goal

pub loop-i-init : goal.loop-i-init
loop-i-init c = record { begins = sym (begins_none _); left = sym (rw (sub-zero _) refl) }

pub overflow_add-e : goal.overflow_add-e
unfolding length_at
overflow_add-e c =
    let v = c.read8.ensures in
    let n = begins_next c.args.lengths.now c.loop-i.i in
    let u = begins_up c.args.lengths.now (c.loop-i.i + 1) c.args.n (omega arith) in
    omega arith

pub slice_bounds-check-end : goal.slice_bounds-check-end
unfolding length_at
slice_bounds-check-end c =
    let v = c.read8.ensures in
    let n = begins_next c.args.lengths.now c.loop-i.i in
    let u = begins_up c.args.lengths.now (c.loop-i.i + 1) c.args.n (omega arith) in
    omega arith

pub returns-then-is_err : goal.returns-then-is_err
unfolding length_at
returns-then-is_err c =
    let a = c.args in
    let l = c.loop-i in
    sym (l.invariant.left ∙ any_step a.limit a.lengths.now a.definitions.now a.n l.i (omega arith)
    ∙ is_refused a.limit a.lengths.now a.definitions.now a.n l.i l.a c.read8.result
    c.check.result l.invariant.begins c.read8.ensures c.check.ensures (sym c.is_err.ensures.value ∙ c.if-is_err.true))

pub loop-i-preserved : goal.loop-i-preserved
unfolding length_at
loop-i-preserved c =
    let a = c.args in
    let l = c.loop-i in
    let v = c.read8 in
    record {
      begins =
          ap (λ (m : ℕ). m + v.result) l.invariant.begins ∙ ap (λ (m : ℕ). beginning a.lengths.now l.i + m) v.ensures
          ∙ sym (begins_next a.lengths.now l.i);
      left =
          l.invariant.left ∙ any_step a.limit a.lengths.now a.definitions.now a.n l.i (omega arith)
          ∙ is_fine a.limit a.lengths.now a.definitions.now a.n l.i l.a v.result
          c.check.result l.invariant.begins v.ensures c.check.ensures (sym c.is_err.ensures.value ∙ c.if-is_err.false);
    }

pub returns : goal.returns
returns c =
    let a = c.args in
    sym (c.loop-i.invariant.left ∙ any_done a.limit a.lengths.now a.definitions.now a.n c.loop-i.i (omega arith))
