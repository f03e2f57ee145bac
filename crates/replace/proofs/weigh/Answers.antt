-- `replace::weigh` meets its contract: each return is one law of WeighLaws.
use Rattle.std.proofs.Common.{◌/◌, length, refl, ap, ◌∙◌, Some, arith}
use Rattle.paper.specs.Verdict.{records_in}
use Rattle.replace.proofs.WeighLaws.{on_top_none, on_top_stops, on_top_turn, on_top_ends, weighs_none, weighs_sum}
use Rattle.replace.proofs.weigh.Goals as goal

pub loop-i-init : goal.loop-i-init
loop-i-init c =
    let a = c.args in
    record { few = omega arith; whole = on_top_none a.which.now a.weights.now a.s.now (length a.s.now / 16) }

pub returns-in_err-w-clause-weighs : goal.returns-in_err-w-clause-weighs
unfolding records_in
returns-in_err-w-clause-weighs c =
    let a = c.args in
    let l = c.loop-i in
    let n = length a.s.now / 16 in
    c.from_residual.ensures
    ∙ weighs_none a.limit a.which.now a.weights.now a.s.now l.w l.i n refl l.invariant.whole
    (on_top_stops a.which.now a.weights.now a.s.now n l.w l.i c.loop-i-test.true c.in_err-w.ensures.counts)

pub loop-i-preserved : goal.loop-i-preserved
loop-i-preserved c =
    let a = c.args in
    let l = c.loop-i in
    let n = length a.s.now / 16 in
    record {
      few = omega (arith, c.in_ok-w.ensures.few);
      whole = on_top_turn a.which.now a.weights.now a.s.now n l.w l.i c.in_ok-w.field-0 (omega arith) c.in_ok-w.ensures.counts ∙ l.invariant.whole;
    }

pub returns-clause-weighs : goal.returns-clause-weighs
unfolding records_in
returns-clause-weighs c =
    let a = c.args in
    let l = c.loop-i in
    let n = length a.s.now / 16 in
    ap Some c.min.ensures
    ∙ weighs_sum a.limit a.which.now a.weights.now a.s.now l.w l.i n refl l.invariant.whole
    (on_top_ends a.which.now a.weights.now a.s.now n l.w l.i c.loop-i-test.false)
