-- `simmergate::simmergate_weight`: the numbers are those of the weight, or of the refusal.
use Rattle.std.proofs.Common.{sym, drop, arith, ◌∙◌}
use Rattle.paper.specs.Answers.{Measured}
use Rattle.paper.specs.Calls.{measured_numbers}
use Rattle.paper.proofs.Slices.{slices}
use Rattle.simmergate.proofs.NumbersLaws.{tells}
use Rattle.simmergate.proofs.simmergate_weight.Goals as goal

pub returns-then-answer-lt-MEASURE_BYTES : goal.returns-then-answer-lt-MEASURE_BYTES
returns-then-answer-lt-MEASURE_BYTES c =
    let a = c.args in
    let q = (slices.weight a.limit a.table.now a.answer.now).0 c.if-answer-lt-MEASURE_BYTES.true in
    record { returns = c.number.ensures ∙ sym q.0; answers = sym q.1 }

pub returns : goal.returns
returns c =
    let a = c.args in
    let by = (slices.weight a.limit a.table.now a.answer.now).1 (omega arith) in
    let q = tells c.weight.ensures (λ (m : Measured). m.number) measured_numbers (drop 40 a.answer.now) c.answer_measured.ensures.1 by in
    record { returns = c.answer_measured.ensures.0 ∙ q.0; answers = q.1 }
