-- `simmergate::simmergate_value`: the numbers are those of the value, or of the refusal.
use Rattle.std.proofs.Common.{◌≡◌, sym, drop, ap, arith, ◌∙◌}
use Rattle.paper.specs.Answers.{Measured}
use Rattle.paper.specs.Calls.{measured_numbers}
use Rattle.paper.proofs.Slices.{slices}
use Rattle.table.specs.Refusals.{says}
use Rattle.simmergate.proofs.NumbersLaws.{tells}
use Rattle.simmergate.proofs.simmergate_value.Goals as goal
use Rattle.simmergate.proofs.simmergate_value.Goals.{in-Ok, in-Err}

pub returns-then-answer-lt-MEASURE_BYTES : goal.returns-then-answer-lt-MEASURE_BYTES
returns-then-answer-lt-MEASURE_BYTES c =
    let a = c.args in
    let q = (slices.value a.limit a.table.now a.registers.now a.answer.now).0 c.if-answer-lt-MEASURE_BYTES.true in
    record { returns = c.number.ensures ∙ sym q.0; answers = sym q.1 }

pub returns : goal.returns
returns c =
    let a = c.args in
    let by = (slices.value a.limit a.table.now a.registers.now a.answer.now).1 (omega arith) in
    let same : c.match-value.value ≡ c.value.result = elim c.match-value.branch [
      | in-Ok w ↦ w.value-is ∙ sym w.in-Ok.is
      | in-Err w ↦ w.value-is ∙ sym w.in-Err.is
    ] in
    let told = ap says same ∙ c.value.ensures in
    let q = tells told (λ (m : Measured). m.number) measured_numbers (drop 40 a.answer.now) c.answer_measured.ensures.1 by in
    record { returns = c.answer_measured.ensures.0 ∙ q.0; answers = q.1 }
