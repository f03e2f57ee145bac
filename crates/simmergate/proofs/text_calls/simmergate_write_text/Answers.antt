-- The numbers are those that `text::write` tells, and those of what is wrong; the area is as it leaves it.
use Rattle.std.proofs.Common.{sym, ap, ◌∙◌, arith, drop}
use Rattle.paper.specs.Answers.{Measured}
use Rattle.paper.specs.Calls.{measured_numbers}
use Rattle.paper_text.specs.Answers.{Filled, write_given}
use Rattle.paper_text.proofs.Slices.{text_slices}
use Rattle.simmergate.proofs.NumbersLaws.{tells}
use Rattle.simmergate.proofs.text_calls.simmergate_write_text.Goals as goal

pub returns-then-answer-lt-MEASURE_BYTES : goal.returns-then-answer-lt-MEASURE_BYTES
returns-then-answer-lt-MEASURE_BYTES c =
    let a = c.args in
    let q = (text_slices.writing a.limit a.table.now a.text.now a.answer.now).0 c.if-answer-lt-MEASURE_BYTES.true in
    let l = (text_slices.writing_area a.limit a.table.now a.text.now a.answer.now).0 c.if-answer-lt-MEASURE_BYTES.true in
    record { returns = c.number.ensures ∙ sym q.0; answers = sym q.1; leaves = sym l }

pub returns : goal.returns
unfolding write_given
returns c =
    let a = c.args in
    let by = (text_slices.writing a.limit a.table.now a.text.now a.answer.now).1 (omega arith) in
    let l = (text_slices.writing_area a.limit a.table.now a.text.now a.answer.now).1 (omega arith) in
    let told = ap (λ (x : Filled Measured). x.answer) c.write-written.ensures in
    let q = tells told (λ (m : Measured). m.number) measured_numbers (drop 40 a.answer.now) c.answer_measured.ensures.1 by in
    record { returns = c.answer_measured.ensures.0 ∙ q.0; answers = q.1; leaves = ap (λ (x : Filled Measured). x.area) c.write-written.ensures ∙ sym l }
