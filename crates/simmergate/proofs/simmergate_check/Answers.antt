-- `simmergate::simmergate_check`: the numbers are the verdict's, told by the checker, and those of what is wrong.
use Rattle.std.proofs.Common.{sym, drop, arith, ◌∙◌}
use Rattle.paper.specs.Verdict.{Verdict}
use Rattle.paper.specs.Calls.{verdict_numbers}
use Rattle.paper.proofs.Slices.{slices}
use Rattle.simmergate.proofs.NumbersLaws.{tells}
use Rattle.simmergate.proofs.simmergate_check.Goals as goal

pub returns-then-answer-lt-CHECK_BYTES : goal.returns-then-answer-lt-CHECK_BYTES
returns-then-answer-lt-CHECK_BYTES c =
    let a = c.args in
    let q = (slices.check a.limit a.table.now a.answer.now).0 c.if-answer-lt-CHECK_BYTES.true in
    record { returns = c.number.ensures ∙ sym q.0; answers = sym q.1 }

pub returns : goal.returns
returns c =
    let a = c.args in
    let by = (slices.check a.limit a.table.now a.answer.now).1 (omega arith) in
    let q = tells c.check.ensures (λ (v : Verdict). v.number) verdict_numbers (drop 32 a.answer.now) c.answer_judged.ensures.1 by in
    record { returns = c.answer_judged.ensures.0 ∙ q.0; answers = q.1 }
