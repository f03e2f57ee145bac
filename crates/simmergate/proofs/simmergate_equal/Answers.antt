-- The numbers are those that `equal` tells, and those of what is wrong.
use mathlib.Core.Path.{sym, ◌∙◌}
use native.Mathlib.Omega.{arith}
use lib.ListN.{drop}
use Rattle.paper.specs.Answers.{Compared}
use Rattle.paper.specs.Calls.{compared_numbers}
use Rattle.paper.proofs.Slices.{slices, compared_count}
use Rattle.equal.specs.Compared.{says}
use Rattle.simmergate.proofs.NumbersLaws.{tells, numbers_told}
use Rattle.simmergate.proofs.simmergate_equal.Goals as goal

pub returns-then-answer-lt-EQUAL_BYTES : goal.returns-then-answer-lt-EQUAL_BYTES
returns-then-answer-lt-EQUAL_BYTES c =
    let g = c.args in
    let q = (slices.equal g.limit g.a.now g.b.now g.answer.now).0 c.if-answer-lt-EQUAL_BYTES.true in
    record { returns = sym q.0; answers = sym q.1 }

pub returns : goal.returns
returns c =
    let g = c.args in
    let said = says c.equal-compared.result in
    let rest = drop 48 g.answer.now in
    let after = numbers_told (compared_numbers said) g.answer.now c.equal_numbers.ensures (compared_count said) c.write_numbers.ensures in
    let by = (slices.equal g.limit g.a.now g.b.now g.answer.now).1 (omega arith) in
    let q = tells c.equal-compared.ensures (λ (x : Compared). x.number) compared_numbers rest after by in
    record { returns = c.equal_number-number.ensures ∙ q.0; answers = q.1 }
