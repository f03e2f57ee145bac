-- The numbers are those that `shared::open` tells and those of what is wrong, and the area is as it leaves it.
use Rattle.std.proofs.Common.{drop, sym, ap, ◌∙◌, arith}
use Rattle.paper_shared.specs.Answers.{OpenAnswer, OpenGiven}
use Rattle.paper_shared.specs.Calls.{open_numbers}
use Rattle.paper_shared.proofs.Slices.{open_count, shared_slices}
use Rattle.replace.specs.Planned.{handed}
use Rattle.shared.specs.Answer.{says}
use Rattle.simmergate.proofs.NumbersLaws.{tells, numbers_told}
use Rattle.simmergate.proofs.shared_calls.simmergate_open.Goals as goal

pub returns-then-answer-lt-OPEN_BYTES : goal.returns-then-answer-lt-OPEN_BYTES
returns-then-answer-lt-OPEN_BYTES c =
    let g = c.args in
    let h = handed g.table.now g.symbols.now g.lengths.now g.definitions.now in
    let q = (shared_slices.opening g.limit h g.opened.now g.answer.now).0 c.if-answer-lt-OPEN_BYTES.true in
    let l = (shared_slices.opening_area g.limit h g.opened.now g.answer.now).0 c.if-answer-lt-OPEN_BYTES.true in
    record { returns = sym q.0; answers = sym q.1; leaves = sym l }

pub returns : goal.returns
returns c =
    let g = c.args in
    let h = handed g.table.now g.symbols.now g.lengths.now g.definitions.now in
    let said = says c.open-o.result in
    let rest = drop 48 g.answer.now in
    let after = numbers_told (open_numbers said) g.answer.now c.numbers_of.ensures (open_count said) c.write_numbers.ensures in
    let by = (shared_slices.opening g.limit h g.opened.now g.answer.now).1 (omega arith) in
    let l = (shared_slices.opening_area g.limit h g.opened.now g.answer.now).1 (omega arith) in
    let q = tells (ap (λ (x : OpenGiven). x.answer) c.open-o.ensures) (λ (a : OpenAnswer). a.number) open_numbers rest after by in
    record { returns = c.open_number-number.ensures ∙ q.0; answers = q.1; leaves = ap (λ (x : OpenGiven). x.area) c.open-o.ensures ∙ sym l }
