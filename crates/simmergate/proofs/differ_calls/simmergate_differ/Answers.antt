-- The numbers are those that `differ` tells, and those of what is wrong; the list is as `differ` leaves it.
use Rattle.std.proofs.Common.{ℕ, List, drop, sym, ap, ◌∙◌, arith}
use Rattle.paper_differ.specs.Differ.{Differed, differing}
use Rattle.paper_differ.specs.Calls.{differed_numbers}
use Rattle.differ.specs.Differed.{says}
use Rattle.simmergate.proofs.NumbersLaws.{tells, numbers_told}
use Rattle.simmergate.proofs.DifferNumbers.{differed_count, differ_tells, differ_leaves_lem}
use Rattle.simmergate.proofs.differ_calls.simmergate_differ.Goals as goal

pub returns-then-answer-lt-DIFFER_BYTES : goal.returns-then-answer-lt-DIFFER_BYTES
returns-then-answer-lt-DIFFER_BYTES c =
    let g = c.args in
    let q = (differ_tells g.limit g.a.now g.b.now g.list.now g.answer.now).0 c.if-answer-lt-DIFFER_BYTES.true in
    let l = (differ_leaves_lem g.limit g.a.now g.b.now g.list.now g.answer.now).0 c.if-answer-lt-DIFFER_BYTES.true in
    record { returns = c.number.ensures ∙ sym q.0; answers = sym q.1; leaves = sym l }

pub returns : goal.returns
unfolding differing
returns c =
    let g = c.args in
    let said = says c.differ-differed.result in
    let rest = drop 48 g.answer.now in
    let after = numbers_told (differed_numbers said) g.answer.now c.differ_numbers.ensures (differed_count said) c.write_numbers.ensures in
    let by = (differ_tells g.limit g.a.now g.b.now g.list.now g.answer.now).1 (omega arith) in
    let l = (differ_leaves_lem g.limit g.a.now g.b.now g.list.now g.answer.now).1 (omega arith) in
    let q = tells (ap (λ (x : Differed × List ℕ). x.0) c.differ-differed.ensures) (λ (d : Differed). d.number) differed_numbers rest after by in
    record { returns = c.differ_number-number.ensures ∙ q.0; answers = q.1; leaves = ap (λ (x : Differed × List ℕ). x.1) c.differ-differed.ensures ∙ sym l }
