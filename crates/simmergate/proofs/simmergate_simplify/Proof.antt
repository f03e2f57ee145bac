-- `simmergate::simmergate_simplify` meets its contract: the numbers are those of the answer that `simplify` gives, and the areas are as it leaves
-- them.
use mathlib.Core.Path.{sym, ap, ◌∙◌}
use native.Mathlib.Omega.{arith}
use lib.ListN.{drop}
use borrow.Author.Rules.{rules}
use Rattle.paper.specs.Answers.{Answer, Given}
use Rattle.paper.specs.Calls.{answer_numbers}
use Rattle.paper.proofs.Slices.{slices}
use Rattle.simplify.specs.Answer.{says, lent}
use Rattle.simmergate.proofs.NumbersLaws.{tells, ten_told}
use Rattle.simmergate.proofs.simmergate_simplify.Statement.{statement}
use Rattle.simmergate.proofs.simmergate_simplify.Tie as tie

returns : tie.Need-returns-then-answer-lt-SIMPLIFY_BYTES
returns c =
    let g = c.args in
    let m = lent g.out.now g.steps.now g.work.now in
    let q = (slices.simplify g.limit g.edition g.table.now m g.answer.now).0 c.if-answer-lt-SIMPLIFY_BYTES.true in
    let l = (slices.areas g.limit g.edition g.table.now m g.answer.now).0 c.if-answer-lt-SIMPLIFY_BYTES.true in
    record { returns = sym q.0; answers = sym q.1; leaves = sym l }

returns_2 : tie.Need-returns
returns_2 c =
    let g = c.args in
    let m = lent g.out.now g.steps.now g.work.now in
    let rest = drop 80 g.answer.now in
    let after = ten_told (says c.simplify-a.result) g.answer.now c.answer_numbers-numbers.ensures c.write_numbers.ensures in
    let by = (slices.simplify g.limit g.edition g.table.now m g.answer.now).1 (omega arith) in
    let l = (slices.areas g.limit g.edition g.table.now m g.answer.now).1 (omega arith) in
    let e = c.simplify-a.ensures in
    let q = tells (ap (λ (x : Given). x.answer) e) (λ (a : Answer). a.number) answer_numbers rest after by in
    record { returns = q.0; answers = q.1; leaves = ap (λ (x : Given). x.lent) e ∙ sym l }

pub simmergate_simplify_spec : {M : Type 1} → statement M
simmergate_simplify_spec =
    tie.close
    (tie.spec
    returns (λ c κs. search rules) (λ c κs. search rules) (λ c. search rules) (λ c κs. search rules) (λ c. search rules)
    (λ c. search rules) (λ c. search rules) (λ c. search rules) returns_2)
