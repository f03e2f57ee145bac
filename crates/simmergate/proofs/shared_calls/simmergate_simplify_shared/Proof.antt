-- `simmergate::simmergate_simplify_shared` meets its contract: the numbers are those of the answer that `shared::simplify` gives, and the areas
-- are as it leaves them.
use mathlib.Core.Path.{sym, ap, ◌∙◌}
use native.Mathlib.Omega.{arith}
use borrow.Author.Rules.{rules}
use lib.ListN.{drop}
use Rattle.paper.specs.Answers.{Answer}
use Rattle.paper.specs.Calls.{answer_numbers}
use Rattle.paper_shared.specs.Answers.{SharedGiven}
use Rattle.paper_shared.proofs.Slices.{shared_slices}
use Rattle.simplify.specs.Answer.{says, lent}
use Rattle.replace.specs.Planned.{handed}
use Rattle.simmergate.proofs.NumbersLaws.{tells, ten_told}
use Rattle.simmergate.proofs.shared_calls.simmergate_simplify_shared.Statement.{statement}
use Rattle.simmergate.proofs.shared_calls.simmergate_simplify_shared.Tie as tie

returns : tie.Need-returns-then-answer-lt-SIMPLIFY_BYTES
returns c =
    let g = c.args in
    let h = handed g.table.now g.symbols.now g.lengths.now g.definitions.now in
    let m = lent g.out.now g.steps.now g.work.now in
    let q = (shared_slices.shared g.limit g.edition h g.opened.now m g.answer.now).0 c.if-answer-lt-SIMPLIFY_BYTES.true in
    let l = (shared_slices.shared_areas g.limit g.edition h g.opened.now m g.answer.now).0 c.if-answer-lt-SIMPLIFY_BYTES.true in
    record { returns = sym q.0; answers = sym q.1; opens = sym l.0; leaves = sym l.1 }

returns_2 : tie.Need-returns
returns_2 c =
    let g = c.args in
    let h = handed g.table.now g.symbols.now g.lengths.now g.definitions.now in
    let m = lent g.out.now g.steps.now g.work.now in
    let rest = drop 80 g.answer.now in
    let after = ten_told (says c.simplify-a.result) g.answer.now c.answer_numbers-numbers.ensures c.write_numbers.ensures in
    let by = (shared_slices.shared g.limit g.edition h g.opened.now m g.answer.now).1 (omega arith) in
    let l = (shared_slices.shared_areas g.limit g.edition h g.opened.now m g.answer.now).1 (omega arith) in
    let e = c.simplify-a.ensures in
    let q = tells (ap (λ (x : SharedGiven). x.given.answer) e) (λ (a : Answer). a.number) answer_numbers rest after by in
    record {
      returns = q.0;
      answers = q.1;
      opens = ap (λ (x : SharedGiven). x.area) e ∙ sym l.0;
      leaves = ap (λ (x : SharedGiven). x.given.lent) e ∙ sym l.1;
    }

pub simmergate_simplify_shared_spec : {M : Type 1} → statement M
simmergate_simplify_shared_spec =
    tie.close
    (tie.spec
    returns (λ c κs. search rules) (λ c κs. search rules) (λ c. search rules) (λ c κs. search rules) (λ c. search rules)
    (λ c. search rules) (λ c. search rules) (λ c. search rules) (λ c. search rules) returns_2)
