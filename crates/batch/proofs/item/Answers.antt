-- `batch::item` meets its contract: the areas are as `simplify_in` leaves them, the numbers are those that it tells, and what is used up is W
-- by its own answer or by the weight function.
use Rattle.std.proofs.Common.{◌≡◌, ℕ, List, ◌*◌, ◌++◌, length, drop, ap, ◌∙◌, refl, Result, Ok, Err}
use Rattle.std.specs.Result.{result_unwrap_or}
use Rattle.paper.specs.Answers.{Measured}
use Rattle.paper.specs.Calls.{answer_numbers, eights}
use Rattle.paper.proofs.BytesLaws.{are_bytes}
use Rattle.paper.proofs.Slices.{answer_count}
use Rattle.table.specs.declared.refusals.Refusal.{Refusal}
use Rattle.table.specs.Refusals as table
use Rattle.simplify.specs.Answer.{says, lent, gives, cleaned}
use Rattle.paper_batch.specs.Batch.{used_up}
use Rattle.batch.specs.Turn.{turn, turned, cleared}
use Rattle.batch.proofs.ItemLaws.{Uses, cleared_used, told, is_turn}
use Rattle.batch.proofs.item.Goals as goal
use Rattle.batch.proofs.item.Goals.{After-write_numbers}

-- what the answer tells of what was used up
used : (c : After-write_numbers) → Uses c.args.limit c.args.table.now (says c.simplify_in-a.result)
used c =
    let g = c.args in
    let run = c.simplify_in-a in
    told g.limit g.edition g.table.now (lent g.out.now g.steps.now g.work.now)
    (gives run.result run.new.out run.new.steps (cleaned g.limit run.result.number run.new.work)) run.ensures (are_bytes g.table.now c.type_inv.table)

-- the turn, from W that is used up
its_turn : (c : After-write_numbers) (w : ℕ)
    → let g = c.args in
    let run = c.simplify_in-a in
    w ≡ used_up g.table.now (says run.result)
    → turned w run.new.out run.new.steps (cleared g.limit w run.new.work) c.write_numbers.new.answer
    ≡ turn g.limit g.edition g.table.now (lent g.out.now g.steps.now g.work.now) g.answer.now
its_turn c w e =
    let g = c.args in
    let run = c.simplify_in-a in
    let r = run.result in
    let work = run.new.work in
    ap (λ (x : List ℕ). turned w run.new.out run.new.steps x c.write_numbers.new.answer)
    (cleared_used g.limit g.table.now (says r) (used c) w e work)
    ∙ is_turn g.limit g.edition g.table.now (lent g.out.now g.steps.now g.work.now)
    (gives r run.new.out run.new.steps (cleaned g.limit r.number work)) run.ensures w g.answer.now
    c.write_numbers.new.answer e
    (c.write_numbers.ensures ∙ ap (λ (l : List ℕ). eights l ++ drop (8 * length l) g.answer.now) c.answer_numbers-numbers.ensures
    ∙ ap (λ (n : ℕ). eights (answer_numbers (says r)) ++ drop (8 * n) g.answer.now) (answer_count (says r)))

-- the weight, or 0 where there is none
weighs_so : (r : Result ℕ Refusal) → result_unwrap_or r 0 ≡ (table.says r).result
weighs_so (Ok w) = refl
weighs_so (Err r) = refl

pub returns-then-a-eq-RANGE : goal.returns-then-a-eq-RANGE
returns-then-a-eq-RANGE c =
    let at = (goal.at.returns-then-a-eq-RANGE c).After-write_numbers in
    its_turn at c.unwrap_or.result
    (c.unwrap_or.ensures ∙ weighs_so c.weight.result ∙ ap (λ (m : Measured). m.result) c.weight.ensures ∙ (used at).seven c.if-a-eq-RANGE.true)

pub returns : goal.returns
returns c =
    let at = (goal.at.returns c).After-write_numbers in
    its_turn at c.simplify_in-a.result.weight_in ((used at).other c.if-a-eq-RANGE.false)
