-- `batch::in_turn` meets its contract: each turn is one law of TurnLaws.
use Rattle.std.proofs.Common.{◌≡◌, ◌+◌, ◌/◌, List, ℕ, length, drop, refl, sym, ap, ◌∙◌, arith, rules}
use Rattle.paper.proofs.BytesLaws.{are_bytes}
use Rattle.simplify.specs.Answer.{lent}
use Rattle.paper_batch.specs.Batch.{lengths_in, total}
use Rattle.batch.specs.Turn.{cleared, called, lengths_from, still}
use Rattle.batch.proofs.LengthsLaws.{from_all, from_none, total_turn}
use Rattle.batch.proofs.StillLaws.{still_none}
use Rattle.batch.proofs.WorkLaws.{cleared_once, not_cleared}
use Rattle.batch.proofs.TurnLaws.{Passed, passed}
use Rattle.batch.proofs.in_turn.Goals as goal
use Rattle.batch.proofs.in_turn.Goals.{After-read8, After-item-used, After-loop-i}

-- the lengths from the item on are its own and those of the items after it
length_read : (c : After-read8)
    → let s = c.args.lengths.now in
    total (lengths_from s (length s / 8) c.loop-i.i) ≡ c.read8.result + total (lengths_from s (length s / 8) (c.loop-i.i + 1))
length_read c = let s = c.args.lengths.now in omega (arith, total_turn s (length s / 8) c.loop-i.i (omega arith), c.read8.ensures)

-- the item's turn
gone : (c : After-item-used)
    → let g = c.args in
    let l = c.loop-i in
    let call = c.item-used in
    Passed g.limit g.edition g.tables.now g.lengths.now l.answers l.out l.steps l.work (length g.lengths.now / 8) l.i l.at l.used
    c.read8.result call.result call.new.out call.new.steps call.new.work call.new.answer
gone c =
    let g = c.args in
    let l = c.loop-i in
    let call = c.item-used in
    passed g.limit g.edition g.tables.now g.lengths.now l.answers l.out l.steps l.work (length g.lengths.now / 8) l.i l.at l.used
    c.read8.result call.result call.new.out call.new.steps call.new.work call.new.answer
    (are_bytes g.tables.now c.type_inv.tables) (omega arith) l.invariant.out_used l.invariant.steps_used (omega arith)
    c.read8.ensures l.invariant.room call.ensures

-- where no item is left
ended : (c : After-loop-i)
    → let g = c.args in
    let l = c.loop-i in
    called 0 l.out l.steps (cleared g.limit l.used l.work) l.answers
    ≡ still g.limit g.edition 0 0 (lengths_in g.lengths.now) g.tables.now (lent g.out.now g.steps.now g.work.now) g.answers.now
ended c =
    let g = c.args in
    let l = c.loop-i in
    let now = lent l.out l.steps (cleared g.limit l.used l.work) in
    let none = from_none g.lengths.now (length g.lengths.now / 8) l.i (omega arith) in
    sym (still_none g.limit g.edition l.i l.used (drop l.at g.tables.now) now l.answers)
    ∙ ap (λ (ns : List ℕ). still g.limit g.edition l.i l.used ns (drop l.at g.tables.now) now l.answers) (sym none)
    ∙ l.invariant.to_do

pub loop-i-init : goal.loop-i-init
loop-i-init c =
    let g = c.args in
    let all = from_all g.lengths.now in
    record {
      ahead = omega (arith, ap total all, c.requires.0);
      out_used = omega arith;
      steps_used = omega arith;
      out_long = refl;
      steps_long = refl;
      work_long = refl;
      answers_long = refl;
      to_do =
          ap (λ (x : List ℕ). still g.limit g.edition 0 0 (lengths_from g.lengths.now (length g.lengths.now / 8) 0)
          g.tables.now (lent g.out.now g.steps.now x) g.answers.now)
          (sym (not_cleared g.limit 0 g.work.now (omega arith)))
          ∙ ap (λ (ns : List ℕ). still g.limit g.edition 0 0 ns g.tables.now (lent g.out.now g.steps.now g.work.now) g.answers.now) all;
      room = λ h. absurd (omega arith);
    }

pub overflow_add-end : goal.overflow_add-end
overflow_add-end c = let e = length_read (goal.at.overflow_add-end c).After-read8 in omega (arith, e, c.loop-i.invariant.ahead)

pub slice_bounds-item-end : goal.slice_bounds-item-end
slice_bounds-item-end c =
    let e = length_read (goal.at.slice_bounds-item-end c).After-read8 in
    search (rules, e)

pub overflow_add-used : goal.overflow_add-used
overflow_add-used c =
    let turn = (gone (goal.at.overflow_add-used c).After-item-used).gone in
    omega (arith, turn.out_fits)

pub loop-i-preserved : goal.loop-i-preserved
loop-i-preserved c =
    let l = c.loop-i in
    let turn = (gone (goal.at.loop-i-preserved c).After-item-used).gone in
    let long = c.item-used.auto.work in
    let e = length_read (goal.at.loop-i-preserved c).After-read8 in
    record {
      ahead = omega (arith, e);
      out_used = omega (arith, turn.out_kept, turn.out_fits);
      steps_used = omega (arith, turn.steps_kept, turn.steps_fit);
      out_long = turn.out_kept ∙ l.invariant.out_long;
      steps_long = turn.steps_kept ∙ l.invariant.steps_long;
      work_long = long ∙ l.invariant.work_long;
      answers_long = turn.answers_kept ∙ l.invariant.answers_long;
      to_do = turn.goes_on ∙ l.invariant.to_do;
      room = λ h. omega (arith, (gone (goal.at.loop-i-preserved c).After-item-used).room h, long);
    }

pub returns-then-used-gt0 : goal.returns-then-used-gt0
returns-then-used-gt0 c =
    let l = c.loop-i in
    ap (λ (x : List ℕ). called 0 l.out l.steps x l.answers)
    (cleared_once c.args.limit l.used c.work_bytes.result l.work c.clear.new.d c.if-used-gt0.true c.work_bytes.ensures c.clear.ensures)
    ∙ ended (goal.at.returns-then-used-gt0 c).After-loop-i

pub returns-else-used-gt0 : goal.returns-else-used-gt0
returns-else-used-gt0 c =
    let l = c.loop-i in
    ap (λ (x : List ℕ). called 0 l.out l.steps x l.answers) (not_cleared c.args.limit l.used l.work c.if-used-gt0.false)
    ∙ ended (goal.at.returns-else-used-gt0 c).After-loop-i
