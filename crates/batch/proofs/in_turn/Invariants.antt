-- What is still to do, from what stands there now and with `work` cleared where an item ran, is what was to do at the beginning; the items to
-- come have the bytes from `at` on, and what is used up is within the areas.
use Rattle.std.proofs.Common.{◌≡◌, ◌+◌, ◌*◌, ◌/◌, ◌≤◌, length, drop}
use Rattle.paper.specs.Limits.{work_bytes}
use Rattle.simplify.specs.Answer.{lent}
use Rattle.paper_batch.specs.Batch.{lengths_in, total}
use Rattle.batch.specs.Turn.{cleared, lengths_from, still}
use Rattle.batch.proofs.in_turn.Given as goal

abbrev pub invariant-loop-i : goal.invariant-loop-i
invariant-loop-i l = record {
  ahead : l.at + total (lengths_from l.lengths (length l.lengths / 8) l.i) ≡ length l.tables;
  out_used : 16 * l.used ≤ length l.out;
  steps_used : l.used ≤ length l.steps;
  out_long : length l.out ≡ length l.fn.out;
  steps_long : length l.steps ≡ length l.fn.steps;
  work_long : length l.work ≡ length l.fn.work;
  answers_long : length l.answers ≡ length l.fn.answers;
  to_do : still l.limit l.edition l.i l.used (lengths_from l.lengths (length l.lengths / 8) l.i) (drop l.at l.tables)
      (lent l.out l.steps (cleared l.limit l.used l.work)) l.answers
      ≡ still l.limit l.edition 0 0 (lengths_in l.lengths) l.tables (lent l.fn.out l.fn.steps l.fn.work) l.fn.answers;
  room : 1 ≤ l.used → work_bytes l.limit ≤ length l.work;
}
