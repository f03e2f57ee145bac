-- The lengths of all items and what is left are together those of the items to come and the bytes given.
use Rattle.std.proofs.Common.{◌≡◌, ◌+◌, ◌/◌, ◌≤◌, length}
use Rattle.paper_batch.specs.Batch.{lengths_in, total}
use Rattle.batch.specs.Turn.{lengths_from}
use Rattle.batch.proofs.adds_up.Given as goal

abbrev pub invariant-loop-i : goal.invariant-loop-i
invariant-loop-i l = record {
  within : l.left ≤ l.given;
  same : total (lengths_in l.lengths) + l.left ≡ total (lengths_from l.lengths (length l.lengths / 8) l.i) + l.given;
}
