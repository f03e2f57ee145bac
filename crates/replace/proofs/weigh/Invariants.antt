-- The sum so far, and what the records left count, are together the whole.
use Rattle.std.proofs.Common.{◌≡◌, ◌*◌, ◌/◌, ◌≤◌, length}
use Rattle.paper_shared.specs.Records.{weigh_from}
use Rattle.replace.specs.Weighed.{counts, most_counted}
use Rattle.replace.proofs.WeighLaws.{on_top}
use Rattle.replace.proofs.weigh.Given as goal

abbrev pub invariant-loop-i : goal.invariant-loop-i
invariant-loop-i l = record {
  few : l.w ≤ most_counted * l.i;
  whole : on_top l.which l.weights l.s (length l.s / 16) l.w l.i ≡ weigh_from (counts l.which l.weights) l.s 0 (length l.s / 16);
}
