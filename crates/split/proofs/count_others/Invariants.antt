-- the others met so far and those among the members that are left are the product's
use Rattle.std.proofs.Common.{ℕ, ◌-◌, ◌≤◌}
use Rattle.paper.specs.Tree.{Tree, Forest, product}
use Rattle.split.specs.Standing.{Told}
use Rattle.split.proofs.SplitLaws.{Counting}
use Rattle.split.proofs.count_others.Given as goal

abbrev pub invariant-loop : goal.invariant-loop
invariant-loop l = record {
  few : l.many ≤ l.counter;
  counting : (how : Tree → ℕ) (μ : ℕ) (f : Forest) → Told how l.s l.i (product μ f) → Counting how l.s l.i l.at (l.end - l.counter) l.many l.last f;
}
