-- for each tree that stands at the record, the trees owed end where it does; so few are owed that their number fits
use Rattle.std.proofs.Common.{ℕ, ◌+◌, ◌-◌, ◌*◌, ◌≤◌, length}
use Rattle.paper.specs.Tree.{Tree}
use Rattle.split.specs.Standing.{Told}
use Rattle.split.proofs.OwedLaws.{Owed}
use Rattle.split.proofs.skip_tree.Given as goal

abbrev pub invariant-loop-owed : goal.invariant-loop-owed
invariant-loop-owed l = record {
  on : l.i ≤ l.at;
  few : l.owed ≤ 1 + 65535 * (l.at - l.i);
  owed : (how : Tree → ℕ) (t : Tree) → Told how l.s l.i t → Owed l.s l.i t l.at l.owed;
}

abbrev pub decreases-loop-owed : goal.decreases-loop-owed
decreases-loop-owed l = length l.s - l.at
