-- `table::tree_end`: skipping what is owed from record i on ends where the whole tree ends.
use Prim.Native.Nat.{◌+◌, ◌-◌, ◌*◌, ◌≤◌}
use mathlib.Core.Path.{◌≡◌}
use Rattle.paper.specs.Verdict.{skip, tree_end}
use Rattle.table.proofs.tree_end.Given as goal

abbrev pub invariant-loop-i : goal.invariant-loop-i
invariant-loop-i l = record {
  few : l.owed ≤ 1 + 65535 * l.i;
  ends : tree_end l.s l.n 0 ≡ skip l.s l.n (l.n - l.i) l.owed l.i;
}
