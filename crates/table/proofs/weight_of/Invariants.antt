-- `table::weight_of`: what is weighed, and the weight of the records left, are together the whole weight.
use Prim.Native.Nat.{◌+◌, ◌-◌, ◌*◌, ◌≤◌}
use mathlib.Core.Path.{◌≡◌}
use Rattle.paper.specs.Record.{weight_from}
use Rattle.table.proofs.weight_of.Given as goal

abbrev pub invariant-loop-i : goal.invariant-loop-i
invariant-loop-i l = (l.w ≤ 3 * l.i) × (l.w + weight_from l.s l.i (l.n - l.i) ≡ weight_from l.s 0 l.n)
