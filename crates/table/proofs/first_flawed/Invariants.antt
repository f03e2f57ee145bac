-- `table::first_flawed`: what is left to search from a record on gives what the whole search gives.
use Prim.Native.Nat.{◌-◌}
use mathlib.Core.Path.{◌≡◌}
use Rattle.paper.specs.Verdict.{first_flawed}
use Rattle.table.proofs.first_flawed.Given as goal

abbrev pub invariant-loop-place : goal.invariant-loop-place
invariant-loop-place l = first_flawed l.s 0 l.n ≡ first_flawed l.s l.place (l.n - l.place)
