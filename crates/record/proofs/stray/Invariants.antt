-- `record::stray`: what is left to search from byte j on gives what the whole search gives.
use Prim.Native.Nat.{◌-◌}
use mathlib.Core.Path.{◌≡◌}
use Rattle.paper.specs.Record.{stray}
use Rattle.record.proofs.stray.Given as goal

abbrev pub invariant-loop-j : goal.invariant-loop-j
invariant-loop-j l = stray l.s l.i l.k 0 16 ≡ stray l.s l.i l.k l.j (16 - l.j)
