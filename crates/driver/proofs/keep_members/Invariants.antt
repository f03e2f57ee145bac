-- `driver::keep_members`: the driver is midway, with the members kept so far.
use Prim.Native.Nat.{ℕ}
use mathlib.Core.List.{List}
use Rattle.driver.specs.Paused.{Call, kept_by, Midway}
use Rattle.driver.proofs.keep_members.Given as goal

abbrev pub invariant-loop-i : goal.invariant-loop-i
invariant-loop-i l = (c : Call) (steps : List ℕ) → Midway c l.fn.out l.work steps l.s → Midway c l.out l.work steps (kept_by l.s l.i l.r)
