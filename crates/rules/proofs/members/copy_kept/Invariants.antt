-- `rules::members::copy_kept`: what is kept of the members passed, and what is kept of those left, is what is kept of all; the first stands in `out`
-- (Dropping).
use Prim.Native.Nat.{ℕ, ◌-◌}
use mathlib.Core.List.{List}
use Rattle.paper.specs.Tree.{Forest}
use Rattle.rules.specs.Tried.{Held}
use Rattle.rules.proofs.Dropping.{Dropping}
use Rattle.rules.proofs.members.copy_kept.Given as goal

abbrev pub invariant-loop : goal.invariant-loop
invariant-loop l =
    (f : Forest) (rest : List ℕ) → Held l.fn.out l.work l.d l.p f rest
    → Dropping l.z l.fn.out l.work l.d l.p f rest l.out l.at (l.end - l.counter) l.e l.kept
