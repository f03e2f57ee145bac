-- What is told of the members that are left is told of the product's.
use Rattle.std.proofs.Common.{ℕ, ◌+◌, ◌-◌, ltb, length}
use Rattle.paper.specs.Tree.{Tree, Forest, product, to_list}
use Rattle.split.specs.Standing.{Told}
use Rattle.walk.proofs.SeenStays.{Seeking}
use Rattle.walk.proofs.last_stays.Given as goal

abbrev pub invariant-loop : goal.invariant-loop
invariant-loop l =
    (how : Tree → ℕ) (μ : ℕ) (f : Forest) → Told how l.s l.i (product μ f) → Seeking how l.s (ltb 2 (length (to_list f))) μ f l.at (l.n + 1 - l.counter)
