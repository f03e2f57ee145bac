-- the product of the integers met so far, times those among the members that are left, is the product of all
use Rattle.std.proofs.Common.{ℕ, ◌-◌}
use Rattle.paper.specs.Tree.{Tree, Forest, product}
use Rattle.split.specs.Standing.{Told}
use Rattle.split.proofs.SplitLaws.{Multiplying}
use Rattle.split.proofs.product_coefficient.Given as goal

abbrev pub invariant-loop : goal.invariant-loop
invariant-loop l =
    (how : Tree → ℕ) (μ : ℕ) (f : Forest) → Told how l.s l.i (product μ f) → Multiplying how l.s l.n l.at (l.end - l.counter) f
