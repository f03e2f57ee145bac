-- What is added so far and the spreads of the others among the members that are left are those of the product's others.
use Rattle.std.proofs.Common.{ℕ, ◌-◌}
use Rattle.paper.specs.Tree.{Tree, Forest, product}
use Rattle.split.specs.Standing.{Told}
use Rattle.walk.proofs.SpreadLaws.{Adding}
use Rattle.walk.proofs.spread.others_spread.Given as goal

abbrev pub invariant-loop : goal.invariant-loop
invariant-loop l = (how : Tree → ℕ) (μ : ℕ) (f : Forest) → Told how l.s l.i (product μ f) → Adding how l.s l.sum l.at (l.end - l.counter) f
