-- What is added so far is what the records up to record j add.
use Rattle.std.proofs.Common.{◌≡◌, ◌-◌, ◌%◌}
use Rattle.paper.specs.Limits.{modulus}
use Rattle.walk.specs.Spread.{shares_in}
use Rattle.walk.proofs.spread.spread.Given as goal

abbrev pub invariant-loop-j : goal.invariant-loop-j
invariant-loop-j l = l.sum ≡ shares_in l.s l.i (l.j - l.i) % modulus
