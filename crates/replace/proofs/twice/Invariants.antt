-- What is left to look at tells the whole.
use Rattle.std.proofs.Common.{◌≡◌, ◌-◌, length}
use Rattle.paper_shared.specs.Answers.{twice}
use Rattle.replace.proofs.twice.Given as goal

abbrev pub invariant-loop-i : goal.invariant-loop-i
invariant-loop-i l = twice l.symbols 0 (length l.symbols) ≡ twice l.symbols l.i (length l.symbols - l.i)
