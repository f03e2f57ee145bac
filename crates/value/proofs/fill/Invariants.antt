-- `value::fill`: the array keeps its length, and each of its elements below i is the register of that symbol.
use Rattle.std.proofs.Common.{◌≡◌, ℕ, ◌<◌, length, get_or}
use Rattle.paper.specs.Answers.{register}
use Rattle.value.proofs.fill.Given as goal

abbrev pub invariant-loop-i : goal.invariant-loop-i
invariant-loop-i l = (length l.r ≡ 256) × ((k : ℕ) → k < l.i → get_or l.r k 0 ≡ register l.registers k)
