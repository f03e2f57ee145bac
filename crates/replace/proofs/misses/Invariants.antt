-- What is left and what was taken are together all the bytes.
use Rattle.std.proofs.Common.{◌≡◌, ◌+◌, length}
use Rattle.paper_shared.specs.Answers.{beginning}
use Rattle.replace.proofs.misses.Given as goal

abbrev pub invariant-loop-i : goal.invariant-loop-i
invariant-loop-i l = l.left + beginning l.lengths l.i ≡ length l.definitions
