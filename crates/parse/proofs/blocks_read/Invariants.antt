-- What is judged from each place on is what is judged of the whole text.
use Rattle.parse.proofs.BlockLaws.{Judging}
use Rattle.parse.proofs.blocks_read.Given as goal

abbrev pub invariant-loop-i : goal.invariant-loop-i
invariant-loop-i l = Judging l.text l.k l.left l.i
