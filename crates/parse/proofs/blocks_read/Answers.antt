-- At the end no block is left to be judged.
use Rattle.parse.proofs.BlockLaws.{judged_all}
use Rattle.parse.proofs.blocks_read.Goals as goal

pub returns : goal.returns
returns c = let l = c.loop-i in judged_all c.args.text.now c.args.k l.left l.i c.loop-i-test.false l.invariant
