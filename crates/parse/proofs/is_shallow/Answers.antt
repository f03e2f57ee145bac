-- At the end nothing is left that may go too deep.
use Rattle.parse.proofs.WeighLaws.{dived_all}
use Rattle.parse.proofs.is_shallow.Goals as goal

pub returns : goal.returns
returns c = let l = c.loop-c in dived_all c.args.text.now c.args.k l.left l.c-index c.loop-c-test.false l.invariant
