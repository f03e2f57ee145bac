-- `number::read8` meets its contract: `of_eight` is called with the bytes that `le8` names.
use Rattle.paper.specs.Bytes.{le8}
use Rattle.number.proofs.read8.Goals as goal

pub returns : goal.returns
unfolding le8
returns c = c.of_eight.ensures
