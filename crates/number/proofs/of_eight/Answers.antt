-- `number::of_eight` meets its contract: the code is the definition of `le` at eight bytes, multiplied out.
use Rattle.std.proofs.Common.{arith}
use Rattle.paper.specs.Bytes.{le}
use Rattle.number.proofs.of_eight.Goals as goal

pub returns : goal.returns
unfolding le
returns c = omega arith
