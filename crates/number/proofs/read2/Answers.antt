-- `number::read2` meets its contract: the library's number of two bytes is `le`.
use Rattle.std.proofs.Common.{arith}
use Rattle.paper.specs.Bytes.{le, le2}
use Rattle.number.proofs.read2.Goals as goal

pub returns : goal.returns
unfolding le le2
returns c = (omega (arith, c.from_le_bytes.ensures), omega (arith, c.from_le_bytes.ensures))
