-- `number::write8` meets its contract: the stretch holds the eight bytes.
use Rattle.std.proofs.Common.{◌∙◌, arith}
use Rattle.paper.specs.Bytes.{bytes}
use Rattle.paper.proofs.BytesLaws.{length_bytes}
use Rattle.stretch.proofs.Laws.{placed}
use Rattle.number.proofs.write8.Goals as goal

pub returns : goal.returns
returns c =
    let g = c.args in
    placed g.d.now g.at 8 _ _ (bytes 8 g.v) (c.copy_from_slice.ensures.after ∙ c.bytes8.ensures) (omega arith) (length_bytes 8 g.v)
