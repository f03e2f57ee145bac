-- `stretch::copy_bytes` meets its contract: the stretch of dst holds the part of src.
use Rattle.std.proofs.Common.{◌+◌, ◌-◌, arith}
use Rattle.stretch.specs.Put.{part}
use Rattle.stretch.proofs.Laws.{placed, length_part, part_to}
use Rattle.stretch.proofs.copy_bytes.Goals as goal

pub returns : goal.returns
returns c =
    let g = c.args in
    placed g.dst.now g.at g.n _ _ (part g.src.now g.from g.n)
    (let e = part_to g.src.now g.from g.n (g.from + g.n - g.from) (omega arith) in cc)
    (omega arith)
    (length_part g.src.now g.from g.n (omega arith))
