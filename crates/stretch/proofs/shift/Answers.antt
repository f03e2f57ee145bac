-- `stretch::shift` meets its contract: what the library moves is the part, put.
use Rattle.std.proofs.Common.{◌∙◌, arith}
use Rattle.stretch.proofs.Laws.{pasted}
use Rattle.stretch.proofs.shift.Goals as goal

pub returns : goal.returns
returns c =
    let g = c.args in
    c.copy_within.ensures.after ∙ pasted g.d.now g.to g.from g.n _ (omega arith) (omega arith)
