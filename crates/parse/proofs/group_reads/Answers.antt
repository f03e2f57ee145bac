-- What the cycle reads is what the cut reader reads.
use Rattle.std.proofs.Common.{◌∙◌, drop}
use Rattle.paper_text.specs.Text.{read_sum}
use Rattle.paper_text.specs.Levels.{read_cut}
use Rattle.parse.specs.Parsed.{Laid}
use Rattle.parse.proofs.ItemLaws.{bare_found}
use Rattle.parse.proofs.BlockLaws.{no_closing, closing_there}
use Rattle.parse.proofs.group_reads.Goals as goal

pub returns-in-Some : goal.returns-in-Some
returns-in-Some c =
    let a = c.args in
    let s = a.text.now in
    c.sign_at.ensures
    ∙ closing_there s a.at a.k
    (bare_found s a.at (read_sum (read_cut a.k) (drop a.at s)) (Laid _ 0 c.read_sum.new.out) c.in-Some.content c.in-Some.ensures)

pub returns-in-None : goal.returns-in-None
returns-in-None c = let a = c.args in no_closing a.text.now a.at a.k c.in-None.ensures
