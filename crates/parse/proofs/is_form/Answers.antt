-- The first block has to end where the text does, and each further one to be read (`levels_exactly`).
use Rattle.std.proofs.Common.{◌∙◌, length, drop}
use borrow.Author.Tests.{lt-leb}
use Rattle.paper_text.specs.Text.{read_sum}
use Rattle.paper_text.specs.Levels.{read_cut}
use Rattle.parse.specs.Parsed.{Laid}
use Rattle.parse.proofs.ItemLaws.{bare_found}
use Rattle.parse.proofs.BlockLaws.{no_form, left_over, by_blocks}
use Rattle.parse.proofs.is_form.Goals as goal

pub returns-in_default : goal.returns-in_default
returns-in_default c = let a = c.args in no_form a.text.now a.k c.in_default.ensures

pub returns-then-text-block : goal.returns-then-text-block
returns-then-text-block c =
    let a = c.args in
    let s = a.text.now in
    by_blocks s a.k c.blocks_read.result
    (bare_found s 0 (read_sum (read_cut a.k) (drop 0 s)) (Laid _ 0 c.read_sum.new.out) c.in-Some.block c.in-Some.ensures) c.if-text-block.true
    c.blocks_read.ensures

pub returns-else-text-block : goal.returns-else-text-block
returns-else-text-block c =
    let a = c.args in
    let s = a.text.now in
    lt-leb (length s) c.in-Some.block.next c.if-text-block.false
    ∙ left_over s a.k (bare_found s 0 (read_sum (read_cut a.k) (drop 0 s)) (Laid _ 0 c.read_sum.new.out) c.in-Some.block c.in-Some.ensures)
    c.if-text-block.false
