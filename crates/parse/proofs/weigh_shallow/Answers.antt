-- A shallow text is read whole (`shallow_exactly`).
use Rattle.std.proofs.Common.{drop}
use Rattle.paper_text.specs.Text.{read_sum}
use Rattle.paper_text.specs.Levels.{read_cut}
use Rattle.parse.specs.Parsed.{Laid}
use Rattle.parse.proofs.ItemLaws.{bare_found}
use Rattle.parse.proofs.WeighLaws.{reads_none, reads_more, reads_heavy, reads_light}
use Rattle.parse.proofs.weigh_shallow.Goals as goal

pub returns-in_default : goal.returns-in_default
returns-in_default c = let a = c.args in reads_none a.text.now a.limit a.k c.requires c.in_default.ensures

pub returns-then-whole-text : goal.returns-then-whole-text
returns-then-whole-text c =
    let a = c.args in
    let s = a.text.now in
    reads_more s a.limit a.k c.requires
    (bare_found s 0 (read_sum (read_cut a.k) (drop 0 s)) (Laid _ 0 c.read_sum.new.out) c.in-Some.whole c.in-Some.ensures) c.if-whole-text.true

pub returns-then-limit-whole : goal.returns-then-limit-whole
returns-then-limit-whole c =
    let a = c.args in
    let s = a.text.now in
    reads_heavy s a.limit a.k c.requires
    (bare_found s 0 (read_sum (read_cut a.k) (drop 0 s)) (Laid _ 0 c.read_sum.new.out) c.in-Some.whole c.in-Some.ensures) c.if-whole-text.false
    c.if-limit-whole.true

pub returns : goal.returns
returns c =
    let a = c.args in
    let s = a.text.now in
    reads_light s a.limit a.k c.requires
    (bare_found s 0 (read_sum (read_cut a.k) (drop 0 s)) (Laid _ 0 c.read_sum.new.out) c.in-Some.whole c.in-Some.ensures) c.if-whole-text.false
    c.if-limit-whole.false
