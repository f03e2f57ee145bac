-- A group is passed over, any other power begins with a leaf.
use Rattle.std.proofs.Common.{◌+◌, sym, ◌∙◌, subst, drop}
use Rattle.paper_text.specs.Text.{then, closed, read_leaf}
use Rattle.paper_text.specs.Levels.{skim, read_cut}
use Rattle.paper_text.proofs.PlaceLaws.{sign_inside}
use Rattle.parse.specs.Parsed.{Laid, ItemIs, bared}
use Rattle.parse.proofs.ItemLaws.{stands_sized}
use Rattle.parse.proofs.LevelReads.{power_leaf, group_passed}
use Rattle.parse.proofs.GroupLaws.{nothing_raised}
use Rattle.parse.proofs.flat.Goals as goal

pub passed-requires : goal.passed-requires
passed-requires c = (sign_inside c.args.text.now c.args.at 40 (sym c.if-sign_at.ensures), c.requires)

pub returns-in_default : goal.returns-in_default
returns-in_default c =
    let a = c.args in
    group_passed a.text.now a.at (sym c.if-sign_at.ensures) ∙ nothing_raised (then (skim (drop (a.at + 1) a.text.now)) closed) c.in_default.ensures

pub raised-requires : goal.raised-requires
raised-requires c =
    let a = c.args in
    stands_sized a.text.now a.at (then (skim (drop (a.at + 1) a.text.now)) closed) a.out.now c.passed.new.out a.d c.requires c.in-Some.ensures

pub returns-then-sign_at : goal.returns-then-sign_at
returns-then-sign_at c =
    let a = c.args in
    let s = a.text.now in
    let raised = c.raised in
    subst (λ o. ItemIs s a.at o (Laid a.out.now a.d raised.new.out) raised.result) (sym (group_passed s a.at (sym c.if-sign_at.ensures)))
    (raised.ensures a.at (then (skim (drop (a.at + 1) s)) closed) a.out.now c.in-Some.ensures)

pub returns-in_default-leaf : goal.returns-in_default-leaf
returns-in_default-leaf c =
    let a = c.args in
    power_leaf (read_cut 0) a.text.now a.at (sym c.if-sign_at.ensures)
    ∙ nothing_raised (bared (read_leaf (drop a.at a.text.now))) c.in_default-leaf.ensures

pub raised-requires-2 : goal.raised-requires-2
raised-requires-2 c =
    let a = c.args in
    stands_sized a.text.now a.at (bared (read_leaf (drop a.at a.text.now))) a.out.now c.leaf.new.out a.d c.requires c.in-Some-leaf.ensures

pub returns : goal.returns
returns c =
    let a = c.args in
    let s = a.text.now in
    let raised = c.raised-2 in
    subst (λ o. ItemIs s a.at o (Laid a.out.now a.d raised.new.out) raised.result) (sym (power_leaf (read_cut 0) s a.at (sym c.if-sign_at.ensures)))
    (raised.ensures a.at (bared (read_leaf (drop a.at s))) a.out.now c.in-Some-leaf.ensures)
