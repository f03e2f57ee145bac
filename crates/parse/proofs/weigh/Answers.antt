-- A text deeper than half the limit has a tree over it, or none (`nested_weighs`).
use Rattle.std.proofs.Common.{arith, sym}
use Rattle.parse.proofs.WeighLaws.{too_heavy, no_text}
use Rattle.parse.proofs.weigh.Goals as goal

pub weigh_shallow-requires : goal.weigh_shallow-requires
weigh_shallow-requires c = sym c.if-is_shallow.ensures

pub returns-then-is_form : goal.returns-then-is_form
returns-then-is_form c =
    let a = c.args in
    too_heavy a.text.now a.limit _ c.is_shallow.result c.is_form.result (omega arith) c.is_shallow.ensures c.if-is_shallow.false c.is_form.ensures
    c.if-is_form.true

pub returns : goal.returns
returns c = let a = c.args in no_text a.text.now a.limit c.is_form.result c.is_form.ensures c.if-is_form.false
