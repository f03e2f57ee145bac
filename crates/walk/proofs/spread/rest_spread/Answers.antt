-- Each return is one case of the split, by the record's kind.
use Rattle.std.proofs.Common.{◌≡◌, arith}
use Rattle.paper.specs.Record.{kind}
use Rattle.record.specs.declared.kinds.Kind.TheVariants.{Integer, Product}
use Rattle.record.proofs.KindLaws.{kind_by_number}
use Rattle.note.proofs.ToldLaws.{record_within}
use Rattle.split.proofs.SplitLaws.{some_product}
use Rattle.walk.proofs.SpreadLaws.{rest_integer, rest_product, rest_other}
use Rattle.walk.proofs.spread.rest_spread.Goals as goal

pub at-requires : goal.at-requires
at-requires c = record_within c.requires.there

pub others_spread-requires : goal.others_spread-requires
others_spread-requires c =
    let k : kind c.args.s.now c.args.i ≡ 3 = omega (arith, c.in-Product.ensures.all) in
    some_product c.requires k

pub returns-in-Integer : goal.returns-in-Integer
returns-in-Integer c = λ how t h. rest_integer t h (omega (arith, c.in-Integer.ensures.all))

pub returns-in-Product : goal.returns-in-Product
returns-in-Product c = λ how t h.
    rest_product t h (omega (arith, c.in-Product.ensures.all)) _ (c.others_spread.ensures how)

pub returns-in_default : goal.returns-in_default
returns-in_default c = λ how t h.
    let not_integer : kind c.args.s.now c.args.i ≡ 0 → ⊥ =
    λ e. c.in_default.not-Integer (kind_by_number c.at.result Integer (omega (arith, c.at.ensures.all, e))) in
    rest_other t h (omega (arith, not_integer)) (λ e. c.in_default.not-Product (kind_by_number c.at.result Product (omega (arith, c.at.ensures.all, e)))) _
    (c.spread.ensures how t h)
