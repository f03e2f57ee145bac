-- `split::rest_of` meets its contract: each return is one case of the split, by the record's kind.
use Rattle.std.proofs.Common.{◌≡◌, arith}
use Rattle.paper.specs.Record.{kind}
use Rattle.record.specs.declared.kinds.Kind.TheVariants.{Integer, Product}
use Rattle.record.proofs.KindLaws.{kind_apart}
use Rattle.note.proofs.ToldLaws.{record_within}
use Rattle.split.proofs.SplitLaws.{term_integer, rest_itself, some_product, place_integer, place_other}
use Rattle.split.proofs.rest_of.Goals as goal

pub at-requires : goal.at-requires
at-requires c = record_within c.requires.there

pub rest_of_product-requires : goal.rest_of_product-requires
rest_of_product-requires c = some_product c.requires (omega (arith, c.in-Product.ensures.all))

pub returns-in-Integer-clause-by_index : goal.returns-in-Integer-clause-by_index
returns-in-Integer-clause-by_index c = λ how t h. (term_integer t h (omega (arith, c.in-Integer.ensures.all))).1

pub returns-in-Integer-clause-place : goal.returns-in-Integer-clause-place
returns-in-Integer-clause-place c = λ how t h. place_integer t h (omega (arith, c.in-Integer.ensures.all))

pub returns-in-Product : goal.returns-in-Product
returns-in-Product c =
    let k : kind c.args.s.now c.args.i ≡ 3 = omega (arith, c.in-Product.ensures.all) in record {
      by_index = λ how t h. c.rest_of_product.ensures.by_index how t h k;
      place = λ how t h. c.rest_of_product.ensures.place how t h k;
    }

pub returns-in_default : goal.returns-in_default
returns-in_default c =
    let k = kind c.args.s.now c.args.i in
    let some = kind_apart _ Integer k c.at.ensures.all c.in_default.not-Integer in
    let other = kind_apart _ Product k c.at.ensures.all c.in_default.not-Product in record {
      by_index = λ how t h. rest_itself t h (omega (arith, some)) (λ e. other (omega (arith, e)));
      place = λ how t h. place_other t h (omega (arith, some)) (λ e. other (omega (arith, e)));
    }
