-- `split::coefficient` meets its contract: each return is one case of the split, by the record's kind.
use Rattle.std.proofs.Common.{Ok, sym, ap, ◌∙◌, arith}
use Rattle.paper.specs.Bytes.{word}
use Rattle.paper.specs.Record.{kind}
use Rattle.paper.specs.Rules.{term}
use Rattle.record.specs.declared.kinds.Kind.TheVariants.{Integer, Product}
use Rattle.record.proofs.KindLaws.{kind_apart}
use Rattle.note.proofs.ToldLaws.{record_within}
use Rattle.split.specs.Rest.{coefficient_of}
use Rattle.split.proofs.SplitLaws.{term_integer, term_other, term_product, some_product}
use Rattle.split.proofs.coefficient.Goals as goal

pub at-requires : goal.at-requires
at-requires c = record_within c.requires.there

pub bits-requires : goal.bits-requires
bits-requires c = record_within c.requires.there

pub product_coefficient-requires : goal.product_coefficient-requires
product_coefficient-requires c = some_product c.requires (omega (arith, c.in-Product.ensures.all))

pub returns-in-Integer : goal.returns-in-Integer
returns-in-Integer c = λ how t h.
    ap Ok c.bits.ensures ∙ (term_integer t h (omega (arith, c.in-Integer.ensures.all))).0

pub returns-in-Product : goal.returns-in-Product
returns-in-Product c = λ how t h. term_product t h (omega (arith, c.in-Product.ensures.all)) (c.product_coefficient.ensures how)

pub returns-in_default : goal.returns-in_default
unfolding coefficient_of term word
returns-in_default c = λ how t h.
    let k = kind c.args.s.now c.args.i in
    let some = kind_apart _ Integer k c.at.ensures.all c.in_default.not-Integer in
    let other = kind_apart _ Product k c.at.ensures.all c.in_default.not-Product in
    ap coefficient_of (sym (term_other t h (omega (arith, some)) (λ e. other (omega (arith, e)))))
