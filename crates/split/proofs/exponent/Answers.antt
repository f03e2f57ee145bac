-- `split::exponent` meets its contract: where the record is a power's, the exponent stands after the base.
use Rattle.std.proofs.Common.{◌≡◌, arith}
use lib.Dec.{lit<}
use Rattle.paper.specs.Record.{kind}
use Rattle.record.specs.declared.kinds.Kind.TheVariants.{Power}
use Rattle.record.proofs.KindLaws.{kind_is, kind_is_not}
use Rattle.note.proofs.ToldLaws.{record_within}
use Rattle.split.proofs.SplitLaws.{some_base, ExponentAt, exponent_power, exponent_itself, kind_five}
use Rattle.split.proofs.exponent.Goals as goal

pub at-requires : goal.at-requires
at-requires c = record_within c.requires.there

pub overflow_add-i : goal.overflow_add-i
overflow_add-i c = omega (arith, record_within c.requires.there)

pub skip_tree-requires : goal.skip_tree-requires
skip_tree-requires c =
    some_base c.requires
    (omega (arith, kind_is _ Power _ (kind c.args.s.now c.args.i) c.at.ensures.all c.eq.ensures c.if-eq.true, kind_five c.requires.tree c.requires.there))

pub bits-requires : goal.bits-requires
bits-requires c =
    let some = c.requires in
    let k : kind c.args.s.now c.args.i ≡ 4 =
    omega (arith, kind_is _ Power _ (kind c.args.s.now c.args.i) c.at.ensures.all c.eq.ensures c.if-eq.true, kind_five some.tree some.there) in
    (exponent_power some.tree some.there k c.skip_tree.result (c.skip_tree.ensures some.how)).within

pub returns-then-eq : goal.returns-then-eq
returns-then-eq c = λ how t h.
    let k : kind c.args.s.now c.args.i ≡ 4 =
    omega (arith, kind_is _ Power _ (kind c.args.s.now c.args.i) c.at.ensures.all c.eq.ensures c.if-eq.true, kind_five t h) in
    let e : ExponentAt _ _ t = exponent_power t h k c.skip_tree.result (c.skip_tree.ensures how) in
    rw c.bits.ensures (e.exponent, e.most)

pub returns-else-eq : goal.returns-else-eq
returns-else-eq c = λ how t h. (
  exponent_itself t h (λ e. kind_is_not _ Power _ (kind c.args.s.now c.args.i) c.at.ensures.all c.eq.ensures c.if-eq.false (omega (arith, e))),
  lit< tt,
)
