-- `split::base` meets its contract: the record's kind tells whether the tree is a power, whose base stands one record later.
use Rattle.std.proofs.Common.{arith}
use Rattle.paper.specs.Record.{kind}
use Rattle.record.specs.declared.kinds.Kind.TheVariants.{Power}
use Rattle.record.proofs.KindLaws.{kind_is, kind_is_not}
use Rattle.note.proofs.ToldLaws.{record_within}
use Rattle.split.proofs.SplitLaws.{base_power, base_itself, base_behind, base_here, kind_five}
use Rattle.split.proofs.base.Goals as goal

pub at-requires : goal.at-requires
at-requires c = record_within c.requires.there

pub overflow_add-result : goal.overflow_add-result
overflow_add-result c = omega (arith, record_within c.requires.there)

pub returns-then-eq-clause-by_index : goal.returns-then-eq-clause-by_index
returns-then-eq-clause-by_index c = λ how t h.
    base_power t h (omega (arith, kind_is _ Power _ (kind c.args.s.now c.args.i) c.at.ensures.all c.eq.ensures c.if-eq.true, kind_five t h))

pub returns-then-eq-clause-place : goal.returns-then-eq-clause-place
returns-then-eq-clause-place c = λ how t h.
    base_behind t h (omega (arith, kind_is _ Power _ (kind c.args.s.now c.args.i) c.at.ensures.all c.eq.ensures c.if-eq.true, kind_five t h))

pub returns-else-eq-clause-by_index : goal.returns-else-eq-clause-by_index
returns-else-eq-clause-by_index c = λ how t h.
    base_itself t h (λ e. kind_is_not _ Power _ (kind c.args.s.now c.args.i) c.at.ensures.all c.eq.ensures c.if-eq.false (omega (arith, e)))

pub returns-else-eq-clause-place : goal.returns-else-eq-clause-place
returns-else-eq-clause-place c = λ how t h.
    base_here t h (λ e. kind_is_not _ Power _ (kind c.args.s.now c.args.i) c.at.ensures.all c.eq.ensures c.if-eq.false (omega (arith, e)))
