-- Of a sum's member the term is read. Of a product's member the exponent, the record of the base and the mark: where an integer stands
-- there its bits and its mark are read; else the base is the record after a power's own, with two records fewer, or the member itself.
-- In each case what was read shows the member's part.
use Rattle.std.proofs.Common.{◌≡◌, arith}
use Rattle.paper.specs.Record.{kind}
use Rattle.record.specs.declared.kinds.Kind.TheVariants.{Integer, Power}
use Rattle.record.proofs.KindLaws.{kind_is, kind_is_not}
use Rattle.note.specs.Note.{note}
use Rattle.note.proofs.ToldLaws.{record_within}
use Rattle.split.proofs.SplitLaws.{no_integer, kind_five}
use Rattle.equal.proofs.KindTests.{eq_true, eq_false}
use Rattle.equal.proofs.TwoLaws.{positive}
use Rattle.part.proofs.PartLaws.{number_part, power_part, base_part, power_two}
use Rattle.part.proofs.part_of.Goals as goal

pub returns-then-terms-clause-shows : goal.returns-then-terms-clause-shows
returns-then-terms-clause-shows c = λ t h. rw c.if-terms.true (c.term_of.ensures.shows t h.there)

pub mark-m-requires : goal.mark-m-requires
mark-m-requires c = record_within c.requires.1.there

pub at-requires : goal.at-requires
at-requires c = record_within (c.base-b.ensures.by_index note c.requires.0 c.requires.1.there)

pub bits-requires : goal.bits-requires
bits-requires c = record_within (c.base-b.ensures.by_index note c.requires.0 c.requires.1.there)

pub mark-requires : goal.mark-requires
mark-requires c = record_within (c.base-b.ensures.by_index note c.requires.0 c.requires.1.there)

pub returns-then-eq-clause-shows : goal.returns-then-eq-clause-shows
returns-then-eq-clause-shows c = λ t h.
    let e = c.exponent-e.ensures note t h.there in
    let zero : kind c.args.s.now c.base-b.result ≡ 0 = eq_true c.at.result _ c.at.ensures.all Integer (omega arith) c.eq.ensures c.if-eq.true in
    rw c.if-terms.false
    (number_part _ _ _ c.base-b.result _ _ _ t h.there (c.base-b.ensures.by_index note t h.there) (omega arith) c.bits.ensures c.mark.ensures.0
    c.mark-m.ensures.0 e.0 e.1)

pub at-requires-2 : goal.at-requires-2
at-requires-2 c = record_within c.requires.1.there

pub overflow_add-result : goal.overflow_add-result
overflow_add-result c = record { fits = omega (arith, record_within c.requires.1.there) }

pub overflow_sub-result : goal.overflow_sub-result
overflow_sub-result c =
    let q = c.requires in
    let power : kind c.args.s.now c.args.at ≡ 4 =
    omega (arith, kind_is _ Power _ (kind c.args.s.now c.args.at) c.at-2.ensures.all c.eq-2.ensures c.if-eq-2.true, kind_five q.0 q.1.there) in
    power_two _ _ _ q.0 q.1 power

pub returns-then-eq-2-clause-shows : goal.returns-then-eq-2-clause-shows
returns-then-eq-2-clause-shows c = λ t h.
    let e = c.exponent-e.ensures note t h.there in
    let other = no_integer (c.base-b.ensures.by_index note t h.there)
    (positive _ (eq_false c.at.result _ c.at.ensures.all Integer (omega arith) c.eq.ensures c.if-eq.false)) in
    let power : kind c.args.s.now c.args.at ≡ 4 =
    omega (arith, kind_is _ Power _ (kind c.args.s.now c.args.at) c.at-2.ensures.all c.eq-2.ensures c.if-eq-2.true, kind_five t h.there) in
    rw c.if-terms.false (power_part _ _ _ _ t h other e.0 e.1 c.mark-m.ensures.0 power)

pub returns-clause-shows : goal.returns-clause-shows
returns-clause-shows c = λ t h.
    let e = c.exponent-e.ensures note t h.there in
    let other = no_integer (c.base-b.ensures.by_index note t h.there)
    (positive _ (eq_false c.at.result _ c.at.ensures.all Integer (omega arith) c.eq.ensures c.if-eq.false)) in
    rw c.if-terms.false
    (base_part _ _ _ _ t h other e.0 e.1 c.mark-m.ensures.0
    (λ k. kind_is_not _ Power _ (kind c.args.s.now c.args.at) c.at-2.ensures.all c.eq-2.ensures c.if-eq-2.false (omega (arith, k))))
