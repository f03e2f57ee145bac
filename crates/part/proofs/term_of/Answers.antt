-- The coefficient of a tree that is its own rest is 1, and that of an integer itself; that of a product is in range, or it is not, and the
-- term is shown so.
use Rattle.std.proofs.Common.{◌≡◌, Ok, sym, ap, ◌∙◌, arith}
use Rattle.paper.specs.Record.{kind}
use Rattle.record.specs.declared.kinds.Kind.TheVariants.{Integer}
use Rattle.note.specs.Note.{note}
use Rattle.note.proofs.ToldLaws.{record_within}
use Rattle.split.proofs.SplitLaws.{term_integer}
use Rattle.equal.proofs.HeadLaws.{whole_coefficient}
use Rattle.equal.proofs.KindTests.{eq_true}
use Rattle.part.proofs.PartLaws.{term_part, wide_part}
use Rattle.part.proofs.term_of.Goals as goal

pub returns-then-is_whole-clause-shows : goal.returns-then-is_whole-clause-shows
returns-then-is_whole-clause-shows c = λ t h. term_part _ _ t h (whole_coefficient h (sym c.is_whole.ensures ∙ c.if-is_whole.true))

pub at-requires : goal.at-requires
at-requires c = record_within c.requires.there

pub bits-requires : goal.bits-requires
bits-requires c = record_within c.requires.there

pub returns-then-eq-clause-shows : goal.returns-then-eq-clause-shows
returns-then-eq-clause-shows c = λ t h.
    let zero : kind c.args.s.now c.args.at ≡ 0 = eq_true c.at.result _ c.at.ensures.all Integer (omega arith) c.eq.ensures c.if-eq.true in
    term_part _ _ t h (ap Ok c.bits.ensures ∙ (term_integer t h (omega arith)).0)

pub returns-in-Ok-clause-shows : goal.returns-in-Ok-clause-shows
returns-in-Ok-clause-shows c = λ t h. term_part _ _ t h (sym c.in-Ok.is ∙ c.coefficient-n.ensures note t h)

pub returns-in-Err-clause-shows : goal.returns-in-Err-clause-shows
returns-in-Err-clause-shows c = λ t h. wide_part _ _ t h (sym c.in-Err.is ∙ c.coefficient-n.ensures note t h)
