-- The part is a term, a wide one, a power or a number, and what the function for that form promises is what is to be shown of it. The part
-- shows a factor or a term by its form (`of_term`, `of_wide`, `of_power`, `of_number`).
use Rattle.std.proofs.Common.{subst}
use Rattle.note.specs.Note.{note}
use Rattle.part.specs.Part.{Shows}
use Rattle.part.proofs.PartLaws.{of_term, of_wide, of_power, of_number, term_stands, wide_stands, power_stands}
use Rattle.part.proofs.merge.Goals as goal

pub merge_term-requires : goal.merge_term-requires
merge_term-requires c =
    let q = c.requires in
    let shown = subst (λ k. Shows q.flag c.args.s.now k q.current) c.in-Term.is q.shown in
    let one = term_stands _ _ _ q.flag q.current shown in
    record { how = note; one = one.0; other = q.later; one_there = one.1; other_there = q.there; enough = q.enough }

pub merge_wide-requires : goal.merge_wide-requires
merge_wide-requires c =
    let q = c.requires in
    let shown = subst (λ k. Shows q.flag c.args.s.now k q.current) c.in-Wide.is q.shown in
    let one = wide_stands _ _ q.flag q.current shown in
    record { how = note; one = one.0; other = q.later; one_there = one.1; other_there = q.there; enough = q.enough }

pub merge_power-requires : goal.merge_power-requires
merge_power-requires c =
    let q = c.requires in
    let shown = subst (λ k. Shows q.flag c.args.s.now k q.current) c.in-Power.is q.shown in
    let one = power_stands _ _ _ _ _ q.flag q.current shown in
    record { how = note; one = one.0; other = q.later; one_there = one.1; other_there = q.there; enough = q.enough }

pub returns-in-Term-clause-merged_is : goal.returns-in-Term-clause-merged_is
returns-in-Term-clause-merged_is c = λ b x t h there.
    of_term _ t c.merge_term.result _ _ (λ y k. c.merge_term.ensures.merged_is y t k there) b x (rw c.in-Term.is at h)

pub returns-in-Term-clause-place : goal.returns-in-Term-clause-place
returns-in-Term-clause-place c = λ p h. c.merge_term.ensures.place p (rw c.in-Term.is at h)

pub returns-in-Wide-clause-merged_is : goal.returns-in-Wide-clause-merged_is
returns-in-Wide-clause-merged_is c = λ b x t h there.
    of_wide _ t c.merge_wide.result _ (λ y k. c.merge_wide.ensures.merged_is y t k there) b x (rw c.in-Wide.is at h)

pub returns-in-Wide-clause-place : goal.returns-in-Wide-clause-place
returns-in-Wide-clause-place c = λ p h. c.merge_wide.ensures.place p

pub returns-in-Power-clause-merged_is : goal.returns-in-Power-clause-merged_is
returns-in-Power-clause-merged_is c = λ b x t h there.
    of_power _ t c.merge_power.result _ _ _ _ (λ y k. c.merge_power.ensures.merged_is y t k there) b x (rw c.in-Power.is at h)

pub returns-in-Power-clause-place : goal.returns-in-Power-clause-place
returns-in-Power-clause-place c = λ p h. c.merge_power.ensures.place p (rw c.in-Power.is at h)

pub returns-in-Number-clause-merged_is : goal.returns-in-Number-clause-merged_is
returns-in-Number-clause-merged_is c = λ b x t h there.
    of_number _ t c.merge_number.result _ _ _ _ (λ y k. c.merge_number.ensures.merged_is y t k there) b x (rw c.in-Number.is at h)

pub returns-in-Number-clause-place : goal.returns-in-Number-clause-place
returns-in-Number-clause-place c = λ p h. c.merge_number.ensures.place p
