-- `still::still` meets its contract, by the kind of the record; scratch is written at a sum or a product alone.
use Rattle.std.proofs.Common.{◌≡◌, sym, ap, ◌∙◌, arith}
use borrow.Author.Tests.{ne_eqb}
use Rattle.paper.specs.Record.{kind}
use Rattle.paper.specs.Standing.{kind_number}
use Rattle.record.proofs.KindLaws.{leaf_low}
use Rattle.still.specs.Still.{still_by}
use Rattle.note.proofs.NotedLaws.{kind_lt}
use Rattle.note.proofs.ToldLaws.{noted_told, record_within, kind_number_lem}
use Rattle.still.proofs.SoughtLaws.{leaf_still, power_still}
use Rattle.still.proofs.still.Goals as goal

pub at-requires : goal.at-requires
at-requires c = record_within (noted_told c.requires.1)

pub still_power-requires : goal.still_power-requires
still_power-requires c =
    let some = c.requires in
    (some.0, some.1, omega (arith, c.in-Power.ensures.all, kind_number_lem (noted_told some.1), kind_lt some.0))

pub still_members-requires-clause-testable : goal.still_members-requires-clause-testable
still_members-requires-clause-testable c =
    let some = c.requires in
    let n = c.number.ensures ∙ c.at.ensures.all in
    let k : c.number.result ≡ kind_number some.0 = omega (arith, n, kind_number_lem (noted_told some.1), kind_lt some.0) in
    (some.0, record { there = some.1; kind_known = k; scratch = some.2 })

pub returns-in-Integer-clause-value : goal.returns-in-Integer-clause-value
returns-in-Integer-clause-value c = λ t q.
    leaf_still _ t
    (omega (arith, leaf_low _ (kind c.args.s.now c.args.i) c.at.ensures.all c.in-Integer.is, kind_number_lem (noted_told q)))

pub returns-then-edition-ne-EDITION_TWO-clause-value : goal.returns-then-edition-ne-EDITION_TWO-clause-value
returns-then-edition-ne-EDITION_TWO-clause-value c = λ t q.
    rw (ne_eqb c.args.edition 2 c.if-edition-ne-EDITION_TWO.true)
    (power_still _ t (omega (arith, c.in-Power.ensures.all, kind_number_lem (noted_told q))) c.if-edition-ne-EDITION_TWO.true)

pub returns-else-edition-ne-EDITION_TWO-clause-value : goal.returns-else-edition-ne-EDITION_TWO-clause-value
returns-else-edition-ne-EDITION_TWO-clause-value c = λ t q.
    let four : kind_number t ≡ 4 = omega (arith, c.in-Power.ensures.all, kind_number_lem (noted_told q), kind_lt t) in
    c.still_power.ensures t q four ∙ ap (λ n. still_by n t) (sym c.if-edition-ne-EDITION_TWO.false)

pub returns-in_default-clause-value : goal.returns-in_default-clause-value
returns-in_default-clause-value c = λ t q.
    let n = c.number.ensures ∙ c.at.ensures.all in
    c.still_members.ensures.value t _ q (omega (arith, n, kind_number_lem (noted_told q), kind_lt t))
