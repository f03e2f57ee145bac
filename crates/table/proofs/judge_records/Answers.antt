-- `table::judge_records`: a look that finds all records whole decides all but the limit and the exponents, and where there is no power there is no
-- bad exponent; else the odd records are judged.
use mathlib.Core.Path.{sym, ap, ◌∙◌}
use native.Mathlib.Omega.{arith}
use Rattle.paper.specs.Record.{weight_from}
use Rattle.paper.specs.Verdict.{refused, table_weight}
use Rattle.record.proofs.FoundLaws.{found_at, not_found}
use Rattle.table.specs.declared.refusals.Refusal.TheVariants.{Heavy, Exponent}
use Rattle.table.proofs.BadLaws.{no_powers}
use Rattle.table.proofs.RefusalLaws.{says_number, says_refused}
use Rattle.table.proofs.JudgeLaws.{records_within, heavy, exponent, fine}
use Rattle.table.proofs.judge_records.Goals as goal

pub look-requires : goal.look-requires
look-requires c = (records_within c.args.s.now c.args.n c.requires.0, c.requires.1)

pub returns-then-limit-whole : goal.returns-then-limit-whole
returns-then-limit-whole c =
    let a = c.args in
    let k = c.in-Some.ensures in
    says_refused _ _ Heavy (sym (heavy a.limit a.s.now a.n (omega arith) c.in-Some.whole.weight k.2 c.if-limit-whole.true))

pub first_bad-requires : goal.first_bad-requires
first_bad-requires c = (records_within c.args.s.now c.args.n c.requires.0, c.requires.1, c.in-Some.ensures.1)

pub returns-in-Some-first_bad : goal.returns-in-Some-first_bad
returns-in-Some-first_bad c =
    let a = c.args in
    let k = c.in-Some.ensures in
    let bad = found_at a.n _ _ c.in-Some-first_bad.ensures in
    let told = exponent a.limit a.s.now a.n (omega arith) c.in-Some.whole.weight k.2 c.if-limit-whole.false k.1 bad.0 in
    says_refused _ _ (Exponent c.in-Some-first_bad.place) (ap (refused 5) bad.1 ∙ sym told)

pub returns-in_default-first_bad : goal.returns-in_default-first_bad
unfolding table_weight
returns-in_default-first_bad c =
    let a = c.args in
    let k = c.in-Some.ensures in
    let none = not_found a.n _ _ c.first_bad.ensures c.in_default-first_bad.not-Some in
    let told = fine a.limit a.s.now a.n (omega arith) c.in-Some.whole.weight k.2 c.if-limit-whole.false k.1 none in
    says_number _ _ _ told (k.2 ∙ ap (weight_from a.s.now 0) c.requires.0)

pub returns-else-whole : goal.returns-else-whole
unfolding table_weight
returns-else-whole c =
    let a = c.args in
    let k = c.in-Some.ensures in
    let none = no_powers a.s.now a.n 0 a.n (sym k.3 ∙ c.if-whole.false) in
    let told = fine a.limit a.s.now a.n (omega arith) c.in-Some.whole.weight k.2 c.if-limit-whole.false k.1 (omega (arith, none)) in
    says_number _ _ _ told (k.2 ∙ ap (weight_from a.s.now 0) c.requires.0)
