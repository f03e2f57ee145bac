-- `table::first_flawed`: a record where a flaw is found is the first that has one, and one where none is found is passed.
use mathlib.Core.Path.{◌∙◌}
use Rattle.table.proofs.JudgeLaws.{flaw_found, flaw_passed, no_flaw}
use Rattle.table.proofs.first_flawed.Goals as goal

pub returns-in-Some : goal.returns-in-Some
returns-in-Some c =
    flaw_found c.args.s.now c.args.n c.loop-place.place c.in-Some.flaw c.loop-place-test.true c.in-Some.ensures c.loop-place.invariant

pub loop-place-preserved : goal.loop-place-preserved
loop-place-preserved c =
    c.loop-place.invariant ∙ flaw_passed c.args.s.now c.args.n c.loop-place.place c.loop-place-test.true _ c.judge_record.ensures c.in_default.not-Some

pub returns : goal.returns
returns c = no_flaw c.args.s.now c.args.n c.loop-place.place c.loop-place-test.false c.loop-place.invariant
