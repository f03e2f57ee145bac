-- The later coefficient is in range, and the sum is made and judged; or it is not, and neither is the sum. Each return is the law of its case.
use Rattle.std.proofs.Common.{true, sym}
use Rattle.paper.specs.Rules.{term_of}
use Rattle.note.specs.Note.{note}
use Rattle.part.proofs.PartLaws.{coefficient_is, coefficient_out, later_over, term_into, term_over, error_says}
use Rattle.part.proofs.add_term.Goals as goal

pub returns-clause-merged_is : goal.returns-clause-merged_is
returns-clause-merged_is c = λ x t h there e.
    let m = coefficient_is t there.wf (c.in_ok-m.ensures note t there) in
    term_into x t e h c.in_ok-m.m m.0 m.2 (sym c.in_ok-sum.ensures)

pub returns-in_err-sum-clause-merged_is : goal.returns-in_err-sum-clause-merged_is
returns-in_err-sum-clause-merged_is c = λ x t h there e.
    let m = coefficient_is t there.wf (c.in_ok-m.ensures note t there) in
    error_says true c.args.s.now x (term_of t) _ c.from_residual-in_err-sum.ensures.0 (term_over x t e h c.in_ok-m.m m.0 m.2 (sym c.in_err-sum.ensures))

pub returns-in_err-m-clause-merged_is : goal.returns-in_err-m-clause-merged_is
returns-in_err-m-clause-merged_is c = λ x t h there e.
    error_says true c.args.s.now x (term_of t) _ c.from_residual.ensures.0
    (later_over x t e h.good (coefficient_out t (c.in_err-m.ensures note t there)))
