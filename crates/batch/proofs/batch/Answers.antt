-- `batch::batch` meets its contract: refused it changes nothing, and else it leaves what was still to do at its beginning.
use Rattle.std.proofs.Common.{sym, ◌∙◌, arith}
use Rattle.std.proofs.lemmas.Result.{err_from_is_err_and}
use Rattle.paper_batch.specs.Batch.{untouched}
use Rattle.paper_batch.proofs.UnfitLaws.{refused_changes_nothing}
use Rattle.table.specs.Refusals.{number_of}
use Rattle.table.proofs.RefusalLaws.{some_number}
use Rattle.simplify.specs.Answer.{lent}
use Rattle.batch.proofs.FitLaws.{fits, carried_out_lem}
use Rattle.batch.proofs.batch.Goals as goal

pub returns-in_err-judge : goal.returns-in_err-judge
unfolding untouched
returns-in_err-judge c =
    let g = c.args in
    let p = err_from_is_err_and c.from_residual.result c.from_residual.ensures.1 in
    let r = c.in_err-judge.field-0.0 in
    rw (p.1, p.2)
    (sym
    (refused_changes_nothing g.limit g.edition g.tables.now g.lengths.now g.answers.now (lent g.out.now g.steps.now g.work.now)
    (number_of r) (sym c.in_err-judge.ensures) (λ e. omega (arith, some_number r, e))))

pub in_turn-requires : goal.in_turn-requires
in_turn-requires c = let g = c.args in fits g.tables.now g.lengths.now g.answers.now g.limit g.edition (sym c.in_ok-judge.ensures)

pub returns : goal.returns
returns c =
    let g = c.args in
    c.in_turn.ensures
    ∙ carried_out_lem g.tables.now g.lengths.now g.answers.now g.limit g.edition (sym c.in_ok-judge.ensures) (lent g.out.now g.steps.now g.work.now)
