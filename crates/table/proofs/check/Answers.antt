-- `table::check`: the verdict that is in the answer of `weight`.
use Rattle.std.proofs.lemmas.Result.{err_from_is_err_and}
use Rattle.std.specs.Prelude.{Ok, Err}
use Rattle.paper.specs.Answers.{weighed}
use Rattle.table.proofs.RefusalLaws.{says_verdict}
use Rattle.table.proofs.check.Goals as goal

pub returns-in_err-weight : goal.returns-in_err-weight
unfolding weighed
returns-in_err-weight c =
    let p = err_from_is_err_and c.from_residual.result c.from_residual.ensures.1 in
    rw (p.1, p.2) (says_verdict _ _ (Err c.in_err-weight.field-0.0) c.in_err-weight.ensures)

pub returns : goal.returns
unfolding weighed
returns c = says_verdict _ _ (Ok c.in_ok-weight.field-0) c.in_ok-weight.ensures
