-- `driver::go_on`: by what it calls.
use Rattle.std.proofs.lemmas.Result.{err_from_is_err_and}
use Rattle.driver.proofs.go_on.Goals as goal

pub returns-in_err-begun-clause-went : goal.returns-in_err-begun-clause-went
returns-in_err-begun-clause-went c =
    let left = err_from_is_err_and c.from_residual.result c.from_residual.ensures.1 in
    λ x v. rw (left.1, left.2) (c.in_err-begun.ensures.begun x v)

pub returns-in_err-w-clause-went : goal.returns-in_err-w-clause-went
returns-in_err-w-clause-went c =
    let left = err_from_is_err_and c.from_residual-in_err-w.result c.from_residual-in_err-w.ensures.1 in
    λ x v. rw (left.1, left.2) (c.in_err-w.ensures.went x (c.in_ok-begun.ensures.begun x v))
