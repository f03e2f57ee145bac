-- One law a kind of character.
use Rattle.std.proofs.Common.{arith, subst, sym}
use Rattle.std.proofs.Common.{Some}
use Rattle.parse.specs.Parsed.{StepIs}
use Rattle.parse.proofs.SkimLaws.{opened, ends, closes_one, deeper, greatest}
use Rattle.parse.proofs.step.Goals as goal

pub returns-in-40 : goal.returns-in-40
returns-in-40 c = let a = c.args in opened a.c a.d a.k c.in-40.is c.requires.1

pub returns-in-41 : goal.returns-in-41
returns-in-41 c = let a = c.args in let h = c.in-41.is in ends a.c a.d a.k (λ e. omega (arith, e, h)) h c.if-d-lt1.true

pub returns-in-41-2 : goal.returns-in-41-2
returns-in-41-2 c = let a = c.args in let h = c.in-41.is in closes_one a.c a.d a.k (λ e. omega (arith, e, h)) h c.if-d-lt1.false c.requires.1

pub returns-in_default : goal.returns-in_default
returns-in_default c = let a = c.args in deeper a.c a.d a.k (λ e. omega (arith, e)) (λ e. omega (arith, e)) c.if-d-gt0.true c.requires.1

pub returns-in_default-2 : goal.returns-in_default-2
returns-in_default-2 c =
    let a = c.args in
    let r = c.sign_rank in
    subst (λ x. StepIs a.c a.d a.k (Some (a.d, x))) (sym c.max.ensures)
    (greatest a.c a.d a.k r.result (λ e. omega (arith, e)) (λ e. omega (arith, e)) c.if-d-gt0.false r.ensures.0 r.ensures.1 c.requires.1)
