-- `simplify::judge_call` meets its contract: the two tests are those of the definition.
use Rattle.std.proofs.Common.{refl, sym}
use Rattle.simplify.specs.Answer.{call_number}
use Rattle.simplify.proofs.judge_call.Goals as goal

pub returns-then-not-is_limit : goal.returns-then-not-is_limit
unfolding call_number
returns-then-not-is_limit c = rw (sym c.if-not-is_limit.ensures) refl

pub returns-then-not-is_edition : goal.returns-then-not-is_edition
unfolding call_number
returns-then-not-is_edition c = rw (sym c.if-not-is_limit.ensures, sym c.if-not-is_edition.ensures) refl

pub returns : goal.returns
unfolding call_number
returns c = rw (sym c.if-not-is_limit.ensures, sym c.if-not-is_edition.ensures) refl
