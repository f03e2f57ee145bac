-- One law a kind of character.
use Rattle.std.proofs.Common.{arith}
use Rattle.parse.proofs.WeighLaws.{dives, one_out, as_deep}
use Rattle.parse.proofs.dive.Goals as goal

pub returns-in-40 : goal.returns-in-40
returns-in-40 c = dives c.args.c c.args.left c.checked_sub.result c.in-40.is c.checked_sub.ensures

pub returns-in-41 : goal.returns-in-41
returns-in-41 c = let h = c.in-41.is in one_out c.args.c c.args.left (λ e. omega (arith, e, h)) h

pub returns-in_default : goal.returns-in_default
returns-in_default c = as_deep c.args.c c.args.left (λ e. omega (arith, e)) (λ e. omega (arith, e))
