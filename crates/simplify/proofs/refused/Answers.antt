-- `simplify::refused` meets its contract: field by field.
use Rattle.std.proofs.Common.{refl}
use Rattle.paper.specs.Answers.{refused_by}
use Rattle.simplify.proofs.refused.Goals as goal

pub returns : goal.returns
unfolding refused_by
returns c = rw (c.number.ensures, c.place.ensures, c.flaw.ensures) refl
