-- A character is looked at where there is one.
use Rattle.std.proofs.Common.{refl}
use Rattle.parse.proofs.SignLaws.{sign_shown}
use Rattle.parse.proofs.sign_at.Goals as goal

pub returns : goal.returns
returns c = sign_shown c.args.text.now c.args.at c.args.c c.get.result _ c.eq.result c.get.ensures.lookup c.eq.ensures refl
