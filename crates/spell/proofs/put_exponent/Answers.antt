-- The sign, and the digits behind it.
use Rattle.spell.proofs.PutLaws.{exponent_put}
use Rattle.spell.proofs.put_exponent.Goals as goal

pub returns : goal.returns
returns c = exponent_put c.bits.ensures c.put_sign-b.ensures c.spell_number.ensures
