-- From 2^63 on the 64 bits stand for a negative integer, whose digits are those of what is left to 2^64.
use Rattle.std.proofs.Common.{rules, arith}
use Rattle.spell.proofs.PutLaws.{from_nought, below_nought}
use Rattle.spell.proofs.put_integer.Goals as goal

pub returns-then-v-lt-NEGATIVE : goal.returns-then-v-lt-NEGATIVE
returns-then-v-lt-NEGATIVE c = from_nought (omega arith) c.spell_number.ensures

pub returns : goal.returns
returns c = below_nought (omega arith) (search rules) (omega (arith, c.wrapping_neg.ensures)) c.put_sign-e.ensures c.spell_number-2.ensures
