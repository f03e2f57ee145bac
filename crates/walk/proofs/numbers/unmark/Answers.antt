-- The flag held an entry before entry k: that one's bit is taken.
use Rattle.std.proofs.Common.{refl, arith}
use Rattle.walk.proofs.NumbersLaws.{unmarked_one}
use Rattle.walk.proofs.numbers.unmark.Goals as goal

pub returns-then-x-k : goal.returns-then-x-k
returns-then-x-k c = unmarked_one _ _ _ _ (omega arith) (omega arith) c.requires refl
