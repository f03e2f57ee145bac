-- The digits that stand in the array, with those of the number that is left, are the digits of the whole.
use Rattle.decimal.proofs.SpellLaws.{Spelling}
use Rattle.decimal.proofs.spell_number.Given as goal

abbrev pub invariant-loop-w : goal.invariant-loop-w
invariant-loop-w l = Spelling l.v l.b l.i l.w

abbrev pub decreases-loop-w : goal.decreases-loop-w
decreases-loop-w l = l.i
