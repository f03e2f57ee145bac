-- the first i numbers are written, and nothing else changed
use Rattle.std.proofs.Common.{◌≡◌}
use Rattle.number.proofs.EightsLaws.{up_to}
use Rattle.number.proofs.write_numbers.Given as goal

abbrev pub invariant-loop-i : goal.invariant-loop-i
invariant-loop-i l = l.answer ≡ up_to l.initial.answer l.numbers l.i
