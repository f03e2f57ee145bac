-- acc times base to the left is b to the e, modulo 2^64, at every turn
use Rattle.std.proofs.Common.{◌≡◌, ◌*◌, ◌%◌, ◌^◌, ◌<◌}
use Rattle.number.proofs.wrapping_pow.Given as goal

abbrev pub invariant-loop-left : goal.invariant-loop-left
invariant-loop-left l = (l.acc < 2 ^ 64) × ((l.acc * l.base ^ l.left) % 2 ^ 64 ≡ (l.b ^ l.e) % 2 ^ 64)

abbrev pub decreases-loop-left : goal.decreases-loop-left
decreases-loop-left l = l.left
