-- Each turn takes one digit more; `SoFar` says what is read from `at` on.
use Rattle.std.proofs.Common.{◌-◌, length}
use Rattle.decimal.proofs.ReadLaws.{Sound, SoFar}
use Rattle.decimal.proofs.read_number.Given as goal

abbrev pub invariant-loop-at : goal.invariant-loop-at
invariant-loop-at l = record { sound : Sound l.text l.at; so_far : SoFar l.text l.at l.v l.e }

abbrev pub decreases-loop-at : goal.decreases-loop-at
decreases-loop-at l = length l.text - l.e
