-- What the test answered of each slot, p says of it.
use Rattle.std.proofs.Common.{true, false, arith}
use Rattle.settings.proofs.first_slot.Goals as goal

pub returns-then-passes : goal.returns-then-passes
returns-then-passes g c = λ p same. (
  c.loop-i-test.true,
  same c.loop-i.i true c.loop-i-test.true c.if-passes.ensures,
  λ k l. same k false (omega arith) (c.loop-i.invariant k l),
)

pub returns : goal.returns
returns g c = λ p same k l. same k false l (c.loop-i.invariant k (omega arith))
