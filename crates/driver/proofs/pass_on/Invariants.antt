-- `driver::pass_on`: before each turn the driver is midway, on every call on which it was. Each new beginning has noted a step, so the steps left to note
-- are the measure.
use Prim.Native.Nat.{◌-◌}
use lib.ListN.{length}
use Rattle.driver.specs.Paused.{Onward, Call, Midway}
use Rattle.driver.proofs.pass_on.Given as goal

abbrev pub invariant-loop-k : goal.invariant-loop-k
invariant-loop-k l =
    record {
      onward : Onward l.fn.from l.s;
      midway : (c : Call) → Midway c l.fn.out l.fn.work l.fn.steps l.fn.from → Midway c l.out l.work l.steps l.s;
    }

abbrev pub decreases-loop-k : goal.decreases-loop-k
decreases-loop-k l = length l.steps - l.s.noted
