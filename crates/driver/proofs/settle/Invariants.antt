-- `driver::settle`: steps came from the tree that stood there to the one that stands there now (Stepping). The steps left to note are the measure.
use Prim.Native.Nat.{◌-◌}
use lib.ListN.{length}
use Rattle.driver.proofs.Stepping.{CInv}
use Rattle.driver.proofs.settle.Given as goal

abbrev pub invariant-loop-d : goal.invariant-loop-d
invariant-loop-d l = CInv l.edition l.fn.out l.fn.work l.fn.steps l.d l.p l.s l.out l.work l.steps l.at l.noted

abbrev pub decreases-loop-d : goal.decreases-loop-d
decreases-loop-d l = length l.steps - l.noted
