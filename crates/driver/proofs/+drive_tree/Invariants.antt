-- `driver::drive_tree`, which calls itself: what is pending in a call weighs less than what was pending before, for a member weighs less than the tree; so
-- the calls end. The loop keeps that the driver waits for a member or is at its end; a member that is driven takes a try, so the tries tell that the
-- loop ends.
use Prim.Native.Nat.{◌-◌, ◌*◌, ◌^◌}
use mathlib.Core.Path.{◌≡◌}
use lib.ListN.{drop}
use Rattle.paper.specs.Verdict.{table_weight}
use Rattle.driver.proofs.Levels.{Level}
use Rattle.driver.proofs.+drive_tree.Given as goal

abbrev pub decreases-drive_tree : goal.decreases-drive_tree
decreases-drive_tree l = table_weight (drop (l.w.now.stand.place * 16) l.w.now.work.now)

abbrev pub invariant-loop-w : goal.invariant-loop-w
invariant-loop-w l =
    record {
      level : Level l.fn.w.out.now l.fn.w.work.now l.fn.w.steps.now l.fn.w.stand l.w.out.now l.w.work.now l.w.steps.now l.w.stand;
      end_is : l.end ≡ l.w.stand.end;
      same_references : (l.w.out.ghost_name ≡ l.fn.w.out.ghost_name) × (l.w.work.ghost_name ≡ l.fn.w.work.ghost_name)
          × (l.w.steps.ghost_name ≡ l.fn.w.steps.ghost_name);
    }

abbrev pub decreases-loop-w : goal.decreases-loop-w
decreases-loop-w l = 2 ^ 63 - l.w.stand.tries
