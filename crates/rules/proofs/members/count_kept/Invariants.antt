-- `rules::members::count_kept`: those kept among the members met, and those among the members left, are all that are kept, and the last of all, kept or
-- dropped, is the last of those left, or else the last that was met (Counting).
use Prim.Native.Nat.{◌-◌, ◌≤◌}
use Rattle.paper.specs.Tree.{Forest}
use Rattle.rules.specs.Tried.{MembersIn}
use Rattle.rules.proofs.Counting.{Counting}
use Rattle.rules.proofs.members.count_kept.Given as goal

abbrev pub invariant-loop : goal.invariant-loop
invariant-loop l =
    record {
      few : l.kept.many ≤ l.counter;
      counting : (f : Forest) → MembersIn l.s l.p f
          → Counting l.s l.p l.z f l.kept.end (l.end - l.counter) l.kept.many l.kept.last l.kept.dropped;
    }
