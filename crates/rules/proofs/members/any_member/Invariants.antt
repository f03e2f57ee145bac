-- `rules::members::any_member`: some members are left, and one of all is the integer exactly where one of those left is (Finding).
use Prim.Native.Nat.{◌-◌}
use Rattle.paper.specs.Tree.{Forest}
use Rattle.rules.specs.Tried.{MembersIn}
use Rattle.rules.proofs.Finding.{Left}
use Rattle.rules.proofs.members.any_member.Given as goal

abbrev pub invariant-loop : goal.invariant-loop
invariant-loop l = (f : Forest) → MembersIn l.s l.p f → Left l.s l.z f l.at (l.end - l.counter)
