-- The measures of `spell::tree_at`, `member_at` and `joined_at`, which call each other, and what the loop keeps. They end because the records left
-- fall: a node's members begin behind it. The loop stands behind the first member; what is put, with the signs and members left, is the text of all.
use Rattle.std.proofs.Common.{◌≡◌, ◌+◌, ◌-◌, ◌*◌}
use Rattle.paper.specs.Verdict.{records_in}
use Rattle.spell.specs.Ranks.{number_of}
use Rattle.spell.proofs.MemberLaws.{Joining}
use Rattle.spell.proofs.+joined_at_member_at_tree_at.Given as goal

abbrev pub decreases-joined_at : goal.decreases-joined_at
decreases-joined_at l = 3 * (records_in l.s.now.now - l.w.now.next) + 2

abbrev pub decreases-member_at : goal.decreases-member_at
decreases-member_at l = 3 * (records_in l.s.now.now - l.w.now.next) + 1

abbrev pub decreases-tree_at : goal.decreases-tree_at
decreases-tree_at l = 3 * (records_in l.s.now.now - l.w.now.next)

abbrev pub invariant-joined_at-loop : goal.invariant-joined_at-loop
invariant-joined_at-loop l = record {
  joining :
      Joining (number_of l.least) l.sign l.s.now l.initial.w.next (l.n - 1) l.initial.w.out.now l.initial.w.end l.w.next (l.n - l.counter) l.w.out.now
      l.w.end;
  name : l.w.out.ghost_name ≡ l.initial.w.out.ghost_name;
}
