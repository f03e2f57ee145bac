-- The cycle of calls ends because the first table from the tree at hand on gets shorter: a tree's members stand behind its record, and a tree is
-- handed on, from where it stands, to the lower rank.
-- In match_members what is left to match says what all members do (`Matched`), and the ticks in use before are as they were; in take_equal none of
-- the trees passed over could be taken, and the ticks of all are as they were (`Looked`).
use Rattle.std.proofs.Common.{◌≡◌, ℕ, ◌+◌, ◌-◌, ◌*◌, ◌≤◌, ◌<◌, false, length}
use Rattle.paper.specs.Tree.{Tree, Forest}
use Rattle.note.specs.Plain.{parts_of}
use Rattle.split.specs.Standing.{Told, ToldTrees}
use Rattle.equal.specs.Matching.{Kept}
use Rattle.equal.proofs.TickLaws.{Looked}
use Rattle.equal.proofs.MatchLaws.{Matched}
use Rattle.equal.proofs.+match_members_take_equal.Given as goal

abbrev pub decreases-match_members : goal.decreases-match_members
decreases-match_members l = length l.a.now.now - 16 * l.w.now.place

abbrev pub decreases-take_equal : goal.decreases-take_equal
decreases-take_equal l = length l.a.now.now - 16 * l.w.now.place + 1

abbrev pub invariant-match_members-loop : goal.invariant-match_members-loop
invariant-match_members-loop l = record {
  used : l.w.used ≡ l.fn.w.used + l.n;
  ahead : l.i < l.w.place;
  kept : Kept l.fn.w.used l.fn.w.ticks.now l.w.ticks.now;
  matched : (how : Tree → ℕ) (t u : Tree) → Told how l.a.now l.i t → Told how l.b.now l.j u
      → Matched how l.a.now (l.i + 1) false l.fn.w.used l.initial.w.ticks.now l.w.ticks.now (parts_of t) (parts_of u) l.w.place (l.n - l.counter);
  same_reference : l.w.ticks.ghost_name ≡ l.fn.w.ticks.ghost_name;
}

abbrev pub invariant-take_equal-loop-k : goal.invariant-take_equal-loop-k
invariant-take_equal-loop-k l = record {
  place : l.w.place ≡ l.fn.w.place;
  used : l.w.used ≡ l.fn.w.used;
  from : l.fn.w.used - l.m ≤ l.k;
  up_to : l.k ≤ l.fn.w.used;
  as_long : length l.w.ticks.now ≡ length l.fn.w.ticks.now;
  looked : (how : Tree → ℕ) (t : Tree) (g : Forest) → Told how l.a.now l.fn.w.place t → ToldTrees how l.b.now l.j l.m g
      → Looked how t l.b.now (l.fn.w.used - l.m) l.fn.w.used l.fn.w.ticks.now l.w.ticks.now g l.c l.k;
  same_reference : l.w.ticks.ghost_name ≡ l.fn.w.ticks.ghost_name;
}

abbrev pub decreases-take_equal-loop-k : goal.decreases-take_equal-loop-k
decreases-take_equal-loop-k l = l.fn.w.used - l.k
