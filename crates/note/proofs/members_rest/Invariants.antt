-- what was counted, kept and added up is that of the members passed
use Rattle.std.proofs.Common.{ℕ, ◌-◌, ◌≤◌}
use Rattle.paper.specs.Tree.{Forest, product}
use Rattle.note.specs.Noted.{Known}
use Rattle.note.proofs.RestingLaws.{Resting}
use Rattle.note.proofs.members_rest.Given as goal

abbrev pub invariant-loop : goal.invariant-loop
invariant-loop l = record {
  few : l.kept ≤ l.counter;
  resting : (μ : ℕ) (f : Forest) → Known l.s l.i 3 l.n (product μ f) → Resting l.s μ f l.at (l.end - l.counter) l.kept l.last l.out;
}
