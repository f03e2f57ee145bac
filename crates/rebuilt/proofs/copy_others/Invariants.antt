-- For every product that stands there and has room: its others so far stand behind each other, those among the members left are still to
-- come (`Copying`).
use Rattle.std.proofs.Common.{ℕ, ◌+◌, ◌-◌, ◌*◌, ◌≤◌, length}
use Rattle.paper.specs.Tree.{Forest, product, of_list, recordses}
use Rattle.note.specs.Note.{note}
use Rattle.split.specs.Standing.{Told}
use Rattle.rebuilt.proofs.Without.{others, Copying}
use Rattle.rebuilt.proofs.copy_others.Given as goal

abbrev pub invariant-loop : goal.invariant-loop
invariant-loop l =
    (μ : ℕ) (f : Forest) → Told note l.s l.i (product μ f) → (l.m + recordses (of_list (others f))) * 16 ≤ length l.initial.out
    → Copying l.s l.initial.out l.m f l.out l.to l.at (l.end - l.counter)
