-- what is added and what the members still to come add make the node's note
use Rattle.std.proofs.Common.{◌-◌, ◌≤◌}
use Rattle.paper.specs.Tree.{Tree}
use Rattle.paper.specs.Standing.{kind_number}
use Rattle.note.specs.Noted.{Unnoted}
use Rattle.note.proofs.AddingLaws.{Adding}
use Rattle.note.proofs.members_note.Given as goal

abbrev pub invariant-loop : goal.invariant-loop
invariant-loop l = (t : Tree) → Unnoted l.s l.i t → kind_number t ≤ 3 → Adding l.s l.i t l.at (l.end - l.counter) l.sum
