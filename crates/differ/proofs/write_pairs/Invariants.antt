-- The pairs behind the walk stand at the front of the list, which is else as it was, where there is room for all; the others are ahead. The
-- measure is what is left of the first table's records.
use Rattle.std.proofs.Common.{◌≡◌, ℕ, ◌-◌, ◌*◌, ◌/◌, ◌≤◌, List, length}
use Rattle.paper_differ.specs.Differ.{differences_of}
use Rattle.differ.proofs.WalkedLaws.{Walked}
use Rattle.differ.proofs.ListLaws.{written}
use Rattle.differ.proofs.write_pairs.Given as goal

abbrev pub invariant-loop-i : goal.invariant-loop-i
invariant-loop-i l =
    (done : List (ℕ × ℕ)) × Walked l.a l.b l.i l.j l.pairs done
    × (16 * length (differences_of l.a l.b) ≤ length l.fn.list → l.list ≡ written l.fn.list done)

abbrev pub decreases-loop-i : goal.decreases-loop-i
decreases-loop-i l = length l.a / 16 - l.i
