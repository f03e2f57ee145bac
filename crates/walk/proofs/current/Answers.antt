-- The member stands where its entry's start says (`entry_there`), with as many records as skipping it over tells, and its part there is what
-- was asked for.
use Rattle.std.proofs.Common.{◌≡◌, ℕ, ◌+◌, ◌-◌, ◌*◌, List, Bool, arith}
use Rattle.paper.specs.Tree.{Tree, records}
use Rattle.paper.specs.Bytes.{le2}
use Rattle.note.specs.Note.{note}
use Rattle.note.proofs.ToldLaws.{record_within, some_told}
use Rattle.split.specs.Standing.{Told}
use Rattle.part.specs.Part.{Sized}
use Rattle.walk.specs.Listed.{Entry}
use Rattle.walk.proofs.EntryLaws.{entry_there}
use Rattle.walk.proofs.current.Goals as goal

-- the member t of the entry, by its start and where it ends
member : {b : Bool} {s : List ℕ} {p i start next : ℕ} {t : Tree} → Entry b s p i t → start ≡ le2 s (i * 4)
    → ((u : Tree) → Told note s (p + start) u → next ≡ p + start + records u) → Sized s (p + start) (next - (p + start)) t
member {t = t} h e ends = let there = entry_there h _ e in record { there = there; size = omega (arith, ends t there) }

pub overflow_add-start : goal.overflow_add-start
overflow_add-start c = record { fits = omega (arith, record_within c.requires.1.there, c.read2.ensures.0) }

pub skip_tree-requires : goal.skip_tree-requires
skip_tree-requires c = some_told (entry_there c.requires.1 _ c.read2.ensures.0)

pub overflow_sub-skip_tree : goal.overflow_sub-skip_tree
overflow_sub-skip_tree c = omega (arith, c.skip_tree.ensures note c.requires.0 (entry_there c.requires.1 _ c.read2.ensures.0))

pub part_of-requires : goal.part_of-requires
part_of-requires c = (c.requires.0, member c.requires.1 c.read2.ensures.0 (c.skip_tree.ensures note))

pub returns-clause-shows : goal.returns-clause-shows
returns-clause-shows c = λ t h. c.part_of.ensures.shows t (member h c.read2.ensures.0 (c.skip_tree.ensures note))
