-- Trees that stand in a table, their nodes told of by any h that suits a reader: what code that reads trees asks for, and what its
-- promises speak of. Plain records are told of by 0, those of a run by the nodes' notes (proofs/ToldLaws).
use Rattle.std.specs.Prelude.{◌≡◌, ℕ, ◌+◌, ◌%◌, ◌<◌, ◌≤◌, true, ◌⊎◌, List}
use Rattle.paper.specs.Limits.{modulus}
use Rattle.paper.specs.Tree.{Tree, Forest, count, records, recordses}
use Rattle.paper.specs.WellFormed.{WF, WFs}
use Rattle.paper.specs.Record.{count_in}
use Rattle.paper.specs.Equal.{equal}
use Rattle.paper.specs.Standing.{Stands}
use Rattle.note.specs.Noted.{encode_by, encodes_by}

-- what h says of a node: 64 bits, of which the lowest 16 are 0 or its number of records; and of equal trees it says the same
pub record Telling (h : Tree → ℕ) : Type 0 where
  pub bound : (t : Tree) → h t < modulus
  pub size : (t : Tree) → records t < 65536 → (h t % 65536 ≡ 0) ⊎ (h t % 65536 ≡ records t)
  pub alike : (t u : Tree) → equal t u ≡ true → h t ≡ h u

-- the well-formed tree t stands at record i of the table s, its nodes told of by h
pub record Told (h : Tree → ℕ) (s : List ℕ) (i : ℕ) (t : Tree) : Type 0 where
  pub tells : Telling h
  pub wf : WF t
  pub few : records t < 65536
  pub stands : Stands s i (encode_by h t)

-- the n well-formed trees f stand one after the other from record i of the table s on
pub record ToldTrees (h : Tree → ℕ) (s : List ℕ) (i n : ℕ) (f : Forest) : Type 0 where
  pub tells : Telling h
  pub counted : count f ≡ n
  pub wf : WFs f
  pub few : recordses f < 65536
  pub stand : Stands s i (encodes_by h f)

-- some tree stands at record i of the table s
pub record SomeTold (s : List ℕ) (i : ℕ) : Type 0 where
  pub how : Tree → ℕ
  pub tree : Tree
  pub there : Told how s i tree

-- the members f of a sum or a product stand behind its record i of the table s, which counts them
pub record ToldMembers (h : Tree → ℕ) (s : List ℕ) (i : ℕ) (f : Forest) : Type 0 where
  pub counted : count_in s i ≡ count f
  pub two : 2 ≤ count f
  pub wf : WFs f
  pub stand : Stands s (i + 1) (encodes_by h f)
