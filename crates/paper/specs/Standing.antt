-- Bytes and trees that stand in a table from a record on: what code that reads trees from records asks for, and what its promises
-- speak of.
use Rattle.std.specs.Prelude.{ℕ, ◌+◌, ◌*◌, ◌≤◌, ◌<◌, ◌≡◌, List, ◌++◌, drop}
use Rattle.paper.specs.Tree.{Tree, Forest, integer, symbol, sum, product, power, count, records, recordses}
use Rattle.paper.specs.WellFormed.{WF, WFs}
use Rattle.paper.specs.Record.{count_in}
use Rattle.paper.specs.Table.{encode, encodes}

-- the bytes p stand in the table s from record i on
pub record Stands (s : List ℕ) (i : ℕ) (p : List ℕ) : Type 0 where
  pub after : List ℕ
  pub there : drop (i * 16) s ≡ p ++ after

-- the well-formed tree t stands at record i of the table s
pub record TreeIn (s : List ℕ) (i : ℕ) (t : Tree) : Type 0 where
  pub wf : WF t
  pub few : records t < 65536
  pub stands : Stands s i (encode t)

-- the n well-formed trees f stand one after the other from record i of the table s on
pub record TreesIn (s : List ℕ) (i n : ℕ) (f : Forest) : Type 0 where
  pub counted : count f ≡ n
  pub wf : WFs f
  pub few : recordses f < 65536
  pub stand : Stands s i (encodes f)

-- some tree stands at record i of the table s
pub record SomeTree (s : List ℕ) (i : ℕ) : Type 0 where
  pub tree : Tree
  pub there : TreeIn s i tree

-- some n trees stand from record i of the table s on
pub record SomeTrees (s : List ℕ) (i n : ℕ) : Type 0 where
  pub trees : Forest
  pub there : TreesIn s i n trees

-- the members f of a sum or a product stand behind its record i of the table s, which counts them
pub record SeenMembers (s : List ℕ) (i : ℕ) (f : Forest) : Type 0 where
  pub counted : count_in s i ≡ count f
  pub two : 2 ≤ count f
  pub wf : WFs f
  pub stand : Stands s (i + 1) (encodes f)

-- the kind of a tree's first record
unfoldable pub kind_number : Tree → ℕ
kind_number (integer μ z) = 0
kind_number (symbol μ s) = 1
kind_number (sum μ f) = 2
kind_number (product μ f) = 3
kind_number (power μ b ξ e) = 4
