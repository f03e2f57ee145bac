-- Records of trees whose nodes hold a number in their bytes 8-15: h says which. With 0 for every node they are the paper's records;
-- in a run they hold the nodes' notes.
use Rattle.std.specs.Prelude.{◌≡◌, ℕ, ◌<◌, ◌≤◌, List, [], ◌++◌, pos}
use Rattle.paper.specs.Bytes.{word}
use Rattle.paper.specs.Tree.{Tree, Forest, integer, symbol, sum, product, power, nil, cons, count, mark_of, records, weight, weights}
use Rattle.paper.specs.WellFormed.{WF, WFs}
use Rattle.paper.specs.Table.{record_of}
use Rattle.paper.specs.Standing.{Stands, kind_number}
use Rattle.note.specs.Note.{note}

module _ (h : Tree → ℕ) where
  unfoldable mutual
    pub encode_by : Tree → List ℕ
    encode_by (integer μ z) = record_of 0 0 μ (word z)
    encode_by (symbol μ s) = record_of 1 0 μ s
    encode_by (sum μ f) = record_of 2 (count f) μ (h (sum μ f)) ++ encodes_by f
    encode_by (product μ f) = record_of 3 (count f) μ (h (product μ f)) ++ encodes_by f
    encode_by (power μ b ξ e) = record_of 4 0 μ (h (power μ b ξ e)) ++ (encode_by b ++ record_of 0 0 ξ e)

    pub encodes_by : Forest → List ℕ
    encodes_by nil = []
    encodes_by (cons t f) = encode_by t ++ encodes_by f

-- the number of members that a tree's record gives
unfoldable pub count_of : Tree → ℕ
count_of (integer μ z) = 0
count_of (symbol μ s) = 0
count_of (sum μ f) = count f
count_of (product μ f) = count f
count_of (power μ b ξ e) = 0

-- the trees behind a tree's record: its members, a power's exponent among them
unfoldable pub inner : Tree → Forest
inner (integer μ z) = nil
inner (symbol μ s) = nil
inner (sum μ f) = f
inner (product μ f) = f
inner (power μ b ξ e) = cons b (cons (integer ξ (pos e)) nil)

-- the number in bytes 8-15 of a tree's record
unfoldable pub bits_by : (Tree → ℕ) → Tree → ℕ
bits_by h (integer μ z) = word z
bits_by h (symbol μ s) = s
bits_by h (sum μ f) = h (sum μ f)
bits_by h (product μ f) = h (product μ f)
bits_by h (power μ b ξ e) = h (power μ b ξ e)

-- the well-formed tree t stands at record i of the table s, its nodes told of by h
pub record TreeBy (h : Tree → ℕ) (s : List ℕ) (i : ℕ) (t : Tree) : Type 0 where
  pub wf : WF t
  pub light : weight t < 65536
  pub stands : Stands s i (encode_by h t)

-- the n well-formed trees f stand one after the other from record i of the table s on
pub record TreesBy (h : Tree → ℕ) (s : List ℕ) (i n : ℕ) (f : Forest) : Type 0 where
  pub counted : count f ≡ n
  pub wf : WFs f
  pub light : weights f < 65536
  pub stand : Stands s i (encodes_by h f)

-- the node t stands at record i of the table s, its members noted, but not itself
pub record Unnoted (s : List ℕ) (i : ℕ) (t : Tree) : Type 0 where
  pub wf : WF t
  pub light : weight t < 65536
  pub node : 2 ≤ kind_number t
  pub old : ℕ
  pub stands : Stands s i (record_of (kind_number t) (count_of t) (mark_of t) old ++ encodes_by note (inner t))

-- the tree t of n records stands at record i of the table s
pub record Whole (h : Tree → ℕ) (s : List ℕ) (i n : ℕ) (t : Tree) : Type 0 where
  pub there : TreeBy h s i t
  pub size : n ≡ records t

-- the noted tree t stands at record i of the table s, its kind is k and its note n
pub record Known (s : List ℕ) (i k n : ℕ) (t : Tree) : Type 0 where
  pub there : TreeBy note s i t
  pub kind_known : k ≡ kind_number t
  pub note_known : n ≡ note t
