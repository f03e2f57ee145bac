-- The members' places in `work`: four bytes a member at the front of `work`, its first record counted from the node's own record p, and
-- 15 bits of the key of its part, below a bit that may be set. Its number of records is in its note.
use Rattle.std.specs.Prelude.{◌≡◌, ℕ, ◌+◌, ◌*◌, ◌/◌, ◌%◌, ◌<◌, ◌≤◌, Bool, List, [], ◌∷◌, ◌++◌, length, drop}
use Rattle.paper.specs.Bytes.{bytes, le2}
use Rattle.paper.specs.Tree.{Tree, Forest, weights, to_list}
use Rattle.paper.specs.Record.{count_in}
use Rattle.note.specs.Note.{note}
use Rattle.note.specs.Part.{part_key}
use Rattle.split.specs.Standing.{Told, ToldTrees}

-- 15 bits of a key, from its upper half: the lower one is a number of records and a weight
unfoldable pub short_key : ℕ → ℕ
short_key key = key / 4294967296 % 32768

-- the four bytes of an entry
unfoldable pub entry_of : ℕ → ℕ → List ℕ
entry_of start key = bytes 2 start ++ bytes 2 key

-- the 15 bits of entry k
abbrev pub bits_of : List ℕ → ℕ → ℕ
bits_of w k = le2 w (k * 4 + 2) % 32768

-- entry k is that of the tree t
pub record Entry (b : Bool) (w : List ℕ) (p k : ℕ) (t : Tree) : Type 0 where
  pub there : Told note w (p + le2 w (k * 4)) t
  pub key : bits_of w k ≡ short_key (part_key b t)

-- the entries from k on are those of the trees l
abbrev pub Entries : Bool → List ℕ → ℕ → ℕ → List Tree → Type 0
Entries b w p k [] = Unit {0}
Entries b w p k (t ∷ l) = Entry b w p k t × Entries b w p (k + 1) l

-- the n entries are those of the trees l, and lie before record p
pub record Listed (b : Bool) (w : List ℕ) (p n : ℕ) (l : List Tree) : Type 0 where
  pub entries : Entries b w p 0 l
  pub many : length l ≡ n
  pub low : n * 4 ≤ p * 16
  pub within : p * 16 ≤ length w

-- the members f of the node at record p, which have notes, with room for their entries before it
pub record Listable (w : List ℕ) (p : ℕ) (f : Forest) : Type 0 where
  pub stand : ToldTrees note w (p + 1) (count_in w p) f
  pub light : weights f < 65536
  pub low : count_in w p * 4 ≤ p * 16
  pub within : (p + 1) * 16 ≤ length w

-- the entries are those of the members, and what stands from record p on is as it was
pub record ListedIs (b : Bool) (w w' : List ℕ) (p : ℕ) (f : Forest) : Type 0 where
  pub listed : Listed b w' p (count_in w p) (to_list f)
  pub pending : drop (p * 16) w' ≡ drop (p * 16) w
