-- Keys kept in scratch, 8 bytes each, and behind n places for them 32 flags a place, of which each key has two: a flag that is still zero
-- says of every key that has it that it was not kept.
use Rattle.std.specs.Prelude.{ℕ, ◌+◌, ◌*◌, ◌/◌, ◌%◌, ◌≤◌, ◌<◌, ◌≡◌, true, List, length, get_or, set, take, drop}
use Rattle.paper.specs.Bytes.{le8, bytes}
use Rattle.paper.specs.Tree.{Tree, weight}
use Rattle.paper.specs.Standing.{kind_number}
use Rattle.stretch.specs.Put.{put}
use Rattle.note.specs.Note.{keys, note}
use Rattle.still.specs.Still.{among}
use Rattle.note.specs.Noted.{TreeBy}

-- which of the 32 n flags a key has by a factor x: by the key's upper half times x. The code takes a factor that the node's own key
-- names, so that keys which share flags in one node have flags far apart in another
unfoldable pub flag_of : ℕ → ℕ → ℕ → ℕ
flag_of n x k = k / keys * x % keys * (32 * n) / keys

-- the factor of the second flag
unfoldable pub turned : ℕ → ℕ
turned x = x * 0x85ebca6b % keys

-- the places of the two flags of k, the keys standing from byte o on
abbrev pub first_flag : (o n x k : ℕ) → ℕ
first_flag o n x k = o + n * 8 + flag_of n x k

abbrev pub second_flag : (o n x k : ℕ) → ℕ
second_flag o n x k = o + n * 8 + flag_of n (turned x) k

-- the keys ks are kept in d from byte o on, where there are n places
pub record Kept (d : List ℕ) (o n x : ℕ) (ks : List ℕ) : Type 0 where
  pub keys_there : (j : ℕ) → j < length ks → le8 d (o + j * 8) ≡ get_or ks j 0
  pub flagged : (k : ℕ) → among k ks ≡ true → (get_or d (first_flag o n x k) 0 ≡ 1) × (get_or d (second_flag o n x k) 0 ≡ 1)

-- m keys are kept, wherever their flags are
pub record KeysIn (d : List ℕ) (o m : ℕ) (ks : List ℕ) : Type 0 where
  pub keys_there : (j : ℕ) → j < length ks → le8 d (o + j * 8) ≡ get_or ks j 0
  pub many : length ks ≡ m
  pub few : m < 65536
  pub room : o + m * 8 ≤ length d

-- m keys are kept, fewer than there are places, and there is room
pub record KeptIn (d : List ℕ) (o n x m : ℕ) (ks : List ℕ) : Type 0 where
  pub kept : Kept d o n x ks
  pub factor : x < keys
  pub many : length ks ≡ m
  pub place : m < n
  pub few : n < 65536
  pub room : o + n * 40 ≤ length d

-- d with one key more
unfoldable pub keeping : List ℕ → (o n x m k : ℕ) → List ℕ
keeping d o n x m k = put (set (set d (first_flag o n x k) 1) (second_flag o n x k) 1) (o + m * 8) (bytes 8 k)

-- scratch in n bytes of d from byte o on: the bytes before them and past them are as they were
pub record Scratched (d e : List ℕ) (o n : ℕ) : Type 0 where
  pub long : length e ≡ length d
  pub before : take o e ≡ take o d
  pub past : drop (o + n) e ≡ drop (o + n) d

-- the noted tree t of kind k stands at record i of s, and d has scratch for it from byte o on
pub record Testable (s : List ℕ) (i k : ℕ) (d : List ℕ) (o : ℕ) (t : Tree) : Type 0 where
  pub there : TreeBy note s i t
  pub kind_known : k ≡ kind_number t
  pub scratch : o + 16 * weight t ≤ length d
