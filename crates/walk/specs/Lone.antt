-- Members that are alone with their keys. An entry's two bytes of key are 15 bits of it and, highest, the bit "lone". The n entries are counted at 16 n
-- flags, bytes from place a of `out` on, each at the flag that its 15 bits name; where a flag counts one entry alone, no other entry has its 15 bits.
use Rattle.std.specs.Prelude.{◌≡◌, ℕ, zero, suc, ◌+◌, ◌*◌, ◌/◌, ◌%◌, ◌<◌, ◌≤◌, Bool, true, false, ◌&&◌, List, replicate, nat_lt, slice_index, slice_set}
use Rattle.stretch.specs.Put.{put}
use Rattle.walk.specs.Listed.{bits_of}

-- the flag of entry k among those of n entries
unfoldable pub entry_flag : List ℕ → ℕ → ℕ → ℕ
entry_flag w n k = bits_of w k * n / 2048

-- a count with one more: 0, 1, or 2 for all others
unfoldable pub one_more : ℕ → ℕ
one_more zero = 1
one_more (suc c) = 2

-- o with the first k entries counted
unfoldable pub counted : List ℕ → List ℕ → ℕ → ℕ → ℕ → List ℕ
counted o w a n zero = o
counted o w a n (suc k) = slice_set (counted o w a n k) (a + entry_flag w n k) (one_more (slice_index (counted o w a n k) (a + entry_flag w n k)))

-- the high byte of an entry's key where its flag has this count: the bit is set for one entry alone
unfoldable pub lone_byte : ℕ → ℕ → ℕ
lone_byte high zero = high % 128
lone_byte high (suc zero) = high % 128 + 128
lone_byte high (suc (suc c)) = high % 128

-- w with the bits of the first k entries, by the flags in o
unfoldable pub marked : List ℕ → List ℕ → ℕ → ℕ → ℕ → List ℕ
marked w o a n zero = w
marked w o a n (suc k) =
    slice_set (marked w o a n k) (k * 4 + 3) (lone_byte (slice_index (marked w o a n k) (k * 4 + 3)) (slice_index o (a + entry_flag (marked w o a n k) n k)))

-- so many members at least are told apart by flags
abbrev pub few : ℕ
few = 12

-- o with the flags of all n entries, behind record d
unfoldable pub flagged : List ℕ → List ℕ → ℕ → ℕ → List ℕ
flagged o w d n = counted (put o ((d + 1) * 16) (replicate (n * 16) 0)) w ((d + 1) * 16) n n

-- true: the flags are there, and each entry has its bit; false: the entries are too few, and all is as it was
abbrev pub LoneTold : (o o' w w' : List ℕ) (d n : ℕ) → Bool → Type 0
LoneTold o o' w w' d n true = (few ≤ n) × (o' ≡ flagged o w d n) × (w' ≡ marked w o' ((d + 1) * 16) n n)
LoneTold o o' w w' d n false = (n < few) × (o' ≡ o) × (w' ≡ w)

-- the bits are told, and an entry with this high byte of its key has its own set
unfoldable pub is_lone : ℕ → Bool → Bool
is_lone high told = told && nat_lt 127 high
