-- Members that keys do not tell apart. An entry that has no bit yet is open. The open ones are put down at 8 m flags, two bytes each from
-- place a of `out` on: a member of a product whose base is an integer at one for its exponent and at one for its base, any other at one
-- for its spread, which is that of its base or, in a sum, of its rest. Two members of which one takes up the other share a flag. A flag
-- holds the first entry that came, counted from 1, or 0.
use Rattle.std.specs.Prelude.{◌≡◌, ℕ, ◌+◌, ◌*◌, ◌/◌, ◌%◌, ◌<◌, ◌≤◌, Bool, true, false, cond, ◌⊎◌, List, length, take, drop, ◌≢◌, nat_lt, slice_index, slice_set}
use Rattle.std.proofs.Math.Option.{none}
use Rattle.paper.specs.Limits.{modulus}
use Rattle.paper.specs.Bytes.{bytes, le2, word}
use Rattle.paper.specs.Tree.{Tree, integer, symbol, sum, product, power}
use Rattle.paper.specs.Rules.{term_of, factor_of}
use Rattle.stretch.specs.Put.{put}
use Rattle.part.specs.Like.{split, merge}
use Rattle.walk.specs.Listed.{bits_of, Entry}
use Rattle.walk.specs.Stays.{is_integer}
use Rattle.walk.specs.Spread.{stirred, spread, rest_spread}

-- the bits of an integer
unfoldable pub word_of : Tree → ℕ
word_of (integer μ z) = word z
word_of (symbol μ s) = 0
word_of (sum μ f) = 0
word_of (product μ f) = 0
word_of (power μ b ξ e) = 0

-- which of n flags the number v has, by the factor f: v is stirred first, for a factor that suits all numbers in a row there is none
unfoldable pub place_of : ℕ → ℕ → ℕ → ℕ
place_of f n v = stirred v * f % modulus / 4294967296 * n / 4294967296

-- the flags of a base with an exponent: where it is an integer, one for the exponent and one for the base, else one for the base
unfoldable pub exponent_flag : (f m : ℕ) → Tree → ℕ → ℕ
exponent_flag f m b e = cond (is_integer b) (place_of f (4 * m) e) (place_of f (8 * m) (spread b % modulus))

unfoldable pub base_flag : (f m : ℕ) → Tree → ℕ
base_flag f m b = cond (is_integer b) (4 * m + place_of f (4 * m) (word_of b)) (place_of f (8 * m) (spread b % modulus))

-- the flag of a term's rest
unfoldable pub rest_flag : (f m : ℕ) → Tree → ℕ
rest_flag f m r = place_of f (8 * m) (rest_spread r % modulus)

-- the flags of a member of a sum (true) or of a product
abbrev pub first_flag : Bool → (f m : ℕ) → Tree → ℕ
first_flag true f m t = rest_flag f m (term_of t).rest
first_flag false f m t = exponent_flag f m (factor_of t).base (factor_of t).exponent

abbrev pub second_flag : Bool → (f m : ℕ) → Tree → ℕ
second_flag true f m t = rest_flag f m (term_of t).rest
second_flag false f m t = base_flag f m (factor_of t).base

-- what flag x holds
abbrev pub held_at : List ℕ → (a x : ℕ) → ℕ
held_at o a x = le2 o (a + x * 2)

-- the byte of entry i that has its bit: from 128 on it is set
abbrev pub high_of : List ℕ → ℕ → ℕ
high_of w i = slice_index w (i * 4 + 3)

-- o with entry k at the flag at byte c, which held x, where it held none
unfoldable pub filled : List ℕ → (c x k : ℕ) → List ℕ
filled o c x k = cond (nat_lt x 1) (put o c (bytes 2 (k + 1))) o

-- the n entries are those of members, and lie before record p
pub record Numbered (b : Bool) (w : List ℕ) (p n : ℕ) : Type 0 where
  pub some : 0 < n
  pub few : n < 65536
  pub low : n * 4 ≤ p * 16
  pub within : p * 16 ≤ length w
  pub there : (k : ℕ) → k < n → (t : Tree) × Entry b w p k t

-- entry k, that of t, is put down: its flags held x and y, and hold an entry
pub record Put (b : Bool) (o o' : List ℕ) (a k m f : ℕ) (t : Tree) (x y : ℕ) : Type 0 where
  pub long : length o' ≡ length o
  pub front : take a o' ≡ take a o
  pub first : x ≡ held_at o a (first_flag b f m t)
  pub second : y ≡ held_at o a (second_flag b f m t)
  pub small : (x < 65536) × (y < 65536)
  pub kept : (z : ℕ) → 1 ≤ held_at o a z → held_at o' a z ≡ held_at o a z
  pub there : (1 ≤ held_at o' a (first_flag b f m t)) × (1 ≤ held_at o' a (second_flag b f m t))
  pub new : x ≡ 0 → y ≡ 0 → (held_at o' a (first_flag b f m t) ≡ k + 1) × (held_at o' a (second_flag b f m t) ≡ k + 1)

-- nothing changed in w but the bits of n entries
pub record BitsOnly (w w' : List ℕ) (n : ℕ) : Type 0 where
  pub wide : length w' ≡ length w
  pub starts : (i : ℕ) → le2 w' (i * 4) ≡ le2 w (i * 4)
  pub bits : (i : ℕ) → bits_of w' i ≡ bits_of w i
  pub behind : (m : ℕ) → n * 4 ≤ m → drop m w' ≡ drop m w

-- the entry before entry k that a flag held as x has no bit, and none got one
pub record Unmarked (w w' : List ℕ) (x k : ℕ) : Type 0 where
  pub only : BitsOnly w w' k
  pub later : (i : ℕ) → k ≤ i → high_of w' i ≡ high_of w i
  pub fewer : (i : ℕ) → 128 ≤ high_of w' i → 128 ≤ high_of w i
  pub hit : (i : ℕ) → i < k → x ≡ i + 1 → high_of w' i < 128

-- entry k gets its bit, where bits are given
abbrev pub MarkedIf : Bool → (w w' : List ℕ) (k : ℕ) → Type 0
MarkedIf true w w' k = w' ≡ slice_set w (k * 4 + 3) (high_of w k % 128 + 128)
MarkedIf false w w' k = w' ≡ w

-- entry k, that of t, was visited: where it is open it is put down, those that its flags held have no bits, and it has one only where
-- they held none and bits are given
pub record Visited (b : Bool) (o o' w w' : List ℕ) (a k n m f : ℕ) (marks : Bool) (t : Tree) : Type 0 where
  pub long : length o' ≡ length o
  pub front : take a o' ≡ take a o
  pub only : BitsOnly w w' n
  pub later : (i : ℕ) → k < i → high_of w' i ≡ high_of w i
  pub fewer : (i : ℕ) → (i ≢ k) ⊎ (marks ≡ false) → 128 ≤ high_of w' i → 128 ≤ high_of w i
  pub kept : (z : ℕ) → 1 ≤ held_at o a z → held_at o' a z ≡ held_at o a z
  pub there : high_of w k < 128 → (1 ≤ held_at o' a (first_flag b f m t)) × (1 ≤ held_at o' a (second_flag b f m t))
  pub hit : high_of w k < 128 → (i : ℕ) → i < k → (held_at o a (first_flag b f m t) ≡ i + 1) ⊎ (held_at o a (second_flag b f m t) ≡ i + 1) → high_of w' i < 128
  pub new : high_of w k < 128 → 128 ≤ high_of w' k
      → ((held_at o a (first_flag b f m t) ≡ 0) × (held_at o a (second_flag b f m t) ≡ 0))
      × ((held_at o' a (first_flag b f m t) ≡ k + 1) × (held_at o' a (second_flag b f m t) ≡ k + 1))

-- two members share a flag
abbrev pub Meets : Bool → (f m : ℕ) → Tree → Tree → Type 0
Meets b f m t u = (first_flag b f m t ≡ first_flag b f m u) ⊎ (second_flag b f m t ≡ second_flag b f m u)

-- the first k entries were visited, and bits given: the flags of the open ones hold an entry, that entry itself where it has its bit, and
-- then no other has them
pub record PutDown (b : Bool) (o w w' : List ℕ) (p a m f k : ℕ) : Type 0 where
  pub seen : (i : ℕ) (t : Tree) → i < k → Entry b w p i t → high_of w i < 128
      → (1 ≤ held_at o a (first_flag b f m t)) × (1 ≤ held_at o a (second_flag b f m t))
  pub holds : (i : ℕ) (t : Tree) → i < k → Entry b w p i t → high_of w i < 128 → 128 ≤ high_of w' i
      → (held_at o a (first_flag b f m t) ≡ i + 1) × (held_at o a (second_flag b f m t) ≡ i + 1)
  pub alone : (i j : ℕ) (t u : Tree) → i < k → j < k → (i ≢ j) → Entry b w p i t → Entry b w p j u → high_of w i < 128 → high_of w j < 128
      → Meets b f m t u → 128 ≤ high_of w' i → ⊥

-- the first k entries, or some of them, were visited
pub record Passed (b : Bool) (o o' w w' : List ℕ) (p a n m f : ℕ) (marks : Bool) (k : ℕ) : Type 0 where
  pub long : length o' ≡ length o
  pub front : take a o' ≡ take a o
  pub only : BitsOnly w w' n
  pub later : (i : ℕ) → k ≤ i → high_of w' i ≡ high_of w i
  pub given : marks ≡ true → PutDown b o' w w' p a m f k
  pub fewer : marks ≡ false → (i : ℕ) → 128 ≤ high_of w' i → 128 ≤ high_of w i

-- neither of the members of entries i and j takes up the other
abbrev pub Unlike : Bool → List ℕ → (p i j : ℕ) → Type 0
Unlike b w p i j = (t u : Tree) → Entry b w p i t → Entry b w p j u
    → (merge b (split b t) (split b u) ≡ none) × (merge b (split b u) (split b t) ≡ none)

-- of n entries, one with the bit is like no other
abbrev pub Lonely : Bool → List ℕ → (p n : ℕ) → Type 0
Lonely b w p n = (i j : ℕ) → i < n → j < n → (i ≢ j) → 128 ≤ high_of w i → Unlike b w p i j

-- `out` changed behind record d alone, `work` in the bits of n entries alone, and entries with bits are still like no other
pub record ToldMore (b : Bool) (o o' w w' : List ℕ) (d p n : ℕ) : Type 0 where
  pub long : length o' ≡ length o
  pub front : take ((d + 1) * 16) o' ≡ take ((d + 1) * 16) o
  pub only : BitsOnly w w' n
  pub lonely : Lonely b w p n → Lonely b w' p n

-- and where it is told, entries with bits are like no other
pub record AfterTelling (b : Bool) (o o' w w' : List ℕ) (d p n : ℕ) (told : Bool) : Type 0 where
  pub long : length o' ≡ length o
  pub front : take ((d + 1) * 16) o' ≡ take ((d + 1) * 16) o
  pub only : BitsOnly w w' n
  pub lonely : told ≡ true → Lonely b w' p n
