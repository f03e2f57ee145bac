-- The note of a tree: its number of records, its weight, and "a key that adds up over members with wrap-around". Equal trees have equal
-- notes; nothing else is claimed of a key, and no proof looks inside `mix` and `strewn`. Marks are not looked at, as equality does not compare them.
use Rattle.std.specs.Prelude.{ℕ, ◌+◌, ◌*◌, ◌/◌, ◌%◌, ◌^◌, cond, nat_lt}
use Rattle.paper.specs.Limits.{modulus}
use Rattle.paper.specs.Bytes.{word}
use Rattle.paper.specs.Tree.{Tree, Forest, integer, symbol, sum, product, power, nil, cons, records, weight}
use Rattle.paper.specs.Standing.{kind_number}

-- 2^32: keys are below it, and wrap around there
abbrev pub keys : ℕ
keys = 2 ^ 32

-- x stirred once with a constant c
unfoldable pub stir : ℕ → ℕ → ℕ
stir x c = let y = (x * 0x9e3779b1 + c) % keys in y * y / 65536 % keys

-- and twice. Squares are wanted: were they left out, a*b + c*d and a*c + b*d would have one key; with one of them a*h*i and c*d*k would, the
-- numbers of their symbols having one sum (15) and one sum of squares (113)
unfoldable pub mix : ℕ → ℕ → ℕ
mix x c = stir (stir x c) c

-- 64 bits as 32, stirred twice: the lower half is stirred before the upper one joins it, so that no simple relation of the two, as one sum, gives many
-- numbers one key; a number below 2^32 is mixed
unfoldable pub strewn : ℕ → ℕ → ℕ
strewn v c = stir ((stir (v % keys) c + v / keys) % keys) c

-- the key of a leaf of kind k with the bits v
unfoldable pub leaf_key : ℕ → ℕ → ℕ
leaf_key k v = strewn v k

-- what a member of kind k adds to its node's key: a leaf its key, a node its key stirred once more
unfoldable pub share_of : ℕ → ℕ → ℕ
share_of k x = cond (nat_lt k 2) x (mix x k)

-- what an exponent adds: with a constant of its own, else 2^3 and 3^2 would have one key
unfoldable pub exponent_share : ℕ → ℕ
exponent_share e = strewn e 5

-- the key of a node of kind k whose members add n
unfoldable pub node_key : ℕ → ℕ → ℕ
node_key k n = (k + n) % keys

unfoldable mutual
  pub key : Tree → ℕ
  key (integer μ z) = leaf_key 0 (word z)
  key (symbol μ s) = leaf_key 1 s
  key (sum μ f) = node_key 2 (shares f)
  key (product μ f) = node_key 3 (shares f)
  key (power μ b ξ e) = node_key 4 (share_of (kind_number b) (key b) + exponent_share e)

  -- what members add
  pub shares : Forest → ℕ
  shares nil = 0
  shares (cons t f) = share_of (kind_number t) (key t) + shares f

unfoldable pub share : Tree → ℕ
share t = share_of (kind_number t) (key t)

-- n records, weight w and key k in 64 bits: 16, 16 and 32
unfoldable pub note_of : ℕ → ℕ → ℕ → ℕ
note_of n w k = n + 65536 * (w + 65536 * k)

-- as 64 bits, whatever the tree weighs
unfoldable pub note : Tree → ℕ
note t = note_of (records t) (weight t) (key t) % modulus

-- the note of a leaf of kind k with the bits v
unfoldable pub leaf_note : ℕ → ℕ → ℕ
leaf_note k v = note_of 1 (cond (nat_lt k 1) 1 3) (leaf_key k v)

-- what a member adds to its node's note: its records, its weight and its share; told by its kind k and its note n
unfoldable pub added : ℕ → ℕ → ℕ
added k n = cond (nat_lt k 2) n (n % keys + keys * mix (n / keys) k)

-- what an exponent adds
unfoldable pub added_exponent : ℕ → ℕ
added_exponent e = note_of 1 1 (exponent_share e)
