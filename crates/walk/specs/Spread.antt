-- The spread of a tree: a number that goes by the kinds of all its records and by the bits of its leaves, each record adding its share. Equal trees have
-- equal spreads; nothing else is claimed of it, and no proof looks inside `stirred`. A product's own record adds nothing.
use Rattle.std.specs.Prelude.{ℕ, zero, suc, ◌+◌, ◌*◌, ◌/◌, ◌%◌, cond, List, pos, ◌==◌, nat_lt}
use Rattle.paper.specs.Limits.{modulus}
use Rattle.paper.specs.Bytes.{word}
use Rattle.paper.specs.Tree.{Tree, Forest, integer, symbol, sum, product, power, nil, cons}
use Rattle.paper.specs.Record.{kind, bits}
use Rattle.walk.specs.Stays.{is_integer}

-- v stirred: its halves after a multiplication, multiplied
unfoldable pub stirred : ℕ → ℕ
stirred v =
    let y = v * 0x9e3779b97f4a7c15 % modulus in
    (y % 4294967296 + y / 4294967296) % 4294967296 * (y / 4294967296) + y % 4294967296

-- what is added for each unit of a kind
abbrev pub unit : ℕ
unit = 0x5a827999507d31

-- the share of a record of kind k with the bits v
unfoldable pub share_of : ℕ → ℕ → ℕ
share_of k v = cond (nat_lt k 2) (stirred ((v + k * unit) % modulus)) (cond (k == 3) 0 (k * unit))

-- the share of record i, and those of n records from record i on, added up
unfoldable pub share_in : List ℕ → ℕ → ℕ
share_in s i = share_of (kind s i) (bits s i)

unfoldable pub shares_in : List ℕ → ℕ → ℕ → ℕ
shares_in s i zero = 0
shares_in s i (suc n) = shares_in s i n + share_in s (i + n)

-- the spread of a tree, and those of members, added up
unfoldable mutual
  pub spread : Tree → ℕ
  spread (integer μ z) = share_of 0 (word z)
  spread (symbol μ s) = share_of 1 s
  spread (sum μ f) = share_of 2 0 + spreads f
  spread (product μ f) = spreads f
  spread (power μ b ξ e) = share_of 4 0 + (spread b + share_of 0 (word (pos e)))

  pub spreads : Forest → ℕ
  spreads nil = 0
  spreads (cons t f) = spread t + spreads f

-- that of a term's rest: an integer's, which can be 1 alone, is 0
unfoldable pub rest_spread : Tree → ℕ
rest_spread t = cond (is_integer t) 0 (spread t)
