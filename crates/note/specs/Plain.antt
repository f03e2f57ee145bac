-- Behind the record of a plain node: what is added up to its note.
use Rattle.std.specs.Prelude.{ℕ, cond, List, nat_lt}
use Rattle.paper.specs.Tree.{Tree, Forest, integer, symbol, sum, product, power, nil, cons}
use Rattle.paper.specs.Record.{count_in}

-- the trees that are: its members, or a power's base
unfoldable pub parts_of : Tree → Forest
parts_of (integer μ z) = nil
parts_of (symbol μ v) = nil
parts_of (sum μ f) = f
parts_of (product μ f) = f
parts_of (power μ b ξ e) = cons b nil

-- how many they are, by the record i of a node of kind k
unfoldable pub parts_in : List ℕ → ℕ → ℕ → ℕ
parts_in s i k = cond (nat_lt k 4) (count_in s i) 1
