-- Rows of the stored answers (tests/answers/simplify.tsv, by their names there) at edges that the tables of Examples leave open: the
-- range at both of its ends, the place of 7 after a member's steps, what is equal and what is not, and the walk's longer ways.
use Rattle.std.specs.Prelude.{ℕ, ◌-◌, List, [], ◌∷◌, pos, negsuc}
use Rattle.paper.specs.Tree.{Tree, integer, symbol, sum, product, power, of_list}
use Rattle.paper.specs.Driver.{done, over}
use Rattle.paper.specs.Examples.{Example}

abbrev a : Tree
a = symbol 0 0

abbrev b : Tree
b = symbol 0 1

abbrev c : Tree
c = symbol 0 2

abbrev i : ℕ → Tree
i n = integer 0 (pos n)

-- -n, for an n of at least 1
abbrev minus : ℕ → Tree
minus n = integer 0 (negsuc (n - 1))

abbrev plus : List Tree → Tree
plus l = sum 0 (of_list l)

abbrev times : List Tree → Tree
times l = product 0 (of_list l)

abbrev raised : Tree → ℕ → Tree
raised t n = power 0 t 0 n

-- the tree, its weight, the result, its steps, its openings, the result's weight
abbrev gives : Tree → ℕ → Tree → List ℕ → ℕ → ℕ → Example
gives t w u s o v = record { given = t; answer = done u s o 0; weight_in = w; weight_out = v }

-- the tree, its weight, the place of 7
abbrev leaves : Tree → ℕ → ℕ → Example
leaves t w p = record { given = t; answer = over p; weight_in = w; weight_out = 0 }

unfoldable pub stored : List Example
stored =
    -- the range: "partial sum leaves range and returns", "partial sum other order", "sum of minus", r269
    leaves (plus (i 9223372036854775807 ∷ i 1 ∷ minus 5 ∷ [])) 4 0
    ∷ gives (plus (i 9223372036854775807 ∷ minus 5 ∷ i 1 ∷ [])) 4 (i 9223372036854775803) (2 ∷ []) 0 1
    ∷ leaves (plus (minus 9223372036854775808 ∷ minus 1 ∷ [])) 3 0
    ∷ gives (plus (minus 9223372036854775807 ∷ plus (i 1 ∷ minus 2 ∷ []) ∷ [])) 5 (minus 9223372036854775808) (2 ∷ 2 ∷ []) 0 1
    -- "mul range", "mul range ok", "mul min", "min alone"
    ∷ leaves (times (i 4294967296 ∷ i 2147483648 ∷ [])) 3 0
    ∷ gives (times (i 4294967296 ∷ minus 2147483648 ∷ [])) 3 (minus 9223372036854775808) (6 ∷ []) 0 1
    ∷ leaves (times (minus 9223372036854775808 ∷ minus 1 ∷ [])) 3 0
    ∷ gives (times (minus 9223372036854775808 ∷ i 1 ∷ [])) 3 (minus 9223372036854775808) (4 ∷ []) 0 1
    -- the place of 7: after a step of the node and one in its last member (r36), after a step in its first member (r782)
    ∷ leaves (plus (i 18 ∷ i 10 ∷ i 4611686018427387904 ∷ i 40 ∷ plus (i 2 ∷ i 4 ∷ i 4611686018427387904 ∷ i 1 ∷ i 4 ∷ []) ∷ [])) 11 2
    ∷ leaves (times (plus (minus 1 ∷ i 9223372036854775806 ∷ minus 1 ∷ []) ∷ i 9223372036854775806 ∷ [])) 6 1
    -- "moved in chain", "step 6 chain"
    ∷ gives (plus (a ∷ b ∷ a ∷ c ∷ a ∷ b ∷ a ∷ [])) 22 (plus (times (i 4 ∷ a ∷ []) ∷ times (i 2 ∷ b ∷ []) ∷ c ∷ [])) (2 ∷ []) 0 14
    ∷ gives (times (i 2 ∷ raised (i 2) 3 ∷ raised (i 3) 4 ∷ i 5 ∷ raised (i 5) 4 ∷ [])) 12 (times (raised (i 30) 4 ∷ i 5 ∷ [])) (6 ∷ []) 0 5
    -- "rest one", "product of one coefficient", "nested product rest"
    ∷ gives (plus (times (i 1 ∷ i 1 ∷ []) ∷ i 1 ∷ [])) 5 (i 2) (2 ∷ []) 0 1
    ∷ gives (plus (times (i 1 ∷ a ∷ b ∷ []) ∷ a ∷ a ∷ [])) 15 (plus (times (a ∷ b ∷ []) ∷ times (i 2 ∷ a ∷ []) ∷ [])) (2 ∷ []) 0 13
    ∷ gives (plus (times (i 2 ∷ times (a ∷ b ∷ []) ∷ []) ∷ times (b ∷ a ∷ []) ∷ [])) 17 (times (a ∷ b ∷ i 3 ∷ [])) (2 ∷ []) 0 8
    -- "the product of the others in order": a*2*b + b*a gives a*b*3 (by the paper's words; no stored row has it)
    ∷ gives (plus (times (a ∷ i 2 ∷ b ∷ []) ∷ times (b ∷ a ∷ []) ∷ [])) 16 (times (a ∷ b ∷ i 3 ∷ [])) (2 ∷ []) 0 8
    -- "not equal multiset", "sum in sum is not opened for equality"
    ∷ gives (plus (times (plus (a ∷ a ∷ b ∷ []) ∷ c ∷ []) ∷ times (plus (a ∷ b ∷ b ∷ []) ∷ c ∷ []) ∷ [])) 29
    (plus (times (plus (times (i 2 ∷ a ∷ []) ∷ b ∷ []) ∷ c ∷ []) ∷ times (plus (a ∷ times (i 2 ∷ b ∷ []) ∷ []) ∷ c ∷ []) ∷ [])) (2 ∷ 2 ∷ []) 0 27
    ∷ gives (plus (times (plus (a ∷ plus (b ∷ c ∷ []) ∷ []) ∷ i 2 ∷ []) ∷ times (plus (plus (a ∷ b ∷ []) ∷ c ∷ []) ∷ i 3 ∷ []) ∷ [])) 27
    (times (i 5 ∷ plus (a ∷ b ∷ c ∷ []) ∷ [])) (2 ∷ []) 2 12
    ∷ []
