-- Small examples of the link's calls one after the other, each with what a wrong reading would get wrong; proofs/OverComputed proves them by one statement.
use Rattle.std.specs.Prelude.{ℕ, List, [], ◌∷◌, ◌++◌, replicate, take, drop, pos}
use Rattle.paper.specs.Tree.{Tree, integer, symbol, sum, product, of_list}
use Rattle.paper.specs.Table.{encode}
use Rattle.paper.specs.Verdict.{Verdict}
use Rattle.paper.specs.Answers.{Lent, Given, simplified}
use Rattle.paper_takeover.specs.LinkOver.{Task, after_calls, returns, table_in, over_by}

-- a + a with the line mark 7 at its first member, and its result, 2 * a of line 7, in 48 bytes of weight 5
unfoldable pub first_table : List ℕ
first_table = encode (sum 0 (of_list (symbol 7 0 ∷ symbol 0 0 ∷ [])))

unfoldable pub 2*a : Tree
2*a = product 7 (of_list (integer 7 (pos 2) ∷ symbol 7 0 ∷ []))

unfoldable pub lends : ℕ → ℕ → ℕ → Lent
lends o n k = record { out = replicate o 165; steps = replicate n 165; work = replicate k 165 }

-- the first machine, at the higher limit
unfoldable pub simplified_first : Given
simplified_first = simplified 16384 1 first_table (lends 112 7 524288)

-- the result in three pieces, one of them empty
unfoldable pub cuts : List (List ℕ)
cuts = take 20 (encode 2*a) ∷ [] ∷ drop 20 (encode 2*a) ∷ []

-- zero bytes begin; the byte past the 16 stays, and so do those of the area behind the table
abbrev begun : ℕ → Task
begun n = record { record_bytes = replicate 16 0 ++ (165 ∷ []); area = replicate n 165 }

unfoldable pub received_whole : Task
received_whole = after_calls 3072 (begun 49152) cuts

unfoldable pub wanted_whole : Task
wanted_whole = record { record_bytes = 48 ∷ (replicate 15 0 ++ (165 ∷ [])); area = encode 2*a ++ replicate 49104 165 }

unfoldable pub numbers : List ℕ
numbers = returns 3072 (begun 49152) cuts

unfoldable pub table_come : List ℕ
table_come = table_in received_whole

-- an area a byte too short: each call is refused with 6, and nothing changes
unfoldable pub refused_numbers : List ℕ
refused_numbers = returns 3072 (begun 49151) cuts

unfoldable pub refused_whole : Task
refused_whole = after_calls 3072 (begun 49151) cuts

-- the second machine has the 16 bytes of the record after two pieces, and the 20 bytes that it counts, in an area of its own
unfoldable pub copied_table : List ℕ
copied_table =
    table_in (after_calls 3072
    (record { record_bytes = 20 ∷ (replicate 15 0 ++ (165 ∷ [])); area = take 20 (encode 2*a) ++ replicate 49132 7 }) (drop 20 (encode 2*a) ∷ []))

-- just as long as the limit's tables is too heavy; a byte longer is too long
unfoldable pub over_just : Verdict
over_just = over_by 3072 (replicate 49152 0)

unfoldable pub over_longer : Verdict
over_longer = over_by 3072 (replicate 49153 0)
