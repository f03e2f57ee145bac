-- Small examples of what a second machine is handed, each with what a wrong reading would get wrong; proofs/Computed proves them by one statement.
use Rattle.std.specs.Prelude.{ℕ, ◌-◌, ◌^◌, List, [], ◌∷◌, ◌++◌, replicate, pos}
use Rattle.paper.specs.Tree.{Tree, integer, symbol, sum, product, power, of_list}
use Rattle.paper.specs.Table.{encode}
use Rattle.paper.specs.Answers.{Lent, Answer, simplified}
use Rattle.paper.specs.Calls.{answer_numbers, eights}
use Rattle.paper_batch.specs.Batch.{Site, in_turn, all_numbers}
use Rattle.paper_shared.specs.Answers.{Handed, shared_given}
use Rattle.paper_takeover.specs.TakenOver.{restored, restored_lengths, restored_weight, again_each}
use Rattle.paper_takeover.specs.TakenOver.{answers_in, written_text, read_records, held_bytes, with_table}

abbrev a : Tree
a = symbol 0 0

-- a + a with the line mark 7 at its first member, and its result, 2 * a of line 7
abbrev a+a : List ℕ
a+a = encode (sum 0 (of_list (symbol 7 0 ∷ a ∷ [])))

abbrev 2*a : Tree
2*a = product 7 (of_list (integer 7 (pos 2) ∷ symbol 7 0 ∷ []))

-- (2^63 - 1) + 1, which is refused by 7 and uses up room; a^0, which is refused by 5 and uses up none; a^1, which stays
abbrev too_large : List ℕ
too_large = encode (sum 0 (of_list (integer 0 (pos (2 ^ 63 - 1)) ∷ integer 0 (pos 1) ∷ [])))

abbrev a^ : ℕ → List ℕ
a^ n = encode (power 0 a 0 n)

abbrev lengths : List ℕ
lengths = 48 ∷ 48 ∷ 48 ∷ 48 ∷ []

abbrev tables : List ℕ
tables = too_large ++ (a+a ++ (a^ 0 ++ a^ 1))

unfoldable pub lends : ℕ → ℕ → Lent
lends o n = record { out = replicate o 165; steps = replicate n 165; work = replicate 65536 165 }

-- the site, simplified, and what a machine restores of it
unfoldable pub site : Site
site = in_turn (simplified 3072 1) lengths tables (lends 240 15)

unfoldable pub tables_again : List ℕ
tables_again = restored lengths tables site.answers site.lent.out

-- the two accepted results, in their order, though a refused item stands before and between them
unfoldable pub wanted_tables : List ℕ
wanted_tables = encode 2*a ++ a^ 1

unfoldable pub lengths_again : List ℕ
lengths_again = restored_lengths site.answers

unfoldable pub weight_again : ℕ
weight_again = restored_weight site.answers

-- the second answers, by their numbers: no step, no opening, a try for each record; and told again by their places
unfoldable pub numbers_again : List ℕ
numbers_again = all_numbers (again_each site.answers)

unfoldable pub wanted_numbers : List ℕ
wanted_numbers = 0 ∷ 0 ∷ 3 ∷ 0 ∷ 0 ∷ 5 ∷ 5 ∷ 0 ∷ 0 ∷ 3 ∷ 0 ∷ 0 ∷ 3 ∷ 0 ∷ 0 ∷ 5 ∷ 5 ∷ 0 ∷ 0 ∷ 3 ∷ []

unfoldable pub told_again : List Answer
told_again = answers_in 2 (eights wanted_numbers ++ (1 ∷ []))

-- ---- 2 * a of line 7 as text, "2*s0", in an area of 5 bytes; and what is read of it, without its marks
unfoldable pub line : List ℕ
line = written_text 3072 (encode 2*a) (replicate 5 165)

unfoldable pub wanted_line : List ℕ
wanted_line = 50 ∷ 42 ∷ 115 ∷ 48 ∷ []

unfoldable pub arrived : List ℕ
arrived = read_records 3072 wanted_line (replicate 49 165)

unfoldable pub wanted_records : List ℕ
wanted_records = encode (product 0 (of_list (integer 0 (pos 2) ∷ a ∷ [])))

-- ---- three bytes of an area of five are the table's
unfoldable pub three_held : List ℕ
three_held = held_bytes (record { state = record { count = 3; past = 0 }; area = 1 ∷ 2 ∷ 3 ∷ 165 ∷ 165 ∷ [] })

-- ---- s1 + a with s1 defined as a: opened it is a + a, and its result, handed in again with the definition, stays
unfoldable pub shares : Handed
shares = record { table = encode (sum 0 (of_list (symbol 0 1 ∷ a ∷ []))); symbols = 1 ∷ []; lengths = eights (16 ∷ []); definitions = encode a }

unfoldable pub shares_again : List ℕ → List ℕ
shares_again s = answer_numbers (shared_given 3072 1 (with_table shares s) (replicate 112 165) (lends 112 7)).given.answer
