-- Sites restored whole, in figures, each with what a wrong reading would get wrong; proofs/SiteComputed proves them.
use Rattle.std.specs.Prelude.{ℕ, ◌-◌, ◌^◌, List, [], ◌∷◌, ◌++◌, map, replicate, pos}
use Rattle.paper.specs.Tree.{Tree, integer, symbol, sum, product, power, of_list}
use Rattle.paper.specs.Table.{encode}
use Rattle.paper.specs.Answers.{Lent, simplified}
use Rattle.paper.specs.Calls.{eights}
use Rattle.paper_batch.specs.Batch.{Site, in_turn, all_numbers, site_number}
use Rattle.paper_takeover.specs.SiteRestored.{restored_whole, whole_lengths, whole_weight, again_in_place}

abbrev a : Tree
a = symbol 0 0

-- (2^63 - 1) + 1, of weight 3, which is refused by 7; a + 0, of weight 5, whose result is a; a^0, refused by 5 at 2; a record of kind 9, refused by 2 at 0
-- for its kind; a + a, of weight 7, whose result is 2 * a, of weight 5
abbrev too_large : List ℕ
too_large = encode (sum 0 (of_list (integer 0 (pos (2 ^ 63 - 1)) ∷ integer 0 (pos 1) ∷ [])))

abbrev a+0 : List ℕ
a+0 = encode (sum 0 (of_list (a ∷ integer 0 (pos 0) ∷ [])))

abbrev a^0 : List ℕ
a^0 = encode (power 0 a 0 0)

abbrev kind9 : List ℕ
kind9 = 9 ∷ replicate 15 0

abbrev a+a : List ℕ
a+a = encode (sum 0 (of_list (a ∷ a ∷ [])))

abbrev 2*a : List ℕ
2*a = encode (product 0 (of_list (integer 0 (pos 2) ∷ a ∷ [])))

abbrev lends : ℕ → ℕ → Lent
lends o n = record { out = replicate o 165; steps = replicate n 165; work = replicate 65536 165 }

-- ---- a site with every kind of item but one with 6
unfoldable pub mixed_lengths : List ℕ
mixed_lengths = 48 ∷ 48 ∷ 48 ∷ 16 ∷ 48 ∷ []

unfoldable pub mixed_tables : List ℕ
mixed_tables = too_large ++ (a+0 ++ (a^0 ++ (kind9 ++ a+a)))

unfoldable pub mixed : Site
mixed = in_turn (simplified 3072 1) mixed_lengths mixed_tables (lends 240 15)

-- what is restored of it, with the lengths and the room that it needs
unfoldable pub mixed_again : List ℕ
mixed_again = restored_whole mixed_lengths mixed_tables mixed.answers mixed.lent.out

unfoldable pub wanted_again : List ℕ
wanted_again = too_large ++ (encode a ++ (a^0 ++ (kind9 ++ 2*a)))

unfoldable pub wanted_lengths : List ℕ
wanted_lengths = 48 ∷ 16 ∷ 48 ∷ 16 ∷ 48 ∷ []

unfoldable pub mixed_lengths_again : List ℕ
mixed_lengths_again = whole_lengths mixed_lengths mixed.answers

unfoldable pub mixed_weight : ℕ
mixed_weight = whole_weight mixed_lengths mixed_tables mixed.answers

-- the second site, in just that room: its numbers, and those of `again_in_place`
unfoldable pub second : Site
second = in_turn (simplified 3072 1) wanted_lengths wanted_again (lends 176 11)

unfoldable pub second_numbers : List ℕ
second_numbers = all_numbers second.answers

unfoldable pub in_place_numbers : List ℕ
in_place_numbers = all_numbers (again_in_place mixed.answers)

unfoldable pub wanted_second : List ℕ
wanted_second =
    7 ∷ 0 ∷ 0 ∷ 0 ∷ 0 ∷ 0 ∷ 0 ∷ 0 ∷ 0 ∷ 0 ∷ 0 ∷ 0 ∷ 1 ∷ 0 ∷ 0 ∷ 3 ∷ 3 ∷ 0 ∷ 0 ∷ 1 ∷ 5 ∷ 2 ∷ 0 ∷ 0 ∷ 0 ∷ 0 ∷ 0 ∷ 0 ∷ 0 ∷ 0
    ∷ 2 ∷ 0 ∷ 0 ∷ 0 ∷ 0 ∷ 0 ∷ 0 ∷ 1 ∷ 0 ∷ 0 ∷ 0 ∷ 0 ∷ 3 ∷ 0 ∷ 0 ∷ 5 ∷ 5 ∷ 0 ∷ 0 ∷ 3 ∷ []

-- what the second call returns, with n bytes for the answers, of the whole site; and of the results alone
unfoldable pub returns_whole : ℕ → ℕ
returns_whole n = site_number 3072 1 wanted_again (eights wanted_lengths) (replicate n 165)

unfoldable pub returns_results : ℕ → ℕ
returns_results n = site_number 3072 1 (encode a ++ 2*a) (eights (16 ∷ 48 ∷ [])) (replicate n 165)

-- ---- where an item had 6: a + a twice, in room for 12; the first result uses up 5, so that the second item finds room for its 7
unfoldable pub crowded : Site
crowded = in_turn (simplified 3072 1) (48 ∷ 48 ∷ []) (a+a ++ a+a) (lends 192 12)

unfoldable pub crowded_numbers : List ℕ
crowded_numbers = map (λ x. x.number) crowded.answers

unfoldable pub crowded_weight : ℕ
crowded_weight = whole_weight (48 ∷ 48 ∷ []) (a+a ++ a+a) crowded.answers

unfoldable pub crowded_again : List ℕ
crowded_again =
    let ms = whole_lengths (48 ∷ 48 ∷ []) crowded.answers in
    let t = restored_whole (48 ∷ 48 ∷ []) (a+a ++ a+a) crowded.answers crowded.lent.out in
    map (λ x. x.number) (in_turn (simplified 3072 1) ms t (lends 192 12)).answers
