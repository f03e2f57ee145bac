-- The calls from C: "the call returns the refusal number, and all numbers of the answer go to a further lent slice, 8 bytes each,
-- little-endian, in the order named above. If that slice is too short, the call returns 6 before all else and changes nothing;
-- its bytes past the answer never change."
use Rattle.std.specs.Prelude.{ℕ, ◌*◌, Bool, cond, List, [], ◌∷◌, ◌++◌, length, drop, ltb}
use Rattle.paper.specs.Bytes.{bytes}
use Rattle.paper.specs.Record.{flaw_numbers}
use Rattle.paper.specs.Verdict.{Verdict, verdict}
use Rattle.paper.specs.Equal.{one}
use Rattle.paper.specs.Answers.{Measured, weighed, valued, Compared, compared, Lent, Answer, simplified}

-- the numbers of an answer, in the order that the paper names them; after them, so that
-- no other number moves, what is wrong with the record, and last the tries
unfoldable pub verdict_numbers : Verdict → List ℕ
verdict_numbers v = v.number ∷ v.place ∷ flaw_numbers v.flaw

unfoldable pub measured_numbers : Measured → List ℕ
measured_numbers m = m.number ∷ m.place ∷ m.result ∷ flaw_numbers m.flaw

unfoldable pub compared_numbers : Compared → List ℕ
compared_numbers c = c.number ∷ c.place ∷ c.which ∷ one c.yes ∷ flaw_numbers c.flaw

unfoldable pub answer_numbers : Answer → List ℕ
answer_numbers a =
    a.number ∷ a.place ∷ a.records_written ∷ a.steps_taken ∷ a.openings ∷ a.weight_in ∷ a.weight_out
    ∷ (flaw_numbers a.flaw ++ (a.tries ∷ []))

-- 8 bytes each, little-endian
unfoldable pub eights : List ℕ → List ℕ
eights [] = []
eights (n ∷ ns) = bytes 8 n ++ eights ns

-- the slice has no room for the numbers
unfoldable pub is_too_short : List ℕ → List ℕ → Bool
is_too_short ns slice = ltb (length slice) (8 * length ns)

-- what the call returns, and its answer slice afterwards
unfoldable pub returned : List ℕ → ℕ → List ℕ → ℕ
returned ns number slice = cond (is_too_short ns slice) 6 number

unfoldable pub answered : List ℕ → List ℕ → List ℕ
answered ns slice = cond (is_too_short ns slice) slice (eights ns ++ drop (8 * length ns) slice)

-- each call takes the limit first
-- simmergate_check
unfoldable pub check_returns : ℕ → List ℕ → List ℕ → ℕ
check_returns lim s slice = returned (verdict_numbers (verdict lim s)) (verdict lim s).number slice

unfoldable pub check_answers : ℕ → List ℕ → List ℕ → List ℕ
check_answers lim s slice = answered (verdict_numbers (verdict lim s)) slice

-- simmergate_weight
unfoldable pub weight_returns : ℕ → List ℕ → List ℕ → ℕ
weight_returns lim s slice = returned (measured_numbers (weighed lim s)) (weighed lim s).number slice

unfoldable pub weight_answers : ℕ → List ℕ → List ℕ → List ℕ
weight_answers lim s slice = answered (measured_numbers (weighed lim s)) slice

-- simmergate_value
unfoldable pub value_returns : ℕ → List ℕ → List ℕ → List ℕ → ℕ
value_returns lim s regs slice = returned (measured_numbers (valued lim s regs)) (valued lim s regs).number slice

unfoldable pub value_answers : ℕ → List ℕ → List ℕ → List ℕ → List ℕ
value_answers lim s regs slice = answered (measured_numbers (valued lim s regs)) slice

-- simmergate_equal
unfoldable pub equal_returns : ℕ → List ℕ → List ℕ → List ℕ → ℕ
equal_returns lim a b slice = returned (compared_numbers (compared lim a b)) (compared lim a b).number slice

unfoldable pub equal_answers : ℕ → List ℕ → List ℕ → List ℕ → List ℕ
equal_answers lim a b slice = answered (compared_numbers (compared lim a b)) slice

-- simmergate_simplify: then the edition; the three areas, too, are as they were where the slice is too short
unfoldable pub simplify_returns : ℕ → ℕ → List ℕ → Lent → List ℕ → ℕ
simplify_returns lim ed s l slice = returned (answer_numbers (simplified lim ed s l).answer) (simplified lim ed s l).answer.number slice

unfoldable pub simplify_answers : ℕ → ℕ → List ℕ → Lent → List ℕ → List ℕ
simplify_answers lim ed s l slice = answered (answer_numbers (simplified lim ed s l).answer) slice

unfoldable pub simplify_leaves : ℕ → ℕ → List ℕ → Lent → List ℕ → Lent
simplify_leaves lim ed s l slice = cond (is_too_short (answer_numbers (simplified lim ed s l).answer) slice) l (simplified lim ed s l).lent
