-- The calls from C that open a formula, and that open and simplify it: as the others (paper/specs/Calls), with the area for the opened table.
use Rattle.std.specs.Prelude.{ℕ, cond, List, ◌∷◌}
use Rattle.paper.specs.Record.{flaw_numbers}
use Rattle.paper.specs.Answers.{Lent}
use Rattle.paper.specs.Calls.{answer_numbers, is_too_short, returned, answered}
use Rattle.paper_shared.specs.Answers.{Handed, OpenAnswer, open_given, shared_given}

-- the numbers of the answer: number, place, records and weight of the opened table; last, what is wrong with the record
unfoldable pub open_numbers : OpenAnswer → List ℕ
open_numbers a = a.number ∷ a.place ∷ a.records_written ∷ a.opened_weight ∷ flaw_numbers a.flaw

-- simmergate_open: what it returns, its answer slice and the area afterwards
unfoldable pub open_returns : ℕ → Handed → List ℕ → List ℕ → ℕ
open_returns lim h area slice = returned (open_numbers (open_given lim h area).answer) (open_given lim h area).answer.number slice

unfoldable pub open_answers : ℕ → Handed → List ℕ → List ℕ → List ℕ
open_answers lim h area slice = answered (open_numbers (open_given lim h area).answer) slice

unfoldable pub open_leaves : ℕ → Handed → List ℕ → List ℕ → List ℕ
open_leaves lim h area slice = cond (is_too_short (open_numbers (open_given lim h area).answer) slice) area (open_given lim h area).area

-- simmergate_simplify_shared: what it returns, its answer slice, the three areas of the simplifier and the area for the opened table
unfoldable pub shared_returns : ℕ → ℕ → Handed → List ℕ → Lent → List ℕ → ℕ
shared_returns lim ed h area l slice =
    returned (answer_numbers (shared_given lim ed h area l).given.answer) (shared_given lim ed h area l).given.answer.number slice

unfoldable pub shared_answers : ℕ → ℕ → Handed → List ℕ → Lent → List ℕ → List ℕ
shared_answers lim ed h area l slice = answered (answer_numbers (shared_given lim ed h area l).given.answer) slice

unfoldable pub shared_leaves : ℕ → ℕ → Handed → List ℕ → Lent → List ℕ → Lent
shared_leaves lim ed h area l slice =
    cond (is_too_short (answer_numbers (shared_given lim ed h area l).given.answer) slice) l (shared_given lim ed h area l).given.lent

unfoldable pub shared_area : ℕ → ℕ → Handed → List ℕ → Lent → List ℕ → List ℕ
shared_area lim ed h area l slice =
    cond (is_too_short (answer_numbers (shared_given lim ed h area l).given.answer) slice) area (shared_given lim ed h area l).area
