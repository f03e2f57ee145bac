-- simmergate_differ, the call from C: the numbers of its answer go to a further lent slice, as every call's do; the list, too, is as it was
-- where that slice is too short.
use Rattle.std.specs.Prelude.{ℕ, cond, List, ◌∷◌}
use Rattle.paper.specs.Record.{flaw_numbers}
use Rattle.paper.specs.Calls.{is_too_short, returned, answered}
use Rattle.paper_differ.specs.Differ.{Differed, differed, list_after}

-- what is wrong with the record comes last, as in every answer
unfoldable pub differed_numbers : Differed → List ℕ
differed_numbers d = d.number ∷ d.place ∷ d.which ∷ d.pairs ∷ flaw_numbers d.flaw

unfoldable pub differ_returns : ℕ → List ℕ → List ℕ → List ℕ → List ℕ → ℕ
differ_returns lim a b list slice = returned (differed_numbers (differed lim a b list)) (differed lim a b list).number slice

unfoldable pub differ_answers : ℕ → List ℕ → List ℕ → List ℕ → List ℕ → List ℕ
differ_answers lim a b list slice = answered (differed_numbers (differed lim a b list)) slice

unfoldable pub differ_leaves : ℕ → List ℕ → List ℕ → List ℕ → List ℕ → List ℕ
differ_leaves lim a b list slice = cond (is_too_short (differed_numbers (differed lim a b list)) slice) list (list_after lim a b list)
