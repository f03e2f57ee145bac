-- The starred examples: one table, one statement, by computation; and the bytes of example 1's result.
use mathlib.Core.Path.{◌≡◌, refl}
use mathlib.Core.List.{map}
use Rattle.paper.specs.Examples.{example_one, example_one_bytes, examples, lookalikes, edges, corners, examples_two, examples_marked, examples_marked_two}
use Rattle.paper.specs.Examples.{corners_marked, corners_marked_two, counts, tries_of, counted, out_weight, untried, computed}
use Rattle.paper.specs.Rules.{edition_one, edition_two}
use Rattle.paper.specs.Answers.{written}
use Rattle.paper.proofs.Computes.{table_computes, driver_computes}

-- the definitions give each starred example as the paper has it
pub starred : map (λ e. computed edition_one e.given) examples ≡ examples
unfolding example_one examples out_weight untried computed driver_computes
starred = refl

-- and those that tell the rules from programs that would look right
pub no_lookalike : map (λ e. computed edition_one e.given) lookalikes ≡ lookalikes
unfolding lookalikes out_weight untried computed driver_computes
no_lookalike = refl

-- what is written for example 1, as the paper prints it
pub example_one_bytes_lem : written (computed edition_one example_one.given).answer ≡ example_one_bytes
unfolding example_one example_one_bytes untried computed written driver_computes table_computes
example_one_bytes_lem = refl

-- and what neither table tells
pub at_the_edges : map (λ e. computed edition_one e.given) edges ≡ edges
unfolding edges out_weight untried computed driver_computes
at_the_edges = refl

-- corners, with marks and without
pub at_the_corners : (map (λ e. computed edition_one e.given) corners ≡ corners) × (map (λ e. computed edition_one e.given) corners_marked ≡ corners_marked)
    × (map (λ e. computed edition_two e.given) corners_marked_two ≡ corners_marked_two)
unfolding corners corners_marked corners_marked_two out_weight untried computed driver_computes
at_the_corners = (refl, refl, refl)

-- edition two, by its own rules
pub starred_two : map (λ e. computed edition_two e.given) examples_two ≡ examples_two
unfolding examples_two out_weight untried computed driver_computes
starred_two = refl

-- marks, in both editions
pub starred_marks : (map (λ e. computed edition_one e.given) examples_marked ≡ examples_marked)
    × (map (λ e. computed edition_two e.given) examples_marked_two ≡ examples_marked_two)
unfolding examples_marked examples_marked_two out_weight untried computed driver_computes
starred_marks = (refl, refl)

-- the tries, which the paper's examples do not name
pub tries_counted : map (λ e. counted e.given) counts ≡ counts
unfolding counts tries_of counted driver_computes
tries_counted = refl
