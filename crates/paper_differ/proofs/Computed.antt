-- The examples of what differs: one table, one statement, by computation.
use mathlib.Core.Path.{◌≡◌, refl}
use mathlib.Core.List.{map}
use Rattle.paper.specs.Record.{flaw_numbers}
use Rattle.paper.specs.Equal.{one}
use Rattle.paper.specs.Limits.{is_limit}
use Rattle.paper.specs.Answers.{turned_down_compared, equal_trees, compared_tables, compared}
use Rattle.paper.specs.Calls.{eights, is_too_short, returned, answered}
use Rattle.paper.specs.Driver.{members}
use Rattle.paper.specs.Tree.{mark_of}
use Rattle.paper_differ.specs.Differ.{same_fields, alike, or_pair, with_first, exponents, differences, in_step, between, differences_of}
use Rattle.paper_differ.specs.Differ.{too_few_places, refused_for, differed_tables, differed, numbers_of, at_front, list_after}
use Rattle.paper_differ.specs.Calls.{differed_numbers, differ_returns, differ_answers, differ_leaves}
use Rattle.paper_differ.specs.Examples.{examples, computed, equalities, are_equal, calls, called, refused_from_c}
use Rattle.paper.proofs.Computes.{verdict_computes, table_computes, equality_computes}

-- a name that opens every definition of the walk and of the call; it states nothing
unfoldable pub differ_computes : Unit {0}
unfolding
    verdict_computes table_computes equality_computes members eights is_too_short returned answered flaw_numbers same_fields mark_of alike or_pair with_first
    exponents differences in_step between differences_of is_limit too_few_places refused_for differed_tables differed numbers_of at_front list_after
    differed_numbers differ_returns differ_answers differ_leaves
differ_computes = tt

-- the definitions give each example as the request has it
pub record Told : Type 0 where
  pub answers : map computed examples ≡ examples
  pub second_mode : map are_equal examples ≡ equalities
  pub from_c : map called calls ≡ calls
  pub refused_from_c : refused_from_c ≡ 5

pub told : Told
unfolding differ_computes turned_down_compared equal_trees compared_tables compared one examples computed equalities are_equal calls called refused_from_c
told = record { answers = refl; second_mode = refl; from_c = refl; refused_from_c = refl }
