-- The examples of a whole site: one table, one statement, by computation.
use mathlib.Core.Path.{◌≡◌, refl}
use mathlib.Core.List.{map}
use Rattle.paper.specs.Record.{flaw_numbers}
use Rattle.paper.specs.Calls.{answer_numbers, eights}
use Rattle.paper.proofs.Computes.{answers_compute}
use Rattle.paper_batch.specs.Batch.{has_run, used_up, remaining, in_front, first_uses, handed_on, in_turn, numbers_in, lengths_in, total, unfit}
use Rattle.paper_batch.specs.Batch.{turns_down, site_number, all_numbers, untouched, carried_out, site_called}
use Rattle.paper_batch.specs.Examples.{sites, refusals, computed, empty_items}

-- a name that opens every definition of the call; it states nothing
unfoldable pub batch_computes : Unit {0}
unfolding
    answers_compute flaw_numbers answer_numbers eights has_run used_up remaining in_front first_uses handed_on in_turn numbers_in lengths_in total
    unfit turns_down site_number all_numbers untouched carried_out site_called
batch_computes = tt

-- the definitions give each example as the request has it
pub record Examined : Type 0 where
  pub items : map computed sites ≡ sites
  pub whole_call : map computed refusals ≡ refusals
  -- "over 200 items"
  pub items_200 : empty_items 200 ≡ 0
  pub items_201 : empty_items 201 ≡ 8

pub examined : Examined
unfolding batch_computes sites refusals computed empty_items
examined = record { items = refl; whole_call = refl; items_200 = refl; items_201 = refl }
