-- The examples of the settings store: one table, one statement, by computation.
use Prim.Native.Nat.{◌/◌}
use mathlib.Core.Path.{◌≡◌, refl}
use mathlib.Core.List.{[], ◌∷◌, map}
use native.Mathlib.Omega.{arith}
use lib.ListN.{length}
use Rattle.paper.specs.Bytes.{bytes, le, le2, le8}
use Rattle.paper.specs.Calls.{eights, is_too_short, returned, answered}
use Rattle.paper_settings.specs.Settings.{version, key_in, unit_in, setting_in, may_table, may_be, strays, is_malformed, is_free, holds, slot_of, free_slot}
use Rattle.paper_settings.specs.Settings.{setting_of, slots, joined, slots_of, shown, known, used, any_newer, all_free, in_order, is_disordered}
use Rattle.paper_settings.specs.Settings.{area_verdict, to_store, to_fetch, to_remove, AllFit, fetch_reply, no_settings, with, without, is_full}
use Rattle.paper_settings.specs.Settings.{on_map, put, take_out, on_slots, called, fetched, fetched_old, call_each, ask_each}
use Rattle.paper_settings.specs.Calls.{reply_numbers, old_numbers, fetch_returns, fetch_answers, old_returns, old_answers}
use Rattle.paper_settings.specs.Examples.{Example, examples, from_free, left_by, computed, by_byte, stored, old_examples, old_computed}
use Rattle.paper_settings.specs.Examples.{fetches, fetch_computed, old_fetches, old_fetch_computed}

-- a name that opens every definition of the store; it states nothing
unfoldable pub settings_compute : Unit {0}
unfolding
    bytes le le2 le8 version key_in unit_in setting_in may_table may_be strays is_malformed is_free holds slot_of free_slot setting_of slots joined
    slots_of shown known used any_newer all_free in_order is_disordered area_verdict fetch_reply no_settings with without is_full on_map put take_out
    on_slots called fetched fetched_old call_each ask_each eights is_too_short returned answered reply_numbers old_numbers fetch_returns fetch_answers
    old_returns old_answers
settings_compute = tt

-- the definitions give each example as the request has it
pub record Settled : Type 0 where
  pub calls : map computed examples ≡ examples
  pub calls_from_free : map computed from_free ≡ from_free
  pub plain_map : map (λ (e : Example). ask_each (length e.given / 32) e.asked no_settings) from_free ≡ map (λ (e : Example). e.answers) from_free
  pub by_byte : stored 0 0 31 ∷ stored 1 0 31 ∷ stored 2 0 31 ∷ [] ≡ by_byte
  pub old_reader : map old_computed old_examples ≡ old_examples
  pub from_c : map fetch_computed fetches ≡ fetches
  pub from_c_old : map old_fetch_computed old_fetches ≡ old_fetches

pub settled : Settled
unfolding settings_compute examples from_free left_by computed by_byte stored old_examples old_computed fetches fetch_computed old_fetches old_fetch_computed
settled =
    record {
      calls = refl;
      calls_from_free = refl;
      plain_map = refl;
      by_byte = refl;
      old_reader = refl;
      from_c = refl;
      from_c_old = refl;
    }

-- the theorems speak of every key, unit and setting that a caller can give
pub largest_fit : AllFit (to_store 65535 18446744073709551615 65535 ∷ to_fetch 65535 ∷ to_remove 65535 ∷ [])
largest_fit = ((omega arith, (omega arith, omega arith)), (omega arith, (omega arith, tt)))
