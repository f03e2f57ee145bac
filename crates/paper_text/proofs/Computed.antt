-- The examples of formulas as text: one table, one statement, by computation.
use Prim.Native.Nat.{ℕ}
use mathlib.Core.Path.{◌≡◌, refl}
use mathlib.Core.Bool.{false}
use mathlib.Core.List.{List, [], ◌∷◌, ◌++◌, map}
use mathlib.Core.Option.{some}
use lib.ListN.{replicate}
use Rattle.paper.specs.Limits.{is_limit}
use Rattle.paper.specs.Bytes.{bytes, word}
use Rattle.paper.specs.Tree.{count, of_list, weight, records}
use Rattle.paper.specs.Table.{record_of, encode}
use Rattle.paper.specs.Verdict.{is_accepted}
use Rattle.paper.specs.Calls.{eights, is_too_short, returned, answered}
use Rattle.paper_text.specs.Text.{digits_of, digits, signed_digits, needs, enclosed, text, then, begins, tail, is_digit, digit_ahead, read_digits, below}
use Rattle.paper_text.specs.Text.{read_number, negative, read_leaf, fit, fits, alone, also, all_fit, leaving, closed, exponent_after, raised_by, read_others}
use Rattle.paper_text.specs.Text.{read_base, read_power, product_from, read_product, sum_from, read_sum, read_within, whole, read_text}
use Rattle.paper_text.specs.Levels.{formed}
use Rattle.paper_text.specs.Answers.{Filled, Taken, taken, area_after, room_for, records_of, count_of, read_judged, read_verdict}
use Rattle.paper_text.specs.Answers.{read_answer, read_given, taken_numbers, read_text_returns, read_text_answers, read_text_leaves}
use Rattle.paper_text.specs.Examples.{Spelt, spelt, formless}

-- a name that opens every definition of the texts; it states nothing
unfoldable pub text_computes : Unit {0}
unfolding
    digits_of digits signed_digits needs enclosed text then begins tail is_digit digit_ahead read_digits below read_number negative read_leaf fit fits alone
    also all_fit leaving closed exponent_after raised_by read_others read_base read_power product_from read_product sum_from read_sum read_within
    whole read_text
    formed taken area_after room_for records_of count_of is_limit read_judged read_verdict read_answer read_given taken_numbers read_text_returns
    read_text_answers
    read_text_leaves bytes word count of_list weight records record_of encode is_accepted eights is_too_short returned answered
text_computes = tt

abbrev took : ℕ → ℕ → List ℕ → Filled Taken
took k n area = record { answer = record { number = k; place = 0; records_written = n }; area = area }

-- s0, and s0+
abbrev symbol_text : List ℕ
symbol_text = 115 ∷ 48 ∷ []

abbrev open_sum : List ℕ
open_sum = 115 ∷ 48 ∷ 43 ∷ []

pub record Settled : Type 0 where
  pub written : map (λ (r : Spelt). text r.tree) spelt ≡ map (λ (r : Spelt). r.chars) spelt
  pub read : map (λ (r : Spelt). read_text r.chars) spelt ≡ map (λ (r : Spelt). some r.tree) spelt
  pub refused_14 : map (λ (s : List ℕ). formed (read_text s)) formless ≡ map (λ (s : List ℕ). false) formless
  pub just_room : read_given 3072 symbol_text (replicate 17 9) ≡ took 0 1 (1 ∷ 0 ∷ 0 ∷ 0 ∷ 0 ∷ 0 ∷ 0 ∷ 0 ∷ 0 ∷ 0 ∷ 0 ∷ 0 ∷ 0 ∷ 0 ∷ 0 ∷ 0 ∷ 9 ∷ [])
  pub no_room : read_given 3072 symbol_text (replicate 15 9) ≡ took 6 0 (replicate 15 9)
  pub form_before_room : read_given 3072 open_sum [] ≡ took 14 0 []
  pub limit_before_form : read_given 3073 open_sum [] ≡ took 19 0 []
  pub higher_limit : read_given 16384 symbol_text (replicate 15 9) ≡ took 6 0 (replicate 15 9)
  pub from_c : read_text_returns 3072 symbol_text (replicate 16 9) (replicate 23 7) ≡ 6
  pub from_c_kept : read_text_leaves 3072 symbol_text (replicate 16 9) (replicate 23 7) ≡ replicate 16 9
  pub from_c_room : read_text_answers 3072 open_sum [] (replicate 25 7)
      ≡ 14 ∷ 0 ∷ 0 ∷ 0 ∷ 0 ∷ 0 ∷ 0 ∷ 0 ∷ 0 ∷ 0 ∷ 0 ∷ 0 ∷ 0 ∷ 0 ∷ 0 ∷ 0 ∷ 0 ∷ 0 ∷ 0 ∷ 0 ∷ 0 ∷ 0 ∷ 0 ∷ 0 ∷ 7 ∷ []
  pub from_c_told : read_text_answers 3072 symbol_text (replicate 16 9) (replicate 25 7) ≡ replicate 16 0 ++ (1 ∷ (replicate 7 0 ++ (7 ∷ [])))

pub settled : Settled
unfolding text_computes spelt formless
settled =
    record {
      written = refl;
      read = refl;
      refused_14 = refl;
      just_room = refl;
      no_room = refl;
      form_before_room = refl;
      limit_before_form = refl;
      higher_limit = refl;
      from_c = refl;
      from_c_kept = refl;
      from_c_room = refl;
      from_c_told = refl;
    }
