-- The small calls are answered so, by computation.
use mathlib.Core.Path.{refl}
use Rattle.paper.specs.Sayings.{Sayings}
use Rattle.paper.specs.Record.{flaw_numbers}
use Rattle.paper.specs.Equal.{one}
use Rattle.paper.specs.Answers.{turned_down_compared, equal_trees, compared_tables, compared, refused_by}
use Rattle.paper.specs.Calls.{verdict_numbers, measured_numbers, compared_numbers, answer_numbers, eights, is_too_short}
use Rattle.paper.specs.Calls.{returned, answered, check_answers, weight_returns, weight_answers, value_answers, equal_answers}
use Rattle.paper.proofs.Computes.{answers_compute}

pub said : Sayings
unfolding answers_compute turned_down_compared equal_trees compared_tables compared verdict_numbers measured_numbers compared_numbers answer_numbers
    eights is_too_short
    returned answered check_answers weight_returns weight_answers value_answers equal_answers flaw_numbers refused_by one
said = record {
  lengths = (refl, refl, refl, refl, refl);
  limits = (refl, refl, refl, refl, refl, refl, refl, refl);
  works = (refl, refl);
  limit_first = refl;
  limit_before_tables = refl;
  zero_exponent = refl;
  weighs = refl;
  weight_refused = refl;
  value_is = refl;
  value_length = refl;
  value_table_first = refl;
  equal_first = refl;
  equal_second = refl;
  equal_yes = refl;
  zeros_and_past = refl;
  numbers = refl;
  numbers_refused = refl;
  slice_short = (refl, refl);
  slice = (refl, refl);
  kind_first = refl;
  lowest_byte = refl;
  byte_before_count = refl;
  power_byte = refl;
  count_last = refl;
  first_record = refl;
  check_says = refl;
  weight_says = refl;
  value_says = refl;
  equal_says = refl;
  simplify_says = refl;
}
