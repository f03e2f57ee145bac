-- The paper's words on small tables hold, by computation.
use mathlib.Core.Path.{refl}
use Rattle.paper.specs.Record.{flaw_numbers}
use Rattle.paper.specs.Equal.{one}
use Rattle.paper.specs.Answers.{turned_down_compared, equal_trees, compared_tables, compared}
use Rattle.paper.specs.Calls.{verdict_numbers, measured_numbers, compared_numbers, eights, is_too_short, answered, check_answers, value_answers, equal_answers}
use Rattle.paper.specs.SmallTables.{Verdicts, Flaws, Values, Compares}
use Rattle.paper.proofs.Computes.{verdict_computes, table_computes, answers_compute}

pub verdicts : Verdicts
unfolding verdict_computes table_computes verdict_numbers eights is_too_short answered check_answers flaw_numbers
verdicts = record {
  empty = refl;
  fifteen = refl;
  seventeen = refl;
  records_end = refl;
  tree_ends = refl;
  exponent_zero = refl;
  exponent_negative = refl;
  exponent_least = refl;
  exponent_symbol = refl;
  exponent_sum = refl;
  exponent_after_base = refl;
  first_exponent = refl;
  inner_exponent = refl;
  flaw_before_shape = refl;
  shape_before_exponent = refl;
  nested = refl;
  as_bytes = refl;
}

pub flaws : Flaws
unfolding verdict_computes table_computes
flaws = record {
  kind_first = refl;
  lowest_byte = refl;
  byte_first = refl;
  power_byte = refl;
  last_byte = refl;
  count_last = refl;
  no_members = refl;
  two_members = refl;
  many_members = refl;
  marked_integer = refl;
  marked_symbol = refl;
  marked_sum = refl;
  marked_product = refl;
  marked_power = refl;
  behind_mark = refl;
  mark_as_bytes = refl;
  first_record = refl;
}

pub values : Values
unfolding answers_compute measured_numbers eights is_too_short answered value_answers flaw_numbers
values = record {
  first_last = refl;
  second = refl;
  negative = refl;
  least = refl;
  sum_wraps = refl;
  sum_wraps_once = refl;
  product_wraps = refl;
  a_power = refl;
  power_wraps = refl;
  marked = refl;
  as_bytes = refl;
}

pub compares : Compares
unfolding answers_compute turned_down_compared equal_trees compared_tables compared one compared_numbers eights is_too_short answered equal_answers flaw_numbers
compares = record {
  any_order = refl;
  any_order_inside = refl;
  power_alike = refl;
  another_member = refl;
  one_member_more = refl;
  one_member_fewer = refl;
  sum_no_product = refl;
  other_exponent = refl;
  other_base = refl;
  no_symbol = refl;
  signs = refl;
  negatives = refl;
  not_opened = refl;
  other_marks = refl;
  as_bytes = refl;
  refused_as_bytes = refl;
}
