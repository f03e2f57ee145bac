-- Names that open whole layers of definitions, for proofs by computation: `unfolding equality_computes rules_compute ..` opens
-- every definition of that layer. They state nothing.
use Rattle.paper.specs.Limits.{is_limit, work_bytes}
use Rattle.paper.specs.Bytes.{le, bytes, le2, le8, word, stretch}
use Rattle.paper.specs.Tree.{to_list, of_list, count, marked, records, weight, value}
use Rattle.paper.specs.Record.{kind, count_in, mark_in, bits, symbol_in, may_table, may_be, stray, is_node, flaw, is_flawed, arity, weight_from}
use Rattle.paper.specs.Verdict.{is_accepted, records_in, bad_length, first_flawed, table_weight, skip, tree_end, is_positive, bad_exponent}
use Rattle.paper.specs.Verdict.{first_bad_exponent, judge_records, judged_table, verdict}
use Rattle.paper.specs.Table.{record_of, encode, then, kind_of, read_members, raised, read_exponent, read_tree, whole, tree_of}
use Rattle.paper.specs.Equal.{eq_z, on_integer, on_symbol, on_sum, on_product, on_power, keeping, take_if, remove_first, go_on, is_empty, equal}
use Rattle.paper.specs.Walk.{last_of, init_of, last_first, one_removed, turn, walk}
use Rattle.paper.specs.Walk as Walk
use Rattle.paper.specs.Rules.{fits, collapse, sum_of, product_of, on_sum_members, on_product_members, as_integer, is_the, unless, drop_all, any_of, applies_if}
use Rattle.paper.specs.Rules.{add_zero, multiply_zero, multiply_one, all_in_range, rebuilt, outcome, combine, term, with_integer, integers_of, with_other}
use Rattle.paper.specs.Rules.{others_of, times_one, times_each, unit, product_term, term_of, added, add_if, merge_terms, coefficient_times}
use Rattle.paper.specs.Rules.{times_unless, from_term}
use Rattle.paper.specs.Rules.{combine_like_terms, factor, factor_of, raise_if, both_integers, multiply_if, merge_factors, power_unless, from_factor}
use Rattle.paper.specs.Rules.{combine_like_factors, edition_one, on_power_parts, power_one, power_constant, raised_if, power_power, edition_two}
use Rattle.paper.specs.Rules.{is_edition, rules_of}
use Rattle.paper.specs.Driver.{ask, after, tried, and_then, each, members, as_sum, as_product, open_one, opened, base_from, gather}
use Rattle.paper.specs.Driver.{settle, gathered, visit, run, simplify}
use Rattle.paper.specs.Answers.{measured, weighed, register, tree_value, registers_verdict, valued, cramped, judged_call, judgement, run_on, outcome_of}
use Rattle.paper.specs.Answers.{refused_by, ran_answer, answer_of, written, noted, out_after, steps_after, work_after, lent_after, simplified_by, simplified}

unfoldable pub trees_compute : Unit {0}
unfolding to_list of_list count records weight value word
trees_compute = tt

unfoldable pub record_computes : Unit {0}
unfolding le le2 le8 kind count_in mark_in bits symbol_in may_table may_be stray is_node flaw is_flawed arity weight_from
record_computes = tt

unfoldable pub verdict_computes : Unit {0}
unfolding
    record_computes is_accepted records_in bad_length first_flawed table_weight skip tree_end is_positive bad_exponent first_bad_exponent
    judge_records judged_table verdict is_limit work_bytes
verdict_computes = tt

unfoldable pub table_computes : Unit {0}
unfolding trees_compute record_computes bytes record_of encode then kind_of read_members raised read_exponent read_tree whole tree_of
table_computes = tt

unfoldable pub equality_computes : Unit {0}
unfolding to_list eq_z on_integer on_symbol on_sum on_product on_power keeping take_if remove_first go_on is_empty equal
equality_computes = tt

unfoldable pub rules_compute : Unit {0}
unfolding
    equality_computes to_list of_list marked last_of init_of last_first one_removed Walk.then_walk turn walk fits collapse sum_of product_of on_sum_members
    on_product_members as_integer is_the unless drop_all any_of applies_if add_zero multiply_zero multiply_one all_in_range rebuilt outcome combine term
    with_integer integers_of with_other others_of times_one times_each unit product_term term_of added add_if merge_terms coefficient_times
    times_unless from_term
    combine_like_terms factor factor_of raise_if both_integers multiply_if merge_factors power_unless from_factor combine_like_factors edition_one
    on_power_parts
    power_one power_constant raised_if power_power edition_two is_edition rules_of
rules_compute = tt

unfoldable pub driver_computes : Unit {0}
unfolding
    rules_compute weight ask after tried and_then each members as_sum as_product open_one opened base_from gather settle gathered visit run
    simplify
driver_computes = tt

unfoldable pub answers_compute : Unit {0}
unfolding
    verdict_computes table_computes driver_computes stretch measured weighed register tree_value registers_verdict valued cramped
    judged_call judgement run_on outcome_of refused_by ran_answer answer_of written noted out_after steps_after work_after lent_after simplified_by simplified
answers_compute = tt
