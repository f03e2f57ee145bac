-- `table::weight`: refusal 19 by the test of the limit, refusal 1 by one law for each test of the length, and past them the records are judged.
use Prim.Native.Nat.{◌≤◌}
use mathlib.Core.Path.{sym, ap, ◌∙◌}
use native.Mathlib.Omega.{arith}
use borrow.Author.Tests.{eqb-true, eqb-false}
use lib.ListN.{length}
use Rattle.paper.specs.Verdict.{Verdict, table_weight}
use Rattle.paper.specs.Answers.{measured, weighed}
use Rattle.paper.proofs.LimitLaws.{limit_small}
use Rattle.table.specs.declared.refusals.Refusal.TheVariants.{Length, Limit}
use Rattle.table.proofs.RefusalLaws.{says_refused}
use Rattle.table.proofs.JudgeLaws.{limit_unknown, length_zero, length_uneven, length_over, length_good, records_there}
use Rattle.table.proofs.weight.Goals as goal
use Rattle.table.proofs.weight.Goals.{then-is_empty-via-then-is_empty, then-is_empty-via-else-is_empty+then-s-gt0}
use Rattle.table.proofs.weight.Goals.{then-is_empty-via-else-is_empty+else-s-gt0+then-limit-s}

pub returns-then-not-is_limit : goal.returns-then-not-is_limit
unfolding weighed
returns-then-not-is_limit c =
    let a = c.args in
    says_refused _ _ Limit (sym (limit_unknown a.limit a.s.now (sym c.is_limit.ensures ∙ c.if-not-is_limit.true)))

pub overflow_mul-limit : goal.overflow_mul-limit
overflow_mul-limit c = omega (arith, limit_small c.args.limit (sym c.is_limit.ensures ∙ c.if-not-is_limit.false))

pub returns-then-is_empty : goal.returns-then-is_empty
unfolding weighed
returns-then-is_empty c =
    let lim = c.args.limit in
    let s = c.args.s.now in
    let known = sym c.is_limit.ensures ∙ c.if-not-is_limit.false in
    let empty = sym c.is_empty.ensures in
    says_refused _ _ Length (sym (elim c.then-is_empty.branch [
      | then-is_empty-via-then-is_empty w ↦ length_zero lim known s (omega (arith, eqb-true (length s) 0 (empty ∙ w.if-is_empty.true)))
      | then-is_empty-via-else-is_empty+then-s-gt0 w ↦
          length_uneven lim known s (omega (arith, eqb-false (length s) 0 (empty ∙ w.if-is_empty.false))) w.if-s-gt0.true
      | then-is_empty-via-else-is_empty+else-s-gt0+then-limit-s w ↦
          length_over lim known s (omega (arith, eqb-false (length s) 0 (empty ∙ w.if-is_empty.false))) w.if-s-gt0.false w.if-limit-s.true
    ]))

pub judge_records-requires : goal.judge_records-requires
judge_records-requires c =
    (records_there c.args.s.now, omega (arith, limit_small c.args.limit (sym c.is_limit.ensures ∙ c.if-not-is_limit.false)))

pub returns : goal.returns
unfolding weighed
returns c =
    let lim = c.args.limit in
    let s = c.args.s.now in
    let known = sym c.is_limit.ensures ∙ c.if-not-is_limit.false in
    let some : 1 ≤ length s = omega (arith, eqb-false (length s) 0 (sym c.is_empty.ensures ∙ c.if-is_empty.false)) in
    let good = length_good lim known s some c.if-s-gt0.false c.if-limit-s.false in
    c.judge_records.ensures ∙ ap (λ (v : Verdict). measured v (table_weight s)) (sym (rw (← records_there s) at good))
