-- `rules::try_step`: the rule that is tried is the one that has the number of the step, and where none has it nothing is done.
use mathlib.Core.Path.{refl}
use native.Mathlib.Omega.{arith}
use Rattle.paper.specs.Rules.{edition_one, edition_two}
use Rattle.rules.specs.Alike.{numbered, rule_of}
use Rattle.rules.proofs.AskLaws.{no_rule_of}
use Rattle.rules.proofs.try_step.Goals as goal

pub returns-in-1 : goal.returns-in-1
unfolding edition_one edition_two rule_of numbered
returns-in-1 c = λ t rest h. rw c.in-1.is (c.add_zero.ensures t rest h)

pub returns-in-2 : goal.returns-in-2
unfolding edition_one edition_two rule_of numbered
returns-in-2 c = λ t rest h. rw c.in-2.is (c.combine_like_terms.ensures t rest h)

pub returns-in-3 : goal.returns-in-3
unfolding edition_one edition_two rule_of numbered
returns-in-3 c = λ t rest h. rw c.in-3.is (c.multiply_zero.ensures t rest h)

pub returns-in-4 : goal.returns-in-4
unfolding edition_one edition_two rule_of numbered
returns-in-4 c = λ t rest h. rw c.in-4.is (c.multiply_one.ensures t rest h)

pub returns-in-6 : goal.returns-in-6
unfolding edition_one edition_two rule_of numbered
returns-in-6 c = λ t rest h. rw c.in-6.is (c.combine_like_factors.ensures t rest h)

pub returns-in-7 : goal.returns-in-7
unfolding edition_one edition_two rule_of numbered
returns-in-7 c = λ t rest h. rw c.in-7.is (c.power_one.ensures t rest h)

pub returns-in-8 : goal.returns-in-8
unfolding edition_one edition_two rule_of numbered
returns-in-8 c = λ t rest h. rw c.in-8.is (c.power_constant.ensures t rest h)

pub returns-in-9 : goal.returns-in-9
unfolding edition_one edition_two rule_of numbered
returns-in-9 c = λ t rest h. rw c.in-9.is (c.power_power.ensures t rest h)

pub returns-in_default : goal.returns-in_default
returns-in_default c =
    λ t rest h. (
      no_rule_of _ t (λ e. omega arith) (λ e. omega arith) (λ e. omega arith) (λ e. omega arith) (λ e. omega arith) (λ e. omega arith)
          (λ e. omega arith) (λ e. omega arith),
      refl,
      refl,
    )
