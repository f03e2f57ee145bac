-- `receiver::most_of`: the tests are those of the definition.
use mathlib.Core.Path.{refl, sym, ◌∙◌}
use native.Mathlib.Omega.{arith}
use Rattle.paper.proofs.LimitLaws.{limit_small}
use Rattle.paper_receiver.proofs.ReceiverLaws.{is_short_lem, is_long}
use Rattle.receiver.proofs.most_of.Goals as goal

pub overflow_mul-most : goal.overflow_mul-most
overflow_mul-most c = omega (arith, limit_small c.args.limit (sym c.is_limit.ensures ∙ c.if-not-is_limit.false))

pub returns-then-area-most : goal.returns-then-area-most
returns-then-area-most c =
    let known = sym c.is_limit.ensures ∙ c.if-not-is_limit.false in
    rw (known, is_short_lem c.args.limit c.args.area.now c.if-area-most.true) refl

pub returns : goal.returns
returns c =
    let known = sym c.is_limit.ensures ∙ c.if-not-is_limit.false in
    rw (known, is_long c.args.limit c.args.area.now c.if-area-most.false) refl
