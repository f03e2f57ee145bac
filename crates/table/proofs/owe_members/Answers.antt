-- `table::owe_members`: a power has two members, so that the second one from the top is where record i was.
use Prim.Native.Nat.{◌+◌, ◌-◌}
use mathlib.Core.Path.{◌≡◌, refl, sym, ap, ◌∙◌}
use native.Mathlib.Omega.{arith}
use borrow.Author.Tests.{eq-eqb, ne_eqb}
use Rattle.paper.specs.Record.{kind}
use Rattle.table.specs.Due.{turned, owing}
use Rattle.table.proofs.OwedLaws.{arity_power}
use Rattle.table.proofs.owe_members.Goals as goal

pub overflow_sub-owed : goal.overflow_sub-owed
overflow_sub-owed c =
    omega (arith, c.arity.ensures.0, arity_power c.args.s.now c.args.i (sym c.kind.ensures ∙ c.if-kind-eq-POWER.true))

pub turn-requires : goal.turn-requires
turn-requires c =
    omega (arith, c.arity.ensures.0, arity_power c.args.s.now c.args.i (sym c.kind.ensures ∙ c.if-kind-eq-POWER.true))

pub returns-then-kind-eq-POWER : goal.returns-then-kind-eq-POWER
unfolding owing
returns-then-kind-eq-POWER c =
    let a = c.args in
    let power : kind a.s.now a.i ≡ 4 = sym c.kind.ensures ∙ c.if-kind-eq-POWER.true in
    let place : a.k + c.arity.result - 2 ≡ a.k = omega (arith, c.arity.ensures.0, arity_power a.s.now a.i power) in
    (ap (◌+◌ a.k) c.arity.ensures.0, rw (eq-eqb _ _ power) (c.turn.ensures ∙ ap (turned a.due.now) place))

pub returns-else-kind-eq-POWER : goal.returns-else-kind-eq-POWER
unfolding owing
returns-else-kind-eq-POWER c =
    let a = c.args in
    let other = ne_eqb (kind a.s.now a.i) 4 (λ e. c.if-kind-eq-POWER.false (c.kind.ensures ∙ e)) in
    (ap (◌+◌ a.k) c.arity.ensures.0, rw other refl)
