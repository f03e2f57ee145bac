-- `driver::settle`: each answer of the rules is a law of Stepping, for the tree that stands there now.
use mathlib.Core.Path.{◌≡◌, sym, ◌∙◌}
use mathlib.Core.Bool.{true}
use native.Mathlib.Omega.{arith}
use lib.ListN.{length-set}
use Rattle.std.specs.Prelude.{Ok}
use Rattle.paper.specs.Rules.{rules_of}
use Rattle.still.specs.Still.{still_by}
use Rattle.still.proofs.StillLaws.{still_no_rule, still_by_lem}
use Rattle.driver.specs.Driven.{Burst, SettledIs}
use Rattle.driver.proofs.Forests.{for_every}
use Rattle.driver.proofs.Stepping.{start, set_now, step_fits, tree_there, scratch_fits, looked_at, burst, stepped, idle}
use Rattle.driver.proofs.settle.Goals as goal

pub loop-d-init : goal.loop-d-init
loop-d-init c = start c.requires.2

pub overflow_mul-d : goal.overflow_mul-d
overflow_mul-d c = omega (arith, scratch_fits c.loop-d.invariant, c.loop-d.invariant.out_long)

pub still-requires : goal.still-requires
still-requires c =
    let v = c.loop-d.invariant in
    (v.u, tree_there v, scratch_fits v)

pub returns-then-still : goal.returns-then-still
returns-then-still c =
    let g = c.args in
    let v = c.loop-d.invariant in
    let told : still_by g.edition v.u ≡ true = sym (c.still.ensures.value v.u (tree_there v)) ∙ c.if-still.true in
    let w = looked_at v c.still.new.d (c.still.ensures.around v.u (tree_there v)) in
    for_every v.set_up
    (λ t r. SettledIs (rules_of g.edition) t r g.out.now c.still.new.d c.loop-d.work
    g.steps.now c.loop-d.steps g.d g.s (Ok (record { at = c.loop-d.at; noted = c.loop-d.noted })))
    (v.u, w.came, still_no_rule g.edition v.u (still_by_lem g.edition v.u told))

pub ask-requires : goal.ask-requires
ask-requires c =
    let v = c.loop-d.invariant in
    let w = looked_at v c.still.new.d (c.still.ensures.around v.u (tree_there v)) in
    (w.u, w.rest, (set_now w).ready)

pub returns-in_default : goal.returns-in_default
returns-in_default c =
    let v = c.loop-d.invariant in
    let w = looked_at v c.still.new.d (c.still.ensures.around v.u (tree_there v)) in
    for_every w.set_up (λ t r. Burst (rules_of c.args.edition) t c.args.s c.loop-d.noted)
    (burst w (c.in_default.ensures w.u w.rest (set_now w).ready))

pub returns-in_default-asked : goal.returns-in_default-asked
returns-in_default-asked c =
    let g = c.args in
    let v = c.loop-d.invariant in
    let w = looked_at v c.still.new.d (c.still.ensures.around v.u (tree_there v)) in
    let a = c.ask in
    for_every w.set_up
    (λ t r. SettledIs (rules_of g.edition) t r g.out.now a.new.out a.new.work
    g.steps.now c.loop-d.steps g.d g.s (Ok (record { at = c.loop-d.at; noted = c.loop-d.noted })))
    (idle w a.new.out a.new.work a.auto.out a.auto.work (rw c.in_default-asked.is at (c.in-Ok.ensures w.u w.rest (set_now w).ready)))

pub bounds-steps-noted : goal.bounds-steps-noted
bounds-steps-noted c = step_fits c.loop-d.invariant

pub overflow_add-noted : goal.overflow_add-noted
overflow_add-noted c = omega (arith, step_fits c.loop-d.invariant)

pub loop-d-smaller : goal.loop-d-smaller
loop-d-smaller c = omega (arith, step_fits c.loop-d.invariant, length-set c.loop-d.steps c.loop-d.noted c.in-Some.applied.step)

pub loop-d-preserved : goal.loop-d-preserved
loop-d-preserved c =
    let v = c.loop-d.invariant in
    let w = looked_at v c.still.new.d (c.still.ensures.around v.u (tree_there v)) in
    let a = c.ask in
    stepped w a.new.out a.new.work a.auto.out a.auto.work c.in-Some.applied (rw c.in-Some.is at (c.in-Ok.ensures w.u w.rest (set_now w).ready))
