-- The exponent stands in the record after the base (`power_stays`).
use Rattle.std.proofs.Common.{not, ◌&&◌, eqb, sym, ap, ◌∙◌, arith, eq-eqb, ne_eqb}
use Rattle.paper.specs.Record.{mark_in}
use Rattle.split.proofs.SplitLaws.{some_base}
use Rattle.note.proofs.ToldLaws.{record_within}
use Rattle.walk.proofs.SeenStays.{power_stays}
use Rattle.walk.proofs.power_stays.Goals as goal

pub overflow_add-i : goal.overflow_add-i
overflow_add-i c = record { fits = omega (arith, record_within c.requires.0.there) }

pub skip_tree-e-requires : goal.skip_tree-e-requires
skip_tree-e-requires c = some_base c.requires.0 c.requires.1

pub bits-requires : goal.bits-requires
bits-requires c = let q = c.requires in (power_stays q.0.tree q.0.there q.1 c.skip_tree-e.result (c.skip_tree-e.ensures q.0.how)).within

pub mark-requires : goal.mark-requires
mark-requires c = let q = c.requires in (power_stays q.0.tree q.0.there q.1 c.skip_tree-e.result (c.skip_tree-e.ensures q.0.how)).within

pub mark-requires-then-bits-ne1 : goal.mark-requires-then-bits-ne1
mark-requires-then-bits-ne1 c = record_within c.requires.0.there

pub returns-then-bits-ne1 : goal.returns-then-bits-ne1
returns-then-bits-ne1 c = λ how t h.
    let g = c.args in
    let exponent = power_stays t h c.requires.1 c.skip_tree-e.result (c.skip_tree-e.ensures how) in
    let more = ne_eqb _ 1 (λ e. c.if-bits-ne1.true (c.bits.ensures ∙ e)) in
    ap (λ m. eqb m c.mark-then-bits-ne1.result) c.mark.ensures.0
    ∙ ap (eqb (mark_in g.s.now c.skip_tree-e.result)) c.mark-then-bits-ne1.ensures.0
    ∙ sym (exponent.tells ∙ ap (λ b. not b && eqb (mark_in g.s.now c.skip_tree-e.result) (mark_in g.s.now g.i)) more)

pub returns-else-bits-ne1 : goal.returns-else-bits-ne1
returns-else-bits-ne1 c = λ how t h.
    let g = c.args in
    let exponent = power_stays t h c.requires.1 c.skip_tree-e.result (c.skip_tree-e.ensures how) in
    let one = eq-eqb _ 1 (sym c.bits.ensures ∙ c.if-bits-ne1.false) in
    ap not (eq-eqb _ 1 c.if-bits-ne1.false)
    ∙ sym (exponent.tells ∙ ap (λ b. not b && eqb (mark_in g.s.now c.skip_tree-e.result) (mark_in g.s.now g.i)) one)
