-- Another tree than an integer tells so by its kind, and of an integer the number and the mark are read (`coefficient_at`).
use Rattle.std.proofs.Common.{not, ◌&&◌, eqb, sym, ap, ◌∙◌, eq-eqb, ne_eqb}
use Rattle.paper.specs.Record.{mark_in}
use Rattle.note.proofs.ToldLaws.{record_within}
use Rattle.rebuilt.proofs.IntegerTests.{ne_other, ne_integer}
use Rattle.walk.proofs.SeenStays.{other_at, coefficient_at}
use Rattle.walk.proofs.is_coefficient.Goals as goal

pub at-requires : goal.at-requires
at-requires c = record_within c.requires.there

pub returns-then-ne : goal.returns-then-ne
returns-then-ne c = λ how t h. sym ((other_at t h (ne_other c.at.result _ c.at.ensures.all c.ne.ensures c.if-ne.true)).1 _)

pub bits-requires : goal.bits-requires
bits-requires c = record_within c.requires.there

pub mark-requires : goal.mark-requires
mark-requires c = record_within c.requires.there

pub returns-then-bits-ne1 : goal.returns-then-bits-ne1
returns-then-bits-ne1 c = λ how t h.
    let g = c.args in
    let other = ne_eqb _ 1 (λ e. c.if-bits-ne1.true (c.bits.ensures ∙ e)) in
    ap (λ m. eqb m g.mark) c.mark.ensures.0
    ∙ sym
    (coefficient_at g.mark t h (ne_integer c.at.result _ c.at.ensures.all c.ne.ensures c.if-ne.false)
    ∙ ap (λ b. not b && eqb (mark_in g.s.now g.i) g.mark) other)

pub returns-else-bits-ne1 : goal.returns-else-bits-ne1
returns-else-bits-ne1 c = λ how t h.
    let g = c.args in
    let one = eq-eqb _ 1 (sym c.bits.ensures ∙ c.if-bits-ne1.false) in
    ap not (eq-eqb _ 1 c.if-bits-ne1.false)
    ∙ sym
    (coefficient_at g.mark t h (ne_integer c.at.result _ c.at.ensures.all c.ne.ensures c.if-ne.false)
    ∙ ap (λ b. not b && eqb (mark_in g.s.now g.i) g.mark) one)
