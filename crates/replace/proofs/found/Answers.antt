-- `replace::found` meets its contract: by the kind of the record.
use Rattle.std.proofs.Common.{refl, sym, ◌∙◌}
use borrow.Author.Tests.{eq-eqb, ne_eqb}
use Rattle.paper.specs.Record.{kind}
use Rattle.replace.proofs.found.Goals as goal

pub returns-then-kind-ne-SYMBOL : goal.returns-then-kind-ne-SYMBOL
returns-then-kind-ne-SYMBOL c =
    let a = c.args in
    rw (ne_eqb (kind a.s.now a.i) 1 (λ e. c.if-kind-ne-SYMBOL.true (c.kind.ensures ∙ e))) refl

pub returns : goal.returns
returns c =
    let a = c.args in
    rw (eq-eqb (kind a.s.now a.i) 1 (sym c.kind.ensures ∙ c.if-kind-ne-SYMBOL.false), ← c.symbol.ensures) c.definition_of.ensures
