-- `replace::counted` meets its contract: by the kind of the record, and by what is found of its symbol.
use Rattle.std.proofs.Common.{sym, ap, ◌∙◌}
use Rattle.std.proofs.Common.{get_or}
use Rattle.replace.proofs.WeighLaws.{count_other, count_plain, count_defined}
use Rattle.replace.proofs.counted.Goals as goal

pub returns-then-kind-ne-SYMBOL-clause-counts : goal.returns-then-kind-ne-SYMBOL-clause-counts
returns-then-kind-ne-SYMBOL-clause-counts c =
    let a = c.args in
    count_other a.which.now a.weights.now a.s.now a.i (λ e. c.if-kind-ne-SYMBOL.true (c.kind.ensures ∙ e))

pub returns-in-Some-clause-counts : goal.returns-in-Some-clause-counts
returns-in-Some-clause-counts c =
    let a = c.args in
    count_defined a.which.now a.weights.now a.s.now a.i (sym c.kind.ensures ∙ c.if-kind-ne-SYMBOL.false) c.in-Some.k
    (ap (λ x. get_or a.which.now x 0) (sym c.symbol.ensures) ∙ c.in-Some.ensures)

pub returns-in-None-clause-counts : goal.returns-in-None-clause-counts
returns-in-None-clause-counts c =
    let a = c.args in
    count_plain a.which.now a.weights.now a.s.now a.i (sym c.kind.ensures ∙ c.if-kind-ne-SYMBOL.false)
    (ap (λ x. get_or a.which.now x 0) (sym c.symbol.ensures) ∙ c.in-None.ensures)
