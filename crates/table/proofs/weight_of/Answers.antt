-- `table::weight_of`: a symbol weighs 3, and another record 1.
use mathlib.Core.Path.{sym, ◌∙◌}
use native.Mathlib.Omega.{arith}
use Rattle.table.proofs.StepLaws.{weight_symbol, weight_other, weight_done}
use Rattle.table.proofs.weight_of.Goals as goal
use Rattle.table.proofs.weight_of.Goals.{then-kind-eq-SYMBOL, else-kind-eq-SYMBOL}

pub loop-i-preserved : goal.loop-i-preserved
loop-i-preserved c =
    let s = c.args.s.now in
    let test = c.loop-i-test.true in
    let k = sym c.kind.ensures in
    elim c.if-kind-eq-SYMBOL.branch [
      | then-kind-eq-SYMBOL w ↦
          let weighs = weight_symbol s c.args.n c.loop-i.i test (k ∙ w.if-kind-eq-SYMBOL.true) in
          (omega arith, omega arith)
      | else-kind-eq-SYMBOL w ↦
          let weighs = weight_other s c.args.n c.loop-i.i test (λ e. w.if-kind-eq-SYMBOL.false (sym k ∙ e)) in
          (omega arith, omega arith)
    ]

pub returns : goal.returns
returns c = omega (arith, weight_done c.args.s.now c.args.n c.loop-i.i c.loop-i-test.false)
