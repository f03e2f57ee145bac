-- `driver::opens`: by its tests.
use borrow.Author.Tests.{eq-eqb, ne_eqb}
use Rattle.paper.specs.Record.{is_node}
use Rattle.driver.proofs.opens.Goals as goal

pub returns-then-k-eq-SUM : goal.returns-then-k-eq-SUM
unfolding is_node
returns-then-k-eq-SUM c = simp (eq-eqb _ _ c.if-j-k.true, eq-eqb _ _ c.if-k-eq-SUM.true)

pub returns-else-k-eq-SUM : goal.returns-else-k-eq-SUM
unfolding is_node
returns-else-k-eq-SUM c = simp (eq-eqb _ _ c.if-j-k.true, ne_eqb _ _ c.if-k-eq-SUM.false)
