-- `simplify::work_bytes` meets its contract: the test is that of the definition.
use borrow.Author.Tests.{eq-eqb, ne_eqb}
use Rattle.paper.specs.Limits.{work_bytes}
use Rattle.simplify.proofs.work_bytes.Statement.{statement}
use Rattle.simplify.proofs.work_bytes.Tie as tie

returns : tie.Need-returns-then-limit-eq-OLD_LIMIT
unfolding work_bytes
returns c = simp (eq-eqb _ _ c.if-limit-eq-OLD_LIMIT.true)

returns_2 : tie.Need-returns
unfolding work_bytes
returns_2 c = simp (ne_eqb _ _ c.if-limit-eq-OLD_LIMIT.false)

pub work_bytes_spec : {M : Type 1} → statement M
work_bytes_spec = tie.close (tie.spec returns returns_2)
