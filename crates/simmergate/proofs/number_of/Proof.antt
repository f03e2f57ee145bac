-- `simmergate::number_of` meets its contract, by cases.
use mathlib.Core.Path.{sym, ap}
use Rattle.paper.specs.Equal.{one}
use Rattle.simmergate.proofs.number_of.Statement.{statement}
use Rattle.simmergate.proofs.number_of.Tie as tie

returns : tie.Need-returns-then-yes
unfolding one
returns c = sym (ap one c.if-yes.true)

returns_2 : tie.Need-returns-else-yes
unfolding one
returns_2 c = sym (ap one c.if-yes.false)

pub number_of_spec : {M : Type 1} → statement M
number_of_spec = tie.close (tie.spec returns returns_2)
