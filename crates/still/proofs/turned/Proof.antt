-- `still::turned` meets its contract, by computing.
use mathlib.Core.Path.{refl}
use native.Mathlib.Omega.{arith}
use Rattle.still.specs.Keys.{turned}
use borrow.Author.Rules.{rules}
use Rattle.still.proofs.turned.Statement.{statement}
use Rattle.still.proofs.turned.Tie as tie

returns : tie.Need-returns
unfolding turned
returns c = (refl, omega arith)

pub turned_spec : {M : Type 1} → statement M
turned_spec = tie.close (tie.spec (λ c. search rules) returns)
