-- `shared::is_tight` meets its contract: the area for the opened table is tested first, and then the others by `is_cramped`.
use mathlib.Core.Path.{refl}
use borrow.Author.Rules.{rules}
use borrow.Author.Tests.{lt-ltb, le-ltb}
use Rattle.shared.specs.Answer.{tight}
use Rattle.shared.proofs.is_tight.Statement.{statement}
use Rattle.shared.proofs.is_tight.Tie as tie

returns : tie.Need-returns-then-opened-w
unfolding tight
returns c = rw (lt-ltb _ _ c.if-opened-w.true) refl

returns_2 : tie.Need-returns
unfolding tight
returns_2 c = rw (le-ltb _ _ c.if-opened-w.false) c.is_cramped.ensures

pub is_tight_spec : {M : Type 1} → statement M
is_tight_spec = tie.close (tie.spec (λ c. search rules) returns (λ c κs. search rules) returns_2)
