-- The definitions give what is stored, by computation.
use mathlib.Core.Path.{◌≡◌, refl}
use mathlib.Core.List.{map}
use Rattle.paper.specs.Rules.{edition_one}
use Rattle.paper.specs.Examples.{untried, out_weight, computed}
use Rattle.paper.specs.Stored.{stored}
use Rattle.paper.proofs.Computes.{driver_computes}

pub as_stored : map (λ e. computed edition_one e.given) stored ≡ stored
unfolding stored out_weight untried computed driver_computes
as_stored = refl
