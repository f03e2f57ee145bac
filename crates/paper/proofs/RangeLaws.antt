-- The range that the rules judge is the range of well-formed trees, both ways: nothing in range is refused.
use mathlib.Core.Path.{◌≡◌}
use mathlib.Core.Bool.{true}
use mathlib.Core.Logic.{◌↔◌}
use Prim.Native.Nat.{◌^◌}
use lib.Signed.{mag}
use lib.IntN.{ℤ}
use borrow.Author.Tests.{lt-ltb, ltb-true}
use Rattle.paper.specs.WellFormed.{InRange}
use Rattle.paper.specs.Rules.{fits}

pub fits_exactly : (z : ℤ) → (fits z ≡ true) ↔ InRange z
unfolding fits
fits_exactly z = (λ h. ltb-true (mag z) (2 ^ 63) h, λ h. lt-ltb (mag z) (2 ^ 63) h)
