-- What a search found below where it ends: its place, or none.
use Prim.Native.Nat.{ℕ, ◌<◌, ◌≤◌}
use mathlib.Core.Path.{◌≡◌, refl, ◌∙◌}
use native.Mathlib.Decide.{dec_lt}
use native.Mathlib.Omega.{arith}
use borrow.Author.Tests.{lt-ltb, le-ltb}
use Rattle.std.specs.Prelude.{Option, Some, None}
use Rattle.record.specs.Flaw.{found_below}

pub found_here : (end j p : ℕ) → j < end → p ≡ j → Some j ≡ found_below end p
found_here end j p h e = rw (e, lt-ltb j end h) refl

pub found_nowhere : (end p : ℕ) → end ≤ p → None ≡ found_below end p
found_nowhere end p h = rw (le-ltb p end h) refl

-- a place that was found, and where none was
pub found_at : (end j p : ℕ) → Some j ≡ found_below end p → (p < end) × (j ≡ p)
found_at end j p e = by (dec_lt p end)
  where
    by : Dec (p < end) → (p < end) × (j ≡ p)
    by (yes h) = let same : Some j ≡ Some p = rw (lt-ltb p end h) at e in (h, cc)
    by (no h) = let none : Some j ≡ None = rw (le-ltb p end (omega arith)) at e in cc

pub not_found : (end p : ℕ) (f : Option ℕ) → f ≡ found_below end p → ((j : ℕ) → f ≡ Some j → ⊥) → end ≤ p
not_found end p f e none = by (dec_lt p end)
  where
    by : Dec (p < end) → end ≤ p
    by (yes h) = absurd (none p (e ∙ rw (lt-ltb p end h) refl))
    by (no h) = omega arith
