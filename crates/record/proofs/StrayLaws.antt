-- One byte of `stray`, as the loop over the 16 bytes takes it: the search goes on, or it ends there.
use Prim.Native.Nat.{ℕ, suc, ◌+◌, ◌-◌, ◌*◌, ◌<◌, ◌≤◌}
use mathlib.Core.Path.{◌≡◌, refl, ◌∙◌}
use mathlib.Core.Bool.{cond, ◌||◌, not}
use mathlib.Core.List.{List}
use native.Mathlib.Omega.{arith}
use borrow.Author.Tests.{eq-eqb, ne_eqb}
use lib.Dec.{eqb}
use lib.ListN.{get_or}
use Rattle.paper.specs.Record.{may_be, stray}

module _ (s : List ℕ) (i k j : ℕ) where
  step : j < 16
      → stray s i k j (16 - j)
      ≡ cond (eqb (get_or s (i * 16 + j) 0) 0 || not (eqb (may_be k j) 0)) (stray s i k (j + 1) (16 - (j + 1))) j
  unfolding stray
  step h = let left : 16 - j ≡ suc (16 - (j + 1)) = omega arith in rw left refl

  -- a byte that is zero
  pub stray_zero : j < 16 → get_or s (i * 16 + j) 0 ≡ 0 → stray s i k j (16 - j) ≡ stray s i k (j + 1) (16 - (j + 1))
  stray_zero h z = step h ∙ rw (eq-eqb (get_or s (i * 16 + j) 0) 0 z)

  -- a byte that may be other than zero
  pub stray_free : j < 16 → (get_or s (i * 16 + j) 0 ≡ 0 → ⊥) → (may_be k j ≡ 0 → ⊥)
      → stray s i k j (16 - j) ≡ stray s i k (j + 1) (16 - (j + 1))
  stray_free h z m = step h ∙ rw (ne_eqb (get_or s (i * 16 + j) 0) 0 z, ne_eqb (may_be k j) 0 m)

  -- a byte that is other than zero and must be zero
  pub stray_here : j < 16 → (get_or s (i * 16 + j) 0 ≡ 0 → ⊥) → may_be k j ≡ 0 → stray s i k j (16 - j) ≡ j
  stray_here h z m = step h ∙ rw (ne_eqb (get_or s (i * 16 + j) 0) 0 z, eq-eqb (may_be k j) 0 m)

  pub stray_done : 16 ≤ j → stray s i k j (16 - j) ≡ j
  unfolding stray
  stray_done h = let none : 16 - j ≡ 0 = omega arith in rw none refl
