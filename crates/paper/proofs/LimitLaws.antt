-- What holds of both limits, so that no other law asks which one it is: each is one of two numbers.
use Prim.Native.Nat.{ℕ, ◌*◌, ◌/◌, ◌≤◌}
use mathlib.Core.Path.{◌≡◌, refl, sym, subst}
use mathlib.Core.Bool.{true}
use mathlib.Core.Logic.{◌⊎◌, inl, inr}
use lib.Dec.{eqb, lit≤}
use borrow.Author.Tests.{eqb-true}
use Rattle.paper.specs.Limits.{is_limit, work_bytes}
use Rattle.paper.proofs.Tests.{or_either}

-- what holds of 3,072 and of 16,384 holds of every limit
of_both : (P : ℕ → Type 0) → P 3072 → P 16384 → (lim : ℕ) → is_limit lim ≡ true → P lim
unfolding is_limit
of_both P p q lim h = go (or_either (eqb lim 3072) (eqb lim 16384) h)
  where
    go : (eqb lim 3072 ≡ true) ⊎ (eqb lim 16384 ≡ true) → P lim
    go (inl e) = subst P (sym (eqb-true lim 3072 e)) p
    go (inr e) = subst P (sym (eqb-true lim 16384 e)) q

pub limit_small : (lim : ℕ) → is_limit lim ≡ true → lim ≤ 16384
limit_small = of_both (λ n. n ≤ 16384) (lit≤ tt) (lit≤ tt)

pub limit_least : (lim : ℕ) → is_limit lim ≡ true → 3072 ≤ lim
limit_least = of_both (λ n. 3072 ≤ n) (lit≤ tt) (lit≤ tt)

-- what a limit asks of `work`: 20 bytes for each unit of the greatest weight, and whole records
pub limit_work : (lim : ℕ) → is_limit lim ≡ true → (20 * lim ≤ work_bytes lim) × (work_bytes lim ≡ 16 * (work_bytes lim / 16))
unfolding work_bytes
limit_work = of_both (λ n. (20 * n ≤ work_bytes n) × (work_bytes n ≡ 16 * (work_bytes n / 16))) (lit≤ tt, refl) (lit≤ tt, refl)
