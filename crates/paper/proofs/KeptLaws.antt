-- What is kept from tree to tree composes, and passes between the paper's value and the unreduced one: equal values are congruent
-- unreduced values.
use Prim.Native.Nat.{ℕ, ◌+◌}
use mathlib.Core.Path.{◌≡◌, refl, sym, ◌∙◌}
use native.Mathlib.Omega.{arith}
use Rattle.paper.specs.Limits.{modulus}
use Rattle.paper.specs.Tree.{Tree, value}
use Rattle.paper.specs.Good.{Kept}
use Rattle.paper.proofs.Congruence.{Agree}
use Rattle.paper.proofs.Value.{exact, value_exact}

-- the paper's value is kept where the unreduced one is kept modulo 2^64, and the other way round
pub value_of_exact : (t u : Tree) → ((ρ : ℕ → ℕ) → Agree modulus (exact u ρ) (exact t ρ)) → (ρ : ℕ → ℕ) → value u ρ ≡ value t ρ
value_of_exact t u a ρ = value_exact u ρ ∙ (a ρ).agree ∙ sym (value_exact t ρ)

pub kept_exact : {k : ℕ} {t u : Tree} → Kept k t u → (ρ : ℕ → ℕ) → Agree modulus (exact u ρ) (exact t ρ)
kept_exact {k} {t} {u} h ρ = record { agree = sym (value_exact u ρ) ∙ h.value_kept ρ ∙ value_exact t ρ }

pub kept_refl : {t : Tree} → Kept 0 t t
kept_refl = record { value_kept = λ ρ. refl; lighter = omega arith }

pub kept_then : {j k : ℕ} {t u v : Tree} → Kept j t u → Kept k u v → Kept (j + k) t v
kept_then a b =
    record { value_kept = λ ρ. b.value_kept ρ ∙ a.value_kept ρ; lighter = omega (arith, a.lighter, b.lighter) }

pub kept_of : {j k : ℕ} {t u : Tree} → j ≡ k → Kept j t u → Kept k t u
kept_of e a = record { value_kept = a.value_kept; lighter = omega (arith, a.lighter) }
