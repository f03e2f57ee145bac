-- Another mark at the root changes neither value nor weight, and keeps a tree well-formed.
use Prim.Native.Nat.{ℕ}
use mathlib.Core.Path.{◌≡◌, refl}
use Rattle.paper.specs.Tree.{Tree, integer, symbol, sum, product, power, marked, weight}
use Rattle.paper.specs.WellFormed.{Mark, WF}
use Rattle.paper.proofs.Value.{exact}

pub marked_exact : (ν : ℕ) (t : Tree) (ρ : ℕ → ℕ) → exact (marked ν t) ρ ≡ exact t ρ
unfolding marked exact
marked_exact ν (integer μ z) ρ = refl
marked_exact ν (symbol μ s) ρ = refl
marked_exact ν (sum μ f) ρ = refl
marked_exact ν (product μ f) ρ = refl
marked_exact ν (power μ b ξ e) ρ = refl

pub marked_weight : (ν : ℕ) (t : Tree) → weight (marked ν t) ≡ weight t
unfolding marked weight
marked_weight ν (integer μ z) = refl
marked_weight ν (symbol μ s) = refl
marked_weight ν (sum μ f) = refl
marked_weight ν (product μ f) = refl
marked_weight ν (power μ b ξ e) = refl

pub marked_wf : (ν : ℕ) (t : Tree) → Mark ν → WF t → WF (marked ν t)
unfolding marked
marked_wf ν (integer μ z) m w = (w.0, m)
marked_wf ν (symbol μ s) m w = (w.0, m)
marked_wf ν (sum μ f) m w = (w.0, w.1, m)
marked_wf ν (product μ f) m w = (w.0, w.1, m)
marked_wf ν (power μ b ξ e) m w = (w.0, w.1, w.2, m, w.4)
