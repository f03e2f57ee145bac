-- What makes the answer of a rule good: a rule on sums, or on products, is judged by its answers there alone, and a value is kept where
-- the unreduced values agree modulo 2^64.
use Prim.Native.Nat.{ℕ, ◌+◌, ◌≤◌}
use mathlib.Core.Path.{◌≡◌, refl}
use mathlib.Core.Bool.{Bool, true, false}
use mathlib.Core.List.{List}
use Rattle.paper.specs.Limits.{modulus}
use Rattle.paper.specs.Tree.{Tree, Forest, integer, symbol, sum, product, power, to_list, weight}
use Rattle.paper.specs.WellFormed.{WF}
use Rattle.paper.specs.Rules.{Tried, applies_if, on_sum_members, on_product_members}
use Rattle.paper.specs.Good.{Kept, GoodAnswer}
use Rattle.paper.proofs.Congruence.{Agree}
use Rattle.paper.proofs.Value.{exact}
use Rattle.paper.proofs.KeptLaws.{value_of_exact}

module _ (k : ℕ → List Tree → Tried) where
  pub on_sum_good : ((μ : ℕ) (f : Forest) → WF (sum μ f) → GoodAnswer (sum μ f) (k μ (to_list f))) → (t : Tree) → WF t → GoodAnswer t (on_sum_members k t)
  unfolding on_sum_members
  on_sum_good h (integer μ z) w = tt
  on_sum_good h (symbol μ s) w = tt
  on_sum_good h (sum μ f) w = h μ f w
  on_sum_good h (product μ f) w = tt
  on_sum_good h (power μ b ξ e) w = tt

  pub on_product_good : ((μ : ℕ) (f : Forest) → WF (product μ f) → GoodAnswer (product μ f) (k μ (to_list f))) → (t : Tree) → WF t
      → GoodAnswer t (on_product_members k t)
  unfolding on_product_members
  on_product_good h (integer μ z) w = tt
  on_product_good h (symbol μ s) w = tt
  on_product_good h (sum μ f) w = tt
  on_product_good h (product μ f) w = h μ f w
  on_product_good h (power μ b ξ e) w = tt

-- an answer that is given only where the test holds
pub applies_good : (t u : Tree) (b : Bool) → (b ≡ true → WF u × Kept 1 t u) → GoodAnswer t (applies_if b u)
unfolding applies_if
applies_good t u true h = h refl
applies_good t u false h = tt

-- u has the value of t where the unreduced values agree
pub kept_agree : {n : ℕ} (t u : Tree) → ((ρ : ℕ → ℕ) → Agree modulus (exact u ρ) (exact t ρ)) → weight u + n ≤ weight t → Kept n t u
kept_agree t u h l = record { value_kept = value_of_exact t u h; lighter = l }
