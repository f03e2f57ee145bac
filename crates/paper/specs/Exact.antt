-- The value with no reduction, in the natural numbers: what statements about rules speak of. Taken modulo 2^64 once it is the paper's value
-- (proofs/Value: `value_exact`).
use Rattle.std.specs.Prelude.{ℕ, ◌+◌, ◌*◌, ◌^◌}
use Rattle.paper.specs.Bytes.{word}
use Rattle.paper.specs.Tree.{Tree, Forest, integer, symbol, sum, product, power, nil, cons}

-- the value before it is taken modulo 2^64
unfoldable mutual
  pub exact : Tree → (ℕ → ℕ) → ℕ
  exact (integer μ z) ρ = word z
  exact (symbol μ s) ρ = ρ s
  exact (sum μ f) ρ = exact_sum f ρ
  exact (product μ f) ρ = exact_product f ρ
  exact (power μ b ξ e) ρ = exact b ρ ^ e

  pub exact_sum : Forest → (ℕ → ℕ) → ℕ
  exact_sum nil ρ = 0
  exact_sum (cons t f) ρ = exact t ρ + exact_sum f ρ

  pub exact_product : Forest → (ℕ → ℕ) → ℕ
  exact_product nil ρ = 1
  exact_product (cons t f) ρ = exact t ρ * exact_product f ρ
