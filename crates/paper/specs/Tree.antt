-- The tree. "A tree is an integer from -2^63 to 2^63 - 1, a symbol 0 to 255 (none is special), a sum, a product, or a power."
-- The ranges, and "two members or more", stand in WellFormed. Every record of a tree has a mark: the first number of each constructor,
-- and of a power the number before the exponent is the mark of the exponent's record, 0 for none. "Weight, value and equality of trees
-- ignore it."
use Rattle.std.specs.Prelude.{ℕ, suc, ◌+◌, ◌*◌, ◌%◌, ◌^◌, List, [], ◌∷◌, ℤ}
use Rattle.paper.specs.Limits.{modulus}
use Rattle.paper.specs.Bytes.{word}

mutual
  pub data Tree : Type 0 where
    integer : ℕ → ℤ → Tree
    symbol : ℕ → ℕ → Tree
    sum : ℕ → Forest → Tree
    product : ℕ → Forest → Tree
    power : ℕ → Tree → ℕ → ℕ → Tree

  -- the members of a sum or a product, first to last
  pub data Forest : Type 0 where
    nil : Forest
    cons : Tree → Forest → Forest

-- members as a list, and back
unfoldable pub to_list : Forest → List Tree
to_list nil = []
to_list (cons t f) = t ∷ to_list f

unfoldable pub of_list : List Tree → Forest
of_list [] = nil
of_list (t ∷ l) = cons t (of_list l)

-- the number of members
unfoldable pub count : Forest → ℕ
count nil = 0
count (cons t f) = suc (count f)

-- the mark of the root, and the same tree with another mark at its root
unfoldable pub mark_of : Tree → ℕ
mark_of (integer μ z) = μ
mark_of (symbol μ s) = μ
mark_of (sum μ f) = μ
mark_of (product μ f) = μ
mark_of (power μ b ξ e) = μ

unfoldable pub marked : ℕ → Tree → Tree
marked ν (integer μ z) = integer ν z
marked ν (symbol μ s) = symbol ν s
marked ν (sum μ f) = sum ν f
marked ν (product μ f) = product ν f
marked ν (power μ b ξ e) = power ν b ξ e

-- the number of records
unfoldable mutual
  pub records : Tree → ℕ
  records (integer μ z) = 1
  records (symbol μ s) = 1
  records (sum μ f) = 1 + recordses f
  records (product μ f) = 1 + recordses f
  records (power μ b ξ e) = 2 + records b

  pub recordses : Forest → ℕ
  recordses nil = 0
  recordses (cons t f) = records t + recordses f

-- "The weight of a tree is its number of records plus 2 for each symbol record."
unfoldable mutual
  pub weight : Tree → ℕ
  weight (integer μ z) = 1
  weight (symbol μ s) = 3
  weight (sum μ f) = 1 + weights f
  weight (product μ f) = 1 + weights f
  weight (power μ b ξ e) = 2 + weight b

  pub weights : Forest → ℕ
  weights nil = 0
  weights (cons t f) = weight t + weights f

-- "The value under 256 registers of 64 bits, one for each symbol, is the ordinary one, with sums, products and powers taken
-- modulo 2^64": ρ s is the register of the symbol s.
unfoldable mutual
  pub value : Tree → (ℕ → ℕ) → ℕ
  value (integer μ z) ρ = word z
  value (symbol μ s) ρ = ρ s % modulus
  value (sum μ f) ρ = sum_value f ρ
  value (product μ f) ρ = product_value f ρ
  value (power μ b ξ e) ρ = value b ρ ^ e % modulus

  pub sum_value : Forest → (ℕ → ℕ) → ℕ
  sum_value nil ρ = 0
  sum_value (cons t f) ρ = (value t ρ + sum_value f ρ) % modulus

  pub product_value : Forest → (ℕ → ℕ) → ℕ
  product_value nil ρ = 1
  product_value (cons t f) ρ = value t ρ * product_value f ρ % modulus
