-- The value without any reduction, in the natural numbers, and its agreement with the paper's: reducing at each node equals reducing
-- once, since sums, products and powers respect congruence.
use Prim.Native.Nat.{ℕ, ◌+◌, ◌*◌, ◌%◌, ◌<◌}
use mathlib.Core.Path.{◌≡◌, refl, sym, ap, ◌∙◌}
use mathlib.Core.List.{List, [], ◌∷◌, ◌++◌}
use native.Mathlib.Omega.{arith}
use native.Mathlib.Nat.{mod-eq_of_lt}
use Rattle.paper.specs.Limits.{modulus}
use Rattle.paper.specs.Tree.{Tree, Forest, integer, symbol, sum, product, power, nil, cons, to_list, of_list, weight, weights}
use Rattle.paper.specs.Tree.{value, sum_value, product_value}
unfoldable pub use Rattle.paper.specs.Exact.{exact, exact_sum, exact_product}
use Rattle.paper.proofs.Congruence.{Agree, agree_of, agree_trans, agree_mod, agree_add, agree_mul, agree_pow, word_lt}

reduced : {a : ℕ} (b : ℕ) → a ≡ b % modulus → Agree modulus a b
reduced b e = agree_trans (agree_of e) (agree_mod b)

-- reducing at each node equals reducing once
mutual
  unfolding value exact

  pub value_exact : (t : Tree) (ρ : ℕ → ℕ) → value t ρ ≡ exact t ρ % modulus
  value_exact (integer μ z) ρ = sym (mod-eq_of_lt (word_lt z))
  value_exact (symbol μ s) ρ = refl
  value_exact (sum μ f) ρ = sum_value_exact f ρ
  value_exact (product μ f) ρ = product_value_exact f ρ
  value_exact (power μ b ξ e) ρ = (agree_pow e (reduced (exact b ρ) (value_exact b ρ))).agree

  pub sum_value_exact : (f : Forest) (ρ : ℕ → ℕ) → sum_value f ρ ≡ exact_sum f ρ % modulus
  sum_value_exact nil ρ = refl
  sum_value_exact (cons t f) ρ =
      (agree_add (reduced (exact t ρ) (value_exact t ρ)) (reduced (exact_sum f ρ) (sum_value_exact f ρ))).agree

  pub product_value_exact : (f : Forest) (ρ : ℕ → ℕ) → product_value f ρ ≡ exact_product f ρ % modulus
  product_value_exact nil ρ = refl
  product_value_exact (cons t f) ρ =
      (agree_mul (reduced (exact t ρ) (value_exact t ρ)) (reduced (exact_product f ρ) (product_value_exact f ρ))).agree

-- the sum, and the product, of g over a list
unfoldable pub total : (Tree → ℕ) → List Tree → ℕ
total g [] = 0
total g (t ∷ l) = g t + total g l

unfoldable pub multiplied : (Tree → ℕ) → List Tree → ℕ
multiplied g [] = 1
multiplied g (t ∷ l) = g t * multiplied g l

pub total_append : (g : Tree → ℕ) (l m : List Tree) → total g (l ++ m) ≡ total g l + total g m
unfolding total
total_append g [] m = omega arith
total_append g (t ∷ l) m = omega (arith, total_append g l m)

pub multiplied_append : (g : Tree → ℕ) (l m : List Tree) → multiplied g (l ++ m) ≡ multiplied g l * multiplied g m
unfolding multiplied
multiplied_append g [] m = omega arith
multiplied_append g (t ∷ l) m = ap (λ n. g t * n) (multiplied_append g l m) ∙ omega arith

-- sums, products and weights of members, as members of a node and as a list
pub sum_list : (f : Forest) (ρ : ℕ → ℕ) → total (λ t. exact t ρ) (to_list f) ≡ exact_sum f ρ
unfolding exact total to_list
sum_list nil ρ = refl
sum_list (cons t f) ρ = ap (λ n. exact t ρ + n) (sum_list f ρ)

pub list_sum : (l : List Tree) (ρ : ℕ → ℕ) → exact_sum (of_list l) ρ ≡ total (λ t. exact t ρ) l
unfolding exact total of_list
list_sum [] ρ = refl
list_sum (t ∷ l) ρ = ap (λ n. exact t ρ + n) (list_sum l ρ)

pub product_list : (f : Forest) (ρ : ℕ → ℕ) → multiplied (λ t. exact t ρ) (to_list f) ≡ exact_product f ρ
unfolding exact multiplied to_list
product_list nil ρ = refl
product_list (cons t f) ρ = ap (λ n. exact t ρ * n) (product_list f ρ)

pub list_product : (l : List Tree) (ρ : ℕ → ℕ) → exact_product (of_list l) ρ ≡ multiplied (λ t. exact t ρ) l
unfolding exact multiplied of_list
list_product [] ρ = refl
list_product (t ∷ l) ρ = ap (λ n. exact t ρ * n) (list_product l ρ)

pub weights_list : (f : Forest) → total weight (to_list f) ≡ weights f
unfolding weight total to_list
weights_list nil = refl
weights_list (cons t f) = ap (λ n. weight t + n) (weights_list f)

pub list_weights : (l : List Tree) → weights (of_list l) ≡ total weight l
unfolding weight total of_list
list_weights [] = refl
list_weights (t ∷ l) = ap (λ n. weight t + n) (list_weights l)

-- every tree weighs something
pub weight_pos : (t : Tree) → 0 < weight t
unfolding weight
weight_pos (integer μ z) = omega arith
weight_pos (symbol μ s) = omega arith
weight_pos (sum μ f) = omega arith
weight_pos (product μ f) = omega arith
weight_pos (power μ b ξ e) = omega arith
