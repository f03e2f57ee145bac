-- Equality as evidence: `same_view` inverts the test once, and what equal trees share (weight, records, value) follows by induction on
-- the evidence, since taking a member out of a list lowers any total by that member's part.
use Prim.Native.Nat.{ℕ, ◌+◌, ◌*◌, ◌%◌, ◌^◌}
use mathlib.Core.Path.{◌≡◌, refl, sym, ap, ◌∙◌, subst}
use mathlib.Core.Bool.{Bool, true, ◌&&◌}
use mathlib.Core.List.{List, [], ◌∷◌}
use mathlib.Core.Option.{Option, none, some}
use native.Mathlib.Omega.{arith}
use native.Mathlib.Nat.{mul_left_comm}
use lib.IntN.{ℤ}
use lib.Dec.{eqb}
use borrow.Author.Tests.{eqb-true}
use Rattle.paper.specs.Limits.{modulus}
use Rattle.paper.specs.Tree.{Tree, Forest, integer, symbol, sum, product, power, nil, cons, to_list, records, recordses, weight, value}
use Rattle.paper.specs.Equal.{eq_z, remove_first, go_on, is_empty, on_integer, on_symbol, on_sum, on_product, on_power, equal, matched}
use Rattle.paper.proofs.Tests.{never, and_left, and_right, eq_z_true}
use Rattle.paper.proofs.Bags.{First, remove_first_first}
pub use Rattle.paper.proofs.Bags.{Taken, here, there}
use Rattle.paper.proofs.Value.{exact, exact_sum, exact_product, value_exact, total, multiplied, sum_list, product_list, weights_list}

mutual
  -- two trees are equal
  pub data Same : Tree → Tree → Type 0 where
    s_integer : {μ ν : ℕ} {z : ℤ} → Same (integer μ z) (integer ν z)
    s_symbol : {μ ν s : ℕ} → Same (symbol μ s) (symbol ν s)
    s_sum : {μ ν : ℕ} {f g : Forest} → Sames f (to_list g) → Same (sum μ f) (sum ν g)
    s_product : {μ ν : ℕ} {f g : Forest} → Sames f (to_list g) → Same (product μ f) (product ν g)
    s_power : {μ ξ ν ζ : ℕ} {a b : Tree} {e : ℕ} → Same a b → Same (power μ a ξ e) (power ν b ζ e)

  -- members and a list are the same multiset of equal trees
  pub data Sames : Forest → List Tree → Type 0 where
    s_nil : Sames nil []
    s_cons : {t u : Tree} {f : Forest} {l m : List Tree} → Same t u → Taken u l m → Sames f m → Sames (cons t f) l

-- one level of the test, over any test of the trees and of the members below; and the evidence that it is true
module _ (same : Tree → Tree → Bool) (bag : Forest → List Tree → Bool) where
  unfoldable pub level : Tree → Tree → Bool
  level (integer μ z) u = on_integer (eq_z z) u
  level (symbol μ s) u = on_symbol (eqb s) u
  level (sum μ f) u = on_sum (λ l. bag f l) u
  level (product μ f) u = on_product (λ l. bag f l) u
  level (power μ b ξ e) u = on_power (λ c d. same b c && eqb e d) u

  pub data Level : Tree → Tree → Type 0 where
    at_integer : {μ ν : ℕ} {z : ℤ} → Level (integer μ z) (integer ν z)
    at_symbol : {μ ν s : ℕ} → Level (symbol μ s) (symbol ν s)
    at_sum : {μ ν : ℕ} {f g : Forest} → bag f (to_list g) ≡ true → Level (sum μ f) (sum ν g)
    at_product : {μ ν : ℕ} {f g : Forest} → bag f (to_list g) ≡ true → Level (product μ f) (product ν g)
    at_power : {μ ξ ν ζ : ℕ} {a b : Tree} {e : ℕ} → same a b ≡ true → Level (power μ a ξ e) (power ν b ζ e)

  pub level_view : (t u : Tree) → level t u ≡ true → Level t u
  unfolding level on_integer on_symbol on_sum on_product on_power
  level_view (integer μ z) (integer ν y) e = subst (λ w. Level (integer μ z) (integer ν w)) (eq_z_true z y e) at_integer
  level_view (integer μ z) (symbol ν r) e = never e
  level_view (integer μ z) (sum ν g) e = never e
  level_view (integer μ z) (product ν g) e = never e
  level_view (integer μ z) (power ν b ζ d) e = never e
  level_view (symbol μ s) (integer ν y) e = never e
  level_view (symbol μ s) (symbol ν r) e = subst (λ w. Level (symbol μ s) (symbol ν w)) (eqb-true s r e) at_symbol
  level_view (symbol μ s) (sum ν g) e = never e
  level_view (symbol μ s) (product ν g) e = never e
  level_view (symbol μ s) (power ν b ζ d) e = never e
  level_view (sum μ f) (integer ν y) e = never e
  level_view (sum μ f) (symbol ν r) e = never e
  level_view (sum μ f) (sum ν g) e = at_sum e
  level_view (sum μ f) (product ν g) e = never e
  level_view (sum μ f) (power ν b ζ d) e = never e
  level_view (product μ f) (integer ν y) e = never e
  level_view (product μ f) (symbol ν r) e = never e
  level_view (product μ f) (sum ν g) e = never e
  level_view (product μ f) (product ν g) e = at_product e
  level_view (product μ f) (power ν b ζ d) e = never e
  level_view (power μ a ξ c) (integer ν y) e = never e
  level_view (power μ a ξ c) (symbol ν r) e = never e
  level_view (power μ a ξ c) (sum ν g) e = never e
  level_view (power μ a ξ c) (product ν g) e = never e
  level_view (power μ a ξ c) (power ν b ζ d) e =
      subst (λ w. Level (power μ a ξ c) (power ν b ζ w)) (eqb-true c d (and_right (same a b) (eqb c d) e)) (at_power (and_left (same a b) (eqb c d) e))

-- equality is such a test, of the trees and members one level below
equal_level : (t u : Tree) → equal t u ≡ level equal matched t u
unfolding equal level
equal_level (integer μ z) u = refl
equal_level (symbol μ s) u = refl
equal_level (sum μ f) u = refl
equal_level (product μ f) u = refl
equal_level (power μ b ξ e) u = refl

level_of : (t u : Tree) → equal t u ≡ true → Level equal matched t u
level_of t u e = level_view equal matched t u (sym (equal_level t u) ∙ e)

mutual
  unfolding matched go_on is_empty

  same_level : (t u : Tree) → Level equal matched t u → Same t u
  same_level (integer μ z) u at_integer = s_integer
  same_level (symbol μ s) u at_symbol = s_symbol
  same_level (sum μ f) u (at_sum {g = g} e) = s_sum (matched_view f (to_list g) e)
  same_level (product μ f) u (at_product {g = g} e) = s_product (matched_view f (to_list g) e)
  same_level (power μ a ξ n) u (at_power {b = b} e) = s_power (same_level a b (level_of a b e))

  -- the members taken away one after the other
  pub matched_view : (f : Forest) (l : List Tree) → matched f l ≡ true → Sames f l
  matched_view nil [] e = s_nil
  matched_view nil (u ∷ l) e = never e
  matched_view (cons t f) l e =
      go (remove_first (λ u. equal t u) l) (remove_first_first (equal t) l) e
      (λ u h. same_level t u (level_of t u h)) (λ m h. matched_view f m h)
    where
      go : (r : Option (List Tree)) → First (equal t) l r → go_on r (λ m. matched f m) ≡ true
          → ((u : Tree) → equal t u ≡ true → Same t u) → ((m : List Tree) → matched f m ≡ true → Sames f m) → Sames (cons t f) l
      go none h e same rest = never e
      go (some m) h e same rest = s_cons (same h.0 h.1) h.2 (rest m e)

-- the test, inverted
pub same_view : (t u : Tree) → equal t u ≡ true → Same t u
same_view t u e = same_level t u (level_of t u e)

-- taking a member out of a list lowers each total by its part, and divides each product by its factor
pub taken_total : (g : Tree → ℕ) {u : Tree} {l m : List Tree} → Taken u l m → total g l ≡ g u + total g m
unfolding total
taken_total g here = refl
taken_total g (there r) = omega (arith, taken_total g r)

pub taken_multiplied : (g : Tree → ℕ) {u : Tree} {l m : List Tree} → Taken u l m → multiplied g l ≡ g u * multiplied g m
unfolding multiplied
taken_multiplied g here = refl
taken_multiplied g (there {x} {y} {l} {m} r) = ap (λ n. g x * n) (taken_multiplied g r) ∙ mul_left_comm (g x) (g y) (multiplied g m)

-- a measure that adds up the members' measures is the same for equal trees
module _ (size : Tree → ℕ) (integers : (μ ν : ℕ) (z : ℤ) → size (integer μ z) ≡ size (integer ν z))
    (symbols : (μ ν s : ℕ) → size (symbol μ s) ≡ size (symbol ν s)) (sums : (μ : ℕ) (f : Forest) → size (sum μ f) ≡ 1 + total size (to_list f))
    (products : (μ : ℕ) (f : Forest) → size (product μ f) ≡ 1 + total size (to_list f))
    (powers : (μ : ℕ) (b : Tree) (ξ e : ℕ) → size (power μ b ξ e) ≡ 2 + size b) where
  mutual
    unfolding total to_list

    same_size : {t u : Tree} → Same t u → size t ≡ size u
    same_size (s_integer {μ} {ν} {z}) = integers μ ν z
    same_size (s_symbol {μ} {ν} {s}) = symbols μ ν s
    same_size (s_sum {μ} {ν} {f} {g} r) = sums μ f ∙ ap (λ n. 1 + n) (sames_size r) ∙ sym (sums ν g)
    same_size (s_product {μ} {ν} {f} {g} r) = products μ f ∙ ap (λ n. 1 + n) (sames_size r) ∙ sym (products ν g)
    same_size (s_power {μ} {ξ} {ν} {ζ} {a} {b} {e} r) = powers μ a ξ e ∙ ap (λ n. 2 + n) (same_size r) ∙ sym (powers ν b ζ e)

    sames_size : {f : Forest} {l : List Tree} → Sames f l → total size (to_list f) ≡ total size l
    sames_size s_nil = refl
    sames_size (s_cons r k s) = omega (arith, same_size r, taken_total size k, sames_size s)

-- equal trees weigh the same
pub same_weight : {t u : Tree} → Same t u → weight t ≡ weight u
unfolding weight
same_weight = same_size weight (λ μ ν z. refl) (λ μ ν s. refl) (λ μ f. omega (arith, weights_list f)) (λ μ f. omega (arith, weights_list f)) (λ μ b ξ e. refl)

pub equal_weight : (t u : Tree) → equal t u ≡ true → weight t ≡ weight u
equal_weight t u e = same_weight (same_view t u e)

-- equal trees have equally many records
pub recordses_list : (f : Forest) → total records (to_list f) ≡ recordses f
unfolding records total to_list
recordses_list nil = refl
recordses_list (cons t f) = ap (λ n. records t + n) (recordses_list f)

pub same_records : {t u : Tree} → Same t u → records t ≡ records u
unfolding records
same_records =
    same_size records (λ μ ν z. refl) (λ μ ν s. refl) (λ μ f. omega (arith, recordses_list f)) (λ μ f. omega (arith, recordses_list f)) (λ μ b ξ e. refl)

-- equal trees have the same value, whether or not it is reduced
module _ (ρ : ℕ → ℕ) where
  mutual
    unfolding exact total multiplied

    pub same_exact : {t u : Tree} → Same t u → exact t ρ ≡ exact u ρ
    same_exact s_integer = refl
    same_exact s_symbol = refl
    same_exact (s_sum {g = g} r) = sames_sum r ∙ sum_list g ρ
    same_exact (s_product {g = g} r) = sames_product r ∙ product_list g ρ
    same_exact (s_power {e = e} r) = ap (λ n. n ^ e) (same_exact r)

    sames_sum : {f : Forest} {l : List Tree} → Sames f l → exact_sum f ρ ≡ total (λ t. exact t ρ) l
    sames_sum s_nil = refl
    sames_sum (s_cons r k s) = omega (arith, same_exact r, taken_total (λ t. exact t ρ) k, sames_sum s)

    sames_product : {f : Forest} {l : List Tree} → Sames f l → exact_product f ρ ≡ multiplied (λ t. exact t ρ) l
    sames_product s_nil = refl
    sames_product (s_cons r k s) = rw (same_exact r, sames_product s) (sym (taken_multiplied (λ t. exact t ρ) k))

pub equal_exact : (t u : Tree) (ρ : ℕ → ℕ) → equal t u ≡ true → exact t ρ ≡ exact u ρ
equal_exact t u ρ e = same_exact ρ (same_view t u e)

pub equal_value : (t u : Tree) (ρ : ℕ → ℕ) → equal t u ≡ true → value t ρ ≡ value u ρ
equal_value t u ρ e = value_exact t ρ ∙ ap (λ n. n % modulus) (equal_exact t u ρ e) ∙ sym (value_exact u ρ)
