-- Equality of trees is an equivalence, so two sums, or two products, are equal exactly when every tree occurs equally often among
-- their members. The test cut off at a depth is an equivalence at each depth by the laws of bags, and is the test itself at any depth
-- that the tree does not reach.
use Prim.Native.Nat.{ℕ, zero, suc, ◌+◌, ◌≤◌}
use mathlib.Core.Path.{◌≡◌, refl, sym, ap, ◌∙◌, fun_ext}
use mathlib.Core.Bool.{Bool, true, ◌&&◌}
use mathlib.Core.List.{List}
use mathlib.Core.Logic.{◌↔◌}
use native.Mathlib.Omega.{arith}
use lib.Dec.{eqb}
use borrow.Author.Tests.{eq-eqb}
use Rattle.paper.specs.Tree.{Tree, Forest, integer, symbol, sum, product, power, nil, cons, to_list, weight, weights}
use Rattle.paper.specs.Equal.{remove_first, go_on, same_bag, occurs, on_integer, on_symbol, on_sum, on_product, on_power, equal, matched}
use Rattle.paper.proofs.Tests.{eq_z_self}
use Rattle.paper.proofs.Bags.{equivalence_sym, equivalence_trans, equivalence_by, bag_counts, counts_bag, bag_equivalence}
pub use Rattle.paper.proofs.Bags.{Equivalence}
use Rattle.paper.proofs.EqualView.{level, Level, at_integer, at_symbol, at_sum, at_product, at_power, level_view}

-- `matched` is `same_bag`, at `equal`
pub matched_bag : (f : Forest) (l : List Tree) → matched f l ≡ same_bag equal (to_list f) l
unfolding matched same_bag to_list
matched_bag nil l = refl
matched_bag (cons t f) l = ap (go_on (remove_first (equal t) l)) (fun_ext (λ m. matched_bag f m))

-- the members as a bag, and the test one level above a test of trees
abbrev bags : (Tree → Tree → Bool) → Forest → List Tree → Bool
bags same f l = same_bag same (to_list f) l

abbrev above : (Tree → Tree → Bool) → Tree → Tree → Bool
above same = level same (bags same)

-- one level above an equivalence is an equivalence
module _ (same : Tree → Tree → Bool) (q : Equivalence same) where
  abbrev Above : Tree → Tree → Type 0
  Above = Level same (bags same)

  level_true : (t u : Tree) → Above t u → above same t u ≡ true
  unfolding level on_integer on_symbol on_sum on_product on_power
  level_true (integer μ z) u at_integer = eq_z_self z
  level_true (symbol μ s) u at_symbol = eq-eqb s s refl
  level_true (sum μ f) u (at_sum e) = e
  level_true (product μ f) u (at_product e) = e
  level_true (power μ a ξ n) u (at_power e) = rw (e, eq-eqb n n refl)

  level_self : (t : Tree) → Above t t
  level_self (integer μ z) = at_integer
  level_self (symbol μ s) = at_symbol
  level_self (sum μ f) = at_sum ((bag_equivalence same q).self (to_list f))
  level_self (product μ f) = at_product ((bag_equivalence same q).self (to_list f))
  level_self (power μ b ξ e) = at_power (q.self b)

  level_sym : {t u : Tree} → Above t u → Above u t
  level_sym at_integer = at_integer
  level_sym at_symbol = at_symbol
  level_sym (at_sum {f = f} {g = g} e) = at_sum (equivalence_sym (bag_equivalence same q) (to_list f) (to_list g) e)
  level_sym (at_product {f = f} {g = g} e) = at_product (equivalence_sym (bag_equivalence same q) (to_list f) (to_list g) e)
  level_sym (at_power {a = a} {b = b} e) = at_power (equivalence_sym q a b e)

  level_trans : {t u v : Tree} → Above t u → Above u v → Above t v
  level_trans at_integer at_integer = at_integer
  level_trans at_symbol at_symbol = at_symbol
  level_trans (at_sum {f = f} {g = g} d) (at_sum {g = h} e) = at_sum (equivalence_trans (bag_equivalence same q) (to_list f) (to_list g) (to_list h) d e)
  level_trans (at_product {f = f} {g = g} d) (at_product {g = h} e) =
      at_product (equivalence_trans (bag_equivalence same q) (to_list f) (to_list g) (to_list h) d e)
  level_trans (at_power {a = a} {b = b} d) (at_power {b = c} e) = at_power (equivalence_trans q a b c d e)

  level_equivalence : Equivalence (above same)
  level_equivalence =
      equivalence_by
      (λ t. level_true t t (level_self t))
      (λ t u e. level_true u t (level_sym (view t u e)))
      (λ t u v d e. level_true t v (level_trans (view t u d) (view u v e)))
    where
      view : (t u : Tree) → above same t u ≡ true → Above t u
      view = level_view same (bags same)

-- the test cut off at depth n
equal_to : ℕ → Tree → Tree → Bool
equal_to zero = λ t u. true
equal_to (suc n) = above (equal_to n)

equivalence_to : (n : ℕ) → Equivalence (equal_to n)
unfolding equal_to
equivalence_to zero = record { self = λ t. refl; alike = λ t u v e. refl }
equivalence_to (suc n) = level_equivalence (equal_to n) (equivalence_to n)

-- cut off at the weight of the tree or deeper, the test is equality
mutual
  unfolding equal equal_to level weight same_bag to_list

  cut : (t : Tree) (n : ℕ) → weight t ≤ n → (u : Tree) → equal t u ≡ equal_to n t u
  cut (integer μ z) zero le u = absurd (omega arith)
  cut (integer μ z) (suc n) le u = refl
  cut (symbol μ s) zero le u = absurd (omega arith)
  cut (symbol μ s) (suc n) le u = refl
  cut (sum μ f) zero le u = absurd (omega arith)
  cut (sum μ f) (suc n) le u = ap (λ k. on_sum k u) (fun_ext (λ l. cuts f n (omega arith) l))
  cut (product μ f) zero le u = absurd (omega arith)
  cut (product μ f) (suc n) le u = ap (λ k. on_product k u) (fun_ext (λ l. cuts f n (omega arith) l))
  cut (power μ b ξ e) zero le u = absurd (omega arith)
  cut (power μ b ξ e) (suc n) le u = ap (λ k. on_power (λ c d. k c && eqb e d) u) (fun_ext (λ c. cut b n (omega arith) c))

  cuts : (f : Forest) (n : ℕ) → weights f ≤ n → (l : List Tree) → matched f l ≡ same_bag (equal_to n) (to_list f) l
  cuts nil n le l = refl
  cuts (cons t f) n le l =
      ap (λ k. go_on (remove_first k l) (λ m. matched f m)) (fun_ext (λ u. cut t n (omega arith) u))
      ∙ ap (go_on (remove_first (equal_to n t) l)) (fun_ext (λ m. cuts f n (omega arith) m))

-- equality of trees is an equivalence
pub equal_equivalence : Equivalence equal
equal_equivalence =
    record {
      self = λ t. cut t (weight t) (omega arith) t ∙ (equivalence_to (weight t)).self t;
      alike = λ t u v e.
          let n = weight t + weight v in
          cut v n (omega arith) t ∙ (equivalence_to n).alike t u v (sym (cut t n (omega arith) u) ∙ e) ∙ sym (cut v n (omega arith) u);
    }

pub equal_refl : (t : Tree) → equal t t ≡ true
equal_refl t = equal_equivalence.self t

pub equal_sym : (t u : Tree) → equal t u ≡ true → equal u t ≡ true
equal_sym = equivalence_sym equal_equivalence

pub equal_trans : (t u v : Tree) → equal t u ≡ true → equal u v ≡ true → equal t v ≡ true
equal_trans = equivalence_trans equal_equivalence

-- members match exactly when every tree occurs equally often among both
pub matched_counts : (f : Forest) (l : List Tree)
    → (matched f l ≡ true) ↔ ((z : Tree) → occurs (equal z) (to_list f) ≡ occurs (equal z) l)
matched_counts f l = (
  (λ e. bag_counts equal equal_equivalence (to_list f) l (sym (matched_bag f l) ∙ e)),
  (λ e. matched_bag f l ∙ counts_bag equal equal_equivalence (to_list f) l e),
)

-- two sums are equal exactly when every tree occurs equally often among their members
pub sums_equal : (μ ν : ℕ) (f g : Forest) → (equal (sum μ f) (sum ν g) ≡ true) ↔ ((z : Tree) → occurs (equal z) (to_list f) ≡ occurs (equal z) (to_list g))
unfolding equal on_sum
sums_equal μ ν f g = matched_counts f (to_list g)

-- two products are equal exactly when every tree occurs equally often among their members
pub products_equal : (μ ν : ℕ) (f g : Forest)
    → (equal (product μ f) (product ν g) ≡ true) ↔ ((z : Tree) → occurs (equal z) (to_list f) ≡ occurs (equal z) (to_list g))
unfolding equal on_product
products_equal μ ν f g = matched_counts f (to_list g)
