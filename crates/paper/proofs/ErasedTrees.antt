-- What looks at trees and lists of trees without looking at marks: weight, equality, the tests and the collapse of the rules. Each law is an
-- induction.
use Prim.Native.Nat.{ℕ, ◌+◌}
use mathlib.Core.Path.{◌≡◌, refl, ap, ◌∙◌}
use mathlib.Core.Bool.{Bool, true, false, ◌&&◌}
use mathlib.Core.List.{List, [], ◌∷◌, map}
use mathlib.Core.Option
use mathlib.Core.Option.{Option, none, some}
use lib.IntN.{ℤ}
use lib.Dec.{eqb}
use Rattle.paper.specs.Tree.{Tree, Forest, integer, symbol, sum, product, power, nil, cons, to_list, of_list, marked, weight, weights}
use Rattle.paper.specs.Equal.{eq_z, keeping, take_if, remove_first, go_on, is_empty, on_integer, on_symbol, on_sum, on_product, on_power, equal, matched}
use Rattle.paper.specs.Rules.{Tried, does_not_apply, applies, range_exceeded, collapse, sum_of, product_of, as_integer, is_the, unless, drop_all, any_of}
use Rattle.paper.specs.Rules.{applies_if}
use Rattle.paper.specs.Erased.{erase, erases}

-- ---- members
pub erases_list : (f : Forest) → to_list (erases f) ≡ map erase (to_list f)
unfolding erase to_list
erases_list nil = refl
erases_list (cons t f) = ap (λ l. erase t ∷ l) (erases_list f)

pub list_erases : (l : List Tree) → of_list (map erase l) ≡ erases (of_list l)
unfolding erase of_list
list_erases [] = refl
list_erases (t ∷ l) = ap (cons (erase t)) (list_erases l)

mutual
  unfolding erase weight

  pub erase_weight : (t : Tree) → weight (erase t) ≡ weight t
  erase_weight (integer μ z) = refl
  erase_weight (symbol μ s) = refl
  erase_weight (sum μ f) = ap (λ n. 1 + n) (erases_weight f)
  erase_weight (product μ f) = ap (λ n. 1 + n) (erases_weight f)
  erase_weight (power μ b ξ e) = ap (λ n. 2 + n) (erase_weight b)

  erases_weight : (f : Forest) → weights (erases f) ≡ weights f
  erases_weight nil = refl
  erases_weight (cons t f) = rw (erase_weight t, erases_weight f) refl

pub marked_erased : (ν : ℕ) (t : Tree) → marked 0 (erase t) ≡ erase (marked ν t)
unfolding erase marked
marked_erased ν (integer μ z) = refl
marked_erased ν (symbol μ s) = refl
marked_erased ν (sum μ f) = refl
marked_erased ν (product μ f) = refl
marked_erased ν (power μ b ξ e) = refl

-- ---- equality
take_erased : (b : Bool) (y : Tree) (ys : List Tree) (r : Option (List Tree))
    → take_if b (erase y) (map erase ys) (Option.map (map erase) r) ≡ Option.map (map erase) (take_if b y ys r)
unfolding take_if keeping
take_erased true y ys r = refl
take_erased false y ys none = refl
take_erased false y ys (some l) = refl

remove_erased : (p q : Tree → Bool) → ((u : Tree) → q (erase u) ≡ p u) → (l : List Tree)
    → remove_first q (map erase l) ≡ Option.map (map erase) (remove_first p l)
unfolding remove_first
remove_erased p q h [] = refl
remove_erased p q h (y ∷ ys) = rw (h y, remove_erased p q h ys) (take_erased (p y) y ys (remove_first p ys))

go_erased : (k j : List Tree → Bool) → ((l : List Tree) → j (map erase l) ≡ k l) → (r : Option (List Tree)) → go_on (Option.map (map erase) r) j ≡ go_on r k
unfolding go_on
go_erased k j h none = refl
go_erased k j h (some l) = h l

empty_erased : (l : List Tree) → is_empty (map erase l) ≡ is_empty l
unfolding is_empty
empty_erased [] = refl
empty_erased (t ∷ l) = refl

on_integer_lem : (p : ℤ → Bool) (u : Tree) → on_integer p (erase u) ≡ on_integer p u
unfolding on_integer erase
on_integer_lem p (integer μ z) = refl
on_integer_lem p (symbol μ s) = refl
on_integer_lem p (sum μ f) = refl
on_integer_lem p (product μ f) = refl
on_integer_lem p (power μ b ξ e) = refl

on_symbol_lem : (p : ℕ → Bool) (u : Tree) → on_symbol p (erase u) ≡ on_symbol p u
unfolding on_symbol erase
on_symbol_lem p (integer μ z) = refl
on_symbol_lem p (symbol μ s) = refl
on_symbol_lem p (sum μ f) = refl
on_symbol_lem p (product μ f) = refl
on_symbol_lem p (power μ b ξ e) = refl

on_sum_lem : (p q : List Tree → Bool) → ((l : List Tree) → q (map erase l) ≡ p l) → (u : Tree) → on_sum q (erase u) ≡ on_sum p u
unfolding on_sum erase
on_sum_lem p q h (integer μ z) = refl
on_sum_lem p q h (symbol μ s) = refl
on_sum_lem p q h (sum μ f) = ap q (erases_list f) ∙ h (to_list f)
on_sum_lem p q h (product μ f) = refl
on_sum_lem p q h (power μ b ξ e) = refl

on_product_lem : (p q : List Tree → Bool) → ((l : List Tree) → q (map erase l) ≡ p l) → (u : Tree) → on_product q (erase u) ≡ on_product p u
unfolding on_product erase
on_product_lem p q h (integer μ z) = refl
on_product_lem p q h (symbol μ s) = refl
on_product_lem p q h (sum μ f) = refl
on_product_lem p q h (product μ f) = ap q (erases_list f) ∙ h (to_list f)
on_product_lem p q h (power μ b ξ e) = refl

on_power_lem : (p q : Tree → ℕ → Bool) → ((c : Tree) (d : ℕ) → q (erase c) d ≡ p c d) → (u : Tree) → on_power q (erase u) ≡ on_power p u
unfolding on_power erase
on_power_lem p q h (integer μ z) = refl
on_power_lem p q h (symbol μ s) = refl
on_power_lem p q h (sum μ f) = refl
on_power_lem p q h (product μ f) = refl
on_power_lem p q h (power μ b ξ e) = h b e

mutual
  unfolding equal erase

  pub equal_erased : (t u : Tree) → equal (erase t) (erase u) ≡ equal t u
  equal_erased (integer μ z) u = on_integer_lem (eq_z z) u
  equal_erased (symbol μ s) u = on_symbol_lem (eqb s) u
  equal_erased (sum μ f) u = on_sum_lem (λ l. matched f l) (λ l. matched (erases f) l) (λ l. matched_erased f l) u
  equal_erased (product μ f) u = on_product_lem (λ l. matched f l) (λ l. matched (erases f) l) (λ l. matched_erased f l) u
  equal_erased (power μ b ξ e) u =
      on_power_lem (λ c d. equal b c && eqb e d) (λ c d. equal (erase b) c && eqb e d) (λ c d. ap (λ x. x && eqb e d) (equal_erased b c)) u

  matched_erased : (f : Forest) (l : List Tree) → matched (erases f) (map erase l) ≡ matched f l
  matched_erased nil l = empty_erased l
  matched_erased (cons t f) l =
      ap (λ r. go_on r (λ m. matched (erases f) m)) (remove_erased (λ u. equal t u) (λ u. equal (erase t) u) (λ u. equal_erased t u) l)
      ∙ go_erased (λ m. matched f m) (λ m. matched (erases f) m) (λ m. matched_erased f m) (remove_first (λ u. equal t u) l)

-- ---- tests of members
pub integer_erased : (t : Tree) → as_integer (erase t) ≡ as_integer t
unfolding as_integer erase
integer_erased (integer μ z) = refl
integer_erased (symbol μ s) = refl
integer_erased (sum μ f) = refl
integer_erased (product μ f) = refl
integer_erased (power μ b ξ e) = refl

pub the_erased : (z : ℤ) (t : Tree) → is_the z (erase t) ≡ is_the z t
unfolding is_the as_integer erase
the_erased z (integer μ y) = refl
the_erased z (symbol μ s) = refl
the_erased z (sum μ f) = refl
the_erased z (product μ f) = refl
the_erased z (power μ b ξ e) = refl

pub any_erased : (p : Tree → Bool) → ((t : Tree) → p (erase t) ≡ p t) → (l : List Tree) → any_of p (map erase l) ≡ any_of p l
unfolding any_of
any_erased p h [] = refl
any_erased p h (t ∷ l) = rw (h t, any_erased p h l) refl

unless_erased : (b : Bool) (t : Tree) (l : List Tree) → unless b (erase t) (map erase l) ≡ map erase (unless b t l)
unfolding unless
unless_erased true t l = refl
unless_erased false t l = refl

pub drop_erased : (p : Tree → Bool) → ((t : Tree) → p (erase t) ≡ p t) → (l : List Tree) → drop_all p (map erase l) ≡ map erase (drop_all p l)
unfolding drop_all
drop_erased p h [] = refl
drop_erased p h (t ∷ l) = rw (h t, drop_erased p h l) (unless_erased (p t) t (drop_all p l))

-- ---- the collapse, and what a rule answers
pub sum_erased : (μ : ℕ) (l : List Tree) → sum_of 0 (map erase l) ≡ erase (sum_of μ l)
unfolding sum_of collapse erase
sum_erased μ [] = refl
sum_erased μ (t ∷ []) = refl
sum_erased μ (t ∷ u ∷ l) = ap (sum 0) (list_erases (t ∷ u ∷ l))

pub product_erased : (μ : ℕ) (l : List Tree) → product_of 0 (map erase l) ≡ erase (product_of μ l)
unfolding product_of collapse erase
product_erased μ [] = refl
product_erased μ (t ∷ []) = refl
product_erased μ (t ∷ u ∷ l) = ap (product 0) (list_erases (t ∷ u ∷ l))

unfoldable pub erased_tried : Tried → Tried
erased_tried does_not_apply = does_not_apply
erased_tried (applies t) = applies (erase t)
erased_tried range_exceeded = range_exceeded

pub applies_erased : (b : Bool) (t u : Tree) → u ≡ erase t → applies_if b u ≡ erased_tried (applies_if b t)
unfolding applies_if erased_tried
applies_erased true t u e = ap applies e
applies_erased false t u e = refl
