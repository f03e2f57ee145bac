-- "Equal trees: integers and symbols by number; powers by base and exponent; two sums, or two products, when their members
-- are the same multiset of equal trees. Nothing is opened first."
use Rattle.std.specs.Prelude.{ℕ, ◌+◌, Bool, true, false, ◌&&◌, List, [], ◌∷◌, ℤ, pos, negsuc, eqb}
use Rattle.std.proofs.Math.Option.{Option, none, some}
use Rattle.paper.specs.Tree.{Tree, Forest, integer, symbol, sum, product, power, nil, cons, to_list}

unfoldable pub eq_z : ℤ → ℤ → Bool
eq_z (pos a) (pos b) = eqb a b
eq_z (pos a) (negsuc b) = false
eq_z (negsuc a) (pos b) = false
eq_z (negsuc a) (negsuc b) = eqb a b

unfoldable pub one : Bool → ℕ
one true = 1
one false = 0

module _ {A : Type 0} where
  unfoldable pub keeping : A → Option (List A) → Option (List A)
  keeping y none = none
  keeping y (some l) = some (y ∷ l)

  unfoldable pub take_if : Bool → A → List A → Option (List A) → Option (List A)
  take_if true y ys r = some ys
  take_if false y ys r = keeping y r

  -- the list without its first member that p holds of
  unfoldable pub remove_first : (A → Bool) → List A → Option (List A)
  remove_first p [] = none
  remove_first p (y ∷ ys) = take_if (p y) y ys (remove_first p ys)

  unfoldable pub go_on : Option (List A) → (List A → Bool) → Bool
  go_on none k = false
  go_on (some l) k = k l

  unfoldable pub is_empty : List A → Bool
  is_empty [] = true
  is_empty (y ∷ ys) = false

  -- the same multiset: each member of the first list takes an equal one away from the second, and none is left
  unfoldable pub same_bag : (A → A → Bool) → List A → List A → Bool
  same_bag same [] ys = is_empty ys
  same_bag same (x ∷ xs) ys = go_on (remove_first (same x) ys) (λ l. same_bag same xs l)

  -- how many members of the list p holds of
  unfoldable pub occurs : (A → Bool) → List A → ℕ
  occurs p [] = 0
  occurs p (y ∷ ys) = one (p y) + occurs p ys

-- a test of the trees of one kind: no for those of another
unfoldable pub on_integer : (ℤ → Bool) → Tree → Bool
on_integer p (integer μ z) = p z
on_integer p (symbol μ s) = false
on_integer p (sum μ f) = false
on_integer p (product μ f) = false
on_integer p (power μ b ξ e) = false

unfoldable pub on_symbol : (ℕ → Bool) → Tree → Bool
on_symbol p (integer μ z) = false
on_symbol p (symbol μ s) = p s
on_symbol p (sum μ f) = false
on_symbol p (product μ f) = false
on_symbol p (power μ b ξ e) = false

unfoldable pub on_sum : (List Tree → Bool) → Tree → Bool
on_sum p (integer μ z) = false
on_sum p (symbol μ s) = false
on_sum p (sum μ f) = p (to_list f)
on_sum p (product μ f) = false
on_sum p (power μ b ξ e) = false

unfoldable pub on_product : (List Tree → Bool) → Tree → Bool
on_product p (integer μ z) = false
on_product p (symbol μ s) = false
on_product p (sum μ f) = false
on_product p (product μ f) = p (to_list f)
on_product p (power μ b ξ e) = false

unfoldable pub on_power : (Tree → ℕ → Bool) → Tree → Bool
on_power p (integer μ z) = false
on_power p (symbol μ s) = false
on_power p (sum μ f) = false
on_power p (product μ f) = false
on_power p (power μ b ξ e) = p b e

unfoldable mutual
  pub equal : Tree → Tree → Bool
  equal (integer μ z) u = on_integer (eq_z z) u
  equal (symbol μ s) u = on_symbol (eqb s) u
  equal (sum μ f) u = on_sum (λ l. matched f l) u
  equal (product μ f) u = on_product (λ l. matched f l) u
  equal (power μ b ξ e) u = on_power (λ c d. equal b c && eqb e d) u

  -- the members of f and those of l are the same multiset of equal trees
  pub matched : Forest → List Tree → Bool
  matched nil l = is_empty l
  matched (cons t f) l = go_on (remove_first (λ u. equal t u) l) (λ m. matched f m)
