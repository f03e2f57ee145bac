-- What makes the answer of a rule shallow, for any property P that goes down to members and holds of integers: if P holds of the members of each
-- of the trees of a list, then what the list collapses to is shallow; another mark changes no member; and a rule on sums, on products or on powers
-- is judged by its answers there alone.
use Prim.Native.Nat.{ℕ}
use mathlib.Core.Path.{◌≡◌, refl}
use mathlib.Core.Bool.{Bool, true, false}
use mathlib.Core.List.{List, [], ◌∷◌, ◌++◌}
use Rattle.paper.specs.Tree.{Tree, integer, symbol, sum, product, power, to_list, marked}
use Rattle.paper.specs.Rules.{Tried, collapse, sum_of, product_of, applies_if, on_sum_members, on_product_members, on_power_parts}
use Rattle.paper.specs.Driver.{members}
use Rattle.paper.specs.Shallow.{Each, Under, GoesDown, ShallowAnswer}
use Rattle.paper.proofs.WFLaws.{to_of_list}

pub each_map : {P Q : Tree → Type 0} → ((t : Tree) → P t → Q t) → (l : List Tree) → Each P l → Each Q l
each_map h [] p = tt
each_map h (t ∷ l) p = (h t p.0, each_map h l p.1)

pub each_append : (P : Tree → Type 0) (l m : List Tree) → Each P l → Each P m → Each P (l ++ m)
each_append P [] m p q = q
each_append P (t ∷ l) m p q = (p.0, each_append P l m p.1 q)

pub marked_members : (ν : ℕ) (t : Tree) → members (marked ν t) ≡ members t
unfolding marked members
marked_members ν (integer μ z) = refl
marked_members ν (symbol μ s) = refl
marked_members ν (sum μ f) = refl
marked_members ν (product μ f) = refl
marked_members ν (power μ b ξ e) = refl

module _ {P : Tree → Type 0} (d : GoesDown P) where
  -- one level more: what holds of the members holds of their members too
  pub deeper : (t : Tree) → Under P t → Under (Under P) t
  deeper t p = each_map d.down (members t) p

  pub sum_shallow : (μ : ℕ) (l : List Tree) → Each (Under P) l → Under (Under P) (sum_of μ l)
  unfolding sum_of collapse members
  sum_shallow μ [] p = tt
  sum_shallow μ (t ∷ []) p = deeper t p.0
  sum_shallow μ (t ∷ u ∷ l) p = rw (to_of_list (t ∷ u ∷ l)) p

  pub product_shallow : (μ : ℕ) (l : List Tree) → Each (Under P) l → Under (Under P) (product_of μ l)
  unfolding product_of collapse members
  product_shallow μ [] p = tt
  product_shallow μ (t ∷ []) p = deeper t p.0
  product_shallow μ (t ∷ u ∷ l) p = rw (to_of_list (t ∷ u ∷ l)) p

pub applies_shallow : (P : Tree → Type 0) (u : Tree) (b : Bool) → Under (Under P) u → ShallowAnswer P (applies_if b u)
unfolding applies_if
applies_shallow P u true h = h
applies_shallow P u false h = tt

module _ (P : Tree → Type 0) where
  pub on_sum_shallow : (k : ℕ → List Tree → Tried) → ((μ : ℕ) (l : List Tree) → Each P l → ShallowAnswer P (k μ l))
      → (t : Tree) → Under P t → ShallowAnswer P (on_sum_members k t)
  unfolding on_sum_members members
  on_sum_shallow k h (integer μ z) p = tt
  on_sum_shallow k h (symbol μ s) p = tt
  on_sum_shallow k h (sum μ f) p = h μ (to_list f) p
  on_sum_shallow k h (product μ f) p = tt
  on_sum_shallow k h (power μ b ξ e) p = tt

  pub on_product_shallow : (k : ℕ → List Tree → Tried) → ((μ : ℕ) (l : List Tree) → Each P l → ShallowAnswer P (k μ l))
      → (t : Tree) → Under P t → ShallowAnswer P (on_product_members k t)
  unfolding on_product_members members
  on_product_shallow k h (integer μ z) p = tt
  on_product_shallow k h (symbol μ s) p = tt
  on_product_shallow k h (sum μ f) p = tt
  on_product_shallow k h (product μ f) p = h μ (to_list f) p
  on_product_shallow k h (power μ b ξ e) p = tt

  pub on_power_shallow : (k : ℕ → Tree → ℕ → ℕ → Tried) → ((μ : ℕ) (b : Tree) (ξ e : ℕ) → P b → ShallowAnswer P (k μ b ξ e))
      → (t : Tree) → Under P t → ShallowAnswer P (on_power_parts k t)
  unfolding on_power_parts members
  on_power_shallow k h (integer μ z) p = tt
  on_power_shallow k h (symbol μ s) p = tt
  on_power_shallow k h (sum μ f) p = tt
  on_power_shallow k h (product μ f) p = tt
  on_power_shallow k h (power μ b ξ e) p = h μ b ξ e p.0
