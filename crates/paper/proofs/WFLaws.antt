-- Well-formed trees and lists of members: a list of well-formed members, of any length, collapses to a well-formed tree.
-- By cases on the list.
use Prim.Native.Nat.{ℕ, suc, ◌≤◌}
use mathlib.Core.Path.{◌≡◌, refl, ap}
use mathlib.Core.List.{List, [], ◌∷◌, ◌++◌}
use native.Mathlib.Omega.{arith}
use lib.ListN.{length}
use lib.Dec.{lit<}
use Rattle.paper.specs.Tree.{Tree, Forest, sum, product, nil, cons, count, to_list, of_list}
use Rattle.paper.specs.WellFormed.{Mark, WF, WFs, WFl}
use Rattle.paper.specs.Rules.{sum_of, product_of, collapse}

-- a forest and its list
pub wf_list : (f : Forest) → WFs f → WFl (to_list f)
unfolding to_list
wf_list nil w = tt
wf_list (cons t f) w = (w.0, wf_list f w.1)

pub list_wf : (l : List Tree) → WFl l → WFs (of_list l)
unfolding of_list
list_wf [] w = tt
list_wf (t ∷ l) w = (w.0, list_wf l w.1)

pub count_list : (f : Forest) → length (to_list f) ≡ count f
unfolding to_list count
count_list nil = refl
count_list (cons t f) = ap suc (count_list f)

pub list_count : (l : List Tree) → count (of_list l) ≡ length l
unfolding of_list count
list_count [] = refl
list_count (t ∷ l) = ap suc (list_count l)

pub of_to_list : (f : Forest) → of_list (to_list f) ≡ f
unfolding of_list to_list
of_to_list nil = refl
of_to_list (cons t f) = ap (cons t) (of_to_list f)

pub to_of_list : (l : List Tree) → to_list (of_list l) ≡ l
unfolding of_list to_list
to_of_list [] = refl
to_of_list (t ∷ l) = ap (λ m. t ∷ m) (to_of_list l)

pub wf_append : (l m : List Tree) → WFl l → WFl m → WFl (l ++ m)
wf_append [] m a b = b
wf_append (t ∷ l) m a b = (a.0, wf_append l m a.1 b)

-- the collapse of a list of well-formed members is well-formed
module _ (emptied : Tree) (node : Forest → Tree) (empty-wf : WF emptied) (node-wf : (f : Forest) → 2 ≤ count f → WFs f → WF (node f)) where
  pub collapse_wf : (l : List Tree) → WFl l → WF (collapse emptied node l)
  unfolding collapse
  collapse_wf [] w = empty-wf
  collapse_wf (t ∷ []) w = w.0
  collapse_wf (t ∷ u ∷ l) w = node-wf (of_list (t ∷ u ∷ l)) (omega (arith, list_count (t ∷ u ∷ l))) (list_wf (t ∷ u ∷ l) w)

pub sum_of_wf : (μ : ℕ) → Mark μ → (l : List Tree) → WFl l → WF (sum_of μ l)
unfolding sum_of
sum_of_wf μ m l w = collapse_wf _ (sum μ) (lit< tt, m) (λ f h v. (h, v, m)) l w

pub product_of_wf : (μ : ℕ) → Mark μ → (l : List Tree) → WFl l → WF (product_of μ l)
unfolding product_of
product_of_wf μ m l w = collapse_wf _ (product μ) (lit< tt, m) (λ f h v. (h, v, m)) l w
