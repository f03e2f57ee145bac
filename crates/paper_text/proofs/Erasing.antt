-- Marks off: a tree has as many records without its marks. By induction on the tree, with its members.
use Prim.Native.Nat.{ℕ, ◌+◌}
use mathlib.Core.Path.{◌≡◌, refl, ap}
use Rattle.paper.specs.Tree.{Tree, Forest, integer, symbol, sum, product, power, nil, cons, records, recordses}
use Rattle.paper.specs.Erased.{erase, erases}

mutual
  unfolding erase records

  pub erase_records : (t : Tree) → records (erase t) ≡ records t
  erase_records (integer μ z) = refl
  erase_records (symbol μ s) = refl
  erase_records (sum μ f) = ap (λ (n : ℕ). 1 + n) (erases_records f)
  erase_records (product μ f) = ap (λ (n : ℕ). 1 + n) (erases_records f)
  erase_records (power μ b ξ e) = ap (λ (n : ℕ). 2 + n) (erase_records b)

  erases_records : (f : Forest) → recordses (erases f) ≡ recordses f
  erases_records nil = refl
  erases_records (cons t f) = rw (erase_records t, erases_records f)
