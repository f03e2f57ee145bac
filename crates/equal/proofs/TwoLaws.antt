-- A product that is seen to have two members besides its integers: a symbol, whose record is its own, and then a tree that is no integer,
-- from the first member on or after an integer. Its rest is then the product of two or more, and equals no tree that is no product.
use Prim.Native.Nat.{ℕ, zero, suc, ◌+◌, ◌-◌, ◌*◌, ◌≤◌}
use mathlib.Core.Path.{◌≡◌, refl, ap, ◌∙◌, subst}
use mathlib.Core.Bool.{Bool, true, false, cond, not, ◌&&◌}
use mathlib.Core.List.{List, ◌∷◌}
use mathlib.Core.Option.{none, some}
use native.Mathlib.Omega.{arith}
use borrow.Author.Tests.{eqb-true, eqb-false, ltb-false, not-true}
use lib.ListN.{length}
use lib.Dec.{eqb, ltb}
use Rattle.paper.specs.Record.{kind, count_in}
use Rattle.paper.specs.Tree.{Tree, Forest, integer, symbol, sum, product, power, nil, cons, count, records, to_list, of_list}
use Rattle.paper.specs.Equal.{equal, on_product}
use Rattle.paper.specs.Rules.{as_integer, with_other, others_of, product_of, collapse, product_term, term_of}
use Rattle.paper.proofs.Tests.{and_both}
use Rattle.paper.proofs.EncodeLaws.{count_records}
use Rattle.note.proofs.ToldLaws.{Seen, seen_integer, seen_symbol, seen_product, a_product}
use Rattle.note.proofs.ToldLaws.{seen, tree_within, product_trees, first_tree, other_trees}
use Rattle.split.specs.Standing.{Told, ToldTrees}
use Rattle.split.proofs.SplitLaws.{no_integer}
use Rattle.equal.specs.Head.{two_at, has_two}

-- a list of two or more
abbrev Two : List Tree → Type 0
Two l = (t : Tree) × (u : Tree) × (m : List Tree) × (l ≡ t ∷ u ∷ m)

pub positive : (k : ℕ) → (k ≡ 0 → ⊥) → 1 ≤ k
positive zero h = absurd (h refl)
positive (suc k) h = omega arith

module _ {how : Tree → ℕ} {s : List ℕ} where
  -- the members of a product, and the room that they take
  two_members : {i μ : ℕ} {f : Forest} → Seen how s i (product μ f) → (count_in s i ≡ count f) × (2 ≤ count_in s i)
  two_members (a_product k n c w m) = (n, omega (arith, n, c))

  pub product_room : {i μ : ℕ} {f : Forest} → Told how s i (product μ f) → ((i + 1 + count_in s i) * 16 ≤ length s) × (2 ≤ count_in s i)
  unfolding records
  product_room {i} {μ} {f} h =
      let n = two_members (seen h) in
      (omega (arith, tree_within h, count_records f, n.0), n.1)

  -- a symbol and then no integer
  two_others : {i n : ℕ} (f : Forest) → ToldTrees how s i n f → 2 ≤ n → two_at s i ≡ true → Two (others_of (to_list f))
  unfolding two_at others_of with_other to_list records count
  two_others nil h l e = absurd (omega (arith, h.counted))
  two_others (cons t nil) h l e = absurd (omega (arith, h.counted))
  two_others {i} {n} (cons t (cons u g)) h l e =
      let b = and_both (eqb (kind s i) 1) (not (eqb (kind s (i + 1)) 0)) e in
      let k : kind s i ≡ 1 = eqb-true _ _ b.0 in
      let v = seen_symbol (seen (first_tree h)) k in
      let one : records t ≡ 1 = ap records v.2 in
      let at : ToldTrees how s (i + 1) (n - 1) (cons u g) = subst (λ m. ToldTrees how s (i + m) (n - 1) (cons u g)) one (other_trees h) in
      let later : kind s (i + 1) ≡ 0 → ⊥ = eqb-false _ _ (not-true (eqb (kind s (i + 1)) 0) b.1) in
      let first : as_integer t ≡ none = no_integer (first_tree h) (omega arith) in
      let second : as_integer u ≡ none = no_integer (first_tree at) (positive (kind s (i + 1)) later) in
      (t, u, others_of (to_list g), rw (first, second) refl)

  -- an integer, and then two others
  after_integer : {i n : ℕ} (f : Forest) → ToldTrees how s i n f → kind s i ≡ 0 → 3 ≤ n → two_at s (i + 1) ≡ true → Two (others_of (to_list f))
  unfolding others_of with_other as_integer to_list records count
  after_integer nil h k l e = absurd (omega (arith, h.counted))
  after_integer {i} {n} (cons t g) h k l e =
      let z = seen_integer (seen (first_tree h)) k in
      let one : records t ≡ 1 = ap records z.2 in
      let at : ToldTrees how s (i + 1) (n - 1) g = subst (λ m. ToldTrees how s (i + m) (n - 1) g) one (other_trees h) in
      let q = two_others g at (omega arith) e in
      let number : as_integer t ≡ some z.1 = ap as_integer z.2 in
      (q.0, q.1, q.2, rw number q.3)

  product_two : {i μ : ℕ} {f : Forest} → Told how s i (product μ f) → has_two s i ≡ true → Two (others_of (to_list f))
  unfolding has_two
  product_two {i} {μ} {f} h = by (eqb (kind s (i + 1)) 0) refl
    where
      by : (z : Bool) → eqb (kind s (i + 1)) 0 ≡ z
          → cond z (not (ltb (count_in s i) 3) && two_at s (i + 2)) (two_at s (i + 1)) ≡ true → Two (others_of (to_list f))
      by true z e =
          let b = and_both (not (ltb (count_in s i) 3)) (two_at s (i + 2)) e in
          let three : 3 ≤ count_in s i = ltb-false (count_in s i) 3 (not-true (ltb (count_in s i) 3) b.0) in
          let next : i + 2 ≡ i + 1 + 1 = omega arith in
          after_integer f (product_trees h) (eqb-true _ _ z) three (subst (λ m. two_at s m ≡ true) next b.1)
      by false z e = two_others f (product_trees h) (product_room h).1 e

  -- its rest is a product
  pub two_rest : {i : ℕ} {t : Tree} → Told how s i t → kind s i ≡ 3 → has_two s i ≡ true → (μ : ℕ) × (g : Forest) × ((term_of t).rest ≡ product μ g)
  unfolding term_of product_term product_of collapse
  two_rest {i} {t} h k two =
      let p = seen_product (seen h) k in
      let q = product_two (subst (Told how s i) p.2 h) two in
      (p.0, of_list (q.0 ∷ q.1 ∷ q.2), ap (λ u. (term_of u).rest) p.2 ∙ ap (product_of p.0) q.3)

  pub product_apart : (ν : ℕ) (g : Forest) {j : ℕ} (t : Tree) → Seen how s j t → (kind s j ≡ 3 → ⊥) → equal (product ν g) t ≡ false
  unfolding equal on_product
  product_apart ν g (integer μ z) q n = refl
  product_apart ν g (symbol μ v) q n = refl
  product_apart ν g (sum μ f) q n = refl
  product_apart ν g (product μ f) (a_product k c o w m) n = absurd (n k)
  product_apart ν g (power μ b ξ e) q n = refl
