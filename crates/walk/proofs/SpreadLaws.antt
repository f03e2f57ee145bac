-- The spread of a tree is what its records add up to, by induction on the tree; equal trees have equal spreads, since taking a member out of a list lowers a
-- total by its part; and that of a term's rest is the total over those members of a product that are no integers.
use Rattle.std.proofs.Common.{◌≡◌, ℕ, zero, suc, ◌+◌, ◌-◌, ◌*◌, ◌/◌, ◌%◌, ◌<◌, ◌≤◌, Bool, false, cond, eqb, List, [], ◌∷◌, pos, sym, refl, ap, ◌∙◌}
use Rattle.std.proofs.Common.{subst, mul-le-mul_right, mod-lt, arith, lit<, le-ltb, lt-ltb, eq-eqb, ne_eqb}
use Rattle.paper.specs.Limits.{modulus}
use Rattle.paper.specs.Bytes.{word}
use Rattle.paper.specs.Record.{kind, bits, count_in}
use Rattle.paper.specs.Tree.{Tree, Forest, integer, symbol, sum, product, power, nil, cons, to_list, of_list, records, recordses}
use Rattle.paper.specs.Rules.{as_integer, with_other, others_of, collapse, product_of, product_term, term, term_of}
use Rattle.paper.specs.Standing.{kind_number}
use Rattle.paper.proofs.Value.{total}
use Rattle.paper.proofs.EqualView.{Same, Sames, s_integer, s_symbol, s_sum, s_product, s_power, s_nil, s_cons, taken_total}
use Rattle.note.specs.Noted.{bits_by}
use Rattle.note.proofs.ToldLaws.{kind_number_lem, bits_number, exponent_tree, power_tree, sum_trees, product_trees, first_tree, other_trees}
use Rattle.note.proofs.ToldLaws.{FirstOf, first_of, none_of, seen, seen_integer, seen_product}
use Rattle.split.specs.Standing.{Told, ToldTrees, SomeTold}
use Rattle.split.proofs.SplitLaws.{no_integer, term_integer, term_other}
use Rattle.walk.specs.Stays.{is_integer}
use Rattle.walk.specs.Spread.{stirred, unit, share_of, share_in, shares_in, spread, spreads, rest_spread}

-- ---- halves of 64 bits, multiplied
halves_fit : (a b c : ℕ) → a < 4294967296 → b < 4294967296 → c < 4294967296 → a * b + c < 18446744073709551616
halves_fit a b c h g l = let m : a * b ≤ 4294967295 * b = mul-le-mul_right b (omega arith) in omega arith

pub wrapped : (y z : ℕ) → y ≡ z % modulus → y < 18446744073709551616
wrapped y z e = rw e (mod-lt z {m = modulus} (lit< tt))

module _ (y : ℕ) (h : y < 18446744073709551616) where
  high_lt : y / 4294967296 < 4294967296
  high_lt = omega arith

  pub half_sum : y % 4294967296 + y / 4294967296 < 18446744073709551616
  half_sum = omega (arith, high_lt)

  pub half_whole : (y % 4294967296 + y / 4294967296) % 4294967296 * (y / 4294967296) + y % 4294967296 < 18446744073709551616
  half_whole = halves_fit _ (y / 4294967296) (y % 4294967296) (omega arith) high_lt (omega arith)

  pub half_product : (y % 4294967296 + y / 4294967296) % 4294967296 * (y / 4294967296) < 18446744073709551616
  half_product = omega (arith, half_whole)

  -- the upper half, times a number of flags
  pub scaled : (n : ℕ) → n < 1048576 → y / 4294967296 * n < 18446744073709551616
  scaled n l = let m : y / 4294967296 * n ≤ 4294967295 * n = mul-le-mul_right n (omega (arith, high_lt)) in omega arith

-- ---- the share of one record
leaf_cond : (k v : ℕ) → k < 2 → share_of k v ≡ stirred ((v + k * unit) % modulus)
unfolding share_of
leaf_cond k v h = ap (λ b. cond b (stirred ((v + k * unit) % modulus)) (cond (eqb k 3) 0 (k * unit))) (lt-ltb k 2 h)

node_cond : (k v : ℕ) → 2 ≤ k → share_of k v ≡ cond (eqb k 3) 0 (k * unit)
unfolding share_of
node_cond k v h = ap (λ b. cond b (stirred ((v + k * unit) % modulus)) (cond (eqb k 3) 0 (k * unit))) (le-ltb k 2 h)

module _ (s : List ℕ) (i k : ℕ) (is : k ≡ kind s i) where
  pub leaf_share : (v : ℕ) → v ≡ bits s i → k < 2 → stirred ((v + k * unit) % modulus) ≡ share_in s i
  unfolding share_in
  leaf_share v e h = sym (leaf_cond k v h) ∙ ap (λ x. share_of x v) is ∙ ap (share_of (kind s i)) e

  pub product_share : k ≡ 3 → 0 ≡ share_in s i
  unfolding share_in
  product_share e = sym (ap (λ b. cond b 0 (k * unit)) (eq-eqb k 3 e)) ∙ sym (node_cond k (bits s i) (omega arith)) ∙ ap (λ x. share_of x (bits s i)) is

  pub head_share : 2 ≤ k → (k ≡ 3 → ⊥) → k * unit ≡ share_in s i
  unfolding share_in
  head_share l n = sym (ap (λ b. cond b 0 (k * unit)) (ne_eqb k 3 n)) ∙ sym (node_cond k (bits s i) l) ∙ ap (λ x. share_of x (bits s i)) is

-- ---- records that are added up
pub none_in : (s : List ℕ) (i : ℕ) → shares_in s i 0 ≡ 0
unfolding shares_in
none_in s i = refl

pub shares_more : (s : List ℕ) (i n : ℕ) → shares_in s i n + share_in s (i + n) ≡ shares_in s i (n + 1)
unfolding shares_in
shares_more s i n = let e : suc n ≡ n + 1 = omega arith in ap (shares_in s i) e

mod_small : (v : ℕ) → v < 18446744073709551616 → v % modulus ≡ v
mod_small v h = omega arith

-- sums wrap around as their summands do
pub sum_wraps : (a b : ℕ) → (a % modulus + b % modulus) % modulus ≡ (a + b) % modulus
sum_wraps a b = omega arith

pub sum_step : (s : List ℕ) (i j n v r : ℕ) → i ≤ j → n ≡ shares_in s i (j - i) % modulus → v ≡ share_in s j → v < 18446744073709551616 → r ≡ (n + v) % modulus
    → r ≡ shares_in s i (j + 1 - i) % modulus
sum_step s i j n v r l so is small e =
    let next : j - i + 1 ≡ j + 1 - i = omega arith in
    let here : i + (j - i) ≡ j = omega arith in
    let own : v % modulus ≡ v = mod_small v small in
    e
    ∙ ap (λ x. (x + v) % modulus) so
    ∙ ap (λ x. (shares_in s i (j - i) % modulus + x) % modulus) (sym own)
    ∙ sum_wraps (shares_in s i (j - i)) v
    ∙ ap (λ x. (shares_in s i (j - i) + x) % modulus) (is ∙ ap (share_in s) (sym here))
    ∙ ap (λ x. x % modulus) (shares_more s i (j - i) ∙ ap (shares_in s i) next)

shares_one : (s : List ℕ) (i : ℕ) → shares_in s i 1 ≡ share_in s i
unfolding shares_in
shares_one s i = let e : i + 0 ≡ i = omega arith in omega (arith, ap (share_in s) e)

shares_both : (s : List ℕ) (i a b : ℕ) → shares_in s i (a + b) ≡ shares_in s i a + shares_in s (i + a) b
unfolding shares_in
shares_both s i a zero = let e : a + 0 ≡ a = omega arith in omega (arith, ap (shares_in s i) e)
shares_both s i a (suc b) =
    let e : a + suc b ≡ suc (a + b) = omega arith in
    let g : i + (a + b) ≡ i + a + b = omega arith in
    omega (arith, ap (shares_in s i) e, shares_both s i a b, ap (share_in s) g)

share_told : {h : Tree → ℕ} {s : List ℕ} {i : ℕ} {t : Tree} → Told h s i t → share_in s i ≡ share_of (kind_number t) (bits_by h t)
unfolding share_in
share_told {h} {s} {i} {t} q = ap (λ k. share_of k (bits s i)) (kind_number_lem q) ∙ ap (share_of (kind_number t)) (bits_number q)

sum_head : (v : ℕ) → share_of 2 v ≡ share_of 2 0
unfolding share_of
sum_head v = refl

product_head : (v : ℕ) → share_of 3 v ≡ 0
unfolding share_of
product_head v = refl

power_head : (v : ℕ) → share_of 4 v ≡ share_of 4 0
unfolding share_of
power_head v = refl

mutual
  unfolding spread records kind_number bits_by

  pub tree_spread : {h : Tree → ℕ} {s : List ℕ} {i : ℕ} (t : Tree) → Told h s i t → shares_in s i (records t) ≡ spread t
  tree_spread {s = s} {i = i} (integer μ z) q = shares_one s i ∙ share_told q
  tree_spread {s = s} {i = i} (symbol μ v) q = shares_one s i ∙ share_told q
  tree_spread {h} {s} {i} (sum μ f) q =
      omega (arith, shares_both s i 1 (recordses f), shares_one s i, share_told q, sum_head (h (sum μ f)), trees_spread f (sum_trees q))
  tree_spread {h} {s} {i} (product μ f) q =
      omega (arith, shares_both s i 1 (recordses f), shares_one s i, share_told q, product_head (h (product μ f)), trees_spread f (product_trees q))
  tree_spread {h} {s} {i} (power μ b ξ e) q =
      let two : 2 + records b ≡ 1 + (records b + 1) = omega arith in
      omega (
        arith,
        ap (shares_in s i) two,
        shares_both s i 1 (records b + 1),
        shares_one s i,
        share_told q,
        power_head (h (power μ b ξ e)),
        shares_both s (i + 1) (records b) 1,
        tree_spread b (power_tree q),
        shares_one s (i + 1 + records b),
        share_told (exponent_tree q),
      )

  trees_spread : {h : Tree → ℕ} {s : List ℕ} {i n : ℕ} (f : Forest) → ToldTrees h s i n f → shares_in s i (recordses f) ≡ spreads f
  trees_spread {s = s} {i = i} nil q = none_in s i
  trees_spread {s = s} {i = i} (cons t f) q =
      omega (arith, shares_both s i (records t) (recordses f), tree_spread t (first_tree q), trees_spread f (other_trees q))

-- ---- members, added up
spreads_list : (f : Forest) → total spread (to_list f) ≡ spreads f
unfolding spread total to_list
spreads_list nil = refl
spreads_list (cons t f) = ap (λ n. spread t + n) (spreads_list f)

list_spreads : (l : List Tree) → spreads (of_list l) ≡ total spread l
unfolding spread total of_list
list_spreads [] = refl
list_spreads (t ∷ l) = ap (λ n. spread t + n) (list_spreads l)

-- ---- equal trees
mutual
  unfolding spread total

  pub same_spread : {t u : Tree} → Same t u → spread t ≡ spread u
  same_spread s_integer = refl
  same_spread s_symbol = refl
  same_spread (s_sum {g = g} r) = ap (λ n. share_of 2 0 + n) (sames_spread r ∙ spreads_list g)
  same_spread (s_product {g = g} r) = sames_spread r ∙ spreads_list g
  same_spread (s_power {e = e} r) = ap (λ n. share_of 4 0 + (n + share_of 0 (word (pos e)))) (same_spread r)

  sames_spread : {f : Forest} {l : List Tree} → Sames f l → spreads f ≡ total spread l
  sames_spread s_nil = refl
  sames_spread (s_cons {t} {u} {f} r k s) = omega (arith, same_spread r, taken_total spread k, sames_spread s)

pub same_integer : {a b : Tree} → Same a b → is_integer a ≡ is_integer b
unfolding is_integer
same_integer s_integer = refl
same_integer s_symbol = refl
same_integer (s_sum h) = refl
same_integer (s_product h) = refl
same_integer (s_power h) = refl

pub same_rest : {a b : Tree} → Same a b → rest_spread a ≡ rest_spread b
unfolding rest_spread
same_rest {a} {b} r = ap (λ x. cond x 0 (spread a)) (same_integer r) ∙ ap (cond (is_integer b) 0) (same_spread r)

-- ---- the rest of a product: the first of its members that are no integers is none
first_integer : List Tree → Bool
first_integer [] = false
first_integer (t ∷ l) = is_integer t

others_first : (l : List Tree) → first_integer (others_of l) ≡ false
unfolding others_of with_other as_integer is_integer first_integer
others_first [] = refl
others_first (integer μ z ∷ l) = others_first l
others_first (symbol μ s ∷ l) = refl
others_first (sum μ f ∷ l) = refl
others_first (product μ f ∷ l) = refl
others_first (power μ b ξ e ∷ l) = refl

product_spread : (μ : ℕ) (f : Forest) → spread (product μ f) ≡ spreads f
unfolding spread
product_spread μ f = refl

rest_total : (μ : ℕ) (l : List Tree) → first_integer l ≡ false → rest_spread (product_of μ l) ≡ total spread l
unfolding rest_spread product_of collapse is_integer total first_integer
rest_total μ [] h = refl
rest_total μ (t ∷ []) h = ap (λ b. cond b 0 (spread t)) h ∙ omega arith
rest_total μ (t ∷ u ∷ l) h = product_spread μ (of_list (t ∷ u ∷ l)) ∙ list_spreads (t ∷ u ∷ l)

-- ---- the others of the product at record i, from record `at` on, and those before, which add up to n
pub record Adding (how : Tree → ℕ) (s : List ℕ) (n at left : ℕ) (f : Forest) : Type 0 where
  pub rest : Forest
  pub stand : ToldTrees how s at left rest
  pub whole : ℕ
  pub sum : n ≡ whole % modulus
  pub total : whole + total spread (others_of (to_list rest)) ≡ total spread (others_of (to_list f))

pub adding_start : {how : Tree → ℕ} {s : List ℕ} {i μ : ℕ} {f : Forest} → Told how s i (product μ f) → Adding how s 0 (i + 1) (count_in s i) f
adding_start {f = f} h = record { rest = f; stand = product_trees h; whole = 0; sum = refl; total = omega arith }

module _ {how : Tree → ℕ} {s : List ℕ} {n at left : ℕ} {f : Forest} (h : Adding how s n at left f) where
  pub added_all : (μ : ℕ) → left ≡ 0 → n ≡ rest_spread (product_term μ (to_list f)).rest % modulus
  unfolding product_term others_of to_list total
  added_all μ e =
      let none : total spread (others_of (to_list h.rest)) ≡ 0 = ap (λ r. total spread (others_of (to_list r))) (none_of h.rest h.stand e) in
      let all : h.whole ≡ total spread (others_of (to_list f)) = omega (arith, h.total) in
      h.sum ∙ ap (λ x. x % modulus) (all ∙ sym (rest_total μ (others_of (to_list f)) (others_first (to_list f))))

  module _ (l : 0 < left) where
    member : FirstOf how s at left h.rest
    member = first_of h.rest h.stand l

    pub adding_tree : SomeTold s at
    adding_tree = record { how = how; tree = member.tree; there = member.there }

    module _ (j : ℕ) (ends : (t : Tree) → Told how s at t → j ≡ at + records t) where
      here : j ≡ at + records member.tree
      here = ends member.tree member.there

      pub added_other : 1 ≤ kind s at → (v : ℕ) → ((t : Tree) → Told how s at t → v ≡ spread t % modulus) → (n' : ℕ) → n' ≡ (n + v) % modulus
          → Adding how s n' j (left - 1) f
      unfolding others_of to_list with_other total
      added_other k v is n' e =
          let o = no_integer member.there k in
          let m : total spread (others_of (to_list h.rest)) ≡ spread member.tree + total spread (others_of (to_list member.others)) =
          ap (λ r. total spread (others_of (to_list r))) member.whole
          ∙ ap (λ x. total spread (with_other x member.tree (others_of (to_list member.others)))) o in
          rw here
          (record {
            rest = member.others;
            stand = member.after;
            whole = h.whole + spread member.tree;
            sum =
                e
                ∙ ap (λ x. (x + v) % modulus) h.sum
                ∙ ap (λ x. (h.whole % modulus + x) % modulus) (is member.tree member.there)
                ∙ sum_wraps h.whole (spread member.tree);
            total = omega (arith, h.total, m);
          })

      pub added_integer : kind s at ≡ 0 → Adding how s n j (left - 1) f
      unfolding others_of to_list with_other as_integer
      added_integer k =
          let q = seen_integer (seen member.there) k in
          let m : total spread (others_of (to_list h.rest)) ≡ total spread (others_of (to_list member.others)) =
          ap (λ r. total spread (others_of (to_list r))) member.whole
          ∙ ap (λ x. total spread (with_other (as_integer x) member.tree (others_of (to_list member.others)))) q.2 in
          rw here
          (record { rest = member.others; stand = member.after; whole = h.whole; sum = h.sum; total = omega (arith, h.total, m) })

-- ---- the rest of a term, by the kind of its record
whole_spread : (u : Tree) → 1 ≤ kind_number u → rest_spread u ≡ spread u
unfolding rest_spread is_integer kind_number
whole_spread (integer μ z) l = absurd (omega arith)
whole_spread (symbol μ v) l = refl
whole_spread (sum μ f) l = refl
whole_spread (product μ f) l = refl
whole_spread (power μ b ξ x) l = refl

module _ {how : Tree → ℕ} {s : List ℕ} {i : ℕ} (t : Tree) (q : Told how s i t) where
  pub rest_integer : kind s i < 1 → 0 ≡ rest_spread (term_of t).rest % modulus
  unfolding rest_spread is_integer
  rest_integer k = let z = (term_integer t q k).1 in ap (λ u. rest_spread u % modulus) (sym z.1)

  pub rest_product : kind s i ≡ 3 → (v : ℕ)
      → ((μ : ℕ) (f : Forest) → Told how s i (product μ f) → v ≡ rest_spread (product_term μ (to_list f)).rest % modulus)
      → v ≡ rest_spread (term_of t).rest % modulus
  unfolding term_of
  rest_product k v told =
      let p = seen_product (seen q) k in
      told p.0 p.1 (subst (Told how s i) p.2 q) ∙ ap (λ u. rest_spread (term_of u).rest % modulus) (sym p.2)

  pub rest_other : 1 ≤ kind s i → (kind s i ≡ 3 → ⊥) → (v : ℕ) → v ≡ spread t % modulus → v ≡ rest_spread (term_of t).rest % modulus
  unfolding term
  rest_other k n v e =
      e ∙ ap (λ x. x % modulus) (sym (whole_spread t (omega (arith, kind_number_lem q)))) ∙ ap (λ c. rest_spread c.rest % modulus) (sym (term_other t q k n))
