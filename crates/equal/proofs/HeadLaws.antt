-- Trees that begin otherwise are not equal. First records that differ in kind or in number are those of different trees, since what is
-- said of equal nodes is the same; and powers whose bases differ are different. So a tree that begins otherwise is passed by where
-- one is looked for, and rests that are whole trees and begin otherwise are not equal.
use Prim.Native.Nat.{ℕ, ◌+◌, ◌*◌, ◌≤◌, ◌<◌}
use mathlib.Core.Path.{◌≡◌, refl, sym, ap, ◌∙◌, subst}
use mathlib.Core.Bool.{Bool, true, false, cond, not, ◌&&◌}
use mathlib.Core.List.{List}
use native.Mathlib.Decide.{dec_le}
use native.Mathlib.Omega.{arith}
use borrow.Author.Tests.{eq-eqb, eqb-true, eqb-false, not-true}
use lib.ListN.{length}
use lib.IntN.{pos}
use lib.Dec.{eqb}
use Rattle.paper.specs.Bytes.{word}
use Rattle.paper.specs.Record.{kind, bits}
use Rattle.paper.specs.Tree.{Tree, mark_of, records}
use Rattle.paper.specs.Equal.{equal}
use Rattle.paper.specs.Rules.{Term, term, term_of}
use Rattle.paper.proofs.Tests.{and_both, true_not_false, not_so}
use Rattle.note.proofs.ToldLaws.{seen_power, node_bits}
use Rattle.split.specs.Standing.{Told}
use Rattle.split.specs.Rest.{coefficient_of}
use Rattle.std.proofs.Common.{Ok}
use Rattle.note.proofs.ToldLaws.{seen, record_within, power_tree}
use Rattle.split.proofs.SplitLaws.{no_integer, term_integer, term_other}
use Rattle.equal.specs.Head.{same_head, begin_alike, is_candidate, is_whole, has_two, rests_differ}
use Rattle.equal.proofs.AnswerLaws.{equal_turned}
use Rattle.equal.proofs.RestLaws.{integer_apart}
use Rattle.equal.proofs.TwoLaws.{positive, two_rest, product_apart}
use Rattle.equal.proofs.SameLaws.{kinds_differ, leaf_records, leaves_equal, leaves_differ, powers_differ}

-- the base of a power stands in the table
pub base_within : {how : Tree → ℕ} {s : List ℕ} {i : ℕ} {t : Tree} → Told how s i t → kind s i ≡ 4 → (i + 1) * 16 + 16 ≤ length s
base_within {how} {s} {i} h e = record_within (power_tree (subst (Told how s i) (seen_power (seen h) e).4 h))

module _ {how : Tree → ℕ} {a : List ℕ} {i : ℕ} {b : List ℕ} {j : ℕ} {t u : Tree} (h : Told how a i t) (g : Told how b j u) where
  pub heads_differ : same_head a i b j ≡ false → equal t u ≡ false
  unfolding same_head
  heads_differ = by (eqb (kind a i) (kind b j)) refl (eqb (bits a i) (bits b j)) refl
    where
      numbers : kind a i ≡ kind b j → (bits a i ≡ bits b j → ⊥) → Dec (2 ≤ kind a i) → equal t u ≡ false
      numbers k n (yes l) =
          not_so (equal t u) (λ e. n (node_bits h l ∙ h.tells.alike t u e ∙ sym (node_bits g (omega arith))))
      numbers k n (no l) = leaves_differ h g k (omega arith) n

      by : (k : Bool) → eqb (kind a i) (kind b j) ≡ k → (n : Bool) → eqb (bits a i) (bits b j) ≡ n → (n && k) ≡ false → equal t u ≡ false
      by false e n f z = kinds_differ h g (eqb-false _ _ e)
      by true e false f z = numbers (eqb-true _ _ e) (eqb-false _ _ f) (dec_le 2 (kind a i))
      by true e true f z = absurd (true_not_false refl z)

pub heads_kinds : (a : List ℕ) (i : ℕ) (b : List ℕ) (j : ℕ) → same_head a i b j ≡ true → kind a i ≡ kind b j
unfolding same_head
heads_kinds a i b j e = eqb-true _ _ (and_both (eqb (bits a i) (bits b j)) (eqb (kind a i) (kind b j)) e).1

pub begin_kinds : (a : List ℕ) (i : ℕ) (b : List ℕ) (j : ℕ) → begin_alike a i b j ≡ true → kind a i ≡ kind b j
unfolding begin_alike
begin_kinds a i b j e =
    heads_kinds a i b j (and_both (same_head a i b j) (cond (eqb (kind a i) 4) (same_head a (i + 1) b (j + 1)) true) e).0

module _ {how : Tree → ℕ} {a : List ℕ} {i : ℕ} {b : List ℕ} {j : ℕ} {t u : Tree} (h : Told how a i t) (g : Told how b j u) where
  pub begins_differ : begin_alike a i b j ≡ false → equal t u ≡ false
  unfolding begin_alike
  begins_differ = by (same_head a i b j) refl (eqb (kind a i) 4) refl
    where
      by : (n : Bool) → same_head a i b j ≡ n → (k : Bool) → eqb (kind a i) 4 ≡ k
          → (n && cond k (same_head a (i + 1) b (j + 1)) true) ≡ false → equal t u ≡ false
      by false e k f z = heads_differ h g e
      by true e true f z =
          let k = heads_kinds a i b j e in
          powers_differ h g k (eqb-true _ _ f) (λ v w x y. heads_differ x y z)
      by true e false f z = absurd (true_not_false refl z)

  -- leaves that begin alike are equal, and have one record
  pub leaves_alike : begin_alike a i b j ≡ true → kind a i < 2 → (equal t u ≡ true) × (records t ≡ 1)
  unfolding begin_alike same_head
  leaves_alike e l =
      let head = (and_both (same_head a i b j) (cond (eqb (kind a i) 4) (same_head a (i + 1) b (j + 1)) true) e).0 in
      let k = heads_kinds a i b j head in
      let n = eqb-true _ _ (and_both (eqb (bits a i) (bits b j)) (eqb (kind a i) (kind b j)) head).0 in
      (leaves_equal h g k l n, leaf_records h g k l)

  -- a tree with no tick that is no candidate is not equal
  pub passed_by : (x : ℕ) → is_candidate a i b j x ≡ false → x ≡ 0 → equal t u ≡ false
  unfolding is_candidate
  passed_by x e z = begins_differ (sym (rw (eq-eqb x 0 z)) ∙ e)

pub candidate_free : (a : List ℕ) (i : ℕ) (b : List ℕ) (j x : ℕ) → is_candidate a i b j x ≡ true → x ≡ 0
unfolding is_candidate
candidate_free a i b j x e = eqb-true _ _ (and_both (eqb x 0) (begin_alike a i b j) e).0

pub candidate_begins : (a : List ℕ) (i : ℕ) (b : List ℕ) (j x : ℕ) → is_candidate a i b j x ≡ true → begin_alike a i b j ≡ true
unfolding is_candidate
candidate_begins a i b j x e = (and_both (eqb x 0) (begin_alike a i b j) e).1

-- ---- rests
-- a tree that is neither an integer nor a product is whole
whole_if : (s : List ℕ) (j : ℕ) → eqb (kind s j) 0 ≡ false → eqb (kind s j) 3 ≡ false → is_whole s j ≡ true
unfolding is_whole
whole_if s j z p = rw (z, p) refl

-- a whole tree is no product, and one that is neither whole nor an integer is one
whole_no_product : (s : List ℕ) (j : ℕ) → is_whole s j ≡ true → kind s j ≡ 3 → ⊥
unfolding is_whole
whole_no_product s j e =
    let b = and_both (not (eqb (kind s j) 0)) (not (eqb (kind s j) 3)) e in
    eqb-false (kind s j) 3 (not-true (eqb (kind s j) 3) b.1)

pub product_if : (s : List ℕ) (i : ℕ) → is_whole s i ≡ false → eqb (kind s i) 0 ≡ false → kind s i ≡ 3
unfolding is_whole
product_if s i w z = eqb-true _ _ (by (eqb (kind s i) 3) (sym (rw z refl) ∙ w))
  where
    by : (p : Bool) → not p ≡ false → p ≡ true
    by true e = refl
    by false e = absurd (true_not_false refl e)

module _ {how : Tree → ℕ} {s : List ℕ} where
  -- a whole tree is its own rest, and its coefficient is 1
  whole_term : {i : ℕ} {t : Tree} → Told how s i t → is_whole s i ≡ true → term_of t ≡ term (mark_of t) (pos 1) t
  unfolding is_whole
  whole_term {i} {t} h e =
      let b = and_both (not (eqb (kind s i) 0)) (not (eqb (kind s i) 3)) e in
      let integer = eqb-false (kind s i) 0 (not-true (eqb (kind s i) 0) b.0) in
      let product = eqb-false (kind s i) 3 (not-true (eqb (kind s i) 3) b.1) in
      term_other t h (positive (kind s i) integer) product

  whole_rest : {i : ℕ} {t : Tree} → Told how s i t → is_whole s i ≡ true → (term_of t).rest ≡ t
  unfolding term
  whole_rest h e = ap (λ (x : Term). x.rest) (whole_term h e)

  pub whole_coefficient : {i : ℕ} {t : Tree} → Told how s i t → is_whole s i ≡ true → Ok 1 ≡ coefficient_of (term_of t)
  unfolding term coefficient_of word
  whole_coefficient h e = sym (ap coefficient_of (whole_term h e))

  -- an integer's rest is 1, which no whole tree is
  one_unlike : {i j : ℕ} {t u : Tree} → Told how s i t → Told how s j u → kind s i ≡ 0 → is_whole s j ≡ true
      → equal (term_of t).rest (term_of u).rest ≡ false
  unfolding is_whole
  one_unlike {i} {j} {t} {u} h g k e =
      let b = and_both (not (eqb (kind s j) 0)) (not (eqb (kind s j) 3)) e in
      let other = positive (kind s j) (eqb-false (kind s j) 0 (not-true (eqb (kind s j) 0) b.0)) in
      let unit = (term_integer t h (omega arith)).1 in
      rw (unit.1, whole_rest g e) (integer_apart unit.0 (pos 1) u (no_integer g other))

  -- the rest of a product with two members besides its integers is a product, which no whole tree is
  two_unlike : {i j : ℕ} {t u : Tree} → Told how s i t → Told how s j u → kind s i ≡ 3 → has_two s i ≡ true → is_whole s j ≡ true
      → equal (term_of t).rest (term_of u).rest ≡ false
  two_unlike {i} {j} {t} {u} h g k two e =
      let r = two_rest h k two in
      rw (r.2, whole_rest g e) (product_apart r.0 r.1 u (seen g) (whole_no_product s j e))

  pub rests_unlike : {i j : ℕ} {t u : Tree} → Told how s i t → Told how s j u → rests_differ s i j ≡ true
      → equal (term_of t).rest (term_of u).rest ≡ false
  unfolding rests_differ
  rests_unlike {i} {j} {t} {u} h g = by (is_whole s i) refl (eqb (kind s j) 3) refl (eqb (kind s j) 0) refl (eqb (kind s i) 0) refl
    where
      by : (w : Bool) → is_whole s i ≡ w → (p : Bool) → eqb (kind s j) 3 ≡ p → (z : Bool) → eqb (kind s j) 0 ≡ z
          → (x : Bool) → eqb (kind s i) 0 ≡ x
          → cond w (cond p (has_two s j) (not (begin_alike s i s j))) (cond x (is_whole s j) (is_whole s j && has_two s i)) ≡ true
          → equal (term_of t).rest (term_of u).rest ≡ false
      by true w true p z f x y e = equal_turned (term_of t).rest (term_of u).rest ∙ two_unlike g h (eqb-true _ _ p) e w
      by true w false p true f x y e = equal_turned (term_of t).rest (term_of u).rest ∙ one_unlike g h (eqb-true _ _ f) w
      by true w false p false f x y e = rw (whole_rest h w, whole_rest g (whole_if s j f p)) (begins_differ h g (not-true _ e))
      by false w p q z f true y e = one_unlike h g (eqb-true _ _ y) e
      by false w p q z f false y e =
          let b = and_both (is_whole s j) (has_two s i) e in
          two_unlike h g (product_if s i w y) b.1 b.0
