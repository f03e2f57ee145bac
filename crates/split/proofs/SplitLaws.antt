-- The splits of a tree that stands in a table, by the kind of its first record: coefficient and rest, base and exponent; and the
-- integers and the others of a product, one member at a time. By cases on the tree, which the record tells.
use Prim.Native.Nat.{ℕ, suc, ◌+◌, ◌-◌, ◌*◌, ◌^◌, ◌≤◌, ◌<◌}
use mathlib.Core.Path.{◌≡◌, refl, sym, ap, ◌∙◌, subst}
use mathlib.Core.Bool.{Bool, true, false, cond, ◌&&◌}
use mathlib.Core.List.{List, [], ◌∷◌}
use mathlib.Core.Option.{Option, none, some}
use native.Mathlib.Omega.{arith}
use lib.ListN.{length}
use lib.IntN.{ℤ, pos, ◌*ℤ◌}
use borrow.Author.Tests.{lt-ltb, le-ltb, eq-eqb, ne_eqb}
use Rattle.paper.specs.Bytes.{signed, word}
use Rattle.paper.specs.Record.{kind, count_in, bits}
use Rattle.paper.specs.Tree.{Tree, Forest, integer, symbol, sum, product, power, nil, cons, count, mark_of, records, to_list, of_list}
use Rattle.paper.specs.Rules.{fits, as_integer, product_of, collapse, with_integer, integers_of, with_other, others_of}
use Rattle.paper.specs.Rules.{Multiplied, times_one, times_each, unit, product_term, Term, term, term_of, factor, factor_of}
use Rattle.paper.proofs.Congruence.{word_lt}
use Rattle.paper.proofs.EncodeLaws.{signed_word, word_signed}
use Rattle.note.proofs.ToldLaws.{Seen, SeenPower, seen_integer, seen_power, seen_product, an_integer, a_symbol, a_sum, a_product, a_power}
use Rattle.paper.proofs.LikeTermsWF.{term_of_wf}
use Rattle.paper.proofs.WFLaws.{of_to_list, count_list}
use Rattle.std.proofs.Common.{Result, Ok}
use Rattle.number.specs.declared.OutOfRange.{OutOfRange}
use Rattle.number.specs.Num.{num_of, out_of_range}
use Rattle.number.proofs.NumLaws.{num_of_is, num_of_is_out}
use Rattle.split.specs.Standing.{Told, ToldTrees, SomeTold, SomeProduct}
use Rattle.split.specs.Place.{base_at, later_other, last_other, product_rest, rest_at}
use Rattle.split.specs.Rest.{coefficient_of, Lessened}
use Rattle.split.specs.declared.Rest.TheVariants.{One, At, Others}
use Rattle.note.proofs.ToldLaws.{seen, tree_within, power_tree, product_trees, FirstOf, first_tree, other_trees, first_of, none_of}

-- ---- a tree's record has one of the five kinds
pub kind_five : {how : Tree → ℕ} {s : List ℕ} {i : ℕ} (t : Tree) → Told how s i t → kind s i < 5
kind_five {how = how} {s = s} {i = i} t h = by t (seen h)
  where
    by : (t : Tree) → Seen how s i t → kind s i < 5
    by (integer μ z) (an_integer e b w) = omega arith
    by (symbol μ v) (a_symbol e b w) = omega arith
    by (sum μ f) (a_sum e n c w m) = omega arith
    by (product μ f) (a_product e n c w m) = omega arith
    by (power μ b ξ x) (a_power e w m p q o y z) = omega arith

-- ---- base and exponent
module _ {how : Tree → ℕ} {s : List ℕ} {i : ℕ} where
  pub base_power : (t : Tree) → Told how s i t → kind s i ≡ 4 → Told how s (i + 1) (factor_of t).base
  unfolding factor_of factor
  base_power t h k = by t h (seen h)
    where
      by : (t : Tree) → Told how s i t → Seen how s i t → Told how s (i + 1) (factor_of t).base
      by (integer μ z) h (an_integer e b w) = absurd (omega arith)
      by (symbol μ v) h (a_symbol e b w) = absurd (omega arith)
      by (sum μ f) h (a_sum e n c w m) = absurd (omega arith)
      by (product μ f) h (a_product e n c w m) = absurd (omega arith)
      by (power μ b ξ x) h q = power_tree h

  pub base_itself : (t : Tree) → Told how s i t → (kind s i ≡ 4 → ⊥) → Told how s i (factor_of t).base
  unfolding factor_of factor
  base_itself t h k = by t h (seen h)
    where
      by : (t : Tree) → Told how s i t → Seen how s i t → Told how s i (factor_of t).base
      by (integer μ z) h q = h
      by (symbol μ v) h q = h
      by (sum μ f) h q = h
      by (product μ f) h q = h
      by (power μ b ξ x) h (a_power e w m p q o y z) = absurd (k e)

  pub base_behind : (t : Tree) → Told how s i t → kind s i ≡ 4 → i + 1 ≡ base_at i t
  unfolding base_at
  base_behind t h k = ap (base_at i) (sym (seen_power (seen h) k).4)

  pub base_here : (t : Tree) → Told how s i t → (kind s i ≡ 4 → ⊥) → i ≡ base_at i t
  unfolding base_at
  base_here t h k = by t (seen h)
    where
      by : (t : Tree) → Seen how s i t → i ≡ base_at i t
      by (integer μ z) q = refl
      by (symbol μ v) q = refl
      by (sum μ f) q = refl
      by (product μ f) q = refl
      by (power μ b ξ x) (a_power e w m p q o y z) = absurd (k e)

  pub exponent_itself : (t : Tree) → Told how s i t → (kind s i ≡ 4 → ⊥) → 1 ≡ (factor_of t).exponent
  unfolding factor_of factor
  exponent_itself t h k = by t (seen h)
    where
      by : (t : Tree) → Seen how s i t → 1 ≡ (factor_of t).exponent
      by (integer μ z) q = refl
      by (symbol μ v) q = refl
      by (sum μ f) q = refl
      by (product μ f) q = refl
      by (power μ b ξ x) (a_power e w m p q o y z) = absurd (k e)

pub some_base : {s : List ℕ} {i : ℕ} → SomeTold s i → kind s i ≡ 4 → SomeTold s (i + 1)
some_base {s} {i} h k =
    let p = seen_power (seen h.there) k in
    record { how = h.how; tree = p.1; there = power_tree (subst (Told h.how s i) p.4 h.there) }

-- the exponent of t is the number in record j
pub record ExponentAt (s : List ℕ) (j : ℕ) (t : Tree) : Type 0 where
  pub within : j * 16 + 16 ≤ length s
  pub exponent : bits s j ≡ (factor_of t).exponent
  pub most : bits s j < 2 ^ 63

module _ {how : Tree → ℕ} {s : List ℕ} {i : ℕ} where
  -- it stands in the record after the base
  pub exponent_power : (t : Tree) → Told how s i t → kind s i ≡ 4 → (j : ℕ) → ((b : Tree) → Told how s (i + 1) b → j ≡ i + 1 + records b)
      → ExponentAt s j t
  unfolding factor_of factor records
  exponent_power t h k j ends = by t h (seen_power (seen h) k)
    where
      by : (t : Tree) → Told how s i t → (μ : ℕ) × (b : Tree) × (ξ : ℕ) × (e : ℕ) × (t ≡ power μ b ξ e) × SeenPower how s i b ξ e → ExponentAt s j t
      by t h p =
          let e : j ≡ i + 1 + records p.1 = ends p.1 (power_tree (subst (Told how s i) p.4 h)) in
          let n : bits s j ≡ p.3 = ap (bits s) e ∙ p.5.exponent_bits in
          let r : records t ≡ 2 + records p.1 = ap records p.4 in
          record {
            within = omega (arith, tree_within h);
            exponent = n ∙ ap (λ u. (factor_of u).exponent) (sym p.4);
            most = omega (arith, p.5.most);
          }

-- ---- members of a product, integers and others
pub no_integer : {how : Tree → ℕ} {s : List ℕ} {i : ℕ} {t : Tree} → Told how s i t → 1 ≤ kind s i → as_integer t ≡ none
unfolding as_integer
no_integer {how} {s} {i} {t} h k = by t (seen h)
  where
    by : (t : Tree) → Seen how s i t → as_integer t ≡ none
    by (integer μ z) (an_integer e b w) = absurd (omega arith)
    by (symbol μ v) q = refl
    by (sum μ g) q = refl
    by (product μ g) q = refl
    by (power μ b ξ x) q = refl

some_other : {A : Type 0} {t : Tree} {l : List Tree} → t ∷ l ≡ [] → A
some_other e = let n = ap length e in absurd (omega arith)

others_most : (l : List Tree) → length (others_of l) ≤ length l
unfolding others_of with_other
others_most [] = omega arith
others_most (t ∷ l) = go (as_integer t) (others_most l)
  where
    go : (o : Option ℤ) → length (others_of l) ≤ length l → length (with_other o t (others_of l)) ≤ length (t ∷ l)
    go (some z) h = omega arith
    go none h = omega arith

-- where there are as many others as members, they are the members
others_all : (l : List Tree) → length (others_of l) ≡ length l → others_of l ≡ l
unfolding others_of with_other
others_all [] e = refl
others_all (t ∷ l) e = go (as_integer t) e (others_all l)
  where
    go : (o : Option ℤ) → length (with_other o t (others_of l)) ≡ length (t ∷ l) → (length (others_of l) ≡ length l → others_of l ≡ l)
        → with_other o t (others_of l) ≡ t ∷ l
    go (some z) e ih = absurd (omega (arith, others_most l))
    go none e ih = ap (λ (m : List Tree). t ∷ m) (ih (omega arith))

-- where no other is left, the last one is the one before; a single one stands at its record
none_later : (i last : ℕ) (f : Forest) → others_of (to_list f) ≡ [] → last_other i last f ≡ last
unfolding others_of to_list with_other last_other later_other
none_later i last nil e = refl
none_later i last (cons t f) e = go (as_integer t) e (none_later (i + records t) last f)
  where
    go : (o : Option ℤ) → with_other o t (others_of (to_list f)) ≡ [] → (others_of (to_list f) ≡ [] → last_other (i + records t) last f ≡ last)
        → last_other (i + records t) (later_other o i last) f ≡ last
    go (some z) e ih = ih e
    go none e ih = some_other e

-- an other is no integer
first_other : (l : List Tree) (u : Tree) (m : List Tree) → others_of l ≡ u ∷ m → as_integer u ≡ none
unfolding others_of with_other
first_other [] u m e = some_other (sym e)
first_other (t ∷ l) u m e = go (as_integer t) refl e (first_other l u m)
  where
    go : (o : Option ℤ) → as_integer t ≡ o → with_other o t (others_of l) ≡ u ∷ m → (others_of l ≡ u ∷ m → as_integer u ≡ none) → as_integer u ≡ none
    go (some z) p e ih = ih e
    go none p e ih = let a : t ≡ u = cc in ap as_integer (sym a) ∙ p

single_there : {how : Tree → ℕ} (s : List ℕ) (i n last : ℕ) (f : Forest) → ToldTrees how s i n f → (u : Tree) → others_of (to_list f) ≡ u ∷ []
    → Told how s (last_other i last f) u
unfolding others_of to_list with_other last_other later_other
single_there s i n last nil h u e = some_other (sym e)
single_there {how} s i n last (cons t f) h u e = go (as_integer t) e (single_there s (i + records t) (n - 1) last f (other_trees h) u)
  where
    go : (o : Option ℤ) → with_other o t (others_of (to_list f)) ≡ u ∷ []
        → (others_of (to_list f) ≡ u ∷ [] → Told how s (last_other (i + records t) last f) u)
        → Told how s (last_other (i + records t) (later_other o i last) f) u
    go (some z) e ih = ih e
    go none e ih =
        let a : t ≡ u = cc in
        let b : others_of (to_list f) ≡ [] = cc in
        subst (λ j. Told how s j u) (sym (none_later (i + records t) i f b)) (subst (Told how s i) a (first_tree h))

-- ---- the product of the integers of a product, one member at a time
abbrev multiplied : ℤ → Bool → Multiplied
multiplied z b = record { number = z; in_range = b }

-- with n, in range, for the product of the integers that were met, those of the trees from record `at` on, `left` of them, make it the
-- product of all integers of f
pub record Multiplying (how : Tree → ℕ) (s : List ℕ) (n at left : ℕ) (f : Forest) : Type 0 where
  pub rest : Forest
  pub stand : ToldTrees how s at left rest
  pub bits_fit : n < 2 ^ 64
  pub same : times_each (multiplied (signed n) true) (integers_of (to_list rest)) ≡ times_each unit (integers_of (to_list f))

-- once out of range, always
each_out : (c : Multiplied) (l : List ℤ) → c.in_range ≡ false → (times_each c l).in_range ≡ false
unfolding times_each times_one
each_out c [] e = e
each_out c (z ∷ l) e = each_out (times_one c z) l (ap (λ b. b && fits (c.number *ℤ z)) e)

pub multiplying_start : {how : Tree → ℕ} {s : List ℕ} {i μ : ℕ} {f : Forest} → Told how s i (product μ f) → Multiplying how s 1 (i + 1) (count_in s i) f
unfolding unit
multiplying_start {f = f} h = record { rest = f; stand = product_trees h; bits_fit = omega arith; same = refl }

module _ {how : Tree → ℕ} {s : List ℕ} {n at left : ℕ} {f : Forest} (h : Multiplying how s n at left f) where
  pub multiplied_all : (μ : ℕ) → left ≡ 0 → Ok n ≡ coefficient_of (product_term μ (to_list f))
  unfolding coefficient_of product_term times_each integers_of to_list
  multiplied_all μ e =
      let q : multiplied (signed n) true ≡ times_each unit (integers_of (to_list f)) =
      ap (λ r. times_each (multiplied (signed n) true) (integers_of (to_list r))) (sym (none_of h.rest h.stand e)) ∙ h.same in
      ap Ok (sym (word_signed n h.bits_fit)) ∙ ap (λ (c : Multiplied). cond c.in_range (Ok (word c.number)) out_of_range) q

  module _ (l : 0 < left) where
    next : FirstOf how s at left h.rest
    next = first_of h.rest h.stand l

    pub multiplying_tree : SomeTold s at
    multiplying_tree = record { how = how; tree = next.tree; there = next.there }

    -- a member that is an integer
    module _ (k : kind s at < 1) where
      integer_next : (z : ℤ) × (signed (bits s at) ≡ z) × (integers_of (to_list h.rest) ≡ z ∷ integers_of (to_list next.others))
      unfolding integers_of to_list with_integer as_integer
      integer_next =
          let q = seen_integer (seen next.there) (omega arith) in (
            q.1,
            ap signed q.3 ∙ signed_word q.1 q.4,
            ap (λ r. integers_of (to_list r)) next.whole ∙ ap (λ t. with_integer (as_integer t) (integers_of (to_list next.others))) q.2,
          )

      pub multiplied_in : {v : ℕ} → num_of (signed n *ℤ signed (bits s at)) ≡ Ok v → (j : ℕ) → ((t : Tree) → Told how s at t → j ≡ at + records t)
          → Multiplying how s v j (left - 1) f
      unfolding times_each times_one
      multiplied_in {v} r j ends =
          let z = integer_next in
          let p = num_of_is (signed n *ℤ signed (bits s at)) v r in
          let e : j ≡ at + records next.tree = ends next.tree next.there in
          let one : multiplied (signed v) true ≡ times_one (multiplied (signed n) true) z.0 =
          ap (λ y. multiplied y true) (p.2 ∙ ap (λ y. signed n *ℤ y) z.1)
          ∙ ap (multiplied (signed n *ℤ z.0)) (sym p.0 ∙ ap (λ y. fits (signed n *ℤ y)) z.1) in
          rw e
          (record {
            rest = next.others;
            stand = next.after;
            bits_fit = omega (arith, p.1, word_lt (signed n *ℤ signed (bits s at)));
            same =
                ap (λ c. times_each c (integers_of (to_list next.others))) one
                ∙ ap (times_each (multiplied (signed n) true)) (sym z.2) ∙ h.same;
          })

      pub multiplied_out : (μ : ℕ) → num_of (signed n *ℤ signed (bits s at)) ≡ out_of_range → out_of_range ≡ coefficient_of (product_term μ (to_list f))
      unfolding coefficient_of product_term times_each times_one
      multiplied_out μ r =
          let z = integer_next in
          let out : fits (signed n *ℤ z.0) ≡ false = ap (λ y. fits (signed n *ℤ y)) (sym z.1) ∙ num_of_is_out (signed n *ℤ signed (bits s at)) r in
          let q : (times_each unit (integers_of (to_list f))).in_range ≡ false =
          ap (λ (c : Multiplied). c.in_range) (sym h.same ∙ ap (times_each (multiplied (signed n) true)) z.2)
          ∙ each_out (times_one (multiplied (signed n) true) z.0) (integers_of (to_list next.others)) out in
          ap (λ (b : Bool). cond b (Ok (word (times_each unit (integers_of (to_list f))).number)) out_of_range) (sym q)

    -- any other member
    pub multiplied_by : 1 ≤ kind s at → (j : ℕ) → ((t : Tree) → Told how s at t → j ≡ at + records t) → Multiplying how s n j (left - 1) f
    unfolding integers_of to_list with_integer
    multiplied_by k j ends =
        let e : j ≡ at + records next.tree = ends next.tree next.there in
        let q : integers_of (to_list h.rest) ≡ integers_of (to_list next.others) =
        ap (λ r. integers_of (to_list r)) next.whole
        ∙ ap (λ o. with_integer o (integers_of (to_list next.others))) (no_integer next.there k) in
        rw e
        (record {
          rest = next.others;
          stand = next.after;
          bits_fit = h.bits_fit;
          same = ap (times_each (multiplied (signed n) true)) (sym q) ∙ h.same;
        })

-- ---- the others of a product, one member at a time
-- `many` of the members of the product f at record i were others, the last at record `last`, and `left` are left from record `at` on
pub record Counting (how : Tree → ℕ) (s : List ℕ) (i at left many last : ℕ) (f : Forest) : Type 0 where
  pub rest : Forest
  pub stand : ToldTrees how s at left rest
  pub total : many + length (others_of (to_list rest)) ≡ length (others_of (to_list f))
  pub place : last_other at last rest ≡ last_other (i + 1) i f

pub counting_start : {how : Tree → ℕ} {s : List ℕ} {i μ : ℕ} {f : Forest} → Told how s i (product μ f) → Counting how s i (i + 1) (count_in s i) 0 i f
counting_start {f = f} h = record { rest = f; stand = product_trees h; total = omega arith; place = refl }

module _ {how : Tree → ℕ} {s : List ℕ} {i at left many last : ℕ} {f : Forest} (h : Counting how s i at left many last f) where
  pub counted_all : left ≡ 0 → (many ≡ length (others_of (to_list f))) × (last ≡ last_other (i + 1) i f)
  unfolding others_of to_list last_other
  counted_all e =
      let z = none_of h.rest h.stand e in
      let none : length (others_of (to_list h.rest)) ≡ 0 = ap (λ r. length (others_of (to_list r))) z in
      (omega (arith, h.total), ap (last_other at last) (sym z) ∙ h.place)

  module _ (l : 0 < left) where
    member : FirstOf how s at left h.rest
    member = first_of h.rest h.stand l

    pub counting_tree : SomeTold s at
    counting_tree = record { how = how; tree = member.tree; there = member.there }

    module _ (j : ℕ) (ends : (t : Tree) → Told how s at t → j ≡ at + records t) where
      here : j ≡ at + records member.tree
      here = ends member.tree member.there

      pub counted_other : 1 ≤ kind s at → Counting how s i j (left - 1) (many + 1) at f
      unfolding others_of to_list with_other last_other later_other
      counted_other k =
          let o = no_integer member.there k in
          let n : length (others_of (to_list h.rest)) ≡ suc (length (others_of (to_list member.others))) =
          ap (λ r. length (others_of (to_list r))) member.whole
          ∙ ap (λ x. length (with_other x member.tree (others_of (to_list member.others)))) o in
          rw here
          (record {
            rest = member.others;
            stand = member.after;
            total = omega (arith, h.total);
            place =
                ap (λ x. last_other (at + records member.tree) (later_other x at last) member.others) (sym o)
                ∙ ap (last_other at last) (sym member.whole) ∙ h.place;
          })

      pub counted_integer : kind s at ≡ 0 → Counting how s i j (left - 1) many last f
      unfolding others_of to_list with_other last_other later_other as_integer
      counted_integer k =
          let q = seen_integer (seen member.there) k in
          let o : as_integer member.tree ≡ some q.1 = ap as_integer q.2 in
          let n : length (others_of (to_list h.rest)) ≡ length (others_of (to_list member.others)) =
          ap (λ r. length (others_of (to_list r))) member.whole
          ∙ ap (λ x. length (with_other x member.tree (others_of (to_list member.others)))) o in
          rw here
          (record {
            rest = member.others;
            stand = member.after;
            total = omega (arith, h.total);
            place =
                ap (λ x. last_other (at + records member.tree) (later_other x at last) member.others) (sym o)
                ∙ ap (last_other at last) (sym member.whole) ∙ h.place;
          })

-- ---- coefficient and rest, by the kind of the record
module _ {how : Tree → ℕ} {s : List ℕ} {i : ℕ} where
  pub term_integer : (t : Tree) → Told how s i t → kind s i < 1 → (Ok (bits s i) ≡ coefficient_of (term_of t)) ×
      ((μ : ℕ) × ((term_of t).rest ≡ integer μ (pos 1)))
  unfolding coefficient_of term_of term
  term_integer t h k = by t (seen h)
    where
      by : (t : Tree) → Seen how s i t → (Ok (bits s i) ≡ coefficient_of (term_of t)) × ((μ : ℕ) × ((term_of t).rest ≡ integer μ (pos 1)))
      by (integer μ z) (an_integer e b w) = (ap Ok b, (0, refl))
      by (symbol μ v) (a_symbol e b w) = absurd (omega arith)
      by (sum μ f) (a_sum e n c w m) = absurd (omega arith)
      by (product μ f) (a_product e n c w m) = absurd (omega arith)
      by (power μ b ξ x) (a_power e w m p q o y z) = absurd (omega arith)

  pub term_other : (t : Tree) → Told how s i t → 1 ≤ kind s i → (kind s i ≡ 3 → ⊥) → term_of t ≡ term (mark_of t) (pos 1) t
  unfolding term_of mark_of
  term_other t h k n = by t (seen h)
    where
      by : (t : Tree) → Seen how s i t → term_of t ≡ term (mark_of t) (pos 1) t
      by (integer μ z) (an_integer e b w) = absurd (omega arith)
      by (symbol μ v) q = refl
      by (sum μ f) q = refl
      by (product μ f) (a_product e c o w m) = absurd (n e)
      by (power μ b ξ x) q = refl

  -- a tree that is neither an integer nor a product is its own rest
  pub rest_itself : (t : Tree) → Told how s i t → 1 ≤ kind s i → (kind s i ≡ 3 → ⊥) → Told how s i (term_of t).rest × (as_integer (term_of t).rest ≡ none)
  unfolding term
  rest_itself t h k n =
      let itself : (term_of t).rest ≡ t = ap (λ (u : Term). u.rest) (term_other t h k n) in
      (subst (Told how s i) (sym itself) h, ap as_integer itself ∙ no_integer h k)

  pub place_integer : (t : Tree) → Told how s i t → kind s i < 1 → One ≡ rest_at i t
  unfolding rest_at
  place_integer t h k = by t (seen h)
    where
      by : (t : Tree) → Seen how s i t → One ≡ rest_at i t
      by (integer μ z) q = refl
      by (symbol μ v) (a_symbol e b w) = absurd (omega arith)
      by (sum μ f) (a_sum e n c w m) = absurd (omega arith)
      by (product μ f) (a_product e n c w m) = absurd (omega arith)
      by (power μ b ξ x) (a_power e w m p q o y z) = absurd (omega arith)

  pub place_other : (t : Tree) → Told how s i t → 1 ≤ kind s i → (kind s i ≡ 3 → ⊥) → At i ≡ rest_at i t
  unfolding rest_at
  place_other t h k n = by t (seen h)
    where
      by : (t : Tree) → Seen how s i t → At i ≡ rest_at i t
      by (integer μ z) (an_integer e b w) = absurd (omega arith)
      by (symbol μ v) q = refl
      by (sum μ f) q = refl
      by (product μ f) (a_product e c o w m) = absurd (n e)
      by (power μ b ξ x) q = refl

pub some_product : {s : List ℕ} {i : ℕ} → SomeTold s i → kind s i ≡ 3 → SomeProduct s i
some_product {s} {i} h k =
    let p = seen_product (seen h.there) k in
    record { how = h.how; mark = p.0; members = p.1; there = subst (Told h.how s i) p.2 h.there }

-- the coefficient of a product, by its members
module _ {how : Tree → ℕ} {s : List ℕ} {i : ℕ} where
  pub term_product : (t : Tree) → Told how s i t → kind s i ≡ 3 → {r : Result ℕ OutOfRange}
      → ((μ : ℕ) (f : Forest) → Told how s i (product μ f) → r ≡ coefficient_of (product_term μ (to_list f))) → r ≡ coefficient_of (term_of t)
  unfolding term_of
  term_product t h k told =
      let p = seen_product (seen h) k in
      told p.0 p.1 (subst (Told how s i) p.2 h) ∙ ap (λ u. coefficient_of (term_of u)) (sym p.2)

-- ---- the rest of a product, by its number of others and the record of the last
-- two members or more make a product
two_collapse : (μ : ℕ) (l : List Tree) → 2 ≤ length l → product_of μ l ≡ product μ (of_list l)
unfolding product_of collapse
two_collapse μ [] h = absurd (omega arith)
two_collapse μ (t ∷ []) h = absurd (omega arith)
two_collapse μ (t ∷ u ∷ l) h = refl

-- what is told of the others of the product at record i
abbrev Counted : (how : Tree → ℕ) (s : List ℕ) (i m last : ℕ) → Type 0
Counted how s i m last = (μ : ℕ) (f : Forest) → Told how s i (product μ f) → (m ≡ length (others_of (to_list f))) × (last ≡ last_other (i + 1) i f)

-- the product itself, its members being n, and what is told of its others
record Product (how : Tree → ℕ) (s : List ℕ) (i n m last : ℕ) (t : Tree) : Type 0 where
  mark : ℕ
  members : Forest
  is : t ≡ product mark members
  there : Told how s i (product mark members)
  counted : n ≡ count members
  many : m ≡ length (others_of (to_list members))
  place : last ≡ last_other (i + 1) i members
  rest : (term_of t).rest ≡ product_of mark (others_of (to_list members))

module _ {how : Tree → ℕ} {s : List ℕ} {i : ℕ} (t : Tree) (h : Told how s i t) (k : kind s i ≡ 3) {n m last : ℕ} (c : n ≡ count_in s i)
    (told : Counted how s i m last) where
  is_product : Product how s i n m last t
  unfolding term_of product_term
  is_product =
      let p = seen_product (seen h) k in
      let g = subst (Told how s i) p.2 h in
      let q = told p.0 p.1 g in
      record {
        mark = p.0;
        members = p.1;
        is = p.2;
        there = g;
        counted = c ∙ p.3.counted;
        many = q.0;
        place = q.1;
        rest = ap (λ u. (term_of u).rest) p.2;
      }

  product_place : product_rest i n m last ≡ rest_at i t
  unfolding rest_at
  product_place =
      let p = is_product in
      ap (λ x. product_rest i x m last) p.counted ∙ ap (λ x. product_rest i (count p.members) x last) p.many
      ∙ ap (product_rest i (count p.members) (length (others_of (to_list p.members)))) p.place ∙ ap (rest_at i) (sym p.is)

  -- no integer among them
  pub rest_whole : m ≡ n → Told how s i (term_of t).rest × (as_integer (term_of t).rest ≡ none)
  rest_whole e =
      let p = is_product in
      let f = p.members in
      let all : others_of (to_list f) ≡ to_list f = others_all (to_list f) (omega (arith, p.many, p.counted, count_list f)) in
      let itself : (term_of t).rest ≡ t =
      p.rest ∙ ap (product_of p.mark) all ∙ two_collapse p.mark (to_list f) (omega (arith, count_list f, p.there.wf.0))
      ∙ ap (product p.mark) (of_to_list f) ∙ sym p.is in
      (subst (Told how s i) (sym itself) h, ap as_integer itself ∙ no_integer h (omega arith))

  pub place_whole : m ≡ n → At i ≡ rest_at i t
  unfolding product_rest
  place_whole e = rw (eq-eqb m n e) at product_place

  module _ (Some-out : m ≡ n → ⊥) where
    -- integers alone
    pub rest_one : m < 1 → (μ : ℕ) × ((term_of t).rest ≡ integer μ (pos 1))
    unfolding product_of collapse
    rest_one l =
        let p = is_product in
        (p.mark, p.rest ∙ ap (product_of p.mark) (nil_of (others_of (to_list p.members)) (omega (arith, p.many))))
      where
        nil_of : (l : List Tree) → length l ≡ 0 → l ≡ []
        nil_of [] e = refl
        nil_of (u ∷ l) e = absurd (omega arith)

    pub place_one : m < 1 → One ≡ rest_at i t
    unfolding product_rest
    place_one l = rw (ne_eqb m n Some-out, lt-ltb m 1 l) at product_place

    -- one other
    pub rest_single : 1 ≤ m → m < 2 → Told how s last (term_of t).rest × (as_integer (term_of t).rest ≡ none)
    unfolding product_of collapse
    rest_single l a = let p = is_product in by p (others_of (to_list p.members)) refl (omega (arith, p.many))
      where
        by : (p : Product how s i n m last t) (l : List Tree) → others_of (to_list p.members) ≡ l → length l ≡ 1
            → Told how s last (term_of t).rest × (as_integer (term_of t).rest ≡ none)
        by p [] e n = absurd (omega arith)
        by p (u ∷ v ∷ l) e n = absurd (omega arith)
        by p (u ∷ []) e n =
            let there = single_there s (i + 1) (count_in s i) i p.members (product_trees p.there) u e in
            let is : (term_of t).rest ≡ u = p.rest ∙ ap (product_of p.mark) e in (
              subst (Told how s last) (sym is) (subst (λ j. Told how s j u) (sym p.place) there),
              ap as_integer is ∙ first_other (to_list p.members) u [] e,
            )

    pub place_single : 1 ≤ m → m < 2 → At last ≡ rest_at i t
    unfolding product_rest
    place_single l a = rw (ne_eqb m n Some-out, le-ltb m 1 l, lt-ltb m 2 a) at product_place

    -- two others or more
    pub rest_others : 2 ≤ m → Lessened how s i m (term_of t).rest
    rest_others l =
        let p = is_product in
        record {
          mark = p.mark;
          members = p.members;
          whole = p.there;
          left = p.rest ∙ two_collapse p.mark (others_of (to_list p.members)) (omega (arith, p.many));
          many = p.many;
          two = l;
          wf = (term_of_wf t h.wf).rest_wf;
        }

    pub place_others : 2 ≤ m → Others i m ≡ rest_at i t
    unfolding product_rest
    place_others l = rw (ne_eqb m n Some-out, le-ltb m 1 (omega arith), le-ltb m 2 l) at product_place
