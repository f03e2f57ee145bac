-- Trees that stand in a table, told of by any h: where their records lie, what the first record tells, which tree it is by the kind of
-- that record, that where trees stand their members do, and that no two trees stand at one record. As of the paper's own records, by
-- cases on the tree; plain and noted trees are told of so.
use Rattle.std.proofs.Common.{◌≡◌, ℕ, ◌+◌, ◌-◌, ◌*◌, ◌%◌, ◌^◌, ◌<◌, ◌≤◌, ◌⊎◌, List, [], ◌++◌, length, ℤ, pos, sym, refl, ap, ◌∙◌, subst, inl, inr, arith, lit<}
use Rattle.paper.specs.Limits.{modulus}
use Rattle.paper.specs.Bytes.{signed, word}
use Rattle.paper.specs.Tree.{Tree, Forest, integer, symbol, sum, product, power, nil, cons, count, mark_of, records, weight}
use Rattle.paper.specs.WellFormed.{WF, WFs, InRange}
use Rattle.paper.specs.Record.{kind, count_in, mark_in, bits, symbol_in}
use Rattle.paper.specs.Standing.{Stands, TreeIn, kind_number}
use Rattle.paper.proofs.Congruence.{word_lt}
use Rattle.paper.proofs.EncodeLaws.{records_weight, signed_word, symbol_there}
use Rattle.paper.proofs.Stands.{stands_first, stands_next}
use Rattle.note.specs.Note.{note}
use Rattle.note.specs.Noted.{encode_by, encodes_by, count_of, inner, bits_by, TreeBy}
use Rattle.note.specs.Told.{Telling, Told, ToldTrees, SomeTold, ToldMembers}
use Rattle.note.proofs.KeyLaws.{note_lt, note_size, note_equal}
use Rattle.note.proofs.NotedLaws.{exponent_word, plain_encode, encode_by_length, head_inner, stands_within, node_bits as node-number}
use Rattle.note.proofs.NotedLaws.{Headed, own_there, own_within, own_kind, own_count, own_mark, own_bits, own_behind}

-- ---- plain trees and noted ones
pub plain_tells : Telling (λ u. 0)
plain_tells = record { bound = λ t. lit< tt; size = λ t l. inl refl; alike = λ t u e. refl }

pub note_tells : Telling note
note_tells = record { bound = note_lt; size = λ t l. inr (note_size t l); alike = note_equal }

module _ {s : List ℕ} {i : ℕ} where
  pub plain_told : {t : Tree} → TreeIn s i t → Told (λ u. 0) s i t
  plain_told {t} q = record { tells = plain_tells; wf = q.wf; few = q.few; stands = subst (Stands s i) (sym (plain_encode t)) q.stands }

  -- a light tree has few records
  pub told_by : {h : Tree → ℕ} {t : Tree} → Telling h → TreeBy h s i t → Told h s i t
  told_by {t = t} p q = record { tells = p; wf = q.wf; few = omega (arith, q.light, records_weight t); stands = q.stands }

  pub noted_told : {t : Tree} → TreeBy note s i t → Told note s i t
  noted_told q = told_by note_tells q

  -- the other way round
  pub told_noted : {h : Tree → ℕ} {t : Tree} → Told h s i t → weight t < 65536 → TreeBy h s i t
  told_noted q l = record { wf = q.wf; light = l; stands = q.stands }

pub some_told : {h : Tree → ℕ} {s : List ℕ} {i : ℕ} {t : Tree} → Told h s i t → SomeTold s i
some_told {h} {t = t} q = record { how = h; tree = t; there = q }

-- ---- what the first record of a tree tells
-- the number in the bytes 8-15 of a tree's record is 64 bits
bits_fit : {h : Tree → ℕ} → Telling h → (t : Tree) → WF t → bits_by h t < modulus
unfolding bits_by
bits_fit p (integer μ z) w = word_lt z
bits_fit p (symbol μ s) w = omega (arith, w.0)
bits_fit p (sum μ f) w = p.bound (sum μ f)
bits_fit p (product μ f) w = p.bound (product μ f)
bits_fit p (power μ b ξ e) w = p.bound (power μ b ξ e)

module _ {h : Tree → ℕ} {s : List ℕ} {i : ℕ} {t : Tree} (q : Told h s i t) where
  headed : Headed h s i t (bits_by h t)
  headed = record { stands = subst (Stands s i) (head_inner h t q.wf) q.stands }

  pub tree_within : (i + records t) * 16 ≤ length s
  tree_within = stands_within h t q.stands

  pub record_within : i * 16 + 16 ≤ length s
  record_within = own_within headed

  pub kind_number_lem : kind s i ≡ kind_number t
  kind_number_lem = own_kind headed

  pub count_number : count_in s i ≡ count_of t
  count_number = own_count headed q.few

  pub mark_number : mark_in s i ≡ mark_of t
  mark_number = own_mark headed q.wf

  pub bits_number : bits s i ≡ bits_by h t
  bits_number = own_bits headed (bits_fit q.tells t q.wf)

  behind : Stands s (i + 1) (encodes_by h (inner t))
  behind = own_behind headed

-- the base and the exponent of a power
pub record SeenPower (h : Tree → ℕ) (s : List ℕ) (i : ℕ) (b : Tree) (ξ e : ℕ) : Type 0 where
  pub base_wf : WF b
  pub base : Stands s (i + 1) (encode_by h b)
  pub least : 1 ≤ e
  pub most : e < 2 ^ 63
  pub exponent : Stands s (i + 1 + records b) (encode_by h (integer ξ (pos e)))
  pub exponent_kind : kind s (i + 1 + records b) ≡ 0
  pub exponent_bits : bits s (i + 1 + records b) ≡ e

-- an exponent is a tree that stands behind its base
module _ {h : Tree → ℕ} {s : List ℕ} {i : ℕ} {μ : ℕ} {b : Tree} {ξ e : ℕ} where
  pub exponent_tree : Told h s i (power μ b ξ e) → Told h s (i + 1 + records b) (integer ξ (pos e))
  unfolding inner encode_by records
  exponent_tree q =
      record {
        tells = q.tells;
        wf = (q.wf.2, q.wf.4);
        few = lit< tt;
        stands =
            stands_first (encode_by h (integer ξ (pos e))) []
            (stands_next (encode_by h b) (encode_by h (integer ξ (pos e)) ++ []) (behind q) (records b) (encode_by_length h b));
      }

  pub power_tree : Told h s i (power μ b ξ e) → Told h s (i + 1) b
  unfolding inner encode_by records
  power_tree q =
      record {
        tells = q.tells;
        wf = q.wf.0;
        few = omega (arith, q.few);
        stands = stands_first (encode_by h b) (encode_by h (integer ξ (pos e)) ++ []) (behind q);
      }

  pub power_parts : Told h s i (power μ b ξ e) → SeenPower h s i b ξ e
  unfolding kind_number bits_by
  power_parts q =
      let x = exponent_tree q in
      record {
        base_wf = q.wf.0;
        base = (power_tree q).stands;
        least = q.wf.1;
        most = q.wf.2;
        exponent = x.stands;
        exponent_kind = kind_number_lem x;
        exponent_bits = bits_number x ∙ exponent_word e q.wf.2;
      }

  pub exponent_mark : Told h s i (power μ b ξ e) → mark_in s (i + 1 + records b) ≡ ξ
  unfolding mark_of
  exponent_mark q = mark_number (exponent_tree q)

-- the members of a sum and of a product
module _ {h : Tree → ℕ} {s : List ℕ} {i : ℕ} {μ : ℕ} {f : Forest} where
  pub sum_trees : Told h s i (sum μ f) → ToldTrees h s (i + 1) (count_in s i) f
  unfolding records count_of inner
  sum_trees q =
      record { tells = q.tells; counted = sym (count_number q); wf = q.wf.1; few = omega (arith, q.few); stand = behind q }

  pub product_trees : Told h s i (product μ f) → ToldTrees h s (i + 1) (count_in s i) f
  unfolding records count_of inner
  product_trees q =
      record { tells = q.tells; counted = sym (count_number q); wf = q.wf.1; few = omega (arith, q.few); stand = behind q }

-- ---- the view: the tree t stands at record i of s, told by the fields of the record there and by what stands after it
pub data Seen (h : Tree → ℕ) (s : List ℕ) (i : ℕ) : Tree → Type 0 where
  an_integer : {μ : ℕ} {z : ℤ} → kind s i ≡ 0 → bits s i ≡ word z → InRange z → Seen h s i (integer μ z)
  a_symbol : {μ v : ℕ} → kind s i ≡ 1 → symbol_in s i ≡ v → v < 256 → Seen h s i (symbol μ v)
  a_sum : {μ : ℕ} {f : Forest} → kind s i ≡ 2 → count_in s i ≡ count f → 2 ≤ count f → WFs f → Stands s (i + 1) (encodes_by h f)
      → Seen h s i (sum μ f)
  a_product : {μ : ℕ} {f : Forest} → kind s i ≡ 3 → count_in s i ≡ count f → 2 ≤ count f → WFs f → Stands s (i + 1) (encodes_by h f)
      → Seen h s i (product μ f)
  a_power : {μ : ℕ} {b : Tree} {ξ e : ℕ} → kind s i ≡ 4 → WF b → Stands s (i + 1) (encode_by h b) → 1 ≤ e → e < 2 ^ 63
      → Stands s (i + 1 + records b) (encode_by h (integer ξ (pos e))) → kind s (i + 1 + records b) ≡ 0 → bits s (i + 1 + records b) ≡ e
      → Seen h s i (power μ b ξ e)

-- every tree that stands there is seen so
module _ {h : Tree → ℕ} {s : List ℕ} {i : ℕ} where
  see : (t : Tree) → Told h s i t → Seen h s i t
  unfolding kind_number count_of mark_of bits_by inner
  see (integer μ z) q = an_integer (kind_number_lem q) (bits_number q) q.wf.0
  see (symbol μ v) q =
      let r = own_there (headed q) in a_symbol (kind_number_lem q) (symbol_there s i 1 0 μ v r.after r.there q.wf.0) q.wf.0
  see (sum μ f) q = a_sum (kind_number_lem q) (count_number q) q.wf.0 q.wf.1 (behind q)
  see (product μ f) q = a_product (kind_number_lem q) (count_number q) q.wf.0 q.wf.1 (behind q)
  see (power μ b ξ e) q =
      let p = power_parts q in
      a_power (kind_number_lem q) p.base_wf p.base p.least p.most p.exponent p.exponent_kind p.exponent_bits

  pub seen : {t : Tree} → Told h s i t → Seen h s i t
  seen {t} q = see t q

-- ---- which tree it is, by the kind of its first record
module _ {h : Tree → ℕ} {s : List ℕ} {i : ℕ} where
  pub seen_integer : {t : Tree} → Seen h s i t → kind s i ≡ 0 → (μ : ℕ) × (z : ℤ) × (t ≡ integer μ z) × (bits s i ≡ word z) × InRange z
  seen_integer (an_integer {μ = μ} {z = z} k b w) e = (μ, z, refl, b, w)
  seen_integer (a_symbol k v w) e = absurd (omega arith)
  seen_integer (a_sum k n c w m) e = absurd (omega arith)
  seen_integer (a_product k n c w m) e = absurd (omega arith)
  seen_integer (a_power k w b p q x y z) e = absurd (omega arith)

  pub seen_symbol : {t : Tree} → Seen h s i t → kind s i ≡ 1 → (μ : ℕ) × (v : ℕ) × (t ≡ symbol μ v) × (symbol_in s i ≡ v) × (v < 256)
  seen_symbol (an_integer k b w) e = absurd (omega arith)
  seen_symbol (a_symbol {μ = μ} {v = v} k b w) e = (μ, v, refl, b, w)
  seen_symbol (a_sum k n c w m) e = absurd (omega arith)
  seen_symbol (a_product k n c w m) e = absurd (omega arith)
  seen_symbol (a_power k w b p q x y z) e = absurd (omega arith)

  pub seen_sum : {t : Tree} → Seen h s i t → kind s i ≡ 2 → (μ : ℕ) × (f : Forest) × (t ≡ sum μ f) × ToldMembers h s i f
  seen_sum (an_integer k b w) e = absurd (omega arith)
  seen_sum (a_symbol k v w) e = absurd (omega arith)
  seen_sum (a_sum {μ = μ} {f = f} k n c w m) e = (μ, f, refl, record { counted = n; two = c; wf = w; stand = m })
  seen_sum (a_product k n c w m) e = absurd (omega arith)
  seen_sum (a_power k w b p q x y z) e = absurd (omega arith)

  pub seen_product : {t : Tree} → Seen h s i t → kind s i ≡ 3 → (μ : ℕ) × (f : Forest) × (t ≡ product μ f) × ToldMembers h s i f
  seen_product (an_integer k b w) e = absurd (omega arith)
  seen_product (a_symbol k v w) e = absurd (omega arith)
  seen_product (a_sum k n c w m) e = absurd (omega arith)
  seen_product (a_product {μ = μ} {f = f} k n c w m) e = (μ, f, refl, record { counted = n; two = c; wf = w; stand = m })
  seen_product (a_power k w b p q x y z) e = absurd (omega arith)

  pub seen_power : {t : Tree} → Seen h s i t → kind s i ≡ 4
      → (μ : ℕ) × (b : Tree) × (ξ : ℕ) × (e : ℕ) × (t ≡ power μ b ξ e) × SeenPower h s i b ξ e
  seen_power (an_integer k b w) e = absurd (omega arith)
  seen_power (a_symbol k v w) e = absurd (omega arith)
  seen_power (a_sum k n c w m) e = absurd (omega arith)
  seen_power (a_product k n c w m) e = absurd (omega arith)
  seen_power (a_power {μ = μ} {b = b} {ξ = ξ} {e = x} k w t p q o y z) e =
      (μ, b, ξ, x, refl, record { base_wf = w; base = t; least = p; most = q; exponent = o; exponent_kind = y; exponent_bits = z })

-- ---- trees one after the other
-- the first of them, and the others
pub record FirstOf (h : Tree → ℕ) (s : List ℕ) (i n : ℕ) (f : Forest) : Type 0 where
  pub tree : Tree
  pub others : Forest
  pub whole : f ≡ cons tree others
  pub there : Told h s i tree
  pub after : ToldTrees h s (i + records tree) (n - 1) others

module _ {h : Tree → ℕ} {s : List ℕ} {i n : ℕ} where
  pub first_tree : {t : Tree} {f : Forest} → ToldTrees h s i n (cons t f) → Told h s i t
  unfolding records encode_by
  first_tree {t} {f} q =
      record { tells = q.tells; wf = q.wf.0; few = omega (arith, q.few); stands = stands_first (encode_by h t) (encodes_by h f) q.stand }

  pub other_trees : {t : Tree} {f : Forest} → ToldTrees h s i n (cons t f) → ToldTrees h s (i + records t) (n - 1) f
  unfolding count records encode_by
  other_trees {t} {f} q =
      record {
        tells = q.tells;
        counted = omega (arith, q.counted);
        wf = q.wf.1;
        few = omega (arith, q.few);
        stand = stands_next (encode_by h t) (encodes_by h f) q.stand (records t) (encode_by_length h t);
      }

  pub first_of : (f : Forest) → ToldTrees h s i n f → 0 < n → FirstOf h s i n f
  unfolding count
  first_of nil q l = absurd (omega (arith, q.counted))
  first_of (cons t f) q l = record { tree = t; others = f; whole = refl; there = first_tree q; after = other_trees q }

  pub none_of : (f : Forest) → ToldTrees h s i n f → n ≡ 0 → f ≡ nil
  unfolding count
  none_of nil q e = refl
  none_of (cons t f) q e = absurd (omega (arith, q.counted))

-- ---- one tree stands at a record: by its kind, its number, and the trees behind it
mutual
  unfolding kind_number count_of mark_of bits_by count

  one_there : {h : Tree → ℕ} {s : List ℕ} {i : ℕ} (t u : Tree) → Told h s i t → Told h s i u → t ≡ u
  one_there (integer μ z) u p q =
      let v = seen_integer (seen q) (kind_number_lem p) in
      let m : μ ≡ v.0 = sym (mark_number p) ∙ mark_number q ∙ ap mark_of v.2 in
      let n : z ≡ v.1 =
      sym (signed_word z p.wf.0) ∙ ap signed (sym (bits_number p) ∙ v.3) ∙ signed_word v.1 v.4 in
      ap (λ x. integer x z) m ∙ ap (integer v.0) n ∙ sym v.2
  one_there {h = h} (symbol μ z) u p q =
      let v = seen_symbol (seen q) (kind_number_lem p) in
      let m : μ ≡ v.0 = sym (mark_number p) ∙ mark_number q ∙ ap mark_of v.2 in
      let n : z ≡ v.1 = sym (bits_number p) ∙ bits_number q ∙ ap (bits_by h) v.2 in
      ap (λ x. symbol x z) m ∙ ap (symbol v.0) n ∙ sym v.2
  one_there {h} {s} {i} (sum μ f) u p q =
      let v = seen_sum (seen q) (kind_number_lem p) in
      let m : μ ≡ v.0 = sym (mark_number p) ∙ mark_number q ∙ ap mark_of v.2 in
      let n = all_there f v.1 (sum_trees p) (sum_trees (subst (Told h s i) v.2 q)) in
      ap (λ x. sum x f) m ∙ ap (sum v.0) n ∙ sym v.2
  one_there {h} {s} {i} (product μ f) u p q =
      let v = seen_product (seen q) (kind_number_lem p) in
      let m : μ ≡ v.0 = sym (mark_number p) ∙ mark_number q ∙ ap mark_of v.2 in
      let n = all_there f v.1 (product_trees p) (product_trees (subst (Told h s i) v.2 q)) in
      ap (λ x. product x f) m ∙ ap (product v.0) n ∙ sym v.2
  one_there {h} {s} {i} (power μ b ξ e) u p q =
      let v = seen_power (seen q) (kind_number_lem p) in
      let r = subst (Told h s i) v.4 q in
      let m : μ ≡ v.0 = sym (mark_number p) ∙ mark_number q ∙ ap mark_of v.4 in
      let n : b ≡ v.1 = one_there b v.1 (power_tree p) (power_tree r) in
      let j : i + 1 + records b ≡ i + 1 + records v.1 = ap (λ x. i + 1 + records x) n in
      let k : ξ ≡ v.2 = sym (exponent_mark p) ∙ ap (mark_in s) j ∙ exponent_mark r in
      let l : e ≡ v.3 = sym (power_parts p).exponent_bits ∙ ap (bits s) j ∙ v.5.exponent_bits in
      ap (λ x. power x b ξ e) m ∙ ap (λ x. power v.0 x ξ e) n ∙ ap (λ x. power v.0 v.1 x e) k
      ∙ ap (power v.0 v.1 v.2) l ∙ sym v.4

  all_there : {h : Tree → ℕ} {s : List ℕ} {i n : ℕ} (f g : Forest) → ToldTrees h s i n f → ToldTrees h s i n g → f ≡ g
  all_there nil nil p q = refl
  all_there nil (cons u g) p q = absurd (omega (arith, p.counted, q.counted))
  all_there (cons t f) nil p q = absurd (omega (arith, p.counted, q.counted))
  all_there {h} {s} {i} {n} (cons t f) (cons u g) p q =
      let a : t ≡ u = one_there t u (first_tree p) (first_tree q) in
      let r = subst (λ x. ToldTrees h s (i + records x) (n - 1) g) (sym a) (other_trees q) in
      ap (λ x. cons x f) a ∙ ap (cons u) (all_there f g (other_trees p) r)

pub one_tree : {h : Tree → ℕ} {s : List ℕ} {i : ℕ} {t u : Tree} → Told h s i t → Told h s i u → t ≡ u
one_tree {t = t} {u = u} p q = one_there t u p q

pub one_forest : {h : Tree → ℕ} {s : List ℕ} {i n : ℕ} {f g : Forest} → ToldTrees h s i n f → ToldTrees h s i n g → f ≡ g
one_forest {f = f} {g = g} p q = all_there f g p q

pub one_product : {h : Tree → ℕ} {s : List ℕ} {i μ ν : ℕ} {f g : Forest} → Told h s i (product μ f) → Told h s i (product ν g) → f ≡ g
one_product p q = let same = one_tree p q in cc

-- ---- a node's record holds what h says of it: nothing, or its number of records
module _ {h : Tree → ℕ} {s : List ℕ} {i : ℕ} where
  pub node_bits : {t : Tree} → Told h s i t → 2 ≤ kind s i → bits s i ≡ h t
  node_bits {t} q l = bits_number q ∙ node-number h t (omega (arith, kind_number_lem q))

  pub node_size : {t : Tree} → Told h s i t → 2 ≤ kind s i → 0 < bits s i % 65536 → bits s i % 65536 ≡ records t
  node_size {t} q l p = by (q.tells.size t q.few)
    where
      by : (h t % 65536 ≡ 0) ⊎ (h t % 65536 ≡ records t) → bits s i % 65536 ≡ records t
      by (inl e) = absurd (omega (arith, ap (λ x. x % 65536) (node_bits q l)))
      by (inr e) = ap (λ x. x % 65536) (node_bits q l) ∙ e
