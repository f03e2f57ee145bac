-- Other numbers in the nodes of a tree that stands in a table, record by record from the last to the first. What stands from a record of a
-- tree on is again trees one after the other: those behind the first one's record, then the others. So, when a record is reached,
-- the table is as it was up to it, and behind it stand these trees with their new numbers; a node's members are the first of
-- them.
use Rattle.std.proofs.Common.{◌≡◌, ℕ, zero, suc, ◌+◌, ◌-◌, ◌*◌, ◌<◌, ◌≤◌, List, [], ◌∷◌, ◌++◌, length, take, drop, sym, refl, ap, ◌∙◌, subst}
use Rattle.std.proofs.Common.{append_assoc, append-nil, arith, length-append, take-append-drop, length-take-le, drop-drop, take_at, take-add, drop_at}
use Rattle.paper.specs.Bytes.{bytes}
use Rattle.paper.specs.Tree.{Tree, Forest, integer, symbol, sum, product, power, nil, cons, mark_of, records, recordses, weight, weights}
use Rattle.paper.specs.WellFormed.{WF, WFs}
use Rattle.paper.specs.Record.{kind}
use Rattle.paper.specs.Table.{record_of}
use Rattle.paper.proofs.BytesLaws.{length_bytes}
use Rattle.paper.proofs.EncodeLaws.{records_pos, kind_there}
use Rattle.stretch.specs.Put.{put}
use Rattle.paper.specs.Standing.{kind_number}
use Rattle.note.specs.Note.{note}
use Rattle.note.specs.Noted.{encode_by, encodes_by, count_of, inner, bits_by, Unnoted, Whole}
use Rattle.note.proofs.NotedLaws.{own, own_length, encode_by_length, head_inner, node_bits, stands_within}

-- ---- the trees that stand from a record on
joined : Forest → Forest → Forest
joined nil g = g
joined (cons t f) g = cons t (joined f g)

opened : Forest → Forest
opened nil = nil
opened (cons t f) = joined (inner t) f

pub from : ℕ → Forest → Forest
from zero f = f
from (suc j) f = opened (from j f)

joined_records : (f g : Forest) → recordses (joined f g) ≡ recordses f + recordses g
unfolding joined records
joined_records nil g = omega arith
joined_records (cons t f) g = omega (arith, joined_records f g)

joined_weights : (f g : Forest) → weights (joined f g) ≡ weights f + weights g
unfolding joined weight
joined_weights nil g = omega arith
joined_weights (cons t f) g = omega (arith, joined_weights f g)

joined_wf : (f g : Forest) → WFs f → WFs g → WFs (joined f g)
unfolding joined
joined_wf nil g a b = b
joined_wf (cons t f) g a b = (a.0, joined_wf f g a.1 b)

joined_encoded : (h : Tree → ℕ) (f g : Forest) → encodes_by h (joined f g) ≡ encodes_by h f ++ encodes_by h g
unfolding joined encode_by
joined_encoded h nil g = refl
joined_encoded h (cons t f) g =
    ap (λ (x : List ℕ). encode_by h t ++ x) (joined_encoded h f g) ∙ sym (append_assoc (encode_by h t) (encodes_by h f) (encodes_by h g))

-- behind a tree's record
inner_records : (t : Tree) → 1 + recordses (inner t) ≡ records t
unfolding inner records
inner_records (integer μ z) = refl
inner_records (symbol μ s) = refl
inner_records (sum μ f) = refl
inner_records (product μ f) = refl
inner_records (power μ b ξ e) = omega arith

inner_weights : (t : Tree) → weights (inner t) ≤ weight t
unfolding inner weight
inner_weights (integer μ z) = omega arith
inner_weights (symbol μ s) = omega arith
inner_weights (sum μ f) = omega arith
inner_weights (product μ f) = omega arith
inner_weights (power μ b ξ e) = omega arith

inner_wf : (t : Tree) → WF t → WFs (inner t)
unfolding inner
inner_wf (integer μ z) w = tt
inner_wf (symbol μ s) w = tt
inner_wf (sum μ f) w = w.1
inner_wf (product μ f) w = w.1
inner_wf (power μ b ξ e) w = (w.0, ((w.2, w.4), tt))

-- a record further on
opened_records : (f : Forest) → 0 < recordses f → 1 + recordses (opened f) ≡ recordses f
unfolding opened records
opened_records nil l = absurd (omega arith)
opened_records (cons t f) l = omega (arith, joined_records (inner t) f, inner_records t)

opened_weights : (f : Forest) → weights (opened f) ≤ weights f
unfolding opened weight
opened_weights nil = omega arith
opened_weights (cons t f) = omega (arith, joined_weights (inner t) f, inner_weights t)

opened_wf : (f : Forest) → WFs f → WFs (opened f)
unfolding opened
opened_wf nil w = tt
opened_wf (cons t f) w = joined_wf (inner t) f (inner_wf t w.0) w.1

-- j records further on
from_records : (j : ℕ) (f : Forest) → j ≤ recordses f → j + recordses (from j f) ≡ recordses f
unfolding from
from_records zero f l = omega arith
from_records (suc j) f l = let e = from_records j f (omega arith) in omega (arith, e, opened_records (from j f) (omega arith))

from_weights : (j : ℕ) (f : Forest) → weights (from j f) ≤ weights f
unfolding from
from_weights zero f = omega arith
from_weights (suc j) f = omega (arith, from_weights j f, opened_weights (from j f))

from_wf : (j : ℕ) (f : Forest) → WFs f → WFs (from j f)
unfolding from
from_wf zero f w = w
from_wf (suc j) f w = opened_wf (from j f) (from_wf j f w)

none_from : (f : Forest) → recordses f ≡ 0 → f ≡ nil
unfolding records
none_from nil e = refl
none_from (cons t f) e = absurd (omega (arith, records_pos t))

-- the first of them
pub record First (f : Forest) : Type 0 where
  pub tree : Tree
  pub others : Forest
  pub whole : f ≡ cons tree others

first : (f : Forest) → 0 < recordses f → First f
unfolding records
first nil l = absurd (omega arith)
first (cons t f) l = record { tree = t; others = f; whole = refl }

-- ---- records and the numbers in them
opened_encoded : (h : Tree → ℕ) (t : Tree) (f : Forest) → WF t → encodes_by h (cons t f) ≡ own t (bits_by h t) ++ encodes_by h (opened (cons t f))
unfolding opened encode_by
opened_encoded h t f w =
    ap (λ (x : List ℕ). x ++ encodes_by h f) (head_inner h t w)
    ∙ append_assoc (own t (bits_by h t)) (encodes_by h (inner t)) (encodes_by h f)
    ∙ ap (λ (x : List ℕ). own t (bits_by h t) ++ x) (sym (joined_encoded h (inner t) f))

leaf_bits : (g h : Tree → ℕ) (t : Tree) → kind_number t < 2 → bits_by g t ≡ bits_by h t
unfolding kind_number bits_by
leaf_bits g h (integer μ z) l = refl
leaf_bits g h (symbol μ s) l = refl
leaf_bits g h (sum μ f) l = absurd (omega arith)
leaf_bits g h (product μ f) l = absurd (omega arith)
leaf_bits g h (power μ b ξ e) l = absurd (omega arith)

-- another number in a record's bytes 8-15
front_half : ℕ → ℕ → ℕ → List ℕ
front_half k c m = k ∷ 0 ∷ (bytes 2 c ++ (bytes 2 m ++ (0 ∷ 0 ∷ [])))

halves : (k c m v : ℕ) → record_of k c m v ≡ front_half k c m ++ bytes 8 v
unfolding record_of front_half bytes
halves k c m v = refl

half_length : (k c m : ℕ) → length (front_half k c m) ≡ 8
unfolding front_half bytes
half_length k c m = refl

pub put_number : (a b : List ℕ) (n k c μ v w : ℕ) → length a ≡ n → put (a ++ (record_of k c μ v ++ b)) (n + 8) (bytes 8 w) ≡ a ++ (record_of k c μ w ++ b)
unfolding put
put_number a b n k c μ v w e =
    let x = front_half k c μ in
    let d = a ++ (record_of k c μ v ++ b) in
    let m : n + 8 + length (bytes 8 w) ≡ n + 8 + 8 = ap (λ y. n + 8 + y) (length_bytes 8 w) in
    let left : d ≡ (a ++ x) ++ (bytes 8 v ++ b) = rw (halves k c μ v) (simp append_assoc) in
    let right : d ≡ ((a ++ x) ++ bytes 8 v) ++ b = left ∙ sym (append_assoc (a ++ x) (bytes 8 v) b) in
    let long : length (a ++ x) ≡ n + 8 = length-append a x ∙ omega (arith, e, half_length k c μ) in
    let longer : length ((a ++ x) ++ bytes 8 v) ≡ n + 8 + 8 = length-append (a ++ x) (bytes 8 v) ∙ omega (arith, long, length_bytes 8 v) in
    let before : take (n + 8) d ≡ a ++ x = ap (take (n + 8)) left ∙ take_at (a ++ x) (bytes 8 v ++ b) (n + 8) long in
    let after : drop (n + 8 + length (bytes 8 w)) d ≡ b =
    ap (λ y. drop y d) m ∙ ap (drop (n + 8 + 8)) right ∙ drop_at ((a ++ x) ++ bytes 8 v) b (n + 8 + 8) longer in
    rw (before, after, halves k c μ w) (simp append_assoc)

-- ---- from record i + j on the trees have their numbers by h; before it s is as s₀ was
pub record Half (h : Tree → ℕ) (s₀ s : List ℕ) (i j : ℕ) (t : Tree) (rest : List ℕ) : Type 0 where
  pub shape : s ≡ take ((i + j) * 16) s₀ ++ (encodes_by h (from j (cons t nil)) ++ rest)

module _ {g : Tree → ℕ} {s₀ : List ℕ} {i n : ℕ} {t : Tree} (q : Whole g s₀ i n t) where
  abbrev trees : ℕ → Forest
  trees j = from j (cons t nil)

  abbrev pub rest : List ℕ
  rest = q.there.stands.after

  all_records : recordses (cons t nil) ≡ n
  unfolding records
  all_records = omega (arith, q.size)

  left : (j : ℕ) → j ≤ n → j + recordses (trees j) ≡ n
  left j l = from_records j (cons t nil) (omega (arith, all_records)) ∙ all_records

  pub next : (j : ℕ) → j < n → First (trees j)
  next j l = first (trees j) (omega (arith, left j (omega arith)))

  next_wfs : (j : ℕ) (l : j < n) → WFs (cons (next j l).tree (next j l).others)
  next_wfs j l = subst WFs (next j l).whole (from_wf j (cons t nil) (q.there.wf, tt))

  next_wf : (j : ℕ) (l : j < n) → WF (next j l).tree
  next_wf j l = (next_wfs j l).0

  next_light : (j : ℕ) (l : j < n) → weight (next j l).tree < 65536
  unfolding weight
  next_light j l = omega (arith, from_weights j (cons t nil), ap weights (next j l).whole, q.there.light)

  -- a tree's own record, and what stands behind it
  split : (h : Tree → ℕ) (j : ℕ) (l : j < n) → encodes_by h (trees j) ≡ own (next j l).tree (bits_by h (next j l).tree) ++ encodes_by h (trees (suc j))
  unfolding from
  split h j l =
      let f = next j l in
      ap (encodes_by h) f.whole
      ∙ opened_encoded h f.tree f.others (next_wf j l)
      ∙ ap (λ x. own f.tree (bits_by h f.tree) ++ encodes_by h (opened x)) (sym f.whole)

  -- what stood from each record on
  stood : (j : ℕ) → j ≤ n → drop ((i + j) * 16) s₀ ≡ encodes_by g (trees j) ++ rest
  unfolding from encode_by
  stood zero l =
      let e : (i + 0) * 16 ≡ i * 16 = omega arith in
      ap (λ k. drop k s₀) e ∙ q.there.stands.there ∙ ap (λ (x : List ℕ). x ++ rest) (sym (append-nil (encode_by g t)))
  stood (suc j) l =
      let e : (i + suc j) * 16 ≡ (i + j) * 16 + 16 = omega arith in
      let u = (next j (omega arith)).tree in
      ap (λ k. drop k s₀) e
      ∙ sym (drop-drop 16 ((i + j) * 16) s₀)
      ∙ ap (drop 16)
      (stood j (omega arith)
      ∙ ap (λ (x : List ℕ). x ++ rest) (split g j (omega arith))
      ∙ append_assoc (own u (bits_by g u)) (encodes_by g (trees (suc j))) rest)
      ∙ drop_at (own u (bits_by g u)) (encodes_by g (trees (suc j)) ++ rest) 16 (own_length u (bits_by g u))

  stood_before : (j : ℕ) (l : j < n) → take ((i + suc j) * 16) s₀ ≡ take ((i + j) * 16) s₀ ++ own (next j l).tree (bits_by g (next j l).tree)
  stood_before j l =
      let e : (i + suc j) * 16 ≡ (i + j) * 16 + 16 = omega arith in
      let u = (next j l).tree in
      ap (λ k. take k s₀) e
      ∙ take-add ((i + j) * 16) 16 s₀
      ∙ ap (λ (x : List ℕ). take ((i + j) * 16) s₀ ++ x)
      (ap (take 16)
      (stood j (omega arith)
      ∙ ap (λ (x : List ℕ). x ++ rest) (split g j l)
      ∙ append_assoc (own u (bits_by g u)) (encodes_by g (trees (suc j))) rest)
      ∙ take_at (own u (bits_by g u)) (encodes_by g (trees (suc j)) ++ rest) 16 (own_length u (bits_by g u)))

  turn_within : (j : ℕ) → j < n → (i + j) * 16 + 16 ≤ length s₀
  turn_within j l = omega (arith, stands_within g t q.there.stands, q.size)

  module _ (h : Tree → ℕ) where
    pub half_start : Half h s₀ s₀ i n t rest
    unfolding encode_by
    half_start =
        let e : trees n ≡ nil = none_from (trees n) (omega (arith, left n (omega arith))) in
        record {
          shape =
              sym (take-append-drop ((i + n) * 16) s₀)
              ∙ ap (λ (x : List ℕ). take ((i + n) * 16) s₀ ++ x)
              (stood n (omega arith) ∙ ap (λ f. encodes_by g f ++ rest) e ∙ ap (λ f. encodes_by h f ++ rest) (sym e));
        }

    -- the record that is reached
    module _ {s : List ℕ} (j : ℕ) (l : j < n) (a : Half h s₀ s i (suc j) t rest) where
      reached : s ≡ take ((i + j) * 16) s₀ ++ (own (next j l).tree (bits_by g (next j l).tree) ++ (encodes_by h (trees (suc j)) ++ rest))
      reached =
          a.shape
          ∙ ap (λ (x : List ℕ). x ++ (encodes_by h (trees (suc j)) ++ rest)) (stood_before j l)
          ∙ append_assoc (take ((i + j) * 16) s₀) (own (next j l).tree (bits_by g (next j l).tree)) (encodes_by h (trees (suc j)) ++ rest)

      front_length : length (take ((i + j) * 16) s₀) ≡ (i + j) * 16
      front_length = length-take-le ((i + j) * 16) s₀ (omega (arith, turn_within j l))

      from_here : drop ((i + j) * 16) s ≡ own (next j l).tree (bits_by g (next j l).tree) ++ (encodes_by h (trees (suc j)) ++ rest)
      from_here =
          ap (drop ((i + j) * 16)) reached
          ∙ drop_at (take ((i + j) * 16) s₀) (own (next j l).tree (bits_by g (next j l).tree) ++ (encodes_by h (trees (suc j)) ++ rest))
          ((i + j) * 16) front_length

      turn_kind : kind s (i + j) ≡ kind_number (next j l).tree
      turn_kind =
          let u = (next j l).tree in
          kind_there s (i + j) (kind_number u) (count_of u) (mark_of u) (bits_by g u) (encodes_by h (trees (suc j)) ++ rest) from_here

      closed : own (next j l).tree (bits_by h (next j l).tree) ++ (encodes_by h (trees (suc j)) ++ rest) ≡ encodes_by h (trees j) ++ rest
      closed =
          let u = (next j l).tree in
          sym (append_assoc (own u (bits_by h u)) (encodes_by h (trees (suc j))) rest) ∙ ap (λ (x : List ℕ). x ++ rest) (sym (split h j l))

      -- a leaf stays
      turn_leaf : kind_number (next j l).tree < 2 → Half h s₀ s i j t rest
      turn_leaf k =
          let u = (next j l).tree in
          record {
            shape =
                reached
                ∙ ap (λ (v : ℕ). take ((i + j) * 16) s₀ ++ (own u v ++ (encodes_by h (trees (suc j)) ++ rest)))
                (leaf_bits g h u k)
                ∙ ap (λ (x : List ℕ). take ((i + j) * 16) s₀ ++ x) closed;
          }

      -- a node gets its number
      turn_node : 2 ≤ kind_number (next j l).tree → (s' : List ℕ) → s' ≡ put s ((i + j) * 16 + 8) (bytes 8 (h (next j l).tree))
          → Half h s₀ s' i j t rest
      turn_node k s' e =
          let u = (next j l).tree in
          let x = take ((i + j) * 16) s₀ in
          let y = encodes_by h (trees (suc j)) ++ rest in
          record {
            shape =
                e
                ∙ ap (λ (z : List ℕ). put z ((i + j) * 16 + 8) (bytes 8 (h u))) reached
                ∙ put_number x y ((i + j) * 16) (kind_number u) (count_of u) (mark_of u) (bits_by g u) (h u) front_length
                ∙ ap (λ (v : ℕ). x ++ (own u v ++ y)) (sym (node_bits h u k))
                ∙ ap (λ (z : List ℕ). x ++ z) closed;
          }

    pub half_end : {s : List ℕ} {j : ℕ} → j ≡ 0 → Half h s₀ s i j t rest → s ≡ put s₀ (i * 16) (encode_by h t)
    unfolding put from encode_by
    half_end {s} {j} z a =
        let x = take (i * 16) s₀ in
        let e : (i + 0) * 16 ≡ i * 16 = omega arith in
        let b : Half h s₀ s i 0 t rest = subst (λ k. Half h s₀ s i k t rest) z a in
        let m : drop (i * 16 + length (encode_by h t)) s₀ ≡ rest =
        sym (drop-drop (length (encode_by h t)) (i * 16) s₀)
        ∙ ap (drop (length (encode_by h t))) q.there.stands.there
        ∙ drop_at (encode_by g t) rest (length (encode_by h t)) (encode_by_length g t ∙ sym (encode_by_length h t)) in
        b.shape
        ∙ ap (λ k. take k s₀ ++ ((encode_by h t ++ []) ++ rest)) e
        ∙ ap (λ (y : List ℕ). x ++ (y ++ rest)) (append-nil (encode_by h t))
        ∙ ap (λ (y : List ℕ). x ++ (encode_by h t ++ y)) (sym m)

-- the record before the j-th is reached
one_before : {h : Tree → ℕ} {s₀ s rest : List ℕ} {i : ℕ} {t : Tree} (j : ℕ) → 0 < j → Half h s₀ s i j t rest → Half h s₀ s i (suc (j - 1)) t rest
one_before {h} {s₀} {s} {rest} {i} {t} j l a = let e : j ≡ suc (j - 1) = omega arith in subst (λ k. Half h s₀ s i k t rest) e a

-- a node that is reached from behind has its members noted
module _ {g : Tree → ℕ} {s₀ : List ℕ} {i n : ℕ} {t : Tree} (q : Whole g s₀ i n t) {s : List ℕ} (j : ℕ) (l : j < n)
    (a : Half note s₀ s i (suc j) t (rest q)) where
  turn_unnoted : 2 ≤ kind_number (next q j l).tree → Unnoted s (i + j) (next q j l).tree
  unfolding from opened
  turn_unnoted k =
      let u = (next q j l).tree in
      let o = (next q j l).others in
      let behind : encodes_by note (trees q (suc j)) ≡ encodes_by note (inner u) ++ encodes_by note o =
      ap (λ f. encodes_by note (opened f)) (next q j l).whole ∙ joined_encoded note (inner u) o in
      record {
        wf = next_wf q j l;
        light = next_light q j l;
        node = k;
        old = bits_by g u;
        stands = record {
          after = encodes_by note o ++ rest q;
          there =
              from_here q note j l a
              ∙ ap (λ (x : List ℕ). own u (bits_by g u) ++ (x ++ rest q)) behind
              ∙ simp append_assoc;
        };
      }

-- ---- the same for code, at the record before the j-th, which is of kind k
module _ {g : Tree → ℕ} {s₀ : List ℕ} {i n : ℕ} {t : Tree} (q : Whole g s₀ i n t) (j : ℕ) (p : 0 < j) (l : j ≤ n) where
  pub lower : j - 1 < n
  lower = omega arith

  abbrev pub reached_tree : Tree
  reached_tree = (next q (j - 1) lower).tree

  pub reached_within : (i + (j - 1)) * 16 + 16 ≤ length s₀
  reached_within = turn_within q (j - 1) lower

  module _ {h : Tree → ℕ} {s : List ℕ} (a : Half h s₀ s i j t (rest q)) (k : ℕ) (e : k ≡ kind s (i + (j - 1))) where
    reached_kind : k ≡ kind_number reached_tree
    reached_kind = e ∙ turn_kind q h (j - 1) lower (one_before j p a)

    pub reached_leaf : k ≤ 1 → Half h s₀ s i (j - 1) t (rest q)
    reached_leaf w = turn_leaf q h (j - 1) lower (one_before j p a) (omega (arith, reached_kind))

    pub reached_node : 1 < k → (s' : List ℕ) → s' ≡ put s ((i + (j - 1)) * 16 + 8) (bytes 8 (h reached_tree))
        → Half h s₀ s' i (j - 1) t (rest q)
    reached_node w s' = turn_node q h (j - 1) lower (one_before j p a) (omega (arith, reached_kind)) s'

  pub reached_unnoted : {s : List ℕ} → Half note s₀ s i j t (rest q) → (k : ℕ) → k ≡ kind s (i + (j - 1)) → 1 < k
      → Unnoted s (i + (j - 1)) reached_tree
  reached_unnoted a k e w = turn_unnoted q (j - 1) lower (one_before j p a) (omega (arith, reached_kind a k e))
