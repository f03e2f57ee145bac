-- Light trees that stand in a table, TreeBy: they have few records, so what ToldLaws says of trees told of holds of them; and light are, again,
-- the trees behind a light tree's record, the first of light trees, and the others, since each adds to the weight of the whole. At the end,
-- the note of a noted tree, read off its record.
use Rattle.std.proofs.Common.{◌≡◌, ℕ, ◌+◌, ◌-◌, ◌%◌, ◌<◌, ◌≤◌, List, sym, refl, ap, ◌∙◌, subst, arith}
use Rattle.paper.specs.Tree.{Tree, Forest, integer, symbol, sum, product, power, cons, records, weight, weights}
use Rattle.paper.specs.Record.{kind, count_in, bits}
use Rattle.paper.specs.Standing.{kind_number}
use Rattle.paper.proofs.EncodeLaws.{recordses_weights}
use Rattle.note.specs.Note.{note, leaf_note}
use Rattle.note.specs.Noted.{inner, bits_by, TreeBy, TreesBy}
use Rattle.note.specs.Told.{Telling, ToldTrees}
use Rattle.note.proofs.KeyLaws.{note_records, integer_note, symbol_note}
use Rattle.note.proofs.ToldLaws.{told_by, noted_told, told_noted, kind_number_lem, bits_number, node_bits, power_tree, sum_trees, product_trees, first_of}

-- ---- trees one after the other
module _ {h : Tree → ℕ} {s : List ℕ} {i n : ℕ} where
  pub told_all : {f : Forest} → Telling h → TreesBy h s i n f → ToldTrees h s i n f
  told_all {f} p q =
      record { tells = p; counted = q.counted; wf = q.wf; few = omega (arith, q.light, recordses_weights f); stand = q.stand }

  pub light_all : {f : Forest} → ToldTrees h s i n f → weights f < 65536 → TreesBy h s i n f
  light_all q l = record { counted = q.counted; wf = q.wf; light = l; stand = q.stand }

-- the first of them, and the others
pub record FirstBy (h : Tree → ℕ) (s : List ℕ) (i n : ℕ) (f : Forest) : Type 0 where
  pub tree : Tree
  pub others : Forest
  pub whole : f ≡ cons tree others
  pub there : TreeBy h s i tree
  pub after : TreesBy h s (i + records tree) (n - 1) others

pub first_by : {h : Tree → ℕ} {s : List ℕ} {i n : ℕ} (f : Forest) → Telling h → TreesBy h s i n f → 0 < n → FirstBy h s i n f
unfolding weight
first_by f p q l =
    let r = first_of f (told_all p q) l in
    let w : weights f ≡ weight r.tree + weights r.others = ap weights r.whole in
    record {
      tree = r.tree;
      others = r.others;
      whole = r.whole;
      there = told_noted r.there (omega (arith, q.light, w));
      after = light_all r.after (omega (arith, q.light, w));
    }

-- ---- behind a tree's record
-- the members of a sum or a product
pub members_by : {h : Tree → ℕ} {s : List ℕ} {i : ℕ} (t : Tree) → Telling h → TreeBy h s i t → 2 ≤ kind_number t → kind_number t < 4
    → (n : ℕ) → n ≡ count_in s i → TreesBy h s (i + 1) n (inner t)
unfolding kind_number inner weight
members_by (integer μ z) p q l k n e = absurd (omega arith)
members_by (symbol μ v) p q l k n e = absurd (omega arith)
members_by {h} {s} {i} (sum μ f) p q l k n e =
    subst (λ m. TreesBy h s (i + 1) m f) (sym e) (light_all (sum_trees (told_by p q)) (omega (arith, q.light)))
members_by {h} {s} {i} (product μ f) p q l k n e =
    subst (λ m. TreesBy h s (i + 1) m f) (sym e) (light_all (product_trees (told_by p q)) (omega (arith, q.light)))
members_by (power μ b ξ x) p q l k n e = absurd (omega arith)

-- the base of a power
pub power_base : {h : Tree → ℕ} {s : List ℕ} {i μ : ℕ} {b : Tree} {ξ e : ℕ} → Telling h → TreeBy h s i (power μ b ξ e) → TreeBy h s (i + 1) b
unfolding weight
power_base p q = told_noted (power_tree (told_by p q)) (omega (arith, q.light))

-- ---- the note of a noted tree, read off its record
leaf_note_lem : (t : Tree) → kind_number t < 2 → leaf_note (kind_number t) (bits_by note t) ≡ note t
unfolding kind_number bits_by
leaf_note_lem (integer μ z) l = sym (integer_note μ z)
leaf_note_lem (symbol μ v) l = sym (symbol_note μ v)
leaf_note_lem (sum μ f) l = absurd (omega arith)
leaf_note_lem (product μ f) l = absurd (omega arith)
leaf_note_lem (power μ b ξ e) l = absurd (omega arith)

module _ {s : List ℕ} {i : ℕ} {t : Tree} (q : TreeBy note s i t) (k v : ℕ) (e : k ≡ kind s i) (b : v ≡ bits s i) where
  pub note_of_leaf : k < 2 → leaf_note k v ≡ note t
  note_of_leaf l =
      let x : k ≡ kind_number t = e ∙ kind_number_lem (noted_told q) in
      let y : v ≡ bits_by note t = b ∙ bits_number (noted_told q) in
      rw (x, y) (leaf_note_lem t (omega arith))

  pub note_of_node : 2 ≤ k → v ≡ note t
  note_of_node l = b ∙ node_bits (noted_told q) (omega (arith, e))

-- and its number of records
pub size_of_leaf : (t : Tree) → kind_number t < 2 → 1 ≡ records t
unfolding kind_number records
size_of_leaf (integer μ z) l = refl
size_of_leaf (symbol μ v) l = refl
size_of_leaf (sum μ f) l = absurd (omega arith)
size_of_leaf (product μ f) l = absurd (omega arith)
size_of_leaf (power μ b ξ e) l = absurd (omega arith)

pub size_of_node : {s : List ℕ} {i : ℕ} {t : Tree} → TreeBy note s i t → 2 ≤ kind_number t → (v : ℕ) → v ≡ bits s i → v % 65536 ≡ records t
size_of_node {t = t} q l v b =
    ap (λ n. n % 65536) (note_of_node q (kind_number t) v (sym (kind_number_lem (noted_told q))) b l) ∙ note_records t q.light
