-- Trees that stand in a table, for code: where their records lie, what the first record tells, and that where trees stand their
-- members do. Each is a law of the records of trees, with the bounds carried along.
use Prim.Native.Nat.{ℕ, ◌+◌, ◌-◌, ◌*◌, ◌≤◌, ◌<◌}
use mathlib.Core.Path.{◌≡◌, refl, sym, ap, ◌∙◌}
use mathlib.Core.List.{List, ◌++◌}
use mathlib.Core.Option.{some}
use native.Mathlib.Omega.{arith}
use lib.ListN.{length}
use Rattle.paper.specs.Bytes.{word}
use Rattle.paper.specs.Record.{count_in, mark_in}
use Rattle.paper.specs.Tree.{Tree, Forest, integer, symbol, sum, product, power, nil, cons, count, mark_of, records, recordses}
use Rattle.paper.specs.Table.{encode, Reading, read_tree}
use Rattle.paper.proofs.EncodeLaws.{records_pos, mark_there}
use Rattle.paper.proofs.ReadLaws.{read_written}
use Rattle.paper.proofs.Stands.{first_member, other_members, sum_record, product_record, power_record, power_exponent}
use Rattle.paper.proofs.Seen.{Seen, see, a_sum, a_product, a_power, SeenPower, stands_within}
use Rattle.paper.specs.Standing.{TreeIn, TreesIn}

module _ {s : List ℕ} {i : ℕ} {t : Tree} (h : TreeIn s i t) where
  -- its records lie in the table, and it has one or more
  pub tree_within : (i + records t) * 16 ≤ length s
  tree_within = stands_within s i t h.stands

  pub record_within : i * 16 + 16 ≤ length s
  record_within = omega (arith, tree_within, records_pos t)

  -- what its first record tells
  pub seen : Seen s i t
  seen = see s i t h.wf h.few h.stands

-- the members of a sum and of a product, and the base of a power
module _ {s : List ℕ} {i : ℕ} where
  sum_seen : {μ : ℕ} {f : Forest} → Seen s i (sum μ f) → recordses f < 65536 → TreesIn s (i + 1) (count_in s i) f
  sum_seen (a_sum k n c w m) l = record { counted = sym n; wf = w; few = l; stand = m }

  product_seen : {μ : ℕ} {f : Forest} → Seen s i (product μ f) → recordses f < 65536 → TreesIn s (i + 1) (count_in s i) f
  product_seen (a_product k n c w m) l = record { counted = sym n; wf = w; few = l; stand = m }

  power_seen : {μ : ℕ} {b : Tree} {ξ e : ℕ} → Seen s i (power μ b ξ e) → SeenPower s i b ξ e
  power_seen (a_power k w b p q x y z) =
      record { base_wf = w; base = b; least = p; most = q; exponent = x; exponent_kind = y; exponent_bits = z }

  pub sum_trees : {μ : ℕ} {f : Forest} → TreeIn s i (sum μ f) → TreesIn s (i + 1) (count_in s i) f
  unfolding records
  sum_trees h = sum_seen (seen h) (omega (arith, h.few))

  pub product_trees : {μ : ℕ} {f : Forest} → TreeIn s i (product μ f) → TreesIn s (i + 1) (count_in s i) f
  unfolding records
  product_trees h = product_seen (seen h) (omega (arith, h.few))

  pub power_parts : {μ : ℕ} {b : Tree} {ξ e : ℕ} → TreeIn s i (power μ b ξ e) → SeenPower s i b ξ e
  power_parts h = power_seen (seen h)

  pub power_tree : {μ : ℕ} {b : Tree} {ξ e : ℕ} → TreeIn s i (power μ b ξ e) → TreeIn s (i + 1) b
  unfolding records
  power_tree h = record { wf = h.wf.0; few = omega (arith, h.few); stands = (power_parts h).base }

-- the first of trees that stand one after the other, and the others
pub record FirstOf (s : List ℕ) (i n : ℕ) (f : Forest) : Type 0 where
  pub tree : Tree
  pub others : Forest
  pub whole : f ≡ cons tree others
  pub there : TreeIn s i tree
  pub after : TreesIn s (i + records tree) (n - 1) others

module _ {s : List ℕ} {i n : ℕ} where
  pub first_tree : {t : Tree} {f : Forest} → TreesIn s i n (cons t f) → TreeIn s i t
  unfolding records
  first_tree {t} {f} h = record { wf = h.wf.0; few = omega (arith, h.few); stands = first_member t f h.stand }

  pub other_trees : {t : Tree} {f : Forest} → TreesIn s i n (cons t f) → TreesIn s (i + records t) (n - 1) f
  unfolding records count
  other_trees {t} {f} h =
      record { counted = omega (arith, h.counted); wf = h.wf.1; few = omega (arith, h.few); stand = other_members t f h.stand }

  pub first_of : (f : Forest) → TreesIn s i n f → 0 < n → FirstOf s i n f
  unfolding count
  first_of nil h l = absurd (omega (arith, h.counted))
  first_of (cons t f) h l = record { tree = t; others = f; whole = refl; there = first_tree h; after = other_trees h }

  pub none_of : (f : Forest) → TreesIn s i n f → n ≡ 0 → f ≡ nil
  unfolding count
  none_of nil h e = refl
  none_of (cons t f) h e = absurd (omega (arith, h.counted))

-- one tree stands at a record: what is read there
pub one_tree : {s : List ℕ} {i : ℕ} {t u : Tree} → TreeIn s i t → TreeIn s i u → t ≡ u
one_tree {t = t} {u = u} h g =
    let n = records t + records u in
    let there = h.stands.after in
    let other = g.stands.after in
    let bytes : encode t ++ there ≡ encode u ++ other = sym h.stands.there ∙ g.stands.there in
    let read : ◌≡◌ {A = Reading Tree} (some (t, there)) (some (u, other)) =
    sym (read_written t n there h.wf h.few (omega arith)) ∙ ap (read_tree n) bytes
    ∙ read_written u n other g.wf g.few (omega arith) in
    let both : ◌≡◌ {A = Tree × List ℕ} (t, there) (u, other) = cc in
    ap (λ (r : Tree × List ℕ). r.0) both

-- the mark that a record tells is that of the tree which begins there; the mark of a power's exponent stands in the record after its base
module _ {s : List ℕ} {i : ℕ} where
  pub mark_number : (t : Tree) → TreeIn s i t → mark_in s i ≡ mark_of t
  unfolding mark_of encode
  mark_number (integer μ z) h = mark_there s i 0 0 μ (word z) h.stands.after h.stands.there h.wf.1
  mark_number (symbol μ v) h = mark_there s i 1 0 μ v h.stands.after h.stands.there h.wf.1
  mark_number (sum μ f) h = let q = sum_record μ f h.stands in mark_there s i 2 (count f) μ 0 q.after q.there h.wf.2
  mark_number (product μ f) h = let q = product_record μ f h.stands in mark_there s i 3 (count f) μ 0 q.after q.there h.wf.2
  mark_number (power μ b ξ e) h = let q = power_record μ b ξ e h.stands in mark_there s i 4 0 μ 0 q.after q.there h.wf.3

  pub exponent_mark : {μ : ℕ} {b : Tree} {ξ e : ℕ} → TreeIn s i (power μ b ξ e) → mark_in s (i + 1 + records b) ≡ ξ
  exponent_mark {μ = μ} {b = b} {ξ = ξ} {e = e} h =
      let q = power_exponent μ b ξ e h.stands in mark_there s (i + 1 + records b) 0 0 ξ e q.after q.there h.wf.4
