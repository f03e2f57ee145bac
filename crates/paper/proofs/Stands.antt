-- Bytes that stand in a table from a record on, and their parts: of two stretches one after the other the first stands where both
-- do, the second as many records later as the first has, since dropping twice is dropping once. So where a tree stands, its
-- members do.
use Prim.Native.Nat.{ℕ, ◌+◌, ◌*◌}
use mathlib.Core.Path.{◌≡◌, sym, ap, ◌∙◌}
use mathlib.Core.List.{List, [], ◌++◌, append_assoc, append-nil}
use native.Mathlib.Omega.{arith}
use lib.ListN.{length, drop}
use lib.Seq.{drop_at, drop-drop}
use Rattle.paper.specs.Tree.{Tree, Forest, sum, product, power, cons, count, records}
use Rattle.paper.specs.Table.{record_of, encode, encodes}
pub use Rattle.paper.specs.Standing.{Stands}
use Rattle.paper.proofs.EncodeLaws.{record_length, encode_length}

pub stands_whole : (p : List ℕ) → Stands p 0 p
stands_whole p = record { after = []; there = sym (append-nil p) }

module _ {s : List ℕ} {i : ℕ} (p q : List ℕ) (h : Stands s i (p ++ q)) where
  pub stands_first : Stands s i p
  stands_first = record { after = q ++ h.after; there = h.there ∙ append_assoc p q h.after }

  pub stands_next : (m : ℕ) → length p ≡ 16 * m → Stands s (i + m) q
  stands_next m l = record {
    after = h.after;
    there =
        let places : (i + m) * 16 ≡ i * 16 + m * 16 = omega arith in
        ap (λ (k : ℕ). drop k s) places
        ∙ sym (drop-drop (m * 16) (i * 16) s)
        ∙ ap (λ (x : List ℕ). drop (m * 16) x) (h.there ∙ append_assoc p q h.after)
        ∙ drop_at p (q ++ h.after) (m * 16) (l ∙ omega arith);
  }

pub stands_both : {s : List ℕ} {i : ℕ} (p q : List ℕ) (m : ℕ) → length p ≡ 16 * m → Stands s i p → Stands s (i + m) q → Stands s i (p ++ q)
stands_both {s} {i} p q m l h g =
    let places : (i + m) * 16 ≡ i * 16 + m * 16 = omega arith in
    let rest : h.after ≡ q ++ g.after
    = sym (drop_at p h.after (m * 16) (l ∙ omega arith))
    ∙ ap (λ (x : List ℕ). drop (m * 16) x) (sym h.there)
    ∙ drop-drop (m * 16) (i * 16) s
    ∙ ap (λ (k : ℕ). drop k s) (sym places)
    ∙ g.there in
    record { after = g.after; there = h.there ∙ ap (λ (x : List ℕ). p ++ x) rest ∙ sym (append_assoc p q g.after) }

module _ {s : List ℕ} {i : ℕ} (μ : ℕ) (f : Forest) where
  pub sum_record : Stands s i (encode (sum μ f)) → Stands s i (record_of 2 (count f) μ 0)
  unfolding encode
  sum_record h = stands_first (record_of 2 (count f) μ 0) (encodes f) h

  pub sum_members : Stands s i (encode (sum μ f)) → Stands s (i + 1) (encodes f)
  unfolding encode
  sum_members h = stands_next (record_of 2 (count f) μ 0) (encodes f) h 1 (record_length 2 (count f) μ 0)

  pub product_record : Stands s i (encode (product μ f)) → Stands s i (record_of 3 (count f) μ 0)
  unfolding encode
  product_record h = stands_first (record_of 3 (count f) μ 0) (encodes f) h

  pub product_members : Stands s i (encode (product μ f)) → Stands s (i + 1) (encodes f)
  unfolding encode
  product_members h = stands_next (record_of 3 (count f) μ 0) (encodes f) h 1 (record_length 3 (count f) μ 0)

module _ {s : List ℕ} {i : ℕ} (μ : ℕ) (b : Tree) (ξ e : ℕ) (h : Stands s i (encode (power μ b ξ e))) where
  pub power_record : Stands s i (record_of 4 0 μ 0)
  unfolding encode
  power_record = stands_first (record_of 4 0 μ 0) (encode b ++ record_of 0 0 ξ e) h

  power_members : Stands s (i + 1) (encode b ++ record_of 0 0 ξ e)
  unfolding encode
  power_members = stands_next (record_of 4 0 μ 0) (encode b ++ record_of 0 0 ξ e) h 1 (record_length 4 0 μ 0)

  pub power_base : Stands s (i + 1) (encode b)
  power_base = stands_first (encode b) (record_of 0 0 ξ e) power_members

  pub power_exponent : Stands s (i + 1 + records b) (record_of 0 0 ξ e)
  power_exponent = stands_next (encode b) (record_of 0 0 ξ e) power_members (records b) (encode_length b)

module _ {s : List ℕ} {i : ℕ} (t : Tree) (f : Forest) (h : Stands s i (encodes (cons t f))) where
  pub first_member : Stands s i (encode t)
  unfolding encode
  first_member = stands_first (encode t) (encodes f) h

  pub other_members : Stands s (i + records t) (encodes f)
  unfolding encode
  other_members = stands_next (encode t) (encodes f) h (records t) (encode_length t)
