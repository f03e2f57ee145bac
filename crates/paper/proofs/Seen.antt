-- What the first record of a tree that stands in a table tells, and the other way round: which tree stands there by the kind of
-- its first record. For code that reads trees from records: one view in place of an inversion for each kind. By cases on the
-- tree, its fields being known (EncodeLaws).
use Prim.Native.Nat.{ℕ, ◌+◌, ◌-◌, ◌*◌, ◌^◌, ◌≤◌, ◌<◌}
use mathlib.Core.Path.{◌≡◌, refl, sym, ap, ◌∙◌, subst}
use mathlib.Core.List.{List}
use native.Mathlib.Omega.{arith}
use lib.ListN.{length, length-append, length-drop}
use lib.IntN.{ℤ, pos}
use Rattle.paper.specs.Bytes.{word}
use Rattle.paper.specs.Tree.{Tree, Forest, integer, symbol, sum, product, power, count, records}
use Rattle.paper.specs.WellFormed.{WF, WFs, InRange}
use Rattle.paper.specs.Record.{kind, count_in, bits, symbol_in}
use Rattle.paper.specs.Table.{record_of, encode, encodes}
use Rattle.paper.specs.Standing.{Stands, SeenMembers}
use Rattle.paper.proofs.Congruence.{word_lt}
use Rattle.paper.proofs.EncodeLaws.{encode_length, records_pos, count_records, kind_there, count_there, bits_there, symbol_there}
use Rattle.paper.proofs.Stands.{sum_record, sum_members, product_record, product_members, power_record, power_base, power_exponent}

-- the tree t stands at record i of s, told by the fields of the record there and by what stands after it
pub data Seen (s : List ℕ) (i : ℕ) : Tree → Type 0 where
  an_integer : {μ : ℕ} {z : ℤ} → kind s i ≡ 0 → bits s i ≡ word z → InRange z → Seen s i (integer μ z)
  a_symbol : {μ v : ℕ} → kind s i ≡ 1 → symbol_in s i ≡ v → v < 256 → Seen s i (symbol μ v)
  a_sum : {μ : ℕ} {f : Forest} → kind s i ≡ 2 → count_in s i ≡ count f → 2 ≤ count f → WFs f → Stands s (i + 1) (encodes f) → Seen s i (sum μ f)
  a_product : {μ : ℕ} {f : Forest} → kind s i ≡ 3 → count_in s i ≡ count f → 2 ≤ count f → WFs f → Stands s (i + 1) (encodes f)
      → Seen s i (product μ f)
  a_power : {μ : ℕ} {b : Tree} {ξ e : ℕ} → kind s i ≡ 4 → WF b → Stands s (i + 1) (encode b) → 1 ≤ e → e < 2 ^ 63
      → Stands s (i + 1 + records b) (encode (integer ξ (pos e))) → kind s (i + 1 + records b) ≡ 0 → bits s (i + 1 + records b) ≡ e
      → Seen s i (power μ b ξ e)

pub exponent_word : (e : ℕ) → e < 2 ^ 63 → word (pos e) ≡ e
unfolding word
exponent_word e h = omega arith

-- every well-formed tree that stands there is seen so
pub see : (s : List ℕ) (i : ℕ) (t : Tree) → WF t → records t < 65536 → Stands s i (encode t) → Seen s i t
unfolding encode records
see s i (integer μ z) w r h =
    an_integer (kind_there s i 0 0 μ (word z) h.after h.there) (bits_there s i 0 0 μ (word z) h.after h.there (word_lt z)) w.0
see s i (symbol μ v) w r h =
    a_symbol (kind_there s i 1 0 μ v h.after h.there) (symbol_there s i 1 0 μ v h.after h.there w.0) w.0
see s i (sum μ f) w r h =
    let q = sum_record μ f h in
    a_sum (kind_there s i 2 (count f) μ 0 q.after q.there)
    (count_there s i 2 (count f) μ 0 q.after q.there (omega (arith, count_records f))) w.0 w.1 (sum_members μ f h)
see s i (product μ f) w r h =
    let q = product_record μ f h in
    a_product (kind_there s i 3 (count f) μ 0 q.after q.there)
    (count_there s i 3 (count f) μ 0 q.after q.there (omega (arith, count_records f))) w.0 w.1 (product_members μ f h)
see s i (power μ b ξ e) w r h =
    let q = power_record μ b ξ e h in
    let x = power_exponent μ b ξ e h in
    let j = i + 1 + records b in
    a_power (kind_there s i 4 0 μ 0 q.after q.there) w.0 (power_base μ b ξ e h) w.1 w.2
    (subst (λ n. Stands s j (record_of 0 0 ξ n)) (sym (exponent_word e w.2)) x) (kind_there s j 0 0 ξ e x.after x.there)
    (bits_there s j 0 0 ξ e x.after x.there (omega arith))

-- the base and the exponent of a power
pub record SeenPower (s : List ℕ) (i : ℕ) (b : Tree) (ξ e : ℕ) : Type 0 where
  pub base_wf : WF b
  pub base : Stands s (i + 1) (encode b)
  pub least : 1 ≤ e
  pub most : e < 2 ^ 63
  pub exponent : Stands s (i + 1 + records b) (encode (integer ξ (pos e)))
  pub exponent_kind : kind s (i + 1 + records b) ≡ 0
  pub exponent_bits : bits s (i + 1 + records b) ≡ e

-- ---- which tree it is, by the kind of its first record
module _ {s : List ℕ} {i : ℕ} where
  pub seen_integer : {t : Tree} → Seen s i t → kind s i ≡ 0 → (μ : ℕ) × (z : ℤ) × (t ≡ integer μ z) × (bits s i ≡ word z) × InRange z
  seen_integer (an_integer {μ = μ} {z = z} k b w) e = (μ, z, refl, b, w)
  seen_integer (a_symbol k v w) e = absurd (omega arith)
  seen_integer (a_sum k n c w m) e = absurd (omega arith)
  seen_integer (a_product k n c w m) e = absurd (omega arith)
  seen_integer (a_power k w b p q x y z) e = absurd (omega arith)

  pub seen_symbol : {t : Tree} → Seen s i t → kind s i ≡ 1 → (μ : ℕ) × (v : ℕ) × (t ≡ symbol μ v) × (symbol_in s i ≡ v) × (v < 256)
  seen_symbol (an_integer k b w) e = absurd (omega arith)
  seen_symbol (a_symbol {μ = μ} {v = v} k b w) e = (μ, v, refl, b, w)
  seen_symbol (a_sum k n c w m) e = absurd (omega arith)
  seen_symbol (a_product k n c w m) e = absurd (omega arith)
  seen_symbol (a_power k w b p q x y z) e = absurd (omega arith)

  pub seen_sum : {t : Tree} → Seen s i t → kind s i ≡ 2 → (μ : ℕ) × (f : Forest) × (t ≡ sum μ f) × SeenMembers s i f
  seen_sum (an_integer k b w) e = absurd (omega arith)
  seen_sum (a_symbol k v w) e = absurd (omega arith)
  seen_sum (a_sum {μ = μ} {f = f} k n c w m) e = (μ, f, refl, record { counted = n; two = c; wf = w; stand = m })
  seen_sum (a_product k n c w m) e = absurd (omega arith)
  seen_sum (a_power k w b p q x y z) e = absurd (omega arith)

  pub seen_product : {t : Tree} → Seen s i t → kind s i ≡ 3 → (μ : ℕ) × (f : Forest) × (t ≡ product μ f) × SeenMembers s i f
  seen_product (an_integer k b w) e = absurd (omega arith)
  seen_product (a_symbol k v w) e = absurd (omega arith)
  seen_product (a_sum k n c w m) e = absurd (omega arith)
  seen_product (a_product {μ = μ} {f = f} k n c w m) e = (μ, f, refl, record { counted = n; two = c; wf = w; stand = m })
  seen_product (a_power k w b p q x y z) e = absurd (omega arith)

  pub seen_power : {t : Tree} → Seen s i t → kind s i ≡ 4 → (μ : ℕ) × (b : Tree) × (ξ : ℕ) × (e : ℕ) × (t ≡ power μ b ξ e) × SeenPower s i b ξ e
  seen_power (an_integer k b w) e = absurd (omega arith)
  seen_power (a_symbol k v w) e = absurd (omega arith)
  seen_power (a_sum k n c w m) e = absurd (omega arith)
  seen_power (a_product k n c w m) e = absurd (omega arith)
  seen_power (a_power {μ = μ} {b = b} {ξ = ξ} {e = x} k w t p q o y z) e =
      (μ, b, ξ, x, refl, record { base_wf = w; base = t; least = p; most = q; exponent = o; exponent_kind = y; exponent_bits = z })

  -- there is no other kind
  pub seen_kind : {t : Tree} → Seen s i t → kind s i ≤ 4
  seen_kind (an_integer k b w) = omega arith
  seen_kind (a_symbol k v w) = omega arith
  seen_kind (a_sum k n c w m) = omega arith
  seen_kind (a_product k n c w m) = omega arith
  seen_kind (a_power k w b p q x y z) = omega arith

-- what stands in a table lies inside it
pub stands_within : (s : List ℕ) (i : ℕ) (t : Tree) → Stands s i (encode t) → (i + records t) * 16 ≤ length s
stands_within s i t h =
    let e : length s - i * 16 ≡ length (encode t) + length h.after =
    sym (length-drop (i * 16) s) ∙ ap length h.there ∙ length-append (encode t) h.after in
    omega (arith, encode_length t, records_pos t)
