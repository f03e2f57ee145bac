-- A record by the two numbers that its halves are. Bytes 0-7 are its kind, byte 1, its count, its mark, and bytes 6 and 7, each at its place: where
-- the number is below the place of byte 6, what remains below the mark's place is kind, byte 1 and count. The other way round, a record
-- without a flaw has one of four forms, since its other bytes are zero; so one that has none of them is flawed.
use Prim.Native.Nat.{ℕ, zero, suc, ◌+◌, ◌*◌, ◌/◌, ◌%◌, ◌<◌, ◌≤◌}
use mathlib.Core.Path.{◌≡◌, refl, sym, ap, ◌∙◌}
use mathlib.Core.Bool.{Bool, true, false, cond, ◌&&◌, ◌||◌}
use mathlib.Core.List.{List, [], ◌∷◌}
use native.Mathlib.Nat.{add_assoc}
use native.Mathlib.Omega.{arith}
use borrow.Author.Tests.{eq-eqb, ne_eqb, eqb-true, lt-ltb, le-ltb}
use lib.Dec.{eqb, ltb}
use lib.ListN.{get_or}
use Rattle.paper.specs.Bytes.{Bytes, le, le2, le8}
use Rattle.paper.specs.Record.{kind, count_in, mark_in, bits, is_node, may_table, may_be, sound, flaw, is_flawed}
use Rattle.paper.proofs.Tests.{and_both}
use Rattle.paper.proofs.BytesLaws.{byte_lt}
use Rattle.paper.proofs.RecordLaws.{count_lt, mark_lt, sound_of, sound_kind, sound_byte, sound_count}
use Rattle.record.specs.Flaw.{count_flaw}
use Rattle.record.specs.Tidy.{front, is_tidy}
use Rattle.record.proofs.FlawLaws.{flaw_unstray}
use Rattle.record.proofs.KindLaws.{leaf_no_node, power_no_node, between_node}
use Rattle.record.proofs.TidyLaws.{tidy_stray}

is_so : (b : Bool) → (b ≡ false → ⊥) → b ≡ true
is_so true h = refl
is_so false h = absurd (h refl)

-- the n bytes from byte j on of a record of kind k must all be zero
unfoldable none_may : ℕ → ℕ → ℕ → Bool
none_may k j zero = true
none_may k j (suc n) = eqb (may_be k j) 0 && none_may k (j + 1) n

-- halves h and v are of none of the forms: integer, symbol, sum or product, power
abbrev pub Formless : ℕ → ℕ → Type 0
Formless h v =
    ((m : ℕ) → m < 65536 → h ≡ m * 4294967296 → ⊥)
    × ((m : ℕ) → m < 65536 → h ≡ 1 + m * 4294967296 → v < 256 → ⊥)
    × ((k c m : ℕ) → 2 ≤ k → k ≤ 3 → 2 ≤ c → c < 65536 → m < 65536 → h ≡ k + c * 65536 + m * 4294967296 → v ≡ 0 → ⊥)
    × ((m : ℕ) → m < 65536 → h ≡ 4 + m * 4294967296 → v ≡ 0 → ⊥)

-- so where each test of a glance fails
pub untold : (h v : ℕ) → h < 281474976710656 → (h % 4294967296 ≡ 0 → ⊥) → (h % 4294967296 ≡ 1 → v ≤ 255 → ⊥) → (h % 4294967296 ≡ 4 → v ≡ 0 → ⊥)
    → (v ≡ 0 → 2 ≤ h % 4294967296 / 65536 → 2 ≤ h % 4294967296 % 65536 → h % 4294967296 % 65536 ≤ 3 → ⊥) → Formless h v
untold h v low a b c d = (
  λ m l e. a (omega arith),
  λ m l e z. b (omega arith) (omega arith),
  λ k n m two three many few l e z. d z (omega arith) (omega arith) (omega arith),
  λ m l e z. c (omega arith) z,
)

module _ (s : List ℕ) (i : ℕ) where
  -- the n bytes from byte j on
  unfoldable window : ℕ → ℕ → List ℕ
  window j zero = []
  window j (suc n) = get_or s (i * 16 + j) 0 ∷ window (j + 1) n

  -- the fields in the two halves
  front_fields : le8 s (i * 16)
      ≡ kind s i + (le (window 1 1) * 256 + (count_in s i * 65536 + (mark_in s i * 4294967296 + le (window 6 2) * 281474976710656)))
  unfolding le8 le le2 kind count_in mark_in window
  front_fields = simp add_assoc (omega arith)

  count_bytes : count_in s i ≡ le (window 2 2)
  unfolding count_in le2 le window
  count_bytes = simp add_assoc

  bits_symbol : bits s i ≡ get_or s (i * 16 + 8) 0 + 256 * le (window 9 7)
  unfolding bits le8 le window
  bits_symbol = simp add_assoc

  bits_bytes : bits s i ≡ le (window 8 8)
  unfolding bits le8 le window
  bits_bytes = simp add_assoc

  -- a record without a flaw
  module _ (f : flaw s i ≡ sound) (k : ℕ) (e : kind s i ≡ k) where
    zeros : (n j : ℕ) → j + n ≤ 16 → none_may k j n ≡ true → le (window j n) ≡ 0
    unfolding window le none_may
    zeros zero j h m = refl
    zeros (suc n) j h m =
        let b = and_both (eqb (may_be k j) 0) (none_may k (j + 1) n) m in
        let z = sound_byte s i f k j e (omega arith) (eqb-true (may_be k j) 0 b.0) in
        let r = zeros n (j + 1) (omega arith) b.1 in
        omega (arith, z, r)

    padded : none_may k 1 1 ≡ true → none_may k 6 2 ≡ true → le8 s (i * 16) ≡ k + count_in s i * 65536 + mark_in s i * 4294967296
    padded a b = omega (arith, front_fields, e, zeros 1 1 (omega arith) a, zeros 2 6 (omega arith) b)

    bare : none_may k 2 2 ≡ true → count_in s i ≡ 0
    bare a = count_bytes ∙ zeros 2 2 (omega arith) a

    empty : none_may k 8 8 ≡ true → bits s i ≡ 0
    empty a = bits_bytes ∙ zeros 8 8 (omega arith) a

  -- a record whose halves have none of the forms
  pub formless : Bytes s → (h v : ℕ) → h ≡ le8 s (i * 16) → v ≡ bits s i → Formless h v → is_flawed (flaw s i) ≡ true
  unfolding none_may may_be may_table is_node
  formless b h v eh ev r = is_so (is_flawed (flaw s i)) (λ n. let f = sound_of (flaw s i) n in go f (sound_kind s i f) (kind s i) refl)
    where
      m : mark_in s i < 65536
      m = mark_lt s i b

      counted : flaw s i ≡ sound → (k : ℕ) → kind s i ≡ k → 2 ≤ k → k ≤ 3 → is_node k ≡ true → none_may k 1 1 ≡ true → none_may k 6 2 ≡ true
          → none_may k 8 8 ≡ true → ⊥
      counted f k e l u n p q t =
          let two = sound_count s i f (ap is_node e ∙ n) in
          r.2 k (count_in s i) (mark_in s i) l u two (count_lt s i b) m (eh ∙ padded f k e p q) (ev ∙ empty f k e t)

      go : flaw s i ≡ sound → kind s i ≤ 4 → (k : ℕ) → kind s i ≡ k → ⊥
      go f l zero e = r.0 (mark_in s i) m (omega (arith, eh, padded f 0 e refl refl, bare f 0 e refl))
      go f l (suc zero) e =
          let z = zeros f 1 e 7 9 (omega arith) refl in
          let t = byte_lt s (i * 16 + 8) b in
          r.1 (mark_in s i) m (omega (arith, eh, padded f 1 e refl refl, bare f 1 e refl)) (omega (arith, ev, bits_symbol, z, t))
      go f l (suc (suc zero)) e = counted f 2 e (omega arith) (omega arith) refl refl refl refl
      go f l (suc (suc (suc zero))) e = counted f 3 e (omega arith) (omega arith) refl refl refl refl
      go f l (suc (suc (suc (suc zero)))) e =
          r.3 (mark_in s i) m (omega (arith, eh, padded f 4 e refl refl, bare f 4 e refl)) (ev ∙ empty f 4 e refl)
      go f l (suc (suc (suc (suc (suc k))))) e = absurd (omega arith)

  -- a record of one of the forms has no flaw
  unflawed : (k : ℕ) → k ≡ kind s i → k < 5 → le8 s (i * 16) ≡ front s i k → (eqb k 0 || ltb (bits s i) (cond (eqb k 1) 256 1)) ≡ true
      → (is_node k && ltb (count_in s i) 2) ≡ false → is_flawed (flaw s i) ≡ false
  unfolding is_tidy count_flaw is_flawed
  unflawed k e l h t c =
      let tidy : is_tidy s i k ≡ true = rw (eq-eqb (le8 s (i * 16)) (front s i k) h) t in
      let none = tidy_stray s i k l tidy in
      ap is_flawed (flaw_unstray s i k 16 e (omega arith) (sym none) (omega arith)) ∙ rw c refl

  bare_front : (k : ℕ) → is_node k ≡ false → front s i k ≡ k + mark_in s i * 4294967296
  unfolding front
  bare_front k n = rw n refl

  node_front : (k : ℕ) → is_node k ≡ true → front s i k ≡ k + count_in s i * 65536 + mark_in s i * 4294967296
  unfolding front
  node_front k n = rw n refl

  -- the numbers below the place of byte 6
  module _ (b : Bytes s) (h : ℕ) (eh : h ≡ le8 s (i * 16)) (low : h < 281474976710656) where
    byte_1 : le (window 1 1) < 256
    unfolding le window
    byte_1 = omega (arith, byte_lt s (i * 16 + 1) b)

    kind_byte : kind s i < 256
    unfolding kind
    kind_byte = byte_lt s (i * 16) b

    rest : (h % 4294967296 ≡ kind s i + le (window 1 1) * 256 + count_in s i * 65536) × (h ≡ h % 4294967296 + mark_in s i * 4294967296)
    rest =
        let c = count_lt s i b in
        let m = mark_lt s i b in
        let e = front_fields in
        let x : ℕ = kind s i + le (window 1 1) * 256 + count_in s i * 65536 in
        let small : x < 4294967296 = omega (arith, c, byte_1, kind_byte) in
        let none : le (window 6 2) ≡ 0 = omega (arith, e, eh, low) in
        let whole : h ≡ x + mark_in s i * 4294967296 = omega (arith, e, eh, none) in
        let same : h % 4294967296 ≡ x = omega (arith, whole, small) in
        (same, omega (arith, whole, same))

    plain : (k : ℕ) → k ≡ kind s i → k < 5 → is_node k ≡ false → h % 4294967296 ≡ k → (eqb k 0 || ltb (bits s i) (cond (eqb k 1) 256 1)) ≡ true
        → is_flawed (flaw s i) ≡ false
    plain k e l n q t =
        let p : le8 s (i * 16) ≡ front s i k = omega (arith, eh, rest.1, q, bare_front k n) in
        unflawed k e l p t (rw n refl)

    pub integer : h % 4294967296 < 1 → (is_flawed (flaw s i) ≡ false) × (kind s i ≡ 0)
    integer q =
        let k : kind s i ≡ 0 = omega (arith, rest.0, q) in
        (plain 0 (sym k) (omega arith) (leaf_no_node 0 (omega arith)) (omega (arith, q)) refl, k)

    pub symbol : 1 ≤ h % 4294967296 → h % 4294967296 < 2 → bits s i ≤ 255 → (is_flawed (flaw s i) ≡ false) × (kind s i ≡ 1)
    symbol p q v =
        let k : kind s i ≡ 1 = omega (arith, rest.0, p, q) in
        (plain 1 (sym k) (omega arith) (leaf_no_node 1 (omega arith)) (omega (arith, p, q)) (lt-ltb (bits s i) 256 (omega (arith, v))), k)

    pub power : h % 4294967296 ≡ 4 → bits s i ≤ 0 → (is_flawed (flaw s i) ≡ false) × (kind s i ≡ 4)
    power q v =
        let k : kind s i ≡ 4 = omega (arith, rest.0, q) in
        (plain 4 (sym k) (omega arith) (power_no_node 4 refl) q (lt-ltb (bits s i) 1 (omega (arith, v))), k)

    -- the numbers of a sum or a product
    counted_fields : 131072 ≤ h % 4294967296 → 2 ≤ h % 4294967296 % 65536 → h % 4294967296 % 65536 ≤ 3
        → (2 ≤ kind s i) × (kind s i ≤ 3) × (2 ≤ count_in s i) × (h % 4294967296 ≡ kind s i + count_in s i * 65536) × (h % 4294967296 / 65536 ≡ count_in s i)
    counted_fields l p q =
        let x : ℕ = h % 4294967296 in
        let y : ℕ = kind s i + le (window 1 1) * 256 in
        let small : y < 65536 = omega (arith, byte_1, kind_byte) in
        let whole : x ≡ y + count_in s i * 65536 = rest.0 in
        let below : x % 65536 ≡ y = omega (arith, whole, small) in
        let above : x / 65536 ≡ count_in s i = omega (arith, whole, small) in
        let none : le (window 1 1) ≡ 0 = omega (arith, below, q) in
        (omega (arith, below, none, p), omega (arith, below, none, q), omega (arith, above, l), omega (arith, whole, none), above)

    counted_sound : 2 ≤ kind s i → kind s i ≤ 3 → 2 ≤ count_in s i → h % 4294967296 ≡ kind s i + count_in s i * 65536 → bits s i ≤ 0
        → is_flawed (flaw s i) ≡ false
    counted_sound two three many e v =
        let k = kind s i in
        let n = between_node k two (omega (arith, three)) (λ p. omega (arith, three, p)) in
        let f : le8 s (i * 16) ≡ front s i k = sym eh ∙ rest.1 ∙ ap (λ (x : ℕ). x + mark_in s i * 4294967296) e ∙ sym (node_front k n) in
        let t : (eqb k 0 || ltb (bits s i) (cond (eqb k 1) 256 1)) ≡ true =
        rw (ne_eqb k 0 (λ p. omega (arith, two, p)), ne_eqb k 1 (λ p. omega (arith, two, p))) (lt-ltb (bits s i) 1 (omega (arith, v))) in
        unflawed k refl (omega (arith, three)) f t (rw (n, le-ltb (count_in s i) 2 many) refl)

    pub members : 131072 ≤ h % 4294967296 → 2 ≤ h % 4294967296 % 65536 → h % 4294967296 % 65536 ≤ 3 → bits s i ≤ 0
        → (is_flawed (flaw s i) ≡ false) × (2 ≤ kind s i) × (kind s i ≤ 3) × (h % 4294967296 / 65536 ≡ count_in s i) × (h % 4294967296 / 65536 < 65536)
    members l p q v =
        let r = counted_fields l p q in
        (counted_sound r.0 r.1 r.2 r.3 v, r.0, r.1, r.4, rw r.4 (count_lt s i b))
