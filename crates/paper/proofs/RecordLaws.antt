-- A record without a flaw is one that writing makes: its kind is 0 to 4, and its 16 bytes are those of a record with its kind, its
-- count and its number, since every byte between these is zero.
use Prim.Native.Nat.{ℕ, zero, suc, ◌+◌, ◌*◌, ◌^◌, ◌<◌, ◌≤◌}
use mathlib.Core.Path.{◌≡◌, refl, sym, ap, ◌∙◌}
use mathlib.Core.Bool.{Bool, true, false, cond, ◌&&◌, ◌||◌, not}
use mathlib.Core.List.{List, [], ◌∷◌, ◌++◌}
use native.Mathlib.Nat.{add-zero, add_assoc}
use native.Mathlib.Omega.{arith}
use borrow.Author.Tests.{ltb-true, ltb-false, eqb-true, eq-eqb}
use lib.Dec.{eqb, ltb, lit<}
use lib.ListN.{length, get_or, drop}
use lib.Seq.{drop-cons}
use Rattle.paper.specs.Bytes.{Bytes, le, bytes, le2, le8}
use Rattle.paper.specs.Record.{kind, count_in, mark_in, bits, symbol_in, may_table, may_be, stray, is_node, Flaw, sound, bad_kind, bad_byte}
use Rattle.paper.specs.Record.{bad_count, flaw, is_flawed}
use Rattle.paper.specs.Verdict.{is_positive}
use Rattle.paper.specs.Table.{record_of}
use Rattle.paper.proofs.Tests.{true_not_false, and_both, and_false, or_neither}
use Rattle.paper.proofs.BytesLaws.{bytes_le, byte_lt, le2_lt, le8_lt}
use Rattle.paper.proofs.Stands.{Stands}
use Rattle.paper.proofs.FirstLaws.{first, first_before, is_stray, first_stray}

-- the fields of a record of bytes have their ranges
pub count_lt : (s : List ℕ) (i : ℕ) → Bytes s → count_in s i < 65536
unfolding count_in
count_lt s i b = le2_lt s (i * 16 + 2) b

pub bits_lt : (s : List ℕ) (i : ℕ) → Bytes s → bits s i < 2 ^ 64
unfolding bits
bits_lt s i b = le8_lt s (i * 16 + 8) b

pub mark_lt : (s : List ℕ) (i : ℕ) → Bytes s → mark_in s i < 65536
unfolding mark_in
mark_lt s i b = le2_lt s (i * 16 + 4) b

pub symbol_lt : (s : List ℕ) (i : ℕ) → Bytes s → symbol_in s i < 256
unfolding symbol_in
symbol_lt s i b = byte_lt s (i * 16 + 8) b

-- a record that is not flawed is sound
pub sound_of : (x : Flaw) → is_flawed x ≡ false → x ≡ sound
unfolding is_flawed
sound_of sound e = refl
sound_of bad_kind e = absurd (true_not_false refl e)
sound_of (bad_byte j) e = absurd (true_not_false refl e)
sound_of bad_count e = absurd (true_not_false refl e)

-- what the test of an exponent says of a record
pub positive_kind : (s : List ℕ) (e : ℕ) → is_positive s e ≡ true → (kind s e ≡ 0) × (0 < bits s e) × (bits s e < 2 ^ 63)
unfolding is_positive
positive_kind s e h =
    let p = and_both (eqb (kind s e) 0 && ltb 0 (bits s e)) (ltb (bits s e) (2 ^ 63)) h in
    let q = and_both (eqb (kind s e) 0) (ltb 0 (bits s e)) p.0 in
    (eqb-true (kind s e) 0 q.0, ltb-true 0 (bits s e) q.1, ltb-true (bits s e) (2 ^ 63) p.1)

-- a record is flawed where one of the three tests says so
pub flawed_tests : (a b c : Bool) (j : ℕ) → is_flawed (cond a bad_kind (cond b (bad_byte j) (cond c bad_count sound))) ≡ (a || b || c)
unfolding is_flawed
flawed_tests true b c j = refl
flawed_tests false true c j = refl
flawed_tests false false true j = refl
flawed_tests false false false j = refl

-- what holds of a record without a flaw
module _ (s : List ℕ) (i : ℕ) (h : flaw s i ≡ sound) where
  tests : (ltb 4 (kind s i) ≡ false) × (ltb (stray s i (kind s i) 0 16) 16 ≡ false) × ((is_node (kind s i) && ltb (count_in s i) 2) ≡ false)
  unfolding flaw is_flawed
  tests =
      let a = ltb 4 (kind s i) in
      let j = stray s i (kind s i) 0 16 in
      let c = is_node (kind s i) && ltb (count_in s i) 2 in
      let x = or_neither (a || ltb j 16) c (sym (flawed_tests a (ltb j 16) c j) ∙ ap is_flawed h) in
      let y = or_neither a (ltb j 16) x.0 in
      (y.0, y.1, x.1)

  pub sound_kind : kind s i ≤ 4
  sound_kind = ltb-false 4 (kind s i) tests.0

  pub sound_byte : (k j : ℕ) → kind s i ≡ k → j < 16 → may_be k j ≡ 0 → get_or s (i * 16 + j) 0 ≡ 0
  unfolding is_stray
  sound_byte k j e l m =
      let p = is_stray s i (kind s i) in
      let q : 16 ≤ first p 0 16 = rw (first_stray s i (kind s i) 0 16) at (ltb-false (stray s i (kind s i) 0 16) 16 tests.1) in
      let f : p j ≡ false = first_before p 0 16 j (omega arith) (omega arith) in
      let z : eqb (may_be (kind s i) j) 0 ≡ true = rw e (eq-eqb (may_be k j) 0 m) in
      zero_by (eqb (get_or s (i * 16 + j) 0) 0) refl (eqb (may_be (kind s i) j) 0) z f
    where
      zero_by : (a : Bool) → eqb (get_or s (i * 16 + j) 0) 0 ≡ a → (b : Bool) → b ≡ true → (not a && b) ≡ false → get_or s (i * 16 + j) 0 ≡ 0
      zero_by true e b z f = eqb-true (get_or s (i * 16 + j) 0) 0 e
      zero_by false e b z f = absurd (true_not_false z f)

  pub sound_count : is_node (kind s i) ≡ true → 2 ≤ count_in s i
  sound_count e = ltb-false (count_in s i) 2 (and_false (is_node (kind s i)) (ltb (count_in s i) 2) e tests.2)

-- bytes 1, 6 and 7 are zero in every kind
padding : (k : ℕ) → k ≤ 4 → (may_be k 1 ≡ 0) × (may_be k 6 ≡ 0) × (may_be k 7 ≡ 0)
unfolding may_be may_table
padding zero h = (refl, refl, refl)
padding (suc zero) h = (refl, refl, refl)
padding (suc (suc zero)) h = (refl, refl, refl)
padding (suc (suc (suc zero))) h = (refl, refl, refl)
padding (suc (suc (suc (suc zero)))) h = (refl, refl, refl)
padding (suc (suc (suc (suc (suc k))))) h = absurd (omega arith)

-- the n bytes of s from a + j on, one by one
window : List ℕ → ℕ → ℕ → ℕ → List ℕ
window s a j zero = []
window s a j (suc n) = get_or s (a + j) 0 ∷ window s a (j + 1) n

drop_window : (s : List ℕ) (a j n : ℕ) → a + j + n ≤ length s → drop (a + j) s ≡ window s a j n ++ drop (a + j + n) s
unfolding window
drop_window s a j zero l = ap (λ (x : ℕ). drop x s) (sym (add-zero (a + j)))
drop_window s a j (suc n) l =
    let p : suc (a + j) ≡ a + (j + 1) = omega arith in
    let q : a + (j + 1) + n ≡ a + j + suc n = omega arith in
    drop-cons s (a + j) 0 (omega arith)
    ∙ ap (λ (x : List ℕ). get_or s (a + j) 0 ∷ x)
    (ap (λ (x : ℕ). drop x s) p ∙ drop_window s a (j + 1) n (omega arith) ∙ ap (λ (x : ℕ). window s a (j + 1) n ++ drop x s) q)

-- the bytes of a count, and of a number, are those that it is read from
bytes_count : (s : List ℕ) (i : ℕ) → Bytes s → bytes 2 (count_in s i) ≡ get_or s (i * 16 + 2) 0 ∷ get_or s (i * 16 + 3) 0 ∷ []
unfolding count_in le2
bytes_count s i b =
    let a = i * 16 + 2 in
    bytes_le (get_or s a 0 ∷ get_or s (a + 1) 0 ∷ []) (byte_lt s a b, (byte_lt s (a + 1) b, tt)) ∙ simp add_assoc

bytes_mark : (s : List ℕ) (i : ℕ) → Bytes s → bytes 2 (mark_in s i) ≡ get_or s (i * 16 + 4) 0 ∷ get_or s (i * 16 + 5) 0 ∷ []
unfolding mark_in le2
bytes_mark s i b =
    let a = i * 16 + 4 in
    bytes_le (get_or s a 0 ∷ get_or s (a + 1) 0 ∷ []) (byte_lt s a b, (byte_lt s (a + 1) b, tt)) ∙ simp add_assoc

bytes_bits : (s : List ℕ) (i : ℕ) → Bytes s
    → bytes 8 (bits s i)
    ≡ get_or s (i * 16 + 8) 0 ∷ get_or s (i * 16 + 9) 0 ∷ get_or s (i * 16 + 10) 0 ∷ get_or s (i * 16 + 11) 0
    ∷ get_or s (i * 16 + 12) 0 ∷ get_or s (i * 16 + 13) 0 ∷ get_or s (i * 16 + 14) 0 ∷ get_or s (i * 16 + 15) 0 ∷ []
unfolding bits le8
bytes_bits s i b =
    let a = i * 16 + 8 in
    bytes_le
    (get_or s a 0 ∷ get_or s (a + 1) 0 ∷ get_or s (a + 2) 0 ∷ get_or s (a + 3) 0 ∷ get_or s (a + 4) 0 ∷ get_or s (a + 5) 0 ∷ get_or s (a + 6) 0
    ∷ get_or s (a + 7) 0 ∷ []) (
      byte_lt s a b,
      (
        byte_lt s (a + 1) b,
        (
          byte_lt s (a + 2) b,
          (
            byte_lt s (a + 3) b,
            (byte_lt s (a + 4) b, (byte_lt s (a + 5) b, (byte_lt s (a + 6) b, (byte_lt s (a + 7) b, tt)))),
          ),
        ),
      ),
    )
    ∙ simp add_assoc

-- a record without a flaw is the record of its kind, its count, its mark and its number
pub sound_record : (s : List ℕ) (i : ℕ) → Bytes s → (i + 1) * 16 ≤ length s → flaw s i ≡ sound
    → drop (i * 16) s ≡ record_of (kind s i) (count_in s i) (mark_in s i) (bits s i) ++ drop ((i + 1) * 16) s
unfolding record_of window kind
sound_record s i b l h =
    let a = i * 16 in
    let z = padding (kind s i) (sound_kind s i h) in
    let zero_at : (j : ℕ) → j < 16 → may_be (kind s i) j ≡ 0 → get_or s (a + j) 0 ≡ 0 = λ j. sound_byte s i h (kind s i) j refl in
    let q : a + 0 ≡ a = omega arith in
    let e : a + 0 + 16 ≡ (i + 1) * 16 = omega arith in
    let w : drop (a + 0) s ≡ window s a 0 16 ++ drop (a + 0 + 16) s = drop_window s a 0 16 (omega arith) in
    rw (bytes_count s i b, bytes_mark s i b, bytes_bits s i b)
    (rw (
      e,
      q,
      zero_at 1 (lit< tt) z.0,
      zero_at 6 (lit< tt) z.1,
      zero_at 7 (lit< tt) z.2,
    ) at w)

-- bytes 9 to 15 of a record of kind k must be zero
abbrev LastSeven : ℕ → Type 0
LastSeven k =
    (may_be k 9 ≡ 0) × (may_be k 10 ≡ 0) × (may_be k 11 ≡ 0) × (may_be k 12 ≡ 0) × (may_be k 13 ≡ 0) × (may_be k 14 ≡ 0) × (may_be k 15 ≡ 0)

-- a record without a flaw has no count, or no number, where its kind has none
module _ (s : List ℕ) (i k : ℕ) (h : flaw s i ≡ sound) (e : kind s i ≡ k) where
  zero_at : (a j n : ℕ) → i * 16 + a + j ≡ i * 16 + n → n < 16 → may_be k n ≡ 0 → get_or s (i * 16 + a + j) 0 ≡ 0
  zero_at a j n q l m = rw q (sound_byte s i h k n e l m)

  no_count : may_be k 2 ≡ 0 → may_be k 3 ≡ 0 → count_in s i ≡ 0
  unfolding count_in le2 le
  no_count m n = rw (sound_byte s i h k 2 e (lit< tt) m, zero_at 2 1 3 (omega arith) (lit< tt) n)

  one_byte : LastSeven k → bits s i ≡ symbol_in s i
  unfolding bits symbol_in le8 le
  one_byte m =
      rw (
        zero_at 8 1 9 (omega arith) (lit< tt) m.0,
        zero_at 8 2 10 (omega arith) (lit< tt) m.1,
        zero_at 8 3 11 (omega arith) (lit< tt) m.2,
        zero_at 8 4 12 (omega arith) (lit< tt) m.3,
        zero_at 8 5 13 (omega arith) (lit< tt) m.4,
        zero_at 8 6 14 (omega arith) (lit< tt) m.5,
        zero_at 8 7 15 (omega arith) (lit< tt) m.6,
      ) (add-zero (get_or s (i * 16 + 8) 0))

  no_number : LastSeven k → may_be k 8 ≡ 0 → bits s i ≡ 0
  unfolding symbol_in
  no_number m z = one_byte m ∙ sound_byte s i h k 8 e (lit< tt) z

-- the record without a flaw, kind by kind
module _ (s : List ℕ) (i : ℕ) (b : Bytes s) (l : (i + 1) * 16 ≤ length s) (h : flaw s i ≡ sound) where
  record_of_lem : (k c v : ℕ) → kind s i ≡ k → count_in s i ≡ c → bits s i ≡ v → Stands s i (record_of k c (mark_in s i) v)
  record_of_lem k c v p q r = record {
    after = drop ((i + 1) * 16) s;
    there = rw (p, q, r) at (sound_record s i b l h);
  }

  pub sound_integer : kind s i ≡ 0 → Stands s i (record_of 0 0 (mark_in s i) (bits s i))
  unfolding may_be may_table
  sound_integer e = record_of_lem 0 0 (bits s i) e (no_count s i 0 h e refl refl) refl

  pub sound_symbol : kind s i ≡ 1 → Stands s i (record_of 1 0 (mark_in s i) (symbol_in s i))
  unfolding may_be may_table
  sound_symbol e =
      record_of_lem 1 0 (symbol_in s i) e (no_count s i 1 h e refl refl) (one_byte s i 1 h e (refl, refl, refl, refl, refl, refl, refl))

  pub sound_sum : kind s i ≡ 2 → Stands s i (record_of 2 (count_in s i) (mark_in s i) 0)
  unfolding may_be may_table
  sound_sum e = record_of_lem 2 (count_in s i) 0 e refl (no_number s i 2 h e (refl, refl, refl, refl, refl, refl, refl) refl)

  pub sound_product : kind s i ≡ 3 → Stands s i (record_of 3 (count_in s i) (mark_in s i) 0)
  unfolding may_be may_table
  sound_product e = record_of_lem 3 (count_in s i) 0 e refl (no_number s i 3 h e (refl, refl, refl, refl, refl, refl, refl) refl)

  pub sound_power : kind s i ≡ 4 → Stands s i (record_of 4 0 (mark_in s i) 0)
  unfolding may_be may_table
  sound_power e =
      record_of_lem 4 0 0 e (no_count s i 4 h e refl refl) (no_number s i 4 h e (refl, refl, refl, refl, refl, refl, refl) refl)
