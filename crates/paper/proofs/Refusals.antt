-- Refusals 1 to 5 are given exactly as the paper's table of refusals says, with the place that it names, the lowest number winning, and
-- 19 before them.
-- For each number the test and the place of the checker are shown to be the condition and the place in words; the checker goes
-- through the tests in order and stops at the first that holds.
use Prim.Native.Nat.{ℕ, zero, suc, ◌+◌, ◌-◌, ◌*◌, ◌/◌, ◌%◌, ◌^◌, ◌<◌, ◌≤◌, min}
use mathlib.Core.Path.{◌≡◌, refl, sym, ap, ◌∙◌, subst}
use mathlib.Core.Bool.{Bool, true, false, cond, ◌&&◌, ◌||◌, not}
use mathlib.Core.List.{List}
use mathlib.Core.Logic.{◌⊎◌, inl, inr, ◌↔◌}
use native.Mathlib.Nat.{eq-or-lt_of_le}
use native.Mathlib.Omega.{arith}
use borrow.Author.Tests.{eq-eqb, ne_eqb, lt-ltb, le-ltb, eqb-true, eqb-false, ltb-true, ltb-false, not-true}
use lib.Dec.{eqb, ltb, leb→le, le→leb, lit<, lit≤}
use lib.ListN.{length, get_or}
use lib.IntN.{pos, negsuc}
use lib.Signed.{◌≤ℤ◌}
use mir.Syntax.{w64}
use mir.Facts.{to_z_pos}
use Rattle.paper.specs.Limits.{is_limit, max_bytes}
use Rattle.paper.specs.Record.{kind, count_in, bits, may_be, stray, is_node, Flaw, sound, bad_kind, bad_byte, bad_count, flaw, is_flawed}
use Rattle.paper.specs.Verdict.{Verdict, told, refused, flawed, accepted, records_in, bad_length, first_flawed, table_weight, tree_end, is_positive}
use Rattle.paper.specs.Verdict.{bad_exponent, first_bad_exponent, judge_records, judged_table, verdict}
use Rattle.paper.specs.Refusals.{First, BadLength, is_zero, no_multiple, is_over, Flawed, kind_over, byte_other, count_under, Stray, Names, names_kind}
use Rattle.paper.specs.Refusals.{names_byte, names_count, Tells, BadShape, records_end, tree_ends, Exponent, after_base, AtLeastOne, Faulty, refusal_1}
use Rattle.paper.specs.Refusals.{refusal_2, refusal_3, refusal_4, refusal_5, Applies, of_records, refusal_19, rank, Lowest}
use Rattle.paper.proofs.Tests.{true_not_false, not_so, and_both, or_neither, or_either, or_left, or_right}
use Rattle.paper.proofs.EncodeLaws.{signed_negative}
use Rattle.paper.proofs.SpanLaws.{spans_end}
use Rattle.paper.proofs.FirstLaws.{All, all_one, all_both, first, first_true, first_before, first_is, first_flawed_lem, is_stray, first_stray}
use Rattle.paper.proofs.FirstLaws.{bad_exponent_first, bad_exponent_some}
use Rattle.paper.proofs.RecordLaws.{flawed_tests, positive_kind}

-- 1: a length is bad as the paper says
length_words : (lim : ℕ) (s : List ℕ) → bad_length lim (length s) ≡ true → BadLength lim s
unfolding bad_length
length_words lim s h = go (or_either (eqb m 0 || not (eqb (m % 16) 0)) (ltb (max_bytes lim) m) h)
  where
    m : ℕ
    m = length s

    either : (eqb m 0 ≡ true) ⊎ (not (eqb (m % 16) 0) ≡ true) → BadLength lim s
    either (inl e) = is_zero (eqb-true m 0 e)
    either (inr e) = no_multiple (λ k q. eqb-false (m % 16) 0 (not-true (eqb (m % 16) 0) e) (omega arith))

    go : ((eqb m 0 || not (eqb (m % 16) 0)) ≡ true) ⊎ (ltb (max_bytes lim) m ≡ true) → BadLength lim s
    go (inl e) = either (or_either (eqb m 0) (not (eqb (m % 16) 0)) e)
    go (inr e) = is_over (ltb-true (max_bytes lim) m e)

words_length : (lim : ℕ) (s : List ℕ) → BadLength lim s → bad_length lim (length s) ≡ true
unfolding bad_length
words_length lim s (is_zero e) = rw e
words_length lim s (no_multiple h) =
    let m = length s in
    let q : eqb (m % 16) 0 ≡ false = ne_eqb (m % 16) 0 (λ e. h (m / 16) (omega arith)) in
    or_left (eqb m 0 || not (eqb (m % 16) 0)) (ltb (max_bytes lim) m) (or_right (eqb m 0) (not (eqb (m % 16) 0)) (ap not q))
words_length lim s (is_over l) =
    let m = length s in
    or_right (eqb m 0 || not (eqb (m % 16) 0)) (ltb (max_bytes lim) m) (lt-ltb (max_bytes lim) m l)

-- 2: a record is flawed as the paper says
module _ (s : List ℕ) (i : ℕ) where
  over : Bool
  over = ltb 4 (kind s i)

  under : Bool
  under = is_node (kind s i) && ltb (count_in s i) 2

  at_byte : ℕ
  at_byte = stray s i (kind s i) 0 16

  three_tests : is_flawed (flaw s i) ≡ (over || ltb at_byte 16 || under)
  unfolding flaw over under at_byte
  three_tests = flawed_tests over (ltb at_byte 16) under at_byte

  -- the test of a byte
  stray_of : (j : ℕ) → j < 16 → is_stray s i (kind s i) j ≡ true → Stray s i j
  unfolding is_stray
  stray_of j l t =
      let p = and_both (not (eqb (get_or s (i * 16 + j) 0) 0)) (eqb (may_be (kind s i) j) 0) t in (
        l,
        eqb-false (get_or s (i * 16 + j) 0) 0 (not-true (eqb (get_or s (i * 16 + j) 0) 0) p.0),
        eqb-true (may_be (kind s i) j) 0 p.1,
      )

  -- the first stray byte is one, and comes no later than any
  stray_at : at_byte < 16 → Stray s i at_byte
  unfolding at_byte
  stray_at l =
      let q : at_byte ≡ first (is_stray s i (kind s i)) 0 16 = first_stray s i (kind s i) 0 16 in
      stray_of at_byte l (rw q (first_true (is_stray s i (kind s i)) 0 16 (omega arith)))

  stray_words : at_byte < 16 → Flawed s i
  stray_words l = let x = stray_at l in byte_other at_byte l x.1 x.2

  is_stray_lem : (j : ℕ) → Stray s i j → is_stray s i (kind s i) j ≡ true
  unfolding is_stray
  is_stray_lem j x = rw (ne_eqb (get_or s (i * 16 + j) 0) 0 x.1, eq-eqb (may_be (kind s i) j) 0 x.2)

  none_before : (j : ℕ) → j < at_byte → ¬ Stray s i j
  unfolding at_byte
  none_before j u x =
      let p = is_stray s i (kind s i) in
      let q : at_byte ≡ first p 0 16 = first_stray s i (kind s i) 0 16 in
      true_not_false (is_stray_lem j x) (first_before p 0 16 j (omega arith) (omega arith))

  words_stray : (j : ℕ) → j < 16 → ¬ (get_or s (i * 16 + j) 0 ≡ 0) → may_be (kind s i) j ≡ 0 → at_byte < 16
  unfolding at_byte is_stray
  words_stray j l x m = go (ltb at_byte 16) refl
    where
      p : ℕ → Bool
      p = is_stray s i (kind s i)

      q : at_byte ≡ first p 0 16
      q = first_stray s i (kind s i) 0 16

      t : p j ≡ true
      t = rw (ne_eqb (get_or s (i * 16 + j) 0) 0 x, eq-eqb (may_be (kind s i) j) 0 m)

      go : (b : Bool) → ltb at_byte 16 ≡ b → at_byte < 16
      go true e = ltb-true at_byte 16 e
      go false e = absurd (true_not_false t (first_before p 0 16 j (omega arith) (omega (arith, q, ltb-false at_byte 16 e))))

  node_words : is_node (kind s i) ≡ true → (kind s i ≡ 2) ⊎ (kind s i ≡ 3)
  unfolding is_node
  node_words e = go (or_either (eqb (kind s i) 2) (eqb (kind s i) 3) e)
    where
      go : (eqb (kind s i) 2 ≡ true) ⊎ (eqb (kind s i) 3 ≡ true) → (kind s i ≡ 2) ⊎ (kind s i ≡ 3)
      go (inl e) = inl (eqb-true (kind s i) 2 e)
      go (inr e) = inr (eqb-true (kind s i) 3 e)

  words_node : (kind s i ≡ 2) ⊎ (kind s i ≡ 3) → is_node (kind s i) ≡ true
  unfolding is_node
  words_node (inl e) = rw e
  words_node (inr e) = rw e

  flaw_words : is_flawed (flaw s i) ≡ true → Flawed s i
  unfolding over under
  flaw_words h = go (or_either (over || ltb at_byte 16) under (sym three_tests ∙ h))
    where
      first_two : (over ≡ true) ⊎ (ltb at_byte 16 ≡ true) → Flawed s i
      first_two (inl e) = kind_over (ltb-true 4 (kind s i) e)
      first_two (inr e) = stray_words (ltb-true at_byte 16 e)

      go : ((over || ltb at_byte 16) ≡ true) ⊎ (under ≡ true) → Flawed s i
      go (inl e) = first_two (or_either over (ltb at_byte 16) e)
      go (inr e) =
          let p = and_both (is_node (kind s i)) (ltb (count_in s i) 2) e in
          count_under (node_words p.0) (ltb-true (count_in s i) 2 p.1)

  pub words_flaw : Flawed s i → is_flawed (flaw s i) ≡ true
  unfolding over under
  words_flaw (kind_over l) = three_tests ∙ or_left (over || ltb at_byte 16) under (or_left over (ltb at_byte 16) (lt-ltb 4 (kind s i) l))
  words_flaw (byte_other j l x m) =
      three_tests ∙ or_left (over || ltb at_byte 16) under (or_right over (ltb at_byte 16) (lt-ltb at_byte 16 (words_stray j l x m)))
  words_flaw (count_under k l) =
      three_tests ∙ or_right (over || ltb at_byte 16) under (rw (words_node k, lt-ltb (count_in s i) 2 l))

  -- what is wrong with a flawed record is what the paper names
  flaw_names : is_flawed (flaw s i) ≡ true → Names s i (flaw s i)
  unfolding flaw over under at_byte is_flawed
  flaw_names h = go over refl (ltb at_byte 16) refl under refl h
    where
      go : (a : Bool) → over ≡ a → (b : Bool) → ltb at_byte 16 ≡ b → (c : Bool) → under ≡ c
          → is_flawed (cond a bad_kind (cond b (bad_byte at_byte) (cond c bad_count sound))) ≡ true
          → Names s i (cond a bad_kind (cond b (bad_byte at_byte) (cond c bad_count sound)))
      go true x b y c z h = names_kind (ltb-true 4 (kind s i) x)
      go false x true y c z h = names_byte (ltb-false 4 (kind s i) x) (stray_at (ltb-true at_byte 16 y), none_before)
      go false x false y true z h =
          let p = and_both (is_node (kind s i)) (ltb (count_in s i) 2) z in
          names_count (ltb-false 4 (kind s i) x) (λ j w. omega (arith, ltb-false at_byte 16 y, words_stray j w.0 w.1 w.2))
          (node_words p.0) (ltb-true (count_in s i) 2 p.1)
      go false x false y false z h = absurd (true_not_false h refl)

  -- and nothing else is named
  names_flaw : {f : Flaw} → Names s i f → flaw s i ≡ f
  unfolding flaw over under at_byte
  names_flaw (names_kind l) = rw (lt-ltb 4 (kind s i) l)
  names_flaw (names_byte {j} k h) =
      let p = is_stray s i (kind s i) in
      let q : at_byte ≡ j =
      first_stray s i (kind s i) 0 16
      ∙ first_is p 0 16 j (omega arith) (omega (arith, h.0.0))
      (λ m u v. not_so (p m) (λ e. h.1 m v (stray_of m (omega (arith, h.0.0)) e))) (λ l. is_stray_lem j h.0) in
      rw (le-ltb 4 (kind s i) k, q, lt-ltb j 16 h.0.0)
  names_flaw (names_count k h n c) =
      rw (
        le-ltb 4 (kind s i) k,
        not_so (ltb at_byte 16) (λ e. h at_byte (stray_at (ltb-true at_byte 16 e))),
        words_node n,
        lt-ltb (count_in s i) 2 c,
      )

-- and the first flawed record is the first such
flawed_words : (s : List ℕ) (n p : ℕ) → first_flawed s 0 n < n → first_flawed s 0 n ≡ p → First (λ i. (i < n) × Flawed s i) p
flawed_words s n p l e =
    let t : ℕ → Bool = λ j. is_flawed (flaw s j) in
    let q : first t 0 n ≡ p = sym (first_flawed_lem s 0 n) ∙ e in (
      (omega arith, flaw_words s p (rw q at (first_true t 0 n (omega arith)))),
      λ j u x. true_not_false (words_flaw s j x.1) (first_before t 0 n j (omega arith) (omega arith)),
    )

words_flawed : (s : List ℕ) (n p : ℕ) → First (λ i. (i < n) × Flawed s i) p → first_flawed s 0 n ≡ p
words_flawed s n p h =
    first_flawed_lem s 0 n
    ∙ first_is (λ j. is_flawed (flaw s j)) 0 n p (omega arith) (omega (arith, h.0.0))
    (λ j u v. not_so (is_flawed (flaw s j)) (λ e. h.1 j v (omega (arith, h.0.0), flaw_words s j e)))
    (λ l. words_flaw s p h.0.1)

-- 4: where the tree that begins the records ends
shape_words : (s : List ℕ) (n p : ℕ) → ¬ (tree_end s n 0 ≡ n) → min (tree_end s n 0) n ≡ p → BadShape s n p
shape_words s n p h q = go (ltb n (tree_end s n 0)) refl
  where
    go : (b : Bool) → ltb n (tree_end s n 0) ≡ b → BadShape s n p
    go true e =
        let l = ltb-true n (tree_end s n 0) e in
        records_end (λ x a. let y = (spans_end s n 0 x (omega arith)).0 a in omega (arith, y.0, y.1)) (omega arith)
    go false e =
        let l = ltb-false n (tree_end s n 0) e in
        tree_ends ((spans_end s n 0 p (omega arith)).1 (omega arith, omega arith)) (omega arith)

words_shape : (s : List ℕ) (n p : ℕ) → BadShape s n p → (¬ (tree_end s n 0 ≡ n)) × (min (tree_end s n 0) n ≡ p)
words_shape s n p (records_end h q) = go (ltb n (tree_end s n 0)) refl
  where
    go : (b : Bool) → ltb n (tree_end s n 0) ≡ b → (¬ (tree_end s n 0 ≡ n)) × (min (tree_end s n 0) n ≡ p)
    go true e = let l = ltb-true n (tree_end s n 0) e in omega arith
    go false e = absurd (h (tree_end s n 0) ((spans_end s n 0 (tree_end s n 0) (omega arith)).1 (refl, ltb-false n (tree_end s n 0) e)))
words_shape s n p (tree_ends h l) = let x = (spans_end s n 0 p (omega arith)).0 h in omega (arith, x.0)

-- 5: "an integer record of at least 1"
positive_words : (s : List ℕ) (e : ℕ) → is_positive s e ≡ true → AtLeastOne s e
positive_words s e h =
    let p = positive_kind s e h in
    (p.0, rw (to_z_pos w64 {n = bits s e} p.2) (record { le = le→leb 1 (bits s e) p.1 }))

words_positive : (s : List ℕ) (e : ℕ) → AtLeastOne s e → is_positive s e ≡ true
unfolding is_positive
words_positive s e h = go (ltb (bits s e) (2 ^ 63)) refl
  where
    go : (b : Bool) → ltb (bits s e) (2 ^ 63) ≡ b → is_positive s e ≡ true
    go true q =
        let z : pos 1 ≤ℤ pos (bits s e) = rw (to_z_pos w64 {n = bits s e} (ltb-true (bits s e) (2 ^ 63) q)) at h.1 in
        rw (h.0, lt-ltb 0 (bits s e) (leb→le 1 (bits s e) z.le), q)
    go false q =
        let z : pos 1 ≤ℤ negsuc (2 ^ 64 - suc (bits s e)) = rw (signed_negative (bits s e) (ltb-false (bits s e) (2 ^ 63) q)) at h.1 in
        absurd z.le

-- e is an exponent that is no such record
abbrev BadExponent : List ℕ → ℕ → ℕ → Type 0
BadExponent s n e = Exponent s n e × ¬ AtLeastOne s e

-- the exponent that belongs to record i
exponent_words : (s : List ℕ) (n i : ℕ) → i < n → bad_exponent s n i < n → BadExponent s n (bad_exponent s n i)
unfolding bad_exponent
exponent_words s n i u l = go (eqb (kind s i) 4) refl (ltb e n) refl (is_positive s e) refl l
  where
    e : ℕ
    e = tree_end s n (i + 1)

    go : (a : Bool) → eqb (kind s i) 4 ≡ a → (b : Bool) → ltb e n ≡ b → (c : Bool) → is_positive s e ≡ c
        → cond a (cond (b && not c) e n) n < n → BadExponent s n (cond a (cond (b && not c) e n) n)
    go true k true v false x l =
        let v' = ltb-true e n v in (
          after_base i u (eqb-true (kind s i) 4 k) ((spans_end s n (i + 1) e (omega arith)).1 (refl, omega arith)) v',
          λ y. true_not_false (words_positive s e y) x,
        )
    go true k true v true x l = absurd (omega arith)
    go true k false v c x l = absurd (omega arith)
    go false k b v c x l = absurd (omega arith)

words_exponent : (s : List ℕ) (n e : ℕ) → BadExponent s n e → (i : ℕ) × (i < n) × (bad_exponent s n i ≡ e)
unfolding bad_exponent
words_exponent s n e h = go h.0
  where
    bad : is_positive s e ≡ false
    bad = not_so (is_positive s e) (λ p. h.1 (positive_words s e p))

    go : Exponent s n e → (i : ℕ) × (i < n) × (bad_exponent s n i ≡ e)
    go (after_base i u k a l) =
        let q : tree_end s n (i + 1) ≡ e = ((spans_end s n (i + 1) e (omega arith)).0 a).0 in
        (i, u, rw (k, q, lt-ltb e n l, bad))

-- and the first bad exponent is the first such
exponents_words : (s : List ℕ) (n p : ℕ) → first_bad_exponent s n 0 n < n → first_bad_exponent s n 0 n ≡ p → First (BadExponent s n) p
exponents_words s n p l q =
    let r = bad_exponent_some s n 0 n l in
    let b : bad_exponent s n r.0 ≡ p = r.3 ∙ q in (
      rw b at (exponent_words s n r.0 (omega (arith, r.2)) (omega arith)),
      λ j v x. let y = words_exponent s n j x in
          omega (arith, y.2, bad_exponent_first s n 0 n y.0 (omega arith) (omega (arith, y.1))),
    )

exponent_lt : (s : List ℕ) (n e : ℕ) → Exponent s n e → e < n
exponent_lt s n e (after_base i u k a l) = l

words_exponents : (s : List ℕ) (n p : ℕ) → First (BadExponent s n) p → (first_bad_exponent s n 0 n < n) × (first_bad_exponent s n 0 n ≡ p)
words_exponents s n p h = (small, go (eq-or-lt_of_le none_before))
  where
    q : ℕ
    q = first_bad_exponent s n 0 n

    none_before : q ≤ p
    none_before =
        let y = words_exponent s n p h.0 in
        omega (arith, y.2, bad_exponent_first s n 0 n y.0 (omega arith) (omega (arith, y.1)))

    small : q < n
    small = omega (arith, none_before, exponent_lt s n p h.0.0)

    go : (q ≡ p) ⊎ (q < p) → q ≡ p
    go (inl e) = e
    go (inr l) = absurd (h.1 q l (exponents_words s n q small refl).0)

-- the checker's five tests and places, by number, and what they say of a record
test : ℕ → List ℕ → ℕ → Bool
test lim s zero = false
test lim s (suc zero) = bad_length lim (length s)
test lim s (suc (suc zero)) = ltb (first_flawed s 0 (records_in s)) (records_in s)
test lim s (suc (suc (suc zero))) = ltb lim (table_weight s)
test lim s (suc (suc (suc (suc zero)))) = not (eqb (tree_end s (records_in s) 0) (records_in s))
test lim s (suc (suc (suc (suc (suc zero))))) = ltb (first_bad_exponent s (records_in s) 0 (records_in s)) (records_in s)
test lim s (suc (suc (suc (suc (suc (suc k)))))) = false

place : List ℕ → ℕ → ℕ
place s zero = 0
place s (suc zero) = 0
place s (suc (suc zero)) = first_flawed s 0 (records_in s)
place s (suc (suc (suc zero))) = 0
place s (suc (suc (suc (suc zero)))) = min (tree_end s (records_in s) 0) (records_in s)
place s (suc (suc (suc (suc (suc zero))))) = first_bad_exponent s (records_in s) 0 (records_in s)
place s (suc (suc (suc (suc (suc (suc k)))))) = 0

what : List ℕ → ℕ → Flaw
what s zero = sound
what s (suc zero) = sound
what s (suc (suc zero)) = flaw s (first_flawed s 0 (records_in s))
what s (suc (suc (suc k))) = sound

-- the test of number k holds exactly when refusal k applies, at its place
test_words : (lim : ℕ) (s : List ℕ) (k : ℕ) → test lim s k ≡ true → Faulty lim s k (place s k)
unfolding test place
test_words lim s zero h = absurd (true_not_false h refl)
test_words lim s (suc zero) h = refusal_1 (length_words lim s h)
test_words lim s (suc (suc zero)) h =
    refusal_2 (flawed_words s (records_in s) (first_flawed s 0 (records_in s)) (ltb-true (first_flawed s 0 (records_in s)) (records_in s) h) refl)
test_words lim s (suc (suc (suc zero))) h = refusal_3 (ltb-true lim (table_weight s) h)
test_words lim s (suc (suc (suc (suc zero)))) h =
    let n = records_in s in
    refusal_4 (shape_words s n (min (tree_end s n 0) n) (eqb-false (tree_end s n 0) n (not-true (eqb (tree_end s n 0) n) h)) refl)
test_words lim s (suc (suc (suc (suc (suc zero))))) h =
    let n = records_in s in
    refusal_5 (exponents_words s n (first_bad_exponent s n 0 n) (ltb-true (first_bad_exponent s n 0 n) n h) refl)
test_words lim s (suc (suc (suc (suc (suc (suc k)))))) h = absurd (true_not_false h refl)

words_test : (lim : ℕ) (s : List ℕ) (k p : ℕ) → Faulty lim s k p → (test lim s k ≡ true) × (place s k ≡ p) × (0 < k) × (k < 6)
unfolding test place
words_test lim s k p (refusal_1 h) = (words_length lim s h, refl, lit< tt, lit< tt)
words_test lim s k p (refusal_2 {p = q} h) =
    let n = records_in s in
    let e : first_flawed s 0 n ≡ q = words_flawed s n q h in
    (lt-ltb (first_flawed s 0 n) n (omega (arith, h.0.0)), e, lit< tt, lit< tt)
words_test lim s k p (refusal_3 h) = (lt-ltb lim (table_weight s) h, refl, lit< tt, lit< tt)
words_test lim s k p (refusal_4 {p = q} h) =
    let n = records_in s in
    let e = words_shape s n q h in
    (ap not (ne_eqb (tree_end s n 0) n e.0), e.1, lit< tt, lit< tt)
words_test lim s k p (refusal_5 {p = q} h) =
    let n = records_in s in
    let e = words_exponents s n q h in
    (lt-ltb (first_bad_exponent s n 0 n) n e.0, e.1, lit< tt, lit< tt)

-- tests in order: the first that holds gives its number, its place, and what it says
module _ (t : ℕ → Bool) (at : ℕ → ℕ) (of : ℕ → Flaw) where
  unfoldable pub ladder : ℕ → ℕ → Verdict
  ladder zero i = accepted
  ladder (suc f) i = cond (t i) (told i (at i) (of i)) (ladder f (i + 1))

  abbrev pub Rung : ℕ → ℕ → ℕ → Flaw → Type 0
  Rung i k p g = (t k ≡ true) × (at k ≡ p) × All (λ j. t j ≡ false) i k × (of k ≡ g)

  pub ladder_down : (f i k p : ℕ) (g : Flaw) → 0 < k → ladder f i ≡ told k p g → Rung i k p g
  unfolding ladder
  ladder_down zero i k p g l e = absurd (omega (arith, ap (λ (v : Verdict). v.number) e))
  ladder_down (suc f) i k p g l e = go (t i) refl (ladder_down f (i + 1) k p g l) e
    where
      go : (b : Bool) → t i ≡ b → (ladder f (i + 1) ≡ told k p g → Rung (i + 1) k p g)
          → cond b (told i (at i) (of i)) (ladder f (i + 1)) ≡ told k p g → Rung i k p g
      go true b ih e =
          let n : i ≡ k = ap (λ (v : Verdict). v.number) e in
          let q : at i ≡ p = ap (λ (v : Verdict). v.place) e in
          let w : of i ≡ g = ap (λ (v : Verdict). v.flaw) e in
          (subst (λ (x : ℕ). t x ≡ true) n b, subst (λ (x : ℕ). at x ≡ p) n q, λ j u v. absurd (omega arith), subst (λ (x : ℕ). of x ≡ g) n w)
      go false b ih e =
          let r = ih e in
          (r.0, r.1, all_both (λ j. t j ≡ false) i (i + 1) k (all_one (λ j. t j ≡ false) i b) r.2, r.3)

  pub ladder_up : (f i k : ℕ) → i ≤ k → k < i + f → t k ≡ true → All (λ j. t j ≡ false) i k → ladder f i ≡ told k (at k) (of k)
  unfolding ladder
  ladder_up zero i k u v h a = absurd (omega arith)
  ladder_up (suc f) i k u v h a = go (t i) refl (eq-or-lt_of_le u) (λ l. ladder_up f (i + 1) k l (omega arith) h (λ j x y. a j (omega arith) y))
    where
      go : (b : Bool) → t i ≡ b → (i ≡ k) ⊎ (i < k) → (i + 1 ≤ k → ladder f (i + 1) ≡ told k (at k) (of k))
          → cond b (told i (at i) (of i)) (ladder f (i + 1)) ≡ told k (at k) (of k)
      go true e (inl q) ih = ap (λ (x : ℕ). told x (at x) (of x)) q
      go true e (inr l) ih = absurd (true_not_false e (a i (omega arith) l))
      go false e (inl q) ih = absurd (true_not_false h (subst (λ (x : ℕ). t x ≡ false) q e))
      go false e (inr l) ih = ih (omega arith)

  pub none_holds : (f i : ℕ) → 0 < i → ladder f i ≡ accepted → All (λ j. t j ≡ false) i (i + f)
  unfolding ladder
  none_holds zero i l e = λ j u v. absurd (omega arith)
  none_holds (suc f) i l e = go (t i) refl (none_holds f (i + 1) (omega arith)) e
    where
      go : (b : Bool) → t i ≡ b → (ladder f (i + 1) ≡ accepted → All (λ j. t j ≡ false) (i + 1) (i + 1 + f))
          → cond b (told i (at i) (of i)) (ladder f (i + 1)) ≡ accepted → All (λ j. t j ≡ false) i (i + suc f)
      go true b ih e = absurd (omega (arith, ap (λ (v : Verdict). v.number) e))
      go false b ih e =
          let q : i + suc f ≡ i + 1 + f = omega arith in
          rw q (all_both (λ j. t j ≡ false) i (i + 1) (i + 1 + f) (all_one (λ j. t j ≡ false) i b) (ih e))

  pub holds_none : (f i : ℕ) → All (λ j. t j ≡ false) i (i + f) → ladder f i ≡ accepted
  unfolding ladder
  holds_none zero i a = refl
  holds_none (suc f) i a = rw (a i (omega arith) (omega arith)) (holds_none f (i + 1) (λ j u v. a j (omega arith) (omega arith)))

  -- whatever the tests, the number tells the rest
  pub ladder_told : at 0 ≡ 0 → of 0 ≡ sound → (f i : ℕ) → let n = (ladder f i).number in ladder f i ≡ told n (at n) (of n)
  unfolding ladder
  ladder_told a o zero i = rw (a, o) refl
  ladder_told a o (suc f) i = go (t i) (ladder_told a o f (i + 1))
    where
      go : (b : Bool) → (let n = (ladder f (i + 1)).number in ladder f (i + 1) ≡ told n (at n) (of n))
          → let v = cond b (told i (at i) (of i)) (ladder f (i + 1)) in v ≡ told v.number (at v.number) (of v.number)
      go true h = refl
      go false h = h

-- the checker is these five tests in order
table_ladder : (lim : ℕ) (s : List ℕ) → judged_table lim s ≡ ladder (test lim s) (place s) (what s) 5 1
unfolding judged_table judge_records table_weight ladder test place what
table_ladder lim s = refl

-- so the number tells the rest, whatever the limit; 6, too, has nothing more to say
pub numbered : List ℕ → ℕ → Verdict
numbered s k = told k (place s k) (what s k)

pub numbered_plain : (s : List ℕ) → (numbered s 0 ≡ accepted) × (numbered s 6 ≡ refused 6 0)
unfolding numbered place what
numbered_plain s = (refl, refl)

pub table_numbered : (lim : ℕ) (s : List ℕ) → judged_table lim s ≡ numbered s (judged_table lim s).number
unfolding numbered place what
table_numbered lim s = rw (table_ladder lim s) (ladder_told (test lim s) (place s) (what s) refl refl 5 1)

-- what the test of number k says of a record
tells_what : (lim : ℕ) (s : List ℕ) (k : ℕ) → test lim s k ≡ true → Tells s (told k (place s k) (what s k))
unfolding test place what
tells_what lim s zero h = absurd (true_not_false h refl)
tells_what lim s (suc zero) h = (λ e. absurd (omega arith), λ n. refl)
tells_what lim s (suc (suc zero)) h =
    let n = records_in s in
    let t : ℕ → Bool = λ j. is_flawed (flaw s j) in
    let q : first t 0 n ≡ first_flawed s 0 n = sym (first_flawed_lem s 0 n) in
    let l = ltb-true (first_flawed s 0 n) n h in
    (λ e. flaw_names s (first_flawed s 0 n) (rw q at (first_true t 0 n (omega arith))), λ n. absurd (n refl))
tells_what lim s (suc (suc (suc k))) h = (λ e. absurd (omega arith), λ n. refl)

-- and nothing else is told
what_told : (s : List ℕ) (k p : ℕ) (f : Flaw) → place s k ≡ p → Tells s (told k p f) → what s k ≡ f
unfolding place what
what_told s zero p f e h = sym (h.1 (λ e. omega arith))
what_told s (suc zero) p f e h = sym (h.1 (λ e. omega arith))
what_told s (suc (suc zero)) p f e h = ap (flaw s) e ∙ names_flaw s p (h.0 refl)
what_told s (suc (suc (suc k))) p f e h = sym (h.1 (λ e. omega arith))

-- the numbers of the table are ranked as they come
pub rank_small : (k : ℕ) → k < 8 → rank k ≡ k + 2
unfolding rank
rank_small k h = rw (ne_eqb k 19 (λ e. omega arith), ne_eqb k 9 (λ e. omega arith), ne_eqb k 8 (λ e. omega arith))

-- 1 to 5 are given exactly as the paper's table says, at the place that it says, and tells what is wrong with the record
table_exactly : (lim : ℕ) (s : List ℕ) (v : Verdict) → 0 < v.number → (judged_table lim s ≡ v) ↔ (Lowest (Faulty lim s) v.number v.place × Tells s v)
table_exactly lim s v l = (down, λ h. up h.0 h.1)
  where
    k : ℕ
    k = v.number

    p : ℕ
    p = v.place

    down : judged_table lim s ≡ v → Lowest (Faulty lim s) k p × Tells s v
    down h =
        let r = ladder_down (test lim s) (place s) (what s) 5 1 k p v.flaw l (sym (table_ladder lim s) ∙ h) in
        let z = words_test lim s k (place s k) (test_words lim s k r.0) in (
          record {
            given = subst (λ (q : ℕ). Faulty lim s k q) r.1 (test_words lim s k r.0);
            lowest = λ j q u x. let y = words_test lim s j q x in
                true_not_false y.0 (r.2 j y.2 (omega (arith, z.3, y.3, rank_small j (omega arith), rank_small k (omega arith))));
          },
          rw (r.1, r.3) at (tells_what lim s k r.0),
        )

    up : Lowest (Faulty lim s) k p → Tells s v → judged_table lim s ≡ v
    up h w =
        let y = words_test lim s k p h.given in
        table_ladder lim s
        ∙ ladder_up (test lim s) (place s) (what s) 5 1 k y.2 y.3 y.0
        (λ j u v. not_so (test lim s j)
        (λ e. h.lowest j (place s j) (omega (arith, rank_small j (omega (arith, y.3)), rank_small k (omega (arith, y.3)))) (test_words lim s j e)))
        ∙ ap (λ (q : ℕ). told k q (what s k)) y.1
        ∙ ap (told k p) (what_told s k p v.flaw y.1 w)

-- and none is given exactly when none applies
table_accepted : (lim : ℕ) (s : List ℕ) → (judged_table lim s ≡ accepted) ↔ ((k p : ℕ) → ¬ Faulty lim s k p)
table_accepted lim s = (
  λ h k p x. let y = words_test lim s k p x in
      true_not_false y.0 (none_holds (test lim s) (place s) (what s) 5 1 (lit< tt) (sym (table_ladder lim s) ∙ h) k y.2 y.3),
  λ h. table_ladder lim s ∙ holds_none (test lim s) (place s) (what s) 5 1 (λ j u v. not_so (test lim s j) (λ e. h j (place s j) (test_words lim s j e))),
)

-- ---- 19 comes before these: a limit is unknown as the paper says
pub unknown_limit : (lim : ℕ) → is_limit lim ≡ false → (¬ (lim ≡ 3072)) × (¬ (lim ≡ 16384))
unfolding is_limit
unknown_limit lim h = let x = or_neither (eqb lim 3072) (eqb lim 16384) h in (eqb-false lim 3072 x.0, eqb-false lim 16384 x.1)

pub limit_unknown : (lim : ℕ) → ¬ (lim ≡ 3072) → ¬ (lim ≡ 16384) → is_limit lim ≡ false
unfolding is_limit
limit_unknown lim h g = rw (ne_eqb lim 3072 h, ne_eqb lim 16384 g)

-- nothing is ranked before 19
pub nineteen_first : {A : Type 0} (j : ℕ) → rank j < rank 19 → A
unfolding rank
nineteen_first j u = absurd (omega arith)

pub faulty_within : {lim : ℕ} {s : List ℕ} {k p : ℕ} → Faulty lim s k p → (1 ≤ k) × (k ≤ 5)
faulty_within (refusal_1 h) = (lit≤ tt, lit≤ tt)
faulty_within (refusal_2 h) = (lit≤ tt, lit≤ tt)
faulty_within (refusal_3 h) = (lit≤ tt, lit≤ tt)
faulty_within (refusal_4 h) = (lit≤ tt, lit≤ tt)
faulty_within (refusal_5 h) = (lit≤ tt, lit≤ tt)

pub nineteen_under : (k : ℕ) → k ≤ 9 → rank 19 < rank k
unfolding rank
nineteen_under k h = go (eqb k 9) (eqb k 8) (ne_eqb k 19 (λ e. omega arith))
  where
    go : (a b : Bool) → eqb k 19 ≡ false → 0 < cond (eqb k 19) 0 (cond a 1 (cond b 2 (k + 2)))
    go true b e = rw e (lit< tt)
    go false true e = rw e (lit< tt)
    go false false e = rw e (omega arith)

module _ (lim : ℕ) (s : List ℕ) where
  -- at a known limit a refusal is one of 1 to 5
  pub of_known : is_limit lim ≡ true → {k p : ℕ} → Applies lim s k p → Faulty lim s k p
  of_known n (of_records x) = x
  of_known n (refusal_19 x y) = absurd (true_not_false n (limit_unknown lim x y))

  of_unknown : is_limit lim ≡ false → Applies lim s 19 0
  of_unknown n = let w = unknown_limit lim n in refusal_19 w.0 w.1

  -- the checker refuses exactly as the papers say, at the place that they say, and tells what is wrong with the record
  pub verdict_exactly : (v : Verdict) → 0 < v.number → (verdict lim s ≡ v) ↔ (Lowest (Applies lim s) v.number v.place × Tells s v)
  unfolding verdict
  verdict_exactly v z = (λ e. down (is_limit lim) refl e, λ h. up (is_limit lim) refl v.flaw h.0.given h.0.lowest h.1)
    where
      down : (b : Bool) → is_limit lim ≡ b → cond b (judged_table lim s) (refused 19 0) ≡ v → Lowest (Applies lim s) v.number v.place × Tells s v
      down true n e =
          let h = (table_exactly lim s v z).0 e in
          (record { given = of_records h.0.given; lowest = λ j q u x. h.0.lowest j q u (of_known n x) }, h.1)
      down false n e =
          subst (λ (w : Verdict). Lowest (Applies lim s) w.number w.place × Tells s w) e (
            record { given = of_unknown n; lowest = λ j q u x. nineteen_first j u },
            (λ e. absurd (omega arith), λ e. refl),
          )

      up : (b : Bool) → is_limit lim ≡ b → {k p : ℕ} (f : Flaw) → Applies lim s k p → ((j q : ℕ) → rank j < rank k → ¬ Applies lim s j q)
          → Tells s (told k p f) → cond (is_limit lim) (judged_table lim s) (refused 19 0) ≡ told k p f
      up true n {k} {p} f (of_records x) h w =
          rw n ((table_exactly lim s (told k p f) (faulty_within x).0).1 (record { given = x; lowest = λ j q u y. h j q u (of_records y) }, w))
      up true n f (refusal_19 x y) h w = absurd (true_not_false n (limit_unknown lim x y))
      up false n f (of_records {k = k} x) h w = absurd (h 19 0 (nineteen_under k (omega (arith, (faulty_within x).1))) (of_unknown n))
      up false n f (refusal_19 x y) h w = rw n (ap (told 19 0) (sym (w.1 (λ e. omega arith))))

  -- and none is given exactly when none applies
  pub accepted_exactly : (verdict lim s ≡ accepted) ↔ ((k p : ℕ) → ¬ Applies lim s k p)
  unfolding verdict
  accepted_exactly = (λ e. down (is_limit lim) refl e, λ h. up (is_limit lim) refl h)
    where
      down : (b : Bool) → is_limit lim ≡ b → cond b (judged_table lim s) (refused 19 0) ≡ accepted → (k p : ℕ) → ¬ Applies lim s k p
      down true n e k p x = (table_accepted lim s).0 e k p (of_known n x)
      down false n e k p x = omega (arith, ap (λ (v : Verdict). v.number) e)

      up : (b : Bool) → is_limit lim ≡ b → ((k p : ℕ) → ¬ Applies lim s k p) → cond (is_limit lim) (judged_table lim s) (refused 19 0) ≡ accepted
      up true n h = rw n ((table_accepted lim s).1 (λ k p x. h k p (of_records x)))
      up false n h = absurd (h 19 0 (of_unknown n))

-- a refusal's number and place by themselves
pub refusal_exactly : (lim : ℕ) (s : List ℕ) (k p : ℕ) → 0 < k → (((verdict lim s).number ≡ k) × ((verdict lim s).place ≡ p)) ↔ Lowest (Applies lim s) k p
refusal_exactly lim s k p l = (down, up)
  where
    down : ((verdict lim s).number ≡ k) × ((verdict lim s).place ≡ p) → Lowest (Applies lim s) k p
    down h = rw (h.0, h.1) at ((verdict_exactly lim s (verdict lim s) (omega (arith, h.0))).0 refl).0

    both : (f : Flaw) → verdict lim s ≡ told k p f → ((verdict lim s).number ≡ k) × ((verdict lim s).place ≡ p)
    both f e = (ap (λ (v : Verdict). v.number) e, ap (λ (v : Verdict). v.place) e)

    tells : {j q : ℕ} → Applies lim s j q → (f : Flaw) × Tells s (told j q f)
    tells {j} {q} (of_records x) =
        let y = words_test lim s j q x in
        (what s j, rw y.1 at (tells_what lim s j y.0))
    tells (refusal_19 x y) = (sound, (λ e. absurd (omega arith), λ e. refl))

    up : Lowest (Applies lim s) k p → ((verdict lim s).number ≡ k) × ((verdict lim s).place ≡ p)
    up h = let t = tells h.given in both t.0 ((verdict_exactly lim s (told k p t.0) l).1 (h, t.1))

-- "The judgement of a single record should name what is wrong"
pub flaw_exactly : (lim : ℕ) (s : List ℕ) (p : ℕ) (f : Flaw) → (verdict lim s ≡ flawed p f) ↔ (Lowest (Applies lim s) 2 p × Names s p f)
flaw_exactly lim s p f =
    let w = verdict_exactly lim s (flawed p f) (lit< tt) in (
      λ e. let x = w.0 e in (x.0, x.1.0 refl),
      λ h. w.1 (h.0, (λ e. h.1, λ n. absurd (n refl))),
    )
