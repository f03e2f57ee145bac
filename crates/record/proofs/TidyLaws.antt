-- A record that is tidy has no stray byte. Its first half being the kind, the count and the mark, bytes 1, 6 and 7 are zero, and 2 and 3
-- too where there is no count; its second half being below the room that its kind has, the bytes past that room are zero. So the search
-- passes stretches of zeros and stretches that may be other than zero, up to the end.
use Prim.Native.Nat.{ℕ, zero, suc, ◌+◌, ◌-◌, ◌*◌, ◌<◌, ◌≤◌}
use mathlib.Core.Path.{◌≡◌, refl, ◌∙◌}
use mathlib.Core.Bool.{Bool, true, false, cond, ◌&&◌, ◌||◌, not}
use mathlib.Core.List.{List, [], ◌∷◌}
use native.Mathlib.Nat.{add_assoc}
use native.Mathlib.Omega.{arith}
use borrow.Author.Tests.{eqb-true, ltb-true, eqb-false}
use lib.Dec.{eqb, ltb}
use lib.ListN.{get_or}
use Rattle.paper.specs.Bytes.{le, le2, le8}
use Rattle.paper.specs.Record.{count_in, mark_in, bits, is_node, may_table, may_be, stray}
use Rattle.paper.proofs.Tests.{and_both, true_not_false}
use Rattle.record.specs.Tidy.{front, is_tidy}
use Rattle.record.proofs.StrayLaws.{stray_zero, stray_free, stray_done}

-- the n bytes from byte j on of a record of kind k may all be other than zero
unfoldable all_may : ℕ → ℕ → ℕ → Bool
all_may k j zero = true
all_may k j (suc n) = not (eqb (may_be k j) 0) && all_may k (j + 1) n

module _ (s : List ℕ) (i : ℕ) where
  -- the n bytes from byte j on
  unfoldable window : ℕ → ℕ → List ℕ
  window j zero = []
  window j (suc n) = get_or s (i * 16 + j) 0 ∷ window (j + 1) n

  -- where bytes j to e are zero, the search goes on at e
  zeros : (k n j e : ℕ) → j + n ≡ e → e ≤ 16 → le (window j n) ≡ 0 → stray s i k j (16 - j) ≡ stray s i k e (16 - e)
  unfolding window le
  zeros k zero j e q h z = let p : j ≡ e = omega arith in rw p refl
  zeros k (suc n) j e q h z =
      stray_zero s i k j (omega arith) (omega (arith, z)) ∙ zeros k n (j + 1) e (omega arith) h (omega (arith, z))

  -- and where they may be other than zero
  free : (k n j e : ℕ) → j + n ≡ e → e ≤ 16 → all_may k j n ≡ true → stray s i k j (16 - j) ≡ stray s i k e (16 - e)
  unfolding all_may
  free k zero j e q h m = let p : j ≡ e = omega arith in rw p refl
  free k (suc n) j e q h m =
      let b = and_both (not (eqb (may_be k j) 0)) (all_may k (j + 1) n) m in
      passes (eqb (get_or s (i * 16 + j) 0) 0) refl b.0 ∙ free k n (j + 1) e (omega arith) h b.1
    where
      other : (a : Bool) → eqb (may_be k j) 0 ≡ a → not a ≡ true → may_be k j ≡ 0 → ⊥
      other true z f = absurd (true_not_false f refl)
      other false z f = eqb-false _ 0 z

      passes : (a : Bool) → eqb (get_or s (i * 16 + j) 0) 0 ≡ a → not (eqb (may_be k j) 0) ≡ true
          → stray s i k j (16 - j) ≡ stray s i k (j + 1) (16 - (j + 1))
      passes true z f = stray_zero s i k j (omega arith) (eqb-true _ 0 z)
      passes false z f = stray_free s i k j (omega arith) (eqb-false _ 0 z) (other (eqb (may_be k j) 0) refl f)

  -- the first half of a record without a count, and of one with a count
  bare_front : (k : ℕ) → k < 5 → le8 s (i * 16) ≡ k + mark_in s i * 4294967296 → (le (window 1 3) ≡ 0) × (le (window 6 2) ≡ 0)
  unfolding le8 le le2 mark_in window
  bare_front k h e =
      let q : get_or s (i * 16) 0 + 256 * (get_or s (i * 16 + 1) 0 + 256 * (get_or s (i * 16 + 2) 0 + 256 * (get_or s (i * 16 + 3) 0
      + 256 * (get_or s (i * 16 + 4) 0 + 256 * (get_or s (i * 16 + 5) 0 + 256 * le (window 6 2))))))
      ≡ k + (get_or s (i * 16 + 4) 0 + 256 * (get_or s (i * 16 + 5) 0 + 256 * 0)) * 4294967296 = simp add_assoc at e in
      (omega (arith, q), omega (arith, q))

  counted_front : (k : ℕ) → k < 5 → le8 s (i * 16) ≡ k + count_in s i * 65536 + mark_in s i * 4294967296
      → (le (window 1 1) ≡ 0) × (le (window 6 2) ≡ 0)
  unfolding le8 le count_in mark_in le2 window
  counted_front k h e =
      let q : get_or s (i * 16) 0 + 256 * (get_or s (i * 16 + 1) 0 + 256 * (get_or s (i * 16 + 2) 0 + 256 * (get_or s (i * 16 + 3) 0
      + 256 * (get_or s (i * 16 + 4) 0 + 256 * (get_or s (i * 16 + 5) 0 + 256 * le (window 6 2))))))
      ≡ k + ((get_or s (i * 16 + 2) 0 + 256 * (get_or s (i * 16 + 3) 0 + 256 * 0)) * 65536
      + (get_or s (i * 16 + 4) 0 + 256 * (get_or s (i * 16 + 5) 0 + 256 * 0)) * 4294967296) = simp add_assoc at e in
      (omega (arith, q), omega (arith, q))

  -- the second half, where it is one byte, and where it is nothing
  one_byte : bits s i < 256 → le (window 9 7) ≡ 0
  unfolding bits le8 le window
  one_byte h = let q : get_or s (i * 16 + 8) 0 + 256 * le (window 9 7) < 256 = simp add_assoc at h in omega (arith, q)

  no_byte : bits s i < 1 → le (window 8 8) ≡ 0
  unfolding bits le8 le window
  no_byte h = let q : le (window 8 8) < 1 = simp add_assoc at h in omega (arith, q)

  pub tidy_stray : (k : ℕ) → k < 5 → is_tidy s i k ≡ true → stray s i k 0 16 ≡ 16
  unfolding is_tidy front is_node all_may may_be may_table
  tidy_stray k h t = go k h (eqb-true _ _ b.0) b.1
    where
      b : (eqb (le8 s (i * 16)) (front s i k) ≡ true) × ((eqb k 0 || ltb (bits s i) (cond (eqb k 1) 256 1)) ≡ true)
      b = and_both (eqb (le8 s (i * 16)) (front s i k)) (eqb k 0 || ltb (bits s i) (cond (eqb k 1) 256 1)) t

      counted : (k : ℕ) → k < 5 → all_may k 0 1 ≡ true → all_may k 2 4 ≡ true
          → le8 s (i * 16) ≡ k + count_in s i * 65536 + mark_in s i * 4294967296 → bits s i < 1 → stray s i k 0 16 ≡ 16
      counted k h n m e r =
          let f = counted_front k h e in
          free k 1 0 1 refl (omega arith) n ∙ zeros k 1 1 2 refl (omega arith) f.0 ∙ free k 4 2 6 refl (omega arith) m
          ∙ zeros k 2 6 8 refl (omega arith) f.1 ∙ zeros k 8 8 16 refl (omega arith) (no_byte r) ∙ stray_done s i k 16 (omega arith)

      -- the first half, where there is no count
      bare : (k : ℕ) → k < 5 → all_may k 0 1 ≡ true → all_may k 4 2 ≡ true → le8 s (i * 16) ≡ k + mark_in s i * 4294967296
          → stray s i k 0 16 ≡ stray s i k 8 8
      bare k h n m e =
          let f = bare_front k h e in
          free k 1 0 1 refl (omega arith) n ∙ zeros k 3 1 4 refl (omega arith) f.0 ∙ free k 2 4 6 refl (omega arith) m
          ∙ zeros k 2 6 8 refl (omega arith) f.1

      go : (k : ℕ) → k < 5 → le8 s (i * 16) ≡ front s i k → (eqb k 0 || ltb (bits s i) (cond (eqb k 1) 256 1)) ≡ true → stray s i k 0 16 ≡ 16
      go zero h e r = bare 0 h refl refl e ∙ free 0 8 8 16 refl (omega arith) refl ∙ stray_done s i 0 16 (omega arith)
      go (suc zero) h e r =
          bare 1 h refl refl e ∙ free 1 1 8 9 refl (omega arith) refl ∙ zeros 1 7 9 16 refl (omega arith) (one_byte (ltb-true _ _ r))
          ∙ stray_done s i 1 16 (omega arith)
      go (suc (suc zero)) h e r = counted 2 h refl refl e (ltb-true _ _ r)
      go (suc (suc (suc zero))) h e r = counted 3 h refl refl e (ltb-true _ _ r)
      go (suc (suc (suc (suc zero)))) h e r =
          bare 4 h refl refl e ∙ zeros 4 8 8 16 refl (omega arith) (no_byte (ltb-true _ _ r)) ∙ stray_done s i 4 16 (omega arith)
      go (suc (suc (suc (suc (suc k))))) h e r = absurd (omega arith)
