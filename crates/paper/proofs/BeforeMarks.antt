-- Without marks in the table of bytes, exactly the records that are marked or flawed are flawed: a mark is a byte 4 or 5 other than zero,
-- where the search for a stray byte ends, and without a mark the two tables answer alike, since they differ in the columns 4 and 5 alone.
-- So a marked table is refused with 2 at the first such record, and an unmarked one is judged alike.
use Prim.Native.Nat.{ℕ, zero, suc, ◌+◌, ◌*◌, ◌<◌, ◌≤◌}
use mathlib.Core.Path.{◌≡◌, refl, sym, ap, ◌∙◌, subst}
use mathlib.Core.Bool.{Bool, true, false, cond, ◌&&◌, ◌||◌, not}
use mathlib.Core.List.{List, [], ◌∷◌, map}
use mathlib.Core.Logic.{◌⊎◌, inl, inr}
use native.Mathlib.Omega.{arith}
use borrow.Author.Tests.{eqb-true, eqb-false, eq-eqb, ne_eqb, lt-ltb, ltb-true, ltb-false}
use lib.Dec.{eqb, ltb}
use lib.ListN.{length, get_or}
use Rattle.paper.specs.Limits.{is_limit}
use Rattle.paper.specs.Bytes.{le, le2}
use Rattle.paper.specs.Record.{kind, count_in, mark_in, may_table, may_table_before, may_be, stray}
use Rattle.paper.specs.Record.{is_node, Flaw, sound, bad_kind, bad_byte, bad_count, flaw, is_flawed}
use Rattle.paper.specs.Verdict.{Verdict, refused, flawed, records_in, bad_length, first_flawed, judge_records, judged_table, verdict}
use Rattle.paper.specs.BeforeMarks.{may_be_before, stray_before, flaw_before, first_flawed_before}
use Rattle.paper.specs.BeforeMarks.{judged_before, verdict_before, MarkedOrFlawed, NoneBefore, RefusedBefore}
use Rattle.paper.proofs.Tests.{true_not_false}
use Rattle.paper.proofs.FirstLaws.{first, first_true, first_before}
use Rattle.paper.proofs.MayLaws.{below}

-- entry by entry, all eighty
pub before_rule : map (λ k. map (λ j. may_be_before k j) (below 16)) (below 5)
    ≡ map (λ k. map (λ j. cond (eqb j 4 || eqb j 5) 0 (may_be k j)) (below 16)) (below 5)
unfolding below may_table may_table_before may_be may_be_before
before_rule = refl

-- ---- the two tables: in the columns 4 and 5 nothing might be other than zero, and the others stay
columns : (k : ℕ) → k ≤ 4 → (may_be_before k 4 ≡ 0) × (may_be_before k 5 ≡ 0)
unfolding may_table_before may_be_before
columns zero h = (refl, refl)
columns (suc zero) h = (refl, refl)
columns (suc (suc zero)) h = (refl, refl)
columns (suc (suc (suc zero))) h = (refl, refl)
columns (suc (suc (suc (suc zero)))) h = (refl, refl)
columns (suc (suc (suc (suc (suc k))))) h = absurd (omega arith)

rows_alike : (a b c d x y x' y' : ℕ) (r : List ℕ) (j : ℕ) → (j ≡ 4 → ⊥) → (j ≡ 5 → ⊥)
    → get_or (a ∷ b ∷ c ∷ d ∷ x ∷ y ∷ r) j 0 ≡ get_or (a ∷ b ∷ c ∷ d ∷ x' ∷ y' ∷ r) j 0
rows_alike a b c d x y x' y' r zero h g = refl
rows_alike a b c d x y x' y' r (suc zero) h g = refl
rows_alike a b c d x y x' y' r (suc (suc zero)) h g = refl
rows_alike a b c d x y x' y' r (suc (suc (suc zero))) h g = refl
rows_alike a b c d x y x' y' r (suc (suc (suc (suc zero)))) h g = absurd (h refl)
rows_alike a b c d x y x' y' r (suc (suc (suc (suc (suc zero))))) h g = absurd (g refl)
rows_alike a b c d x y x' y' r (suc (suc (suc (suc (suc (suc j)))))) h g = refl

others_stay : (k j : ℕ) → k ≤ 4 → (j ≡ 4 → ⊥) → (j ≡ 5 → ⊥) → may_be_before k j ≡ may_be k j
unfolding may_table_before may_be_before may_table may_be
others_stay zero j h a b = rows_alike 1 0 0 0 0 0 1 1 (0 ∷ 0 ∷ 1 ∷ 1 ∷ 1 ∷ 1 ∷ 1 ∷ 1 ∷ 1 ∷ 1 ∷ []) j a b
others_stay (suc zero) j h a b = rows_alike 1 0 0 0 0 0 1 1 (0 ∷ 0 ∷ 1 ∷ 0 ∷ 0 ∷ 0 ∷ 0 ∷ 0 ∷ 0 ∷ 0 ∷ []) j a b
others_stay (suc (suc zero)) j h a b = rows_alike 1 0 1 1 0 0 1 1 (0 ∷ 0 ∷ 0 ∷ 0 ∷ 0 ∷ 0 ∷ 0 ∷ 0 ∷ 0 ∷ 0 ∷ []) j a b
others_stay (suc (suc (suc zero))) j h a b = rows_alike 1 0 1 1 0 0 1 1 (0 ∷ 0 ∷ 0 ∷ 0 ∷ 0 ∷ 0 ∷ 0 ∷ 0 ∷ 0 ∷ 0 ∷ []) j a b
others_stay (suc (suc (suc (suc zero)))) j h a b = rows_alike 1 0 0 0 0 0 1 1 (0 ∷ 0 ∷ 0 ∷ 0 ∷ 0 ∷ 0 ∷ 0 ∷ 0 ∷ 0 ∷ 0 ∷ []) j a b
others_stay (suc (suc (suc (suc (suc k))))) j h a b = absurd (omega arith)

module _ (s : List ℕ) (i : ℕ) where
  abbrev byte : ℕ → ℕ
  byte j = get_or s (i * 16 + j) 0

  -- ---- a mark: byte 4 or 5 is other than zero
  mark_zero : mark_in s i ≡ 0 → (byte 4 ≡ 0) × (byte 5 ≡ 0)
  unfolding mark_in le2 le
  mark_zero e =
      let p : i * 16 + 4 + 1 ≡ i * 16 + 5 = omega arith in
      let q : byte 4 + 256 * (byte 5 + 256 * 0) ≡ 0 = rw p at e in
      (omega (arith, q), omega (arith, q))

  mark_other : (mark_in s i ≡ 0 → ⊥) → (byte 4 ≡ 0 → ⊥) ⊎ (byte 5 ≡ 0 → ⊥)
  unfolding mark_in le2 le
  mark_other n = go (eqb (byte 4) 0) refl
    where
      go : (b : Bool) → eqb (byte 4) 0 ≡ b → (byte 4 ≡ 0 → ⊥) ⊎ (byte 5 ≡ 0 → ⊥)
      go false e = inl (eqb-false (byte 4) 0 e)
      go true e =
          inr (λ z.
          let p : i * 16 + 4 + 1 ≡ i * 16 + 5 = omega arith in
          let x = eqb-true (byte 4) 0 e in
          n (rw (p, x, z)))

  -- ---- the search for a stray byte: it ends at such a byte or before, and goes by the other table where there is none
  stray_ends : (k j n m : ℕ) → j ≤ m → m < j + n → (byte m ≡ 0 → ⊥) → may_be_before k m ≡ 0 → stray_before s i k j n ≤ m
  unfolding stray_before
  stray_ends k j zero m l h b z = absurd (omega arith)
  stray_ends k j (suc n) m l h b z =
      go (ltb j m) refl (λ q. stray_ends k (j + 1) n m (omega arith) (omega arith) b z)
    where
      either : (t : Bool) → j < m → stray_before s i k (j + 1) n ≤ m → cond t (stray_before s i k (j + 1) n) j ≤ m
      either true q r = r
      either false q r = omega arith

      go : (t : Bool) → ltb j m ≡ t → (j < m → stray_before s i k (j + 1) n ≤ m)
          → cond (eqb (byte j) 0 || not (eqb (may_be_before k j) 0)) (stray_before s i k (j + 1) n) j ≤ m
      go true e r =
          let q = ltb-true j m e in
          either (eqb (byte j) 0 || not (eqb (may_be_before k j) 0)) q (r q)
      go false e r =
          let q : j ≡ m = omega (arith, ltb-false j m e) in
          rw (q, ne_eqb (byte m) 0 b, eq-eqb (may_be_before k m) 0 z) (omega arith)

  stray_alike : (k j n : ℕ) → k ≤ 4 → byte 4 ≡ 0 → byte 5 ≡ 0 → stray_before s i k j n ≡ stray s i k j n
  unfolding stray_before stray
  stray_alike k j zero h a b = refl
  stray_alike k j (suc n) h a b =
      ap (λ t. cond t (stray_before s i k (j + 1) n) j) (go (eqb j 4) refl (eqb j 5) refl)
      ∙ ap (λ m. cond (eqb (byte j) 0 || not (eqb (may_be k j) 0)) m j) (stray_alike k (j + 1) n h a b)
    where
      zero_byte : byte j ≡ 0 → (eqb (byte j) 0 || not (eqb (may_be_before k j) 0)) ≡ (eqb (byte j) 0 || not (eqb (may_be k j) 0))
      zero_byte z = rw (eq-eqb (byte j) 0 z) refl

      go : (x : Bool) → eqb j 4 ≡ x → (y : Bool) → eqb j 5 ≡ y
          → (eqb (byte j) 0 || not (eqb (may_be_before k j) 0)) ≡ (eqb (byte j) 0 || not (eqb (may_be k j) 0))
      go true e y f = zero_byte (ap byte (eqb-true j 4 e) ∙ a)
      go false e true f = zero_byte (ap byte (eqb-true j 5 f) ∙ b)
      go false e false f = ap (λ m. eqb (byte j) 0 || not (eqb m 0)) (others_stay k j h (eqb-false j 4 e) (eqb-false j 5 f))

  -- ---- one record: a marked one was flawed, and an unmarked one is judged alike
  pub marked_flawed : (mark_in s i ≡ 0 → ⊥) → is_flawed (flaw_before s i) ≡ true
  unfolding flaw_before is_flawed
  marked_flawed n = go (ltb 4 (kind s i)) refl (mark_other n)
    where
      rest : Bool → Flaw
      rest b = cond b (bad_byte (stray_before s i (kind s i) 0 16)) (cond (is_node (kind s i) && ltb (count_in s i) 2) bad_count sound)

      go : (b : Bool) → ltb 4 (kind s i) ≡ b → (byte 4 ≡ 0 → ⊥) ⊎ (byte 5 ≡ 0 → ⊥)
          → is_flawed (cond b bad_kind (rest (ltb (stray_before s i (kind s i) 0 16) 16))) ≡ true
      go true e m = refl
      go false e (inl m) =
          let l : kind s i ≤ 4 = ltb-false 4 (kind s i) e in
          rw (lt-ltb (stray_before s i (kind s i) 0 16) 16
          (omega (arith, stray_ends (kind s i) 0 16 4 (omega arith) (omega arith) m (columns (kind s i) l).0))) refl
      go false e (inr m) =
          let l : kind s i ≤ 4 = ltb-false 4 (kind s i) e in
          rw (lt-ltb (stray_before s i (kind s i) 0 16) 16
          (omega (arith, stray_ends (kind s i) 0 16 5 (omega arith) (omega arith) m (columns (kind s i) l).1))) refl

  pub unmarked_alike : mark_in s i ≡ 0 → flaw_before s i ≡ flaw s i
  unfolding flaw_before flaw
  unmarked_alike e = go (ltb 4 (kind s i)) refl
    where
      rest : ℕ → Flaw
      rest p = cond (ltb p 16) (bad_byte p) (cond (is_node (kind s i) && ltb (count_in s i) 2) bad_count sound)

      go : (b : Bool) → ltb 4 (kind s i) ≡ b
          → cond b bad_kind (rest (stray_before s i (kind s i) 0 16)) ≡ cond b bad_kind (rest (stray s i (kind s i) 0 16))
      go true l = refl
      go false l =
          let z = mark_zero e in
          ap rest (stray_alike (kind s i) 0 16 (ltb-false 4 (kind s i) l) z.0 z.1)

  -- marked or flawed, and no other
  pub flawed_before : is_flawed (flaw_before s i) ≡ (not (eqb (mark_in s i) 0) || is_flawed (flaw s i))
  flawed_before = go (eqb (mark_in s i) 0) refl
    where
      go : (b : Bool) → eqb (mark_in s i) 0 ≡ b → is_flawed (flaw_before s i) ≡ (not b || is_flawed (flaw s i))
      go true e = ap is_flawed (unmarked_alike (eqb-true (mark_in s i) 0 e))
      go false e = marked_flawed (eqb-false (mark_in s i) 0 e)

-- ---- the table
first_flawed_before_lem : (s : List ℕ) (i n : ℕ) → first_flawed_before s i n ≡ first (λ j. is_flawed (flaw_before s j)) i n
unfolding first_flawed_before first
first_flawed_before_lem s i zero = refl
first_flawed_before_lem s i (suc n) = ap (cond (is_flawed (flaw_before s i)) i) (first_flawed_before_lem s (i + 1) n)

-- "a machine without this release refuses a marked record with 2": a table that 1 does not refuse
pub before_refuses : (lim : ℕ) → is_limit lim ≡ true → (s : List ℕ) → bad_length lim (length s) ≡ false → (i : ℕ) → i < records_in s → ¬ (mark_in s i ≡ 0)
    → RefusedBefore lim s
unfolding verdict_before judged_before
before_refuses lim known s fine i l m =
    record {
      place = p;
      inside = within;
      by_two = rw (known, fine, lt-ltb p (records_in s) within) refl;
      marked_or_flawed = which;
      first = λ j h. alone j (sym (flawed_before s j) ∙ before j h);
    }
  where
    test : ℕ → Bool
    test j = is_flawed (flaw_before s j)

    p : ℕ
    p = first_flawed_before s 0 (records_in s)

    is_first : p ≡ first test 0 (records_in s)
    is_first = first_flawed_before_lem s 0 (records_in s)

    before : (j : ℕ) → j < p → test j ≡ false
    before j h = first_before test 0 (records_in s) j (omega arith) (omega (arith, is_first))

    within : p < records_in s
    within = go (ltb p (records_in s)) refl
      where
        go : (b : Bool) → ltb p (records_in s) ≡ b → p < records_in s
        go true e = ltb-true p (records_in s) e
        go false e = absurd (true_not_false (marked_flawed s i m) (before i (omega (arith, ltb-false p (records_in s) e))))

    which : ¬ (mark_in s p ≡ 0) ⊎ (is_flawed (flaw s p) ≡ true)
    which =
        let t : test p ≡ true = subst (λ q. test q ≡ true) (sym is_first) (first_true test 0 (records_in s) (omega (arith, is_first, within))) in
        go (eqb (mark_in s p) 0) refl (sym (flawed_before s p) ∙ t)
      where
        go : (b : Bool) → eqb (mark_in s p) 0 ≡ b → (not b || is_flawed (flaw s p)) ≡ true → ¬ (mark_in s p ≡ 0) ⊎ (is_flawed (flaw s p) ≡ true)
        go true e t = inr t
        go false e t = inl (eqb-false (mark_in s p) 0 e)

    alone : (j : ℕ) → (not (eqb (mark_in s j) 0) || is_flawed (flaw s j)) ≡ false → (mark_in s j ≡ 0) × (is_flawed (flaw s j) ≡ false)
    alone j = go (eqb (mark_in s j) 0) refl
      where
        go : (b : Bool) → eqb (mark_in s j) 0 ≡ b → (not b || is_flawed (flaw s j)) ≡ false → (mark_in s j ≡ 0) × (is_flawed (flaw s j) ≡ false)
        go true e t = (eqb-true (mark_in s j) 0 e, t)
        go false e t = absurd (true_not_false refl t)

-- there is one such record at the most
pub before_once : (s : List ℕ) (p q : ℕ) → MarkedOrFlawed s p → NoneBefore s p → MarkedOrFlawed s q → NoneBefore s q → p ≡ q
before_once s p q at_p none-p at-q none-q = go (ltb p q) refl (ltb q p) refl
  where
    not_both : (i : ℕ) → MarkedOrFlawed s i → (mark_in s i ≡ 0) × (is_flawed (flaw s i) ≡ false) → ⊥
    not_both i (inl m) x = m x.0
    not_both i (inr f) x = true_not_false f x.1

    go : (a : Bool) → ltb p q ≡ a → (b : Bool) → ltb q p ≡ b → p ≡ q
    go true e b f = absurd (not_both p at_p (none-q p (ltb-true p q e)))
    go false e true f = absurd (not_both q at-q (none-p q (ltb-true q p f)))
    go false e false f = omega (arith, ltb-false p q e, ltb-false q p f)

-- and a table without any mark is judged alike
first_alike : (s : List ℕ) (i n : ℕ) → ((j : ℕ) → j < i + n → mark_in s j ≡ 0) → first_flawed_before s i n ≡ first_flawed s i n
unfolding first_flawed_before first_flawed
first_alike s i zero h = refl
first_alike s i (suc n) h =
    ap (λ f. cond (is_flawed f) i (first_flawed_before s (i + 1) n)) (unmarked_alike s i (h i (omega arith)))
    ∙ ap (cond (is_flawed (flaw s i)) i) (first_alike s (i + 1) n (λ j l. h j (omega arith)))

pub before_agrees : (lim : ℕ) (s : List ℕ) → ((i : ℕ) → i < records_in s → mark_in s i ≡ 0) → verdict_before lim s ≡ verdict lim s
unfolding verdict_before verdict judged_before judged_table judge_records
before_agrees lim s h = ap (λ v. cond (is_limit lim) v (refused 19 0)) (go (bad_length lim (length s)) refl)
  where
    p : ℕ
    p = first_flawed_before s 0 (records_in s)

    found : Verdict
    found = cond (ltb p (records_in s)) (flawed p (flaw_before s p)) (judged_table lim s)

    same : p ≡ first_flawed s 0 (records_in s)
    same = first_alike s 0 (records_in s) (λ j l. h j (omega arith))

    two : (b : Bool) → ltb p (records_in s) ≡ b → bad_length lim (length s) ≡ false
        → cond b (flawed p (flaw_before s p)) (judged_table lim s) ≡ judged_table lim s
    two true e fine =
        let l = ltb-true p (records_in s) e in
        let f = unmarked_alike s p (h p l) in
        rw (fine, sym same, e, f) refl
    two false e fine = refl

    go : (b : Bool) → bad_length lim (length s) ≡ b
        → cond (bad_length lim (length s)) (refused 1 0) found ≡ judged_table lim s
    go true e = ap (λ b. cond b (refused 1 0) found) e ∙ sym (ap (λ b. cond b (refused 1 0) (judge_records lim s (records_in s))) e)
    go false e = ap (λ b. cond b (refused 1 0) found) e ∙ two (ltb p (records_in s)) refl e
