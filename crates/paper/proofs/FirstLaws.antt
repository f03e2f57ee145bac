-- The first place of a stretch where a test holds, and what the definitions of the refusals that look for one say in these terms:
-- the first flawed record, the first stray byte, the first bad exponent. Each is an induction on the places left.
use Prim.Native.Nat.{ℕ, zero, suc, ◌+◌, ◌*◌, ◌<◌, ◌≤◌, min}
use mathlib.Core.Path.{◌≡◌, refl, ap, ◌∙◌, subst}
use mathlib.Core.Bool.{Bool, true, false, cond, ◌&&◌, ◌||◌, not}
use mathlib.Core.List.{List}
use mathlib.Core.Logic.{◌⊎◌, inl, inr}
use native.Mathlib.Nat.{eq-or-lt_of_le}
use native.Mathlib.Omega.{arith}
use borrow.Author.Tests.{ltb-true, ltb-false}
use lib.Dec.{eqb, ltb}
use lib.ListN.{get_or}
use Rattle.paper.specs.Record.{kind, may_be, stray, sound, flaw, is_flawed}
use Rattle.paper.specs.Verdict.{first_flawed, tree_end, is_positive, bad_exponent, first_bad_exponent}
use Rattle.paper.proofs.Tests.{true_not_false}

-- P holds at every place from a up to b
abbrev pub All : (ℕ → Type 0) → ℕ → ℕ → Type 0
All P a b = (j : ℕ) → a ≤ j → j < b → P j

pub all_one : (P : ℕ → Type 0) (a : ℕ) → P a → All P a (a + 1)
all_one P a h j l m = let e : a ≡ j = omega arith in subst P e h

pub all_both : (P : ℕ → Type 0) (a b c : ℕ) → All P a b → All P b c → All P a c
all_both P a b c f g j l m = go (ltb j b) refl
  where
    go : (t : Bool) → ltb j b ≡ t → P j
    go true e = f j l (ltb-true j b e)
    go false e = g j (ltb-false j b e) m

-- the first of the n places from i on where p is true; i + n where there is none
unfoldable pub first : (ℕ → Bool) → ℕ → ℕ → ℕ
first p i zero = i
first p i (suc n) = cond (p i) i (first p (i + 1) n)

-- where there is one, p is true there
pub first_true : (p : ℕ → Bool) (i n : ℕ) → first p i n < i + n → p (first p i n) ≡ true
unfolding first
first_true p i zero h = absurd (omega arith)
first_true p i (suc n) h = go (p i) refl (first_true p (i + 1) n) h
  where
    go : (b : Bool) → p i ≡ b → (first p (i + 1) n < i + 1 + n → p (first p (i + 1) n) ≡ true) → cond b i (first p (i + 1) n) < i + suc n
        → p (cond b i (first p (i + 1) n)) ≡ true
    go true e ih h = e
    go false e ih h = ih (omega arith)

-- and it is false before
pub first_before : (p : ℕ → Bool) (i n : ℕ) → All (λ j. p j ≡ false) i (first p i n)
unfolding first
first_before p i zero = λ j l m. absurd (omega arith)
first_before p i (suc n) = go (p i) refl (first_before p (i + 1) n)
  where
    go : (b : Bool) → p i ≡ b → All (λ j. p j ≡ false) (i + 1) (first p (i + 1) n) → All (λ j. p j ≡ false) i (cond b i (first p (i + 1) n))
    go true e ih = λ j l m. absurd (omega arith)
    go false e ih = all_both (λ j. p j ≡ false) i (i + 1) (first p (i + 1) n) (all_one (λ j. p j ≡ false) i e) ih

-- and only one place is so
pub first_is : (p : ℕ → Bool) (i n q : ℕ) → i ≤ q → q ≤ i + n → All (λ j. p j ≡ false) i q → (q < i + n → p q ≡ true) → first p i n ≡ q
unfolding first
first_is p i zero q l m a t = omega arith
first_is p i (suc n) q l m a t =
    go (p i) refl (eq-or-lt_of_le l)
    (λ k. first_is p (i + 1) n q k (omega arith) (λ j u v. a j (omega arith) v) (λ h. t (omega arith)))
  where
    go : (b : Bool) → p i ≡ b → (i ≡ q) ⊎ (i < q) → (i + 1 ≤ q → first p (i + 1) n ≡ q) → cond b i (first p (i + 1) n) ≡ q
    go true e (inl k) ih = k
    go true e (inr k) ih = absurd (true_not_false e (a i (omega arith) k))
    go false e (inl k) ih = absurd (true_not_false (t (omega arith)) (subst (λ (x : ℕ). p x ≡ false) k e))
    go false e (inr k) ih = ih (omega arith)

-- 2: the first flawed record
pub first_flawed_lem : (s : List ℕ) (i n : ℕ) → first_flawed s i n ≡ first (λ j. is_flawed (flaw s j)) i n
unfolding first_flawed first
first_flawed_lem s i zero = refl
first_flawed_lem s i (suc n) = ap (cond (is_flawed (flaw s i)) i) (first_flawed_lem s (i + 1) n)

-- byte j of record i is other than zero and must be zero
unfoldable pub is_stray : List ℕ → ℕ → ℕ → ℕ → Bool
is_stray s i k j = not (eqb (get_or s (i * 16 + j) 0) 0) && eqb (may_be k j) 0

pub first_stray : (s : List ℕ) (i k j n : ℕ) → stray s i k j n ≡ first (is_stray s i k) j n
unfolding stray first is_stray
first_stray s i k j zero = refl
first_stray s i k j (suc n) = rw (first_stray s i k (j + 1) n) (swap (eqb (get_or s (i * 16 + j) 0) 0) (eqb (may_be k j) 0))
  where
    swap : (a b : Bool) → cond (a || not b) (first (is_stray s i k) (j + 1) n) j ≡ cond (not a && b) j (first (is_stray s i k) (j + 1) n)
    swap true true = refl
    swap true false = refl
    swap false true = refl
    swap false false = refl

-- 5: the first bad exponent is no later than any of them, and is one of them where it is a record
pub bad_exponent_le : (s : List ℕ) (n i : ℕ) → bad_exponent s n i ≤ n
unfolding bad_exponent
bad_exponent_le s n i = go (eqb (kind s i) 4) (ltb (tree_end s n (i + 1)) n) refl (not (is_positive s (tree_end s n (i + 1))))
  where
    e : ℕ
    e = tree_end s n (i + 1)

    go : (a b : Bool) → ltb e n ≡ b → (c : Bool) → cond a (cond (b && c) e n) n ≤ n
    go true true q true = omega (arith, ltb-true e n q)
    go true true q false = omega arith
    go true false q c = omega arith
    go false b q c = omega arith

pub bad_exponent_within : (s : List ℕ) (n i f : ℕ) → first_bad_exponent s n i f ≤ n
unfolding first_bad_exponent
bad_exponent_within s n i zero = omega arith
bad_exponent_within s n i (suc f) = let h = bad_exponent_within s n (i + 1) f in omega arith

pub bad_exponent_first : (s : List ℕ) (n i f : ℕ) → All (λ j. first_bad_exponent s n i f ≤ bad_exponent s n j) i (i + f)
unfolding first_bad_exponent
bad_exponent_first s n i zero = λ j l m. absurd (omega arith)
bad_exponent_first s n i (suc f) = λ j l m. go (bad_exponent_first s n (i + 1) f) j (eq-or-lt_of_le l) m
  where
    go : All (λ j. first_bad_exponent s n (i + 1) f ≤ bad_exponent s n j) (i + 1) (i + 1 + f) → (j : ℕ) → (i ≡ j) ⊎ (i < j) → j < i + suc f
        → min (bad_exponent s n i) (first_bad_exponent s n (i + 1) f) ≤ bad_exponent s n j
    go ih j (inl e) m = subst (λ (x : ℕ). min (bad_exponent s n i) (first_bad_exponent s n (i + 1) f) ≤ bad_exponent s n x) e (omega arith)
    go ih j (inr e) m = let h = ih j (omega arith) (omega arith) in omega arith

pub bad_exponent_some : (s : List ℕ) (n i f : ℕ) → first_bad_exponent s n i f < n
    → (j : ℕ) × (i ≤ j) × (j < i + f) × (bad_exponent s n j ≡ first_bad_exponent s n i f)
unfolding first_bad_exponent
bad_exponent_some s n i zero h = absurd (omega arith)
bad_exponent_some s n i (suc f) h =
    go (ltb (first_bad_exponent s n (i + 1) f) (bad_exponent s n i)) refl (bad_exponent_some s n (i + 1) f)
  where
    go : (b : Bool) → ltb (first_bad_exponent s n (i + 1) f) (bad_exponent s n i) ≡ b
        → (first_bad_exponent s n (i + 1) f < n
        → (j : ℕ) × (i + 1 ≤ j) × (j < i + 1 + f) × (bad_exponent s n j ≡ first_bad_exponent s n (i + 1) f))
        → (j : ℕ) × (i ≤ j) × (j < i + suc f) × (bad_exponent s n j ≡ min (bad_exponent s n i) (first_bad_exponent s n (i + 1) f))
    go true e ih =
        let l = ltb-true (first_bad_exponent s n (i + 1) f) (bad_exponent s n i) e in
        let r = ih (omega arith) in
        (r.0, omega (arith, r.1), omega (arith, r.2), omega (arith, r.3))
    go false e ih = let l = ltb-false (first_bad_exponent s n (i + 1) f) (bad_exponent s n i) e in (i, omega arith, omega arith, omega arith)

-- where there is none
pub no_flaw : (s : List ℕ) (n : ℕ) → All (λ j. flaw s j ≡ sound) 0 n → first_flawed s 0 n ≡ n
unfolding is_flawed
no_flaw s n h =
    first_flawed_lem s 0 n
    ∙ first_is (λ j. is_flawed (flaw s j)) 0 n n (omega arith) (omega arith) (λ j a b. ap is_flawed (h j a b)) (λ l. absurd (omega arith))

pub no_bad_exponent : (s : List ℕ) (n : ℕ) → All (λ j. bad_exponent s n j ≡ n) 0 n → first_bad_exponent s n 0 n ≡ n
no_bad_exponent s n h = go (eq-or-lt_of_le (bad_exponent_within s n 0 n))
  where
    go : (first_bad_exponent s n 0 n ≡ n) ⊎ (first_bad_exponent s n 0 n < n) → first_bad_exponent s n 0 n ≡ n
    go (inl e) = e
    go (inr l) = let r = bad_exponent_some s n 0 n l in absurd (omega (arith, h r.0 r.1 (omega (arith, r.2)), r.3))
