-- Keys kept in scratch: looking through them finds one that is among them; a flag that is zero, of two, saves looking; and one key more is kept. A key's
-- bytes and the flags do not overlap, so the store of one leaves the others alone.
use Prim.Native.Nat.{ℕ, zero, suc, ◌+◌, ◌*◌, ◌/◌, ◌%◌, ◌≤◌, ◌<◌}
use mathlib.Core.Path.{◌≡◌, refl, sym, ap, ◌∙◌}
use mathlib.Core.Bool.{Bool, true, false, ◌||◌}
use mathlib.Core.List.{List, [], ◌∷◌, ◌++◌}
use mathlib.Core.Logic.{◌⊎◌, inl, inr}
use native.Mathlib.Nat.{eq-or-lt_of_le, mul-lt-mul_of_pos_right, mod-lt}
use native.Mathlib.Omega.{arith}
use borrow.Author.Tests.{eqb-true, eqb-false}
use lib.Dec.{eqb, lit<}
use Rattle.std.specs.List.{list_any, range_with_len}
use lib.ListN.{length, get_or, set, drop, length-append, length-set, get_or-append}
use lib.Seq.{drop-cons, get_or-set_same, get_or-set_other}
use Rattle.paper.specs.Limits.{modulus}
use Rattle.paper.specs.Bytes.{le8, bytes}
use Rattle.paper.proofs.BytesLaws.{le_bytes, le8_drop, length_bytes}
use Rattle.paper.proofs.Tests.{never}
use Rattle.stretch.specs.Put.{put}
use Rattle.stretch.proofs.Laws.{drop_put_at, get_d_put_before, get_d_put_after}
use Rattle.note.specs.Note.{keys}
use Rattle.still.specs.Still.{among}
use Rattle.still.specs.Keys.{flag_of, turned, first_flag, second_flag, Kept, KeysIn, KeptIn, keeping}

-- ---- looking through
module _ (ks : List ℕ) (k j : ℕ) (l : j < length ks) where
  unfold_look : among k (drop j ks) ≡ (eqb k (get_or ks j 0) || among k (drop (suc j) ks))
  unfolding among
  unfold_look = ap (among k) (drop-cons ks j 0 l)

look_end : (ks : List ℕ) (k j : ℕ) → length ks ≤ j → among k (drop j ks) ≡ false
unfolding among
look_end [] k zero l = refl
look_end [] k (suc j) l = refl
look_end (x ∷ ks) k zero l = absurd (omega arith)
look_end (x ∷ ks) k (suc j) l = look_end ks k j (omega arith)

-- ---- flags
pub flag_lt : (n x k : ℕ) → 0 < n → flag_of n x k < n * 32
unfolding flag_of
flag_lt n x k p =
    let h = k / keys * x % keys in
    let a : h < keys = mod-lt (k / keys * x) {m = keys} (lit< tt) in
    let c : 0 < 32 * n = omega arith in
    let b : h * (32 * n) < keys * (32 * n) = mul-lt-mul_of_pos_right a c in
    omega (arith, b)

-- ---- one key more
-- the eight bytes at a place, where each of them is as it was
le8_same : (d e : List ℕ) (a : ℕ) → ((x : ℕ) → a ≤ x → x < a + 8 → get_or d x 0 ≡ get_or e x 0) → le8 d a ≡ le8 e a
unfolding le8
le8_same d e a h =
    rw (
      h a (omega arith) (omega arith),
      h (a + 1) (omega arith) (omega arith),
      h (a + 2) (omega arith) (omega arith),
      h (a + 3) (omega arith) (omega arith),
      h (a + 4) (omega arith) (omega arith),
      h (a + 5) (omega arith) (omega arith),
      h (a + 6) (omega arith) (omega arith),
      h (a + 7) (omega arith) (omega arith),
    )

le8_put : (d : List ℕ) (a v : ℕ) → a ≤ length d → v < modulus → le8 (put d a (bytes 8 v)) a ≡ v
unfolding le8 bytes
le8_put d a v l h =
    let z : a + 0 ≡ a = omega arith in
    ap (le8 (put d a (bytes 8 v))) (sym z)
    ∙ sym (le8_drop a (put d a (bytes 8 v)) 0)
    ∙ ap (λ (x : List ℕ). le8 x 0) (drop_put_at d a (bytes 8 v) l)
    ∙ le_bytes 8 v h

get_d_last : (ks : List ℕ) (k j : ℕ) → j ≡ length ks → get_or (ks ++ (k ∷ [])) j 0 ≡ k
get_d_last [] k zero e = refl
get_d_last [] k (suc j) e = absurd (omega arith)
get_d_last (x ∷ ks) k zero e = absurd (omega arith)
get_d_last (x ∷ ks) k (suc j) e = get_d_last ks k j (omega arith)

among_last : (q k : ℕ) (ks : List ℕ) → among q (ks ++ (k ∷ [])) ≡ true → (among q ks ≡ true) ⊎ (q ≡ k)
unfolding among
among_last q k [] e = go (eqb q k) refl e
  where
    go : (b : Bool) → eqb q k ≡ b → (b || false) ≡ true → (false ≡ true) ⊎ (q ≡ k)
    go true h e = inr (eqb-true q k h)
    go false h e = never e
among_last q k (x ∷ ks) e = go (eqb q x) (among_last q k ks) e
  where
    go : (b : Bool) → (among q (ks ++ (k ∷ [])) ≡ true → (among q ks ≡ true) ⊎ (q ≡ k)) → (b || among q (ks ++ (k ∷ []))) ≡ true
        → ((b || among q ks) ≡ true) ⊎ (q ≡ k)
    go true h e = inl refl
    go false h e = h e

pub keys_in_lem : {d : List ℕ} {o n x m : ℕ} {ks : List ℕ} → KeptIn d o n x m ks → KeysIn d o m ks
keys_in_lem h = record { keys_there = h.kept.keys_there; many = h.many; few = omega (arith, h.place, h.few); room = omega (arith, h.place, h.room) }

-- without flags
pub keys_more : {d : List ℕ} {o m : ℕ} {ks : List ℕ} → KeysIn d o m ks → (k : ℕ) → k < modulus → o + m * 8 + 8 ≤ length d
    → (c : List ℕ) → c ≡ put d (o + m * 8) (bytes 8 k)
    → (j : ℕ) → j < length (ks ++ (k ∷ [])) → le8 c (o + j * 8) ≡ get_or (ks ++ (k ∷ [])) j 0
keys_more {d} {o} {m} {ks} h k b room c q j l = rw q (go (eq-or-lt_of_le {n = j} {m = m} (omega (arith, length-append ks (k ∷ []), h.many, l))))
  where
    go : (j ≡ m) ⊎ (j < m) → le8 (put d (o + m * 8) (bytes 8 k)) (o + j * 8) ≡ get_or (ks ++ (k ∷ [])) j 0
    go (inl x) =
        ap (λ y. le8 (put d (o + m * 8) (bytes 8 k)) (o + y * 8)) x ∙ le8_put d (o + m * 8) k (omega arith) b ∙ sym (get_d_last ks k j (x ∙ sym h.many))
    go (inr x) =
        le8_same (put d (o + m * 8) (bytes 8 k)) d (o + j * 8)
        (λ y u v. get_d_put_before d (o + m * 8) (bytes 8 k) y (omega arith) (omega arith))
        ∙ h.keys_there j (omega (arith, h.many)) ∙ sym (get_or-append ks (k ∷ []) 0 j (omega (arith, h.many)))

-- a flag that is set stays so where another is set
set_stays : (d : List ℕ) (f x : ℕ) → f < length d → get_or d x 0 ≡ 1 → get_or (set d f 1) x 0 ≡ 1
set_stays d f x l z = go (eqb x f) refl
  where
    go : (c : Bool) → eqb x f ≡ c → get_or (set d f 1) x 0 ≡ 1
    go true w = ap (λ y. get_or (set d f 1) y 0) (eqb-true x f w) ∙ get_or-set_same d f 1 0 l
    go false w = get_or-set_other d f x 1 0 (eqb-false x f w) ∙ z

module _ {d : List ℕ} {o n x m : ℕ} {ks : List ℕ} (h : KeptIn d o n x m ks) (k : ℕ) (b : k < modulus) where
  abbrev f : ℕ
  f = first_flag o n x k

  abbrev g : ℕ
  g = second_flag o n x k

  abbrev once : List ℕ
  once = set d f 1

  abbrev e : List ℕ
  e = set once g 1

  first_within : f < length d
  first_within = omega (arith, flag_lt n x k (omega (arith, h.place)), h.room, h.place)

  second_within : g < length once
  second_within = omega (arith, flag_lt n (turned x) k (omega (arith, h.place)), length-set d f 1, h.room, h.place)

  key_within : o + m * 8 + 8 ≤ length e
  key_within = omega (arith, length-set d f 1, length-set once g 1, h.room, h.place)

  -- what was kept stays where it was
  earlier : (j : ℕ) → j < m → le8 (keeping d o n x m k) (o + j * 8) ≡ le8 d (o + j * 8)
  unfolding keeping
  earlier j l =
      le8_same (put e (o + m * 8) (bytes 8 k)) d (o + j * 8)
      (λ x u v. get_d_put_before e (o + m * 8) (bytes 8 k) x (omega (arith, key_within)) (omega arith)
      ∙ get_or-set_other once g x 1 0 (λ z. omega (arith, h.place))
      ∙ get_or-set_other d f x 1 0 (λ z. omega (arith, h.place)))

  flags : (y : ℕ) → o + n * 8 ≤ y → get_or (keeping d o n x m k) y 0 ≡ get_or e y 0
  unfolding keeping
  flags y l = get_d_put_after e (o + m * 8) (bytes 8 k) y (omega (arith, key_within)) (omega (arith, length_bytes 8 k, h.place))

  flag_stays : (x : ℕ) → get_or d x 0 ≡ 1 → get_or e x 0 ≡ 1
  flag_stays x z = set_stays once g x second_within (set_stays d f x first_within z)

  last : (j : ℕ) → j ≡ m → le8 (keeping d o n x m k) (o + j * 8) ≡ get_or (ks ++ (k ∷ [])) j 0
  unfolding keeping
  last j x =
      ap (λ y. le8 (put e (o + m * 8) (bytes 8 k)) (o + y * 8)) x
      ∙ le8_put e (o + m * 8) k (omega (arith, key_within)) b
      ∙ sym (get_d_last ks k j (x ∙ sym h.many))

  pub keeping_kept : Kept (keeping d o n x m k) o n x (ks ++ (k ∷ []))
  keeping_kept =
      record {
        keys_there = λ j l. by j (eq-or-lt_of_le {n = j} {m = m} (omega (arith, length-append ks (k ∷ []), h.many, l)));
        flagged = λ q a.
            let t = told q (among_last q k ks a) in
            (flags (first_flag o n x q) (omega arith) ∙ t.0, flags (second_flag o n x q) (omega arith) ∙ t.1);
      }
    where
      by : (j : ℕ) → (j ≡ m) ⊎ (j < m) → le8 (keeping d o n x m k) (o + j * 8) ≡ get_or (ks ++ (k ∷ [])) j 0
      by j (inl x) = last j x
      by j (inr x) =
          earlier j x ∙ h.kept.keys_there j (omega (arith, h.many)) ∙ sym (get_or-append ks (k ∷ []) 0 j (omega (arith, h.many)))

      told : (q : ℕ) → (among q ks ≡ true) ⊎ (q ≡ k) → (get_or e (first_flag o n x q) 0 ≡ 1) × (get_or e (second_flag o n x q) 0 ≡ 1)
      told q (inl z) =
          let w = h.kept.flagged q z in
          (flag_stays (first_flag o n x q) w.0, flag_stays (second_flag o n x q) w.1)
      told q (inr z) = (
        ap (λ y. get_or e (first_flag o n x y) 0) z ∙ set_stays once g f second_within (get_or-set_same d f 1 0 first_within),
        ap (λ y. get_or e (second_flag o n x y) 0) z ∙ get_or-set_same once g 1 0 second_within,
      )

-- ---- a look through the n keys from the j-th on
module _ (d : List ℕ) (o key : ℕ) (ks : List ℕ) (h : (j : ℕ) → j < length ks → le8 d (o + j * 8) ≡ get_or ks j 0) where
  pub looked : (n j : ℕ) → j + n ≡ length ks → list_any (λ i. eqb key (le8 d (o + i * 8))) (range_with_len j n) ≡ among key (drop j ks)
  looked zero j e = sym (look_end ks key j (omega arith))
  looked (suc n) j e =
      let l : j < length ks = omega arith in
      let s : j + 1 ≡ suc j = omega arith in
      rw (h j l, looked n (j + 1) (omega arith), s) (sym (unfold_look ks key j l))
