-- Laws of the slots of a settings area: what a record that the new release writes holds, and what storing and taking out do to what the
-- slots show, to their number of records and to their order. Order is inverted once into evidence (`Ordered`); then each law is an
-- induction over it, a slot being free, the key's own, or another key's.
use Prim.Native.Nat.{ℕ, zero, suc, ◌+◌, ◌^◌, ◌<◌, ◌≤◌}
use mathlib.Core.Path.{◌≡◌, refl, sym, ap, ◌∙◌, subst}
use mathlib.Core.Bool.{Bool, true, false, cond, ◌&&◌, ◌||◌, not}
use mathlib.Core.List.{List, [], ◌∷◌, ◌++◌}
use mathlib.Core.Option.{Option, none, some}
use mathlib.Core.Logic.{◌⊎◌, inl, inr}
use native.Mathlib.Nat.{eq-or-lt_of_le}
use native.Mathlib.Omega.{arith}
use borrow.Author.Tests.{eq-eqb, ne_eqb, eqb-true, eqb-false, not-true, not-false, ltb-false, le-ltb}
use lib.Dec.{eqb, ltb}
use lib.ListN.{length, get_or, take, drop, length-append}
use Rattle.paper.specs.Bytes.{bytes, le, le2, le8}
use Rattle.paper_settings.specs.Settings.{version, key_in, unit_in, setting_in, may_table, may_be, strays, is_malformed, is_free, holds, slot_of, free_slot}
use Rattle.paper_settings.specs.Settings.{Setting, setting_of, shown, known, used, any_newer, all_free, in_order, is_full, put, take_out}
use Rattle.paper.proofs.BytesLaws.{le_bytes}
use Rattle.paper.proofs.Tests.{true_not_false, and_both, or_either, or_neither}

-- ---- a record that the new release writes
pub slot_length : (k v u : ℕ) → length (slot_of k v u) ≡ 32
unfolding slot_of bytes
slot_length k v u = refl

pub slot_version : (k v u : ℕ) → version (slot_of k v u) ≡ 2
unfolding slot_of version
slot_version k v u = refl

pub slot_used : (k v u : ℕ) → is_free (slot_of k v u) ≡ false
unfolding slot_of is_free
slot_used k v u = refl

pub slot_sound : (k v u : ℕ) → is_malformed (slot_of k v u) ≡ false
unfolding slot_of bytes is_malformed strays may_be may_table version
slot_sound k v u = refl

pub slot_key : (k v u : ℕ) → k < 65536 → key_in (slot_of k v u) ≡ k
unfolding slot_of bytes key_in le2
slot_key k v u h = le_bytes 2 k h

slot_unit : (k v u : ℕ) → u < 65536 → unit_in (slot_of k v u) ≡ u
unfolding slot_of bytes unit_in le2
slot_unit k v u h = le_bytes 2 u h

slot_number : (k v u : ℕ) → v < 2 ^ 64 → setting_in (slot_of k v u) ≡ v
unfolding slot_of bytes setting_in le8
slot_number k v u h = le_bytes 8 v h

pub slot_setting : (k v u : ℕ) → v < 2 ^ 64 → u < 65536 → setting_of (slot_of k v u) ≡ record { setting = v; unit = u }
unfolding setting_of
slot_setting k v u g h = rw (slot_number k v u g, slot_unit k v u h)

pub free_slot_lem : is_free free_slot ≡ true
unfolding is_free free_slot
free_slot_lem = refl

-- ---- which bytes of a sound record are zero
pub no_stray : (v : ℕ) (x : List ℕ) (j n : ℕ) → strays v x j n ≡ false → (i : ℕ) → j ≤ i → i < j + n → may_be v i ≡ 0 → get_or x i 0 ≡ 0
unfolding strays
no_stray v x j zero h i l m z = absurd (omega arith)
no_stray v x j (suc n) h i l m z =
    go (eq-or-lt_of_le l)
    (or_neither (not (not (eqb (may_be v j) 0) || eqb (get_or x j 0) 0)) (strays v x (j + 1) n) h)
    (λ g k. no_stray v x (j + 1) n g i k (omega arith) z)
  where
    here : (a : Bool) → a ≡ true → not (not a || eqb (get_or x j 0) 0) ≡ false → get_or x j 0 ≡ 0
    here true e g = eqb-true (get_or x j 0) 0 (not-false _ g)
    here false e g = absurd (true_not_false e refl)

    go : (j ≡ i) ⊎ (j < i) → (not (not (eqb (may_be v j) 0) || eqb (get_or x j 0) 0) ≡ false) × (strays v x (j + 1) n ≡ false)
        → (strays v x (j + 1) n ≡ false → j + 1 ≤ i → get_or x i 0 ≡ 0) → get_or x i 0 ≡ 0
    go (inl e) g ih = subst (λ (q : ℕ). get_or x q 0 ≡ 0) e (here (eqb (may_be v j) 0) (eq-eqb (may_be v j) 0 (ap (may_be v) e ∙ z)) g.0)
    go (inr k) g ih = ih g.1 (omega arith)

pub some_stray : (v : ℕ) (x : List ℕ) (j n : ℕ) → strays v x j n ≡ true
    → (i : ℕ) × (i < j + n) × (may_be v i ≡ 0) × (get_or x i 0 ≡ 0 → ⊥)
unfolding strays
some_stray v x j zero h = absurd (true_not_false h refl)
some_stray v x j (suc n) h =
    go (or_either (not (not (eqb (may_be v j) 0) || eqb (get_or x j 0) 0)) (strays v x (j + 1) n) h) (some_stray v x (j + 1) n)
  where
    go : (not (not (eqb (may_be v j) 0) || eqb (get_or x j 0) 0) ≡ true) ⊎ (strays v x (j + 1) n ≡ true)
        → (strays v x (j + 1) n ≡ true → (i : ℕ) × (i < j + 1 + n) × (may_be v i ≡ 0) × (get_or x i 0 ≡ 0 → ⊥))
        → (i : ℕ) × (i < j + suc n) × (may_be v i ≡ 0) × (get_or x i 0 ≡ 0 → ⊥)
    go (inl e) ih =
        let g = or_neither (not (eqb (may_be v j) 0)) (eqb (get_or x j 0) 0) (not-true _ e) in
        (j, omega arith, eqb-true (may_be v j) 0 (not-false _ g.0), eqb-false (get_or x j 0) 0 g.1)
    go (inr e) ih = let r = ih e in (r.0, omega (arith, r.1), r.2, r.3)

-- a version that no release has is malformed: its byte 0 must be zero
pub sound_version : (x : List ℕ) → is_malformed x ≡ false → version x ≤ 2
unfolding is_malformed may_be may_table version
sound_version x h = go (get_or x 0 0) refl
  where
    go : (v : ℕ) → get_or x 0 0 ≡ v → v ≤ 2
    go zero e = omega arith
    go (suc zero) e = omega arith
    go (suc (suc zero)) e = omega arith
    go (suc (suc (suc v))) e =
        absurd (omega (arith, no_stray (get_or x 0 0) x 0 32 h 0 (omega arith) (omega arith) (ap (λ (w : ℕ). get_or (get_or may_table w []) 0 0) e)))

-- bytes 4 and 5 are zero up to version 1
pub old_unit : (x : List ℕ) → version x ≤ 1 → is_malformed x ≡ false → unit_in x ≡ 0
unfolding is_malformed may_be may_table unit_in le2 le
old_unit x l h = go (version x) refl l
  where
    go : (v : ℕ) → version x ≡ v → v ≤ 1 → unit_in x ≡ 0
    go zero e l =
        let z = no_stray 0 x 0 32 (subst (λ (v : ℕ). strays v x 0 32 ≡ false) e h) in
        omega (arith, z 4 (omega arith) (omega arith) refl, z 5 (omega arith) (omega arith) refl)
    go (suc zero) e l =
        let z = no_stray 1 x 0 32 (subst (λ (v : ℕ). strays v x 0 32 ≡ false) e h) in
        omega (arith, z 4 (omega arith) (omega arith) refl, z 5 (omega arith) (omega arith) refl)
    go (suc (suc v)) e l = absurd (omega arith)

-- ---- slots in order, as evidence
pub data Ordered : List (List ℕ) → Type 0 where
  no_slot : Ordered []
  free_last : {x : List ℕ} {xs : List (List ℕ)} → is_free x ≡ true → all_free xs ≡ true → Ordered (x ∷ xs)
  record_first : {x : List ℕ} {xs : List (List ℕ)} → is_free x ≡ false → is_malformed x ≡ false → shown xs (key_in x) ≡ none → Ordered xs
      → Ordered (x ∷ xs)

unknown_none : (o : Option Setting) → known o ≡ false → o ≡ none
unfolding known
unknown_none none e = refl
unknown_none (some s) e = absurd (true_not_false refl e)

pub in_order_lem : (xs : List (List ℕ)) → in_order xs ≡ true → Ordered xs
unfolding in_order
in_order_lem [] h = no_slot
in_order_lem (x ∷ xs) h = go (is_free x) refl (in_order_lem xs) h
  where
    go : (f : Bool) → is_free x ≡ f → (in_order xs ≡ true → Ordered xs)
        → cond f (all_free xs) (not (is_malformed x) && (not (known (shown xs (key_in x))) && in_order xs)) ≡ true → Ordered (x ∷ xs)
    go true f ih h = free_last f h
    go false f ih h =
        let a = and_both (not (is_malformed x)) (not (known (shown xs (key_in x))) && in_order xs) h in
        let b = and_both (not (known (shown xs (key_in x)))) (in_order xs) a.1 in
        record_first f (not-true _ a.0) (unknown_none _ (not-true _ b.0)) (ih b.1)

pub order_in : {xs : List (List ℕ)} → Ordered xs → in_order xs ≡ true
unfolding in_order known
order_in no_slot = refl
order_in (free_last f a) = rw f a
order_in (record_first f s n o) = rw (f, s, n) (order_in o)

-- ---- free slots
pub free_holds : (k : ℕ) (x : List ℕ) → is_free x ≡ true → holds k x ≡ false
unfolding holds
free_holds k x f = rw f

pub free_shown : (xs : List (List ℕ)) → all_free xs ≡ true → (k : ℕ) → shown xs k ≡ none
unfolding all_free shown
free_shown [] a k = refl
free_shown (x ∷ xs) a k = let b = and_both (is_free x) (all_free xs) a in rw (free_holds k x b.0) (free_shown xs b.1 k)

pub free_order : (xs : List (List ℕ)) → all_free xs ≡ true → Ordered xs
unfolding all_free
free_order [] a = no_slot
free_order (x ∷ xs) a = let b = and_both (is_free x) (all_free xs) a in free_last b.0 b.1

pub free_out : (k : ℕ) (xs : List (List ℕ)) → all_free xs ≡ true → take_out k xs ≡ xs
unfolding all_free take_out
free_out k [] a = refl
free_out k (x ∷ xs) a = let b = and_both (is_free x) (all_free xs) a in rw (free_holds k x b.0, free_out k xs b.1)

pub free_used : (xs : List (List ℕ)) → all_free xs ≡ true → used xs ≡ 0
unfolding all_free used
free_used [] a = refl
free_used (x ∷ xs) a = let b = and_both (is_free x) (all_free xs) a in rw b.0 (free_used xs b.1)

free_end : (xs : List (List ℕ)) → all_free xs ≡ true → all_free (xs ++ (free_slot ∷ [])) ≡ true
unfolding all_free
free_end [] a = rw free_slot_lem
free_end (x ∷ xs) a = let b = and_both (is_free x) (all_free xs) a in rw b.0 (free_end xs b.1)

-- a free slot at the end shows nothing, counts nothing and keeps the order
shown_end : (xs : List (List ℕ)) (k : ℕ) → shown (xs ++ (free_slot ∷ [])) k ≡ shown xs k
unfolding shown
shown_end [] k = rw (free_holds k free_slot free_slot_lem)
shown_end (x ∷ xs) k = rw (shown_end xs k)

used_end : (xs : List (List ℕ)) → used (xs ++ (free_slot ∷ [])) ≡ used xs
unfolding used
used_end [] = rw free_slot_lem
used_end (x ∷ xs) = rw (used_end xs)

order_end : {xs : List (List ℕ)} → Ordered xs → Ordered (xs ++ (free_slot ∷ []))
unfolding all_free
order_end no_slot = free_last free_slot_lem refl
order_end (free_last {x = x} {xs = xs} f a) = free_last f (free_end xs a)
order_end (record_first {x = x} {xs = xs} f s n o) = record_first f s (shown_end xs (key_in x) ∙ n) (order_end o)

-- ---- storing
-- some slot is free or has the key
unfoldable pub has_place : ℕ → List (List ℕ) → Bool
has_place k [] = false
has_place k (x ∷ xs) = (is_free x || eqb k (key_in x)) || has_place k xs

-- 13 is for the store that has none: "the key is new and no slot is free"
no_place : (k : ℕ) (xs : List (List ℕ)) → has_place k xs ≡ false → (shown xs k ≡ none) × (used xs ≡ length xs)
unfolding has_place shown used holds
no_place k [] h = (refl, refl)
no_place k (x ∷ xs) h =
    let a = or_neither (is_free x || eqb k (key_in x)) (has_place k xs) h in
    let b = or_neither (is_free x) (eqb k (key_in x)) a.0 in
    let r = no_place k xs a.1 in
    (rw (b.0, b.1) r.0, rw b.0 (ap suc r.1))

pub place : (k : ℕ) (xs : List (List ℕ)) → is_full (length xs) (used xs) (shown xs k) ≡ false → has_place k xs ≡ true
unfolding is_full known
place k xs h = go (has_place k xs) refl
  where
    go : (b : Bool) → has_place k xs ≡ b → b ≡ true
    go true e = refl
    go false e =
        let r = no_place k xs e in
        absurd (true_not_false (rw r.0 (eq-eqb (used xs) (length xs) r.1)) h)

-- no more records than slots
pub used_most : (xs : List (List ℕ)) → used xs ≤ length xs
unfolding used
used_most [] = omega arith
used_most (x ∷ xs) = go (is_free x) (used_most xs)
  where
    go : (b : Bool) → used xs ≤ length xs → cond b (used xs) (suc (used xs)) ≤ suc (length xs)
    go true ih = omega arith
    go false ih = omega arith

no_room_lem : (k : ℕ) (xs : List (List ℕ)) → known (shown xs k) ≡ false → used xs ≡ length xs → has_place k xs ≡ false
unfolding has_place shown used holds known
no_room_lem k [] n u = refl
no_room_lem k (x ∷ xs) n u = go (is_free x) refl (eqb k (key_in x)) n u (no_room_lem k xs)
  where
    go : (f : Bool) → is_free x ≡ f → (e : Bool) → known (cond (not f && e) (some (setting_of x)) (shown xs k)) ≡ false
        → cond f (used xs) (suc (used xs)) ≡ suc (length xs) → (known (shown xs k) ≡ false → used xs ≡ length xs → has_place k xs ≡ false)
        → (f || e) || has_place k xs ≡ false
    go true f e n u ih = absurd (omega (arith, used_most xs))
    go false f true n u ih = absurd (true_not_false refl n)
    go false f false n u ih = ih n (omega arith)

-- 13 is given exactly where no slot is free or has the key
pub full_place : (k : ℕ) (xs : List (List ℕ)) → is_full (length xs) (used xs) (shown xs k) ≡ not (has_place k xs)
unfolding is_full
full_place k xs = go (is_full (length xs) (used xs) (shown xs k)) refl
  where
    go : (b : Bool) → is_full (length xs) (used xs) (shown xs k) ≡ b → b ≡ not (has_place k xs)
    go true e =
        let r = and_both (not (known (shown xs k))) (eqb (used xs) (length xs)) e in
        rw (no_room_lem k xs (not-true _ r.0) (eqb-true (used xs) (length xs) r.1))
    go false e = rw (place k xs e)

-- two tests of which at most one holds may be asked in either order
swap : {A : Type 0} (b c : Bool) (p q r : A) → (b ≡ true → c ≡ true → ⊥) → cond c q (cond b p r) ≡ cond b p (cond c q r)
swap true true p q r h = absurd (h refl refl)
swap true false p q r h = refl
swap false true p q r h = refl
swap false false p q r h = refl

again : {A : Type 0} (b : Bool) (p q r : A) → cond b p r ≡ cond b p (cond b q r)
again true p q r = refl
again false p q r = refl

suc_cond : (b : Bool) (m n : ℕ) → suc (cond b m n) ≡ cond b (suc m) (suc n)
suc_cond true m n = refl
suc_cond false m n = refl

-- no number is equal to two others
not_two : (j a b : ℕ) → eqb a b ≡ false → eqb j a ≡ true → eqb j b ≡ true → ⊥
not_two j a b h p q = eqb-false a b h (sym (eqb-true j a p) ∙ eqb-true j b q)

module _ (k : ℕ) (r : List ℕ) (rf : is_free r ≡ false) (rk : key_in r ≡ k) where
  -- what shows afterwards: the record stored, and under other keys what showed
  pub shown_put : (xs : List (List ℕ)) → has_place k xs ≡ true → (j : ℕ)
      → shown (put k r xs) j ≡ cond (eqb j k) (some (setting_of r)) (shown xs j)
  unfolding shown put has_place holds
  shown_put [] h j = absurd (true_not_false h refl)
  shown_put (x ∷ xs) h j = go (is_free x) refl (eqb k (key_in x)) refl h (λ g. shown_put xs g j)
    where
      go : (f : Bool) → is_free x ≡ f → (e : Bool) → eqb k (key_in x) ≡ e → (f || e) || has_place k xs ≡ true
          → (has_place k xs ≡ true → shown (put k r xs) j ≡ cond (eqb j k) (some (setting_of r)) (shown xs j))
          → shown (cond (f || e) (r ∷ xs) (x ∷ put k r xs)) j
          ≡ cond (eqb j k) (some (setting_of r)) (cond (not f && eqb j (key_in x)) (some (setting_of x)) (shown xs j))
      go true f e q h ih = rw (rf, rk)
      go false f true q h ih =
          rw (rf, rk, sym (eqb-true k (key_in x) q)) (again (eqb j k) (some (setting_of r)) (some (setting_of x)) (shown xs j))
      go false f false q h ih =
          rw (f, ih h)
          (swap (eqb j k) (eqb j (key_in x)) (some (setting_of r)) (some (setting_of x)) (shown xs j) (not_two j k (key_in x) q))

  -- how many records: one more where the key is new
  pub used_put : {xs : List (List ℕ)} → Ordered xs → has_place k xs ≡ true
      → used (put k r xs) ≡ cond (known (shown xs k)) (used xs) (suc (used xs))
  unfolding shown put has_place holds used known
  used_put no_slot h = absurd (true_not_false h refl)
  used_put (free_last {x = x} {xs = xs} f a) h = rw (f, rf, free_shown xs a k)
  used_put (record_first {x = x} {xs = xs} f s n o) h = rw f (go (eqb k (key_in x)) (rw f at h) (used_put o))
    where
      go : (e : Bool) → e || has_place k xs ≡ true
          → (has_place k xs ≡ true → used (put k r xs) ≡ cond (known (shown xs k)) (used xs) (suc (used xs)))
          → used (cond e (r ∷ xs) (x ∷ put k r xs))
          ≡ cond (known (cond e (some (setting_of x)) (shown xs k))) (suc (used xs)) (suc (suc (used xs)))
      go true h ih = rw rf
      go false h ih = rw (f, ih h) (suc_cond (known (shown xs k)) (used xs) (suc (used xs)))

  -- and the order is kept
  pub order_put : is_malformed r ≡ false → {xs : List (List ℕ)} → Ordered xs → has_place k xs ≡ true → Ordered (put k r xs)
  unfolding put has_place
  order_put rs no_slot h = no_slot
  order_put rs (free_last {x = x} {xs = xs} f a) h = rw f (record_first rf rs (free_shown xs a (key_in r)) (free_order xs a))
  order_put rs (record_first {x = x} {xs = xs} f s n o) h = rw f (go (eqb k (key_in x)) refl (rw f at h) (order_put rs o))
    where
      go : (e : Bool) → eqb k (key_in x) ≡ e → e || has_place k xs ≡ true → (has_place k xs ≡ true → Ordered (put k r xs))
          → Ordered (cond e (r ∷ xs) (x ∷ put k r xs))
      go true e h ih = record_first rf rs (ap (shown xs) (rk ∙ eqb-true k (key_in x) e) ∙ n) o
      go false e h ih =
          let d : eqb (key_in x) k ≡ false = ne_eqb (key_in x) k (λ q. eqb-false k (key_in x) e (sym q)) in
          record_first f s (shown_put xs h (key_in x) ∙ rw d n) (ih h)

-- ---- taking out: what shows afterwards is nothing under the key, and under other keys what showed
alike_none : (b : Bool) → ◌≡◌ {A = Option Setting} none (cond b none none)
alike_none true = refl
alike_none false = refl

pub shown_out : (k : ℕ) {xs : List (List ℕ)} → Ordered xs → (j : ℕ) → shown (take_out k xs) j ≡ cond (eqb j k) none (shown xs j)
unfolding shown take_out holds all_free
shown_out k no_slot j = alike_none (eqb j k)
shown_out k (free_last {x = x} {xs = xs} f a) j = rw (f, f, free_out k xs a, free_shown xs a j) (alike_none (eqb j k))
shown_out k (record_first {x = x} {xs = xs} f s n o) j = rw f (go (eqb k (key_in x)) refl (shown_out k o j))
  where
    twice : (b : Bool) → eqb j k ≡ b → k ≡ key_in x → shown xs j ≡ cond b none (cond b (some (setting_of x)) (shown xs j))
    twice true e q = ap (shown xs) (eqb-true j k e ∙ q) ∙ n
    twice false e q = refl

    go : (e : Bool) → eqb k (key_in x) ≡ e → shown (take_out k xs) j ≡ cond (eqb j k) none (shown xs j)
        → shown (cond e (xs ++ (free_slot ∷ [])) (x ∷ take_out k xs)) j
        ≡ cond (eqb j k) none (cond (eqb j (key_in x)) (some (setting_of x)) (shown xs j))
    go true e ih =
        let q = eqb-true k (key_in x) e in
        shown_end xs j
        ∙ subst (λ (m : ℕ). shown xs j ≡ cond (eqb j k) none (cond (eqb j m) (some (setting_of x)) (shown xs j))) q (twice (eqb j k) refl q)
    go false e ih =
        rw (f, ih) (swap (eqb j k) (eqb j (key_in x)) none (some (setting_of x)) (shown xs j) (not_two j k (key_in x) e))

pub used_out : (k : ℕ) {xs : List (List ℕ)} → Ordered xs → known (shown xs k) ≡ true → suc (used (take_out k xs)) ≡ used xs
unfolding shown take_out holds used known
used_out k no_slot h = absurd (true_not_false h refl)
used_out k (free_last {x = x} {xs = xs} f a) h = absurd (true_not_false h (rw (f, free_shown xs a k)))
used_out k (record_first {x = x} {xs = xs} f s n o) h = rw f (go (eqb k (key_in x)) (rw f at h) (used_out k o))
  where
    go : (e : Bool) → known (cond e (some (setting_of x)) (shown xs k)) ≡ true
        → (known (shown xs k) ≡ true → suc (used (take_out k xs)) ≡ used xs)
        → suc (used (cond e (xs ++ (free_slot ∷ [])) (x ∷ take_out k xs))) ≡ suc (used xs)
    go true h ih = ap suc (used_end xs)
    go false h ih = rw f (ap suc (ih h))

pub order_out : (k : ℕ) {xs : List (List ℕ)} → Ordered xs → Ordered (take_out k xs)
unfolding take_out holds
order_out k no_slot = no_slot
order_out k (free_last {x = x} {xs = xs} f a) = rw (f, free_out k xs a) (free_last f a)
order_out k (record_first {x = x} {xs = xs} f s n o) = rw f (go (eqb k (key_in x)) (order_out k o))
  where
    go : (e : Bool) → Ordered (take_out k xs) → Ordered (cond e (xs ++ (free_slot ∷ [])) (x ∷ take_out k xs))
    go true ih = order_end o
    go false ih = record_first f s (shown_out k o (key_in x) ∙ rw n (sym (alike_none (eqb (key_in x) k)))) ih

-- ---- the number of slots stays
pub length_put : (k : ℕ) (r : List ℕ) (xs : List (List ℕ)) → length (put k r xs) ≡ length xs
unfolding put
length_put k r [] = refl
length_put k r (x ∷ xs) = go (is_free x || eqb k (key_in x)) (length_put k r xs)
  where
    go : (b : Bool) → length (put k r xs) ≡ length xs → length (cond b (r ∷ xs) (x ∷ put k r xs)) ≡ suc (length xs)
    go true ih = refl
    go false ih = ap suc ih

pub length_out : (k : ℕ) (xs : List (List ℕ)) → length (take_out k xs) ≡ length xs
unfolding take_out
length_out k [] = refl
length_out k (x ∷ xs) = go (holds k x) (length_out k xs)
  where
    go : (b : Bool) → length (take_out k xs) ≡ length xs → length (cond b (xs ++ (free_slot ∷ [])) (x ∷ take_out k xs)) ≡ suc (length xs)
    go true ih = length-append xs (free_slot ∷ []) ∙ omega arith
    go false ih = ap suc ih

-- ---- every slot is so: kept by storing and taking out where it is so of what they bring in
abbrev pub Each : (List ℕ → Type 0) → List (List ℕ) → Type 0
Each P [] = Unit {0}
Each P (x ∷ xs) = P x × Each P xs

pub each_put : (P : List ℕ → Type 0) (k : ℕ) (r : List ℕ) → P r → (xs : List (List ℕ)) → Each P xs → Each P (put k r xs)
unfolding put
each_put P k r p [] a = tt
each_put P k r p (x ∷ xs) a = go (is_free x || eqb k (key_in x)) (each_put P k r p xs a.1)
  where
    go : (b : Bool) → Each P (put k r xs) → Each P (cond b (r ∷ xs) (x ∷ put k r xs))
    go true ih = (p, a.1)
    go false ih = (a.0, ih)

each_end : (P : List ℕ → Type 0) → P free_slot → (xs : List (List ℕ)) → Each P xs → Each P (xs ++ (free_slot ∷ []))
each_end P p [] a = (p, tt)
each_end P p (x ∷ xs) a = (a.0, each_end P p xs a.1)

pub each_out : (P : List ℕ → Type 0) → P free_slot → (k : ℕ) (xs : List (List ℕ)) → Each P xs → Each P (take_out k xs)
unfolding take_out
each_out P p k [] a = tt
each_out P p k (x ∷ xs) a = go (holds k x) (each_out P p k xs a.1)
  where
    go : (b : Bool) → Each P (take_out k xs) → Each P (cond b (xs ++ (free_slot ∷ [])) (x ∷ take_out k xs))
    go true ih = each_end P p xs a.1
    go false ih = (a.0, ih)

-- no version over `newest`: as a test, and of each slot
pub none_newer : (newest : ℕ) (xs : List (List ℕ)) → any_newer newest xs ≡ false → Each (λ x. version x ≤ newest) xs
unfolding any_newer
none_newer newest [] h = tt
none_newer newest (x ∷ xs) h =
    let a = or_neither (ltb newest (version x)) (any_newer newest xs) h in
    (ltb-false newest (version x) a.0, none_newer newest xs a.1)

pub newer_none : (newest : ℕ) (xs : List (List ℕ)) → Each (λ x. version x ≤ newest) xs → any_newer newest xs ≡ false
unfolding any_newer
newer_none newest [] a = refl
newer_none newest (x ∷ xs) a = rw (le-ltb newest (version x) a.0) (newer_none newest xs a.1)

-- slots in order have no version over 2
free_version : (x : List ℕ) → is_free x ≡ true → version x ≡ 0
unfolding is_free version
free_version [] f = refl
free_version (b ∷ x) f = eqb-true b 0 (and_both (eqb b 0) (is_free x) f).0

frees_versions : (xs : List (List ℕ)) → all_free xs ≡ true → Each (λ x. version x ≤ 2) xs
unfolding all_free
frees_versions [] a = tt
frees_versions (x ∷ xs) a =
    let b = and_both (is_free x) (all_free xs) a in
    (omega (arith, free_version x b.0), frees_versions xs b.1)

pub order_versions : {xs : List (List ℕ)} → Ordered xs → Each (λ x. version x ≤ 2) xs
order_versions no_slot = tt
order_versions (free_last {x = x} {xs = xs} f a) = (omega (arith, free_version x f), frees_versions xs a)
order_versions (record_first {x = x} f s n o) = (sound_version x s, order_versions o)

-- ---- by place
pub each_at : (P : List ℕ → Type 0) (xs : List (List ℕ)) (i : ℕ) → Each P xs → i < length xs → P (get_or xs i [])
each_at P [] i a h = absurd (omega arith)
each_at P (x ∷ xs) zero a h = a.0
each_at P (x ∷ xs) (suc i) a h = each_at P xs i a.1 (omega arith)

pub newer_at : (newest : ℕ) (xs : List (List ℕ)) (i : ℕ) → i < length xs → newest < version (get_or xs i []) → any_newer newest xs ≡ true
newer_at newest xs i l h = go (any_newer newest xs) refl
  where
    go : (b : Bool) → any_newer newest xs ≡ b → b ≡ true
    go true e = refl
    go false e = absurd (omega (arith, each_at (λ x. version x ≤ newest) xs i (none_newer newest xs e) l))

-- a store writes one slot: the others are what they were
pub put_at : (k : ℕ) (r : List ℕ) (xs : List (List ℕ)) → has_place k xs ≡ true
    → (i : ℕ) × (i < length xs) × (put k r xs ≡ take i xs ++ (r ∷ drop (suc i) xs))
unfolding put has_place
put_at k r [] h = absurd (true_not_false h refl)
put_at k r (x ∷ xs) h = go (is_free x || eqb k (key_in x)) h (put_at k r xs)
  where
    go : (b : Bool) → b || has_place k xs ≡ true
        → (has_place k xs ≡ true → (i : ℕ) × (i < length xs) × (put k r xs ≡ take i xs ++ (r ∷ drop (suc i) xs)))
        → (i : ℕ) × (i < suc (length xs)) × (cond b (r ∷ xs) (x ∷ put k r xs) ≡ take i (x ∷ xs) ++ (r ∷ drop (suc i) (x ∷ xs)))
    go true h ih = (0, omega arith, refl)
    go false h ih = let q = ih h in (suc q.0, omega (arith, q.1), ap (λ (l : List (List ℕ)). x ∷ l) q.2)
