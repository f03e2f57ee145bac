-- Refusals 10 to 13 of the settings store are given exactly as the request says. Each test of the definitions is shown to be the condition
-- in words: first of the slots by their places, then of the area's bytes; the call goes through the tests in order (`ladder` of
-- Refusals).
use Prim.Native.Nat.{ℕ, zero, suc, ◌+◌, ◌*◌, ◌/◌, ◌%◌, ◌<◌, ◌≤◌}
use mathlib.Core.Path.{◌≡◌, refl, sym, ap, ◌∙◌, subst}
use mathlib.Core.Bool.{Bool, true, false, cond, ◌&&◌, ◌||◌, not}
use mathlib.Core.List.{List, [], ◌∷◌}
use mathlib.Core.Option.{Option, none, some}
use mathlib.Core.Logic.{◌⊎◌, inl, inr, ◌↔◌}
use native.Mathlib.Omega.{arith}
use borrow.Author.Tests.{eq-eqb, eqb-true, eqb-false, ltb-true, not-true, ne_eqb}
use lib.Dec.{eqb, ltb}
use lib.ListN.{length, get_or}
use Rattle.paper.specs.Bytes.{le2}
use Rattle.paper.specs.Verdict.{Verdict, refused, accepted}
use Rattle.paper.specs.Refusals.{rank, Lowest}
use Rattle.paper_settings.specs.Settings.{version, key_in, may_be, strays, is_malformed, is_free, holds, Setting, setting_of, slots_of, shown, known, used}
use Rattle.paper_settings.specs.Settings.{any_newer, all_free, in_order, is_disordered, area_verdict, Op, to_store, to_fetch, to_remove, only, fetch_reply}
use Rattle.paper_settings.specs.Settings.{replies, is_full, slot_of, put, take_out, on_slots, called, fetched, fetched_old, joined, FreeAt, KeyAt, Disorder}
use Rattle.paper_settings.specs.Settings.{malformed, key_twice, record_after_free, no_multiple, Refuses, newer, disordered, fetch_absent, remove_absent}
use Rattle.paper_settings.specs.Settings.{full}
use Rattle.paper.proofs.Tests.{true_not_false, not_so, and_both, or_either}
use Rattle.paper.specs.Record.{sound}
use Rattle.paper.proofs.Refusals.{ladder, ladder_down, ladder_up, none_holds, holds_none}
use Rattle.paper_settings.proofs.SlotLaws.{no_stray, some_stray, Ordered, no_slot, free_last}
use Rattle.paper_settings.proofs.SlotLaws.{record_first, in_order_lem, free_holds, each_at, newer_at, used_most}
use Rattle.paper_settings.proofs.SettingsLaws.{area_whole, area_slots, fetch_called}
use Rattle.paper_settings.proofs.SettingsUpgrade.{slot_at, slot_byte, key_there, slot_version_at}

-- ---- one slot: free is every byte zero; a free slot is no malformed one
pub free_byte : (x : List ℕ) → is_free x ≡ true → (j : ℕ) → get_or x j 0 ≡ 0
unfolding is_free
free_byte [] f j = refl
free_byte (b ∷ x) f zero = eqb-true b 0 (and_both (eqb b 0) (is_free x) f).0
free_byte (b ∷ x) f (suc j) = free_byte x (and_both (eqb b 0) (is_free x) f).1 j

pub bytes_free : (x : List ℕ) → ((j : ℕ) → j < length x → get_or x j 0 ≡ 0) → is_free x ≡ true
unfolding is_free
bytes_free [] h = refl
bytes_free (b ∷ x) h = rw (eq-eqb b 0 (h 0 (omega arith))) (bytes_free x (λ j l. h (suc j) (omega arith)))

pub free_sound : (x : List ℕ) → is_free x ≡ true → is_malformed x ≡ false
unfolding is_malformed
free_sound x f = not_so (is_malformed x) (λ e. let r = some_stray (version x) x 0 32 e in r.3 (free_byte x f r.0))

pub holds_used : (k : ℕ) (x : List ℕ) → holds k x ≡ true → (is_free x ≡ false) × (k ≡ key_in x)
unfolding holds
holds_used k x h =
    let a = and_both (not (is_free x)) (eqb k (key_in x)) h in
    (not-true (is_free x) a.0, eqb-true k (key_in x) a.1)

-- ---- slots by their places
pub known_at : (xs : List (List ℕ)) (k : ℕ) → known (shown xs k) ≡ true → (i : ℕ) × (i < length xs) × (holds k (get_or xs i []) ≡ true)
unfolding shown known
known_at [] k h = absurd (true_not_false h refl)
known_at (x ∷ xs) k h = go (holds k x) refl h (known_at xs k)
  where
    go : (b : Bool) → holds k x ≡ b → known (cond b (some (setting_of x)) (shown xs k)) ≡ true
        → (known (shown xs k) ≡ true → (i : ℕ) × (i < length xs) × (holds k (get_or xs i []) ≡ true))
        → (i : ℕ) × (i < suc (length xs)) × (holds k (get_or (x ∷ xs) i []) ≡ true)
    go true e h ih = (0, omega arith, e)
    go false e h ih = let r = ih h in (suc r.0, omega (arith, r.1), r.2)

pub at_known : (xs : List (List ℕ)) (k i : ℕ) → i < length xs → holds k (get_or xs i []) ≡ true → known (shown xs k) ≡ true
unfolding shown known
at_known [] k i l h = absurd (omega arith)
at_known (x ∷ xs) k zero l h = rw h
at_known (x ∷ xs) k (suc i) l h = go (holds k x) (at_known xs k i (omega arith) h)
  where
    go : (b : Bool) → known (shown xs k) ≡ true → known (cond b (some (setting_of x)) (shown xs k)) ≡ true
    go true ih = refl
    go false ih = ih

not_free_at : (xs : List (List ℕ)) → all_free xs ≡ false → (i : ℕ) × (i < length xs) × (is_free (get_or xs i []) ≡ false)
unfolding all_free
not_free_at [] h = absurd (true_not_false refl h)
not_free_at (x ∷ xs) h = go (is_free x) refl h (not_free_at xs)
  where
    go : (b : Bool) → is_free x ≡ b → b && all_free xs ≡ false
        → (all_free xs ≡ false → (i : ℕ) × (i < length xs) × (is_free (get_or xs i []) ≡ false))
        → (i : ℕ) × (i < suc (length xs)) × (is_free (get_or (x ∷ xs) i []) ≡ false)
    go true e h ih = let r = ih h in (suc r.0, omega (arith, r.1), r.2)
    go false e h ih = (0, omega arith, e)

pub free_at : (xs : List (List ℕ)) → all_free xs ≡ true → (i : ℕ) → i < length xs → is_free (get_or xs i []) ≡ true
unfolding all_free
free_at [] a i l = absurd (omega arith)
free_at (x ∷ xs) a zero l = (and_both (is_free x) (all_free xs) a).0
free_at (x ∷ xs) a (suc i) l = free_at xs (and_both (is_free x) (all_free xs) a).1 i (omega arith)

-- "no slot is free": as many records as slots
none_free : (xs : List (List ℕ)) → used xs ≡ length xs → (i : ℕ) → i < length xs → is_free (get_or xs i []) ≡ false
unfolding used
none_free [] h i l = absurd (omega arith)
none_free (x ∷ xs) h i l = go (is_free x) refl h i l (none_free xs)
  where
    go : (b : Bool) → is_free x ≡ b → cond b (used xs) (suc (used xs)) ≡ suc (length xs) → (i : ℕ) → i < suc (length xs)
        → (used xs ≡ length xs → (i : ℕ) → i < length xs → is_free (get_or xs i []) ≡ false) → is_free (get_or (x ∷ xs) i []) ≡ false
    go true e h i l ih = absurd (omega (arith, used_most xs))
    go false e h zero l ih = e
    go false e h (suc i) l ih = ih (omega arith) i (omega arith)

free_none : (xs : List (List ℕ)) → ((i : ℕ) → i < length xs → is_free (get_or xs i []) ≡ false) → used xs ≡ length xs
unfolding used
free_none [] h = refl
free_none (x ∷ xs) h = rw (h 0 (omega arith)) (ap suc (free_none xs (λ i l. h (suc i) (omega arith))))

some_newer : (newest : ℕ) (xs : List (List ℕ)) → any_newer newest xs ≡ true → (i : ℕ) × (i < length xs) × (newest < version (get_or xs i []))
unfolding any_newer
some_newer newest [] h = absurd (true_not_false h refl)
some_newer newest (x ∷ xs) h = go (or_either (ltb newest (version x)) (any_newer newest xs) h) (some_newer newest xs)
  where
    go : (ltb newest (version x) ≡ true) ⊎ (any_newer newest xs ≡ true)
        → (any_newer newest xs ≡ true → (i : ℕ) × (i < length xs) × (newest < version (get_or xs i [])))
        → (i : ℕ) × (i < suc (length xs)) × (newest < version (get_or (x ∷ xs) i []))
    go (inl e) ih = (0, omega arith, ltb-true newest (version x) e)
    go (inr e) ih = let r = ih e in (suc r.0, omega (arith, r.1), r.2)

-- slots out of order
data Upset (xs : List (List ℕ)) : Type 0 where
  bad : (i : ℕ) → i < length xs → is_malformed (get_or xs i []) ≡ true → Upset xs
  twice : (i j k : ℕ) → i < j → j < length xs → holds k (get_or xs i []) ≡ true → holds k (get_or xs j []) ≡ true → Upset xs
  late : (i j : ℕ) → i < j → j < length xs → is_free (get_or xs i []) ≡ true → is_free (get_or xs j []) ≡ false → Upset xs

further : (x : List ℕ) {xs : List (List ℕ)} → Upset xs → Upset (x ∷ xs)
further x (bad i l h) = bad (suc i) (omega arith) h
further x (twice i j k l m p q) = twice (suc i) (suc j) k (omega arith) (omega arith) p q
further x (late i j l m p q) = late (suc i) (suc j) (omega arith) (omega arith) p q

upset : (xs : List (List ℕ)) → in_order xs ≡ false → Upset xs
unfolding in_order holds
upset [] h = absurd (true_not_false refl h)
upset (x ∷ xs) h =
    go (is_free x) refl (is_malformed x) refl (known (shown xs (key_in x))) refl h (upset xs)
  where
    go : (f : Bool) → is_free x ≡ f → (m : Bool) → is_malformed x ≡ m → (k : Bool) → known (shown xs (key_in x)) ≡ k
        → cond f (all_free xs) (not m && (not k && in_order xs)) ≡ false → (in_order xs ≡ false → Upset xs) → Upset (x ∷ xs)
    go true f m p k q h ih = let r = not_free_at xs h in late 0 (suc r.0) (omega arith) (omega (arith, r.1)) f r.2
    go false f true p k q h ih = bad 0 (omega arith) p
    go false f false p true q h ih =
        let r = known_at xs (key_in x) q in
        twice 0 (suc r.0) (key_in x) (omega arith) (omega (arith, r.1)) (rw f (eq-eqb (key_in x) (key_in x) refl)) r.2
    go false f false p false q h ih = further x (ih h)

not_upset : {xs : List (List ℕ)} → Ordered xs → Upset xs → ⊥
unfolding known
not_upset no_slot (bad i l h) = omega arith
not_upset no_slot (twice i j k l m p q) = omega arith
not_upset no_slot (late i j l m p q) = omega arith
not_upset (free_last {x = x} {xs = xs} f a) u = all_free_lem (x ∷ xs) (both f a) u
  where
    both : is_free x ≡ true → all_free xs ≡ true → (i : ℕ) → i < length (x ∷ xs) → is_free (get_or (x ∷ xs) i []) ≡ true
    both f a zero l = f
    both f a (suc i) l = free_at xs a i (omega arith)

    all_free_lem : (ys : List (List ℕ)) → ((i : ℕ) → i < length ys → is_free (get_or ys i []) ≡ true) → Upset ys → ⊥
    all_free_lem ys g (bad i l h) = true_not_false h (free_sound (get_or ys i []) (g i l))
    all_free_lem ys g (twice i j k l m p q) = true_not_false q (free_holds k (get_or ys j []) (g j m))
    all_free_lem ys g (late i j l m p q) = true_not_false (g j m) q
not_upset (record_first {x = x} {xs = xs} f s n o) (bad zero l h) = true_not_false h s
not_upset (record_first {x = x} {xs = xs} f s n o) (bad (suc i) l h) = not_upset o (bad i (omega arith) h)
not_upset (record_first {x = x} {xs = xs} f s n o) (twice i zero k l m p q) = omega arith
not_upset (record_first {x = x} {xs = xs} f s n o) (twice zero (suc j) k l m p q) =
    true_not_false (at_known xs k j (omega arith) q) (ap (λ (y : ℕ). known (shown xs y)) (holds_used k x p).1 ∙ ap known n)
not_upset (record_first {x = x} {xs = xs} f s n o) (twice (suc i) (suc j) k l m p q) =
    not_upset o (twice i j k (omega arith) (omega arith) p q)
not_upset (record_first {x = x} {xs = xs} f s n o) (late i zero l m p q) = omega arith
not_upset (record_first {x = x} {xs = xs} f s n o) (late zero (suc j) l m p q) = true_not_false p f
not_upset (record_first {x = x} {xs = xs} f s n o) (late (suc i) (suc j) l m p q) = not_upset o (late i j (omega arith) (omega arith) p q)

-- ---- the area's bytes
module _ (a : List ℕ) (i : ℕ) (h : i < length a / 32) where
  slot : List ℕ
  slot = get_or (slots_of a) i []

  slot_long : length (get_or (slots_of a) i []) ≡ 32
  slot_long = each_at (λ x. length x ≡ 32) (slots_of a) i (area_whole a) (omega (arith, area_slots a))

  free_words : is_free (get_or (slots_of a) i []) ≡ true → FreeAt a i
  free_words f j l = sym (slot_byte a i j h l) ∙ free_byte (get_or (slots_of a) i []) f j

  words_free : FreeAt a i → is_free (get_or (slots_of a) i []) ≡ true
  words_free f =
      bytes_free (get_or (slots_of a) i [])
      (λ j l. let m : j < 32 = omega (arith, slot_long) in slot_byte a i j h m ∙ f j m)

  used_words : is_free (get_or (slots_of a) i []) ≡ false → ¬ FreeAt a i
  used_words e f = true_not_false (words_free f) e

  words_used : ¬ FreeAt a i → is_free (get_or (slots_of a) i []) ≡ false
  words_used n = not_so (is_free (get_or (slots_of a) i [])) (λ e. n (free_words e))

  slot_key : key_in (get_or (slots_of a) i []) ≡ le2 a (32 * i + 2)
  slot_key = ap key_in (slot_at a i h) ∙ key_there a i

  pub key_words : (k : ℕ) → holds k (get_or (slots_of a) i []) ≡ true → KeyAt a i k
  key_words k e = let r = holds_used k (get_or (slots_of a) i []) e in (used_words r.0, sym slot_key ∙ sym r.1)

  pub words_key : (k : ℕ) → KeyAt a i k → holds k (get_or (slots_of a) i []) ≡ true
  unfolding holds
  words_key k w = rw (words_used w.0) (eq-eqb k (key_in (get_or (slots_of a) i [])) (sym (slot_key ∙ w.1)))

  -- a malformed record
  bad_words : is_malformed (get_or (slots_of a) i []) ≡ true → Disorder a
  unfolding is_malformed
  bad_words e =
      let r = some_stray (version (get_or (slots_of a) i [])) (get_or (slots_of a) i []) 0 32 e in
      let j = r.0 in
      let l : j < 32 = omega (arith, r.1) in
      malformed i j h l (ap (λ (v : ℕ). may_be v j) (sym (slot_version_at a i h)) ∙ r.2) (λ z. r.3 (slot_byte a i j h l ∙ z))

  words_bad : (j : ℕ) → j < 32 → may_be (get_or a (32 * i) 0) j ≡ 0 → ¬ (get_or a (32 * i + j) 0 ≡ 0) → is_malformed (get_or (slots_of a) i []) ≡ true
  unfolding is_malformed
  words_bad j l m n = go (strays (version (get_or (slots_of a) i [])) (get_or (slots_of a) i []) 0 32) refl
    where
      go : (b : Bool) → strays (version (get_or (slots_of a) i [])) (get_or (slots_of a) i []) 0 32 ≡ b → b ≡ true
      go true e = refl
      go false e =
          absurd (n (sym (slot_byte a i j h l)
          ∙ no_stray (version (get_or (slots_of a) i [])) (get_or (slots_of a) i []) 0 32 e j (omega arith) l
          (ap (λ (v : ℕ). may_be v j) (slot_version_at a i h) ∙ m)))

-- 11, of slots
upset_words : (a : List ℕ) → Upset (slots_of a) → Disorder a
upset_words a (bad i l e) = bad_words a i (omega (arith, area_slots a)) e
upset_words a (twice i j k l m p q) =
    let n = area_slots a in
    key_twice i j k l (omega arith) (key_words a i (omega arith) k p) (key_words a j (omega arith) k q)
upset_words a (late i j l m p q) =
    let n = area_slots a in
    record_after_free i j l (omega arith) (free_words a i (omega arith) p) (used_words a j (omega arith) q)

disorder_words : (a : List ℕ) → is_disordered a ≡ true → Disorder a
unfolding is_disordered
disorder_words a h = go (or_either (not (eqb (length a % 32) 0)) (not (in_order (slots_of a))) h)
  where
    go : (not (eqb (length a % 32) 0) ≡ true) ⊎ (not (in_order (slots_of a)) ≡ true) → Disorder a
    go (inl e) = no_multiple (λ m q. eqb-false (length a % 32) 0 (not-true _ e) (omega arith))
    go (inr e) = upset_words a (upset (slots_of a) (not-true _ e))

words_disorder : (a : List ℕ) → Disorder a → is_disordered a ≡ true
unfolding is_disordered
words_disorder a d = go (eqb (length a % 32) 0) refl (in_order (slots_of a)) refl d
  where
    n : length (slots_of a) ≡ length a / 32
    n = area_slots a

    down : Disorder a → (length a % 32 ≡ 0) → Upset (slots_of a)
    down (malformed i j l m z w) e = bad i (omega (arith, n)) (words_bad a i l j m z w)
    down (key_twice i j k l m p q) e =
        twice i j k l (omega (arith, n)) (words_key a i (omega arith) k p) (words_key a j m k q)
    down (record_after_free i j l m p q) e =
        late i j l (omega (arith, n)) (words_free a i (omega arith) p) (words_used a j m q)
    down (no_multiple q) e = absurd (q (length a / 32) (omega arith))

    go : (m : Bool) → eqb (length a % 32) 0 ≡ m → (o : Bool) → in_order (slots_of a) ≡ o → Disorder a → not m || not o ≡ true
    go false e o p d = refl
    go true e false p d = refl
    go true e true p d = absurd (not_upset (in_order_lem (slots_of a) p) (down d (eqb-true (length a % 32) 0 e)))

-- 10
newer_words : (newest : ℕ) (a : List ℕ) → any_newer newest (slots_of a) ≡ true → (i : ℕ) × (i < length a / 32) × (newest < get_or a (32 * i) 0)
newer_words newest a h =
    let r = some_newer newest (slots_of a) h in
    let l : r.0 < length a / 32 = omega (arith, r.1, area_slots a) in
    (r.0, l, omega (arith, r.2, slot_version_at a r.0 l))

words_newer : (newest : ℕ) (a : List ℕ) (i : ℕ) → i < length a / 32 → newest < get_or a (32 * i) 0 → any_newer newest (slots_of a) ≡ true
words_newer newest a i l h = newer_at newest (slots_of a) i (omega (arith, area_slots a)) (omega (arith, slot_version_at a i l))

-- "key absent", "the key is new"
absent_words : (a : List ℕ) (k : ℕ) → known (shown (slots_of a) k) ≡ false → (i : ℕ) → i < length a / 32 → ¬ KeyAt a i k
absent_words a k e i l w = true_not_false (at_known (slots_of a) k i (omega (arith, area_slots a)) (words_key a i l k w)) e

words_absent : (a : List ℕ) (k : ℕ) → ((i : ℕ) → i < length a / 32 → ¬ KeyAt a i k) → known (shown (slots_of a) k) ≡ false
words_absent a k h =
    not_so (known (shown (slots_of a) k))
    (λ e. let r = known_at (slots_of a) k e in
    let l : r.0 < length a / 32 = omega (arith, r.1, area_slots a) in
    h r.0 l (key_words a r.0 l k r.2))

full_words : (a : List ℕ) (k : ℕ) → is_full (length (slots_of a)) (used (slots_of a)) (shown (slots_of a) k) ≡ true
    → ((i : ℕ) → i < length a / 32 → ¬ KeyAt a i k) × ((i : ℕ) → i < length a / 32 → ¬ FreeAt a i)
unfolding is_full
full_words a k h =
    let xs = slots_of a in
    let b = and_both (not (known (shown xs k))) (eqb (used xs) (length xs)) h in (
      absent_words a k (not-true (known (shown xs k)) b.0),
      λ i l. used_words a i l (none_free xs (eqb-true (used xs) (length xs) b.1) i (omega (arith, area_slots a))),
    )

words_full : (a : List ℕ) (k : ℕ) → ((i : ℕ) → i < length a / 32 → ¬ KeyAt a i k) → ((i : ℕ) → i < length a / 32 → ¬ FreeAt a i)
    → is_full (length (slots_of a)) (used (slots_of a)) (shown (slots_of a) k) ≡ true
unfolding is_full
words_full a k h f =
    let xs = slots_of a in
    rw (words_absent a k h)
    (eq-eqb (used xs) (length xs)
    (free_none xs (λ i l. let m : i < length a / 32 = omega (arith, area_slots a) in words_used a i m (f i m))))

-- ---- the tests in order
absent_for : Op → List (List ℕ) → Bool
absent_for (to_store k v u) xs = false
absent_for (to_fetch k) xs = not (known (shown xs k))
absent_for (to_remove k) xs = not (known (shown xs k))

full_for : Op → List (List ℕ) → Bool
full_for (to_store k v u) xs = is_full (length xs) (used xs) (shown xs k)
full_for (to_fetch k) xs = false
full_for (to_remove k) xs = false

test : ℕ → Op → List ℕ → ℕ → Bool
test newest op a k =
    cond (eqb k 10) (any_newer newest (slots_of a))
    (cond (eqb k 11) (is_disordered a)
    (cond (eqb k 12) (absent_for op (slots_of a))
    (eqb k 13 && full_for op (slots_of a))))

-- a number that the tests in order give
abbrev Tested : ℕ → Op → List ℕ → ℕ → Type 0
Tested newest op a n = refused n 0 ≡ ladder (test newest op a) (λ j. 0) (λ j. sound) 4 10

-- a reader's is such a one
fetch_tested : (newest k : ℕ) (a : List ℕ) → Tested newest (to_fetch k) a (fetched newest k a).number
unfolding fetched area_verdict ladder test absent_for full_for known fetch_reply
fetch_tested newest k a = go (any_newer newest (slots_of a)) (is_disordered a) (shown (slots_of a) k)
  where
    go : (n d : Bool) (o : Option Setting)
        → refused (cond (eqb (cond n 10 (cond d 11 0)) 0) (fetch_reply o) (only (cond n 10 (cond d 11 0)))).number 0
        ≡ cond n (refused 10 0) (cond d (refused 11 0) (cond (not (known o)) (refused 12 0) accepted))
    go true d o = refl
    go false true o = refl
    go false false none = refl
    go false false (some s) = refl

-- and so is that of each call
call_tested : (op : Op) (a : List ℕ) → Tested 2 op a (called op a).reply.number
unfolding called on_slots area_verdict ladder test absent_for full_for known
call_tested (to_store k v u) a =
    go (any_newer 2 (slots_of a)) (is_disordered a) (is_full (length (slots_of a)) (used (slots_of a)) (shown (slots_of a) k))
  where
    go : (n d f : Bool)
        → refused
        (cond (eqb (cond n 10 (cond d 11 0)) 0)
        (replies (cond f (replies (only 13) (slots_of a)) (replies (only 0) (put k (slot_of k v u) (slots_of a)))).reply
        (joined (cond f (replies (only 13) (slots_of a)) (replies (only 0) (put k (slot_of k v u) (slots_of a)))).after))
        (replies (only (cond n 10 (cond d 11 0))) a)
        ).reply.number
        0
        ≡ cond n (refused 10 0) (cond d (refused 11 0) (cond f (refused 13 0) accepted))
    go true d f = refl
    go false true f = refl
    go false false true = refl
    go false false false = refl
call_tested (to_fetch k) a = rw (fetch_called k a) (fetch_tested 2 k a)
call_tested (to_remove k) a = go (any_newer 2 (slots_of a)) (is_disordered a) (known (shown (slots_of a) k))
  where
    go : (n d f : Bool)
        → refused
        (cond (eqb (cond n 10 (cond d 11 0)) 0)
        (replies (cond f (replies (only 0) (take_out k (slots_of a))) (replies (only 12) (slots_of a))).reply
        (joined (cond f (replies (only 0) (take_out k (slots_of a))) (replies (only 12) (slots_of a))).after))
        (replies (only (cond n 10 (cond d 11 0))) a)
        ).reply.number
        0
        ≡ cond n (refused 10 0) (cond d (refused 11 0) (cond (not f) (refused 12 0) accepted))
    go true d f = refl
    go false true f = refl
    go false false true = refl
    go false false false = refl

-- the test of number k holds exactly when refusal k applies
absent_test : {newest : ℕ} (op : Op) (a : List ℕ) → absent_for op (slots_of a) ≡ true → Refuses newest a op 12 0
unfolding absent_for
absent_test (to_store k v u) a h = absurd (true_not_false h refl)
absent_test (to_fetch k) a h = fetch_absent (absent_words a k (not-true _ h))
absent_test (to_remove k) a h = remove_absent (absent_words a k (not-true _ h))

full_test : {newest : ℕ} (op : Op) (a : List ℕ) → full_for op (slots_of a) ≡ true → Refuses newest a op 13 0
unfolding full_for
full_test (to_store k v u) a h = let r = full_words a k h in full r.0 r.1
full_test (to_fetch k) a h = absurd (true_not_false h refl)
full_test (to_remove k) a h = absurd (true_not_false h refl)

test_words : (newest : ℕ) (op : Op) (a : List ℕ) (k : ℕ) → test newest op a k ≡ true → Refuses newest a op k 0
unfolding test
test_words newest op a k h = go (eqb k 10) refl (eqb k 11) refl (eqb k 12) refl (eqb k 13) refl h
  where
    at : (m : ℕ) → eqb k m ≡ true → Refuses newest a op m 0 → Refuses newest a op k 0
    at m e r = subst (λ (q : ℕ). Refuses newest a op q 0) (sym (eqb-true k m e)) r

    go : (p : Bool) → eqb k 10 ≡ p → (q : Bool) → eqb k 11 ≡ q → (r : Bool) → eqb k 12 ≡ r → (s : Bool) → eqb k 13 ≡ s
        → cond p (any_newer newest (slots_of a)) (cond q (is_disordered a) (cond r (absent_for op (slots_of a)) (s && full_for op (slots_of a)))) ≡ true
        → Refuses newest a op k 0
    go true e q f r g s u h = let w = newer_words newest a h in at 10 e (newer w.0 w.1 w.2)
    go false e true f r g s u h = at 11 f (disordered (disorder_words a h))
    go false e false f true g s u h = at 12 g (absent_test op a h)
    go false e false f false g true u h = at 13 u (full_test op a h)
    go false e false f false g false u h = absurd (true_not_false h refl)

words_test : (newest : ℕ) (op : Op) (a : List ℕ) (k p : ℕ) → Refuses newest a op k p → (test newest op a k ≡ true) × (0 ≡ p) × (10 ≤ k) × (k < 14)
unfolding test absent_for full_for
words_test newest op a k p (newer i l h) = (words_newer newest a i l h, refl, omega arith, omega arith)
words_test newest op a k p (disordered d) = (words_disorder a d, refl, omega arith, omega arith)
words_test newest op a k p (fetch_absent {k = j} h) = (ap not (words_absent a j h), refl, omega arith, omega arith)
words_test newest op a k p (remove_absent {k = j} h) = (ap not (words_absent a j h), refl, omega arith, omega arith)
words_test newest op a k p (full {k = j} h f) = (words_full a j h f, refl, omega arith, omega arith)

-- from 10 up to 18 the order of the refusals is that of their numbers
in_order_of_numbers : (k : ℕ) → 10 ≤ k → k < 19 → rank k ≡ k + 2
unfolding rank
in_order_of_numbers k h l = rw (ne_eqb k 19 (λ e. omega arith), ne_eqb k 9 (λ e. omega arith), ne_eqb k 8 (λ e. omega arith))

-- a number that they give is a refusal's exactly when the request says so, and 0 exactly when no refusal applies
module _ (newest : ℕ) (op : Op) (a : List ℕ) (n : ℕ) (tested : Tested newest op a n) where
  exactly : (k : ℕ) → 0 < k → (n ≡ k) ↔ Lowest (Refuses newest a op) k 0
  exactly k l = (down, up)
    where
      down : n ≡ k → Lowest (Refuses newest a op) k 0
      down h =
          let r = ladder_down (test newest op a) (λ j. 0) (λ j. sound) 4 10 k 0 sound l (sym tested ∙ ap (λ (m : ℕ). refused m 0) h) in
          let z = words_test newest op a k 0 (test_words newest op a k r.0) in
          record {
            given = test_words newest op a k r.0;
            lowest = λ j q u x. let y = words_test newest op a j q x in
                true_not_false y.0
                (r.2 j y.2 (omega (arith, in_order_of_numbers j y.2 (omega (arith, y.3)), in_order_of_numbers k z.2 (omega (arith, z.3)))));
          }

      up : Lowest (Refuses newest a op) k 0 → n ≡ k
      up h =
          let y = words_test newest op a k 0 h.given in
          ap (λ (v : Verdict). v.number)
          (tested
          ∙ ladder_up (test newest op a) (λ j. 0) (λ j. sound) 4 10 k y.2 y.3 y.0
          (λ j u v. not_so (test newest op a j) (λ e. h.lowest j 0
          (omega (arith, in_order_of_numbers j u (omega (arith, y.3)), in_order_of_numbers k y.2 (omega (arith, y.3)))) (test_words newest op a j e))))

  none_exactly : (n ≡ 0) ↔ ((k p : ℕ) → ¬ Refuses newest a op k p)
  none_exactly = (
    λ h k p x. let y = words_test newest op a k p x in
        true_not_false y.0
        (none_holds (test newest op a) (λ j. 0) (λ j. sound) 4 10 (omega arith) (sym tested ∙ ap (λ (m : ℕ). refused m 0) h) k y.2 y.3),
    λ h. ap (λ (v : Verdict). v.number)
        (tested ∙ holds_none (test newest op a) (λ j. 0) (λ j. sound) 4 10 (λ j u v. not_so (test newest op a j) (λ e. h j 0 (test_words newest op a j e)))),
  )

-- a refusal is given exactly when the request says so, "tested in this order"
pub refused_exactly : (op : Op) (a : List ℕ) (k : ℕ) → 0 < k → ((called op a).reply.number ≡ k) ↔ Lowest (Refuses 2 a op) k 0
refused_exactly op a = exactly 2 op a (called op a).reply.number (call_tested op a)

-- and a call is accepted exactly when none applies
pub accepted_exactly : (op : Op) (a : List ℕ) → ((called op a).reply.number ≡ 0) ↔ ((k p : ℕ) → ¬ Refuses 2 a op k p)
accepted_exactly op a = none_exactly 2 op a (called op a).reply.number (call_tested op a)

-- the old release's reader, by the versions that it knows
pub old_refused_exactly : (k : ℕ) (a : List ℕ) (n : ℕ) → 0 < n → ((fetched_old k a).number ≡ n) ↔ Lowest (Refuses 1 a (to_fetch k)) n 0
unfolding fetched_old
old_refused_exactly k a = exactly 1 (to_fetch k) a (fetched 1 k a).number (fetch_tested 1 k a)

pub old_accepted_exactly : (k : ℕ) (a : List ℕ) → ((fetched_old k a).number ≡ 0) ↔ ((n p : ℕ) → ¬ Refuses 1 a (to_fetch k) n p)
unfolding fetched_old
old_accepted_exactly k a = none_exactly 1 (to_fetch k) a (fetched 1 k a).number (fetch_tested 1 k a)
