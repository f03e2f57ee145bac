-- What the passes over the keys say of an area: one that is in place is in order exactly where no key is there twice; a key that is there
-- twice is of one part, so that the passes tell; and in a pass a key is there twice where it was seen before or comes again, so that a bit
-- set for it tells of what comes. Each is an induction on the slots or the keys that are left.
use Prim.Native.Nat.{ℕ, ◌+◌, ◌/◌, ◌%◌, ◌<◌, ◌≤◌}
use mathlib.Core.Path.{◌≡◌, refl, sym, ap, ◌∙◌}
use mathlib.Core.Bool.{Bool, true, false, cond, ◌&&◌, ◌||◌, not}
use mathlib.Core.List.{List, [], ◌∷◌}
use mathlib.Core.Option.{some}
use native.Mathlib.Decide.{ℕ_discrete, dec_lt}
use native.Mathlib.Omega.{arith}
use borrow.Author.Tests.{eq-eqb, ne_eqb, le-leb, lt-leb}
use lib.Dec.{eqb, leb}
use lib.ListN.{length, replicate}
use Rattle.paper.proofs.Tests.{true_not_false}
use Rattle.paper_settings.specs.Settings.{key_in, is_malformed, is_free, holds, setting_of, shown, known, all_free, in_order}
use Rattle.paper_settings.proofs.SlotLaws.{free_shown}
use Rattle.table.specs.Due.{due_at, turned}
use Rattle.table.proofs.DueLaws.{set_bit, other_bits, none_set}
use Rattle.settings.specs.Slots.{slot_at, rest, in_place, keys_in}
use Rattle.settings.specs.Keys.{has, twice, in_part, part_from, parts_of}
use Rattle.settings.proofs.StepLaws.{rest_step, rest_done}

-- ---- the keys from slot i on
module _ (a : List ℕ) (i : ℕ) where
  pub keys_free : i < length a / 32 → is_free (slot_at a i) ≡ true → keys_in (rest a i) ≡ []
  unfolding keys_in
  keys_free h f = rw (rest_step a i h, f)

  pub keys_record : i < length a / 32 → is_free (slot_at a i) ≡ false → keys_in (rest a i) ≡ key_in (slot_at a i) ∷ keys_in (rest a (i + 1))
  unfolding keys_in
  keys_record h f = rw (rest_step a i h, f)

  pub keys_done : length a / 32 ≤ i → keys_in (rest a i) ≡ []
  unfolding keys_in
  keys_done h = rw (rest_done a i h)

-- ---- in order: in place, and no key twice
placed : (m : Bool) (xs : List (List ℕ)) → (not m && in_place xs) ≡ true → in_place xs ≡ true
placed true xs p = absurd (true_not_false p refl)
placed false xs p = p

known_has : (k : ℕ) (xs : List (List ℕ)) → in_place xs ≡ true → known (shown xs k) ≡ has k (keys_in xs)
unfolding known shown holds has in_place keys_in
known_has k [] h = refl
known_has k (x ∷ xs) h = by_slot (is_free x) h (λ p. known_has k xs p)
  where
    by_key : (b : Bool) → known (shown xs k) ≡ has k (keys_in xs)
        → known (cond b (some (setting_of x)) (shown xs k)) ≡ (b || has k (keys_in xs))
    by_key true e = refl
    by_key false e = e

    by_slot : (b : Bool) → cond b (all_free xs) (not (is_malformed x) && in_place xs) ≡ true
        → (in_place xs ≡ true → known (shown xs k) ≡ has k (keys_in xs))
        → known (cond (not b && eqb k (key_in x)) (some (setting_of x)) (shown xs k)) ≡ has k (cond b [] (key_in x ∷ keys_in xs))
    by_slot true p e = ap known (free_shown xs p k)
    by_slot false p e = by_key (eqb k (key_in x)) (e (placed (is_malformed x) xs p))

pub order_placed : (xs : List (List ℕ)) → in_place xs ≡ true → in_order xs ≡ not (twice (part_from 0) (keys_in xs))
unfolding in_order in_place keys_in twice part_from
order_placed [] h = refl
order_placed (x ∷ xs) h = by_slot (is_free x) h (λ p. order_placed xs p)
  where
    both : (h t : Bool) → (not h && not t) ≡ not (h || t)
    both true t = refl
    both false t = refl

    by_record : (m : Bool) → (not m && in_place xs) ≡ true → in_order xs ≡ not (twice (part_from 0) (keys_in xs))
        → (not m && (not (known (shown xs (key_in x))) && in_order xs))
        ≡ not ((leb 0 (key_in x / 8192) && has (key_in x) (keys_in xs)) || twice (part_from 0) (keys_in xs))
    by_record true p e = absurd (true_not_false p refl)
    by_record false p e =
        rw (known_has (key_in x) xs p, e, le-leb 0 (key_in x / 8192) (omega arith))
        (both (has (key_in x) (keys_in xs)) (twice (part_from 0) (keys_in xs)))

    by_slot : (b : Bool) → cond b (all_free xs) (not (is_malformed x) && in_place xs) ≡ true
        → (in_place xs ≡ true → in_order xs ≡ not (twice (part_from 0) (keys_in xs)))
        → cond b (all_free xs) (not (is_malformed x) && (not (known (shown xs (key_in x))) && in_order xs))
        ≡ not (twice (part_from 0) (cond b [] (key_in x ∷ keys_in xs)))
    by_slot true p e = p
    by_slot false p e = by_record (is_malformed x) p (e (placed (is_malformed x) xs p))

pub order_displaced : (xs : List (List ℕ)) → in_place xs ≡ false → in_order xs ≡ false
unfolding in_order in_place
order_displaced [] h = absurd (true_not_false refl h)
order_displaced (x ∷ xs) h = by_slot (is_free x) (is_malformed x) h (λ p. order_displaced xs p)
  where
    by_known : (b : Bool) → in_order xs ≡ false → (not b && in_order xs) ≡ false
    by_known true e = refl
    by_known false e = e

    by_slot : (b m : Bool) → cond b (all_free xs) (not m && in_place xs) ≡ false → (in_place xs ≡ false → in_order xs ≡ false)
        → cond b (all_free xs) (not m && (not (known (shown xs (key_in x))) && in_order xs)) ≡ false
    by_slot true m p e = p
    by_slot false true p e = refl
    by_slot false false p e = by_known (known (shown xs (key_in x))) (e p)

-- ---- part by part
pub parts_split : (part : ℕ) (ks : List ℕ) → twice (part_from part) ks ≡ (twice (in_part part) ks || twice (part_from (part + 1)) ks)
unfolding twice in_part part_from
parts_split part [] = refl
parts_split part (k ∷ ks) = rw (parts_split part ks) (by (dec_lt (k / 8192) part) (ℕ_discrete (k / 8192) part))
  where
    here : (h a b : Bool) → (h || (a || b)) ≡ ((h || a) || b)
    here true a b = refl
    here false a b = refl

    later : (h a b : Bool) → (h || (a || b)) ≡ (a || (h || b))
    later true true b = refl
    later true false b = refl
    later false a b = refl

    by : Dec (k / 8192 < part) → Dec (k / 8192 ≡ part)
        → ((leb part (k / 8192) && has k ks) || (twice (in_part part) ks || twice (part_from (part + 1)) ks))
        ≡ (((eqb (k / 8192) part && has k ks) || twice (in_part part) ks) || ((leb (part + 1) (k / 8192) && has k ks) || twice (part_from (part + 1)) ks))
    by (yes l) e =
        rw (lt-leb part (k / 8192) l, ne_eqb (k / 8192) part (λ q. omega arith), lt-leb (part + 1) (k / 8192) (omega arith)) refl
    by (no l) (yes e) =
        rw (le-leb part (k / 8192) (omega arith), eq-eqb (k / 8192) part e, lt-leb (part + 1) (k / 8192) (omega arith))
        (here (has k ks) (twice (in_part part) ks) (twice (part_from (part + 1)) ks))
    by (no l) (no e) =
        let n : part < k / 8192 = omega arith in
        rw (le-leb part (k / 8192) (omega arith), ne_eqb (k / 8192) part e, le-leb (part + 1) (k / 8192) (omega arith))
        (later (has k ks) (twice (in_part part) ks) (twice (part_from (part + 1)) ks))

-- the number of parts, one key more
module _ (m k : ℕ) (ks : List ℕ) where
  pub parts_more : m ≤ k / 8192 → parts_of m (k ∷ ks) ≡ parts_of (k / 8192 + 1) ks
  unfolding parts_of
  parts_more h = rw (le-leb m (k / 8192) h)

  pub parts_same : k / 8192 < m → parts_of m (k ∷ ks) ≡ parts_of m ks
  unfolding parts_of
  parts_same h = rw (lt-leb m (k / 8192) h)

-- it is at least what it was, and no key is of a part after it
parts_least : (m : ℕ) (ks : List ℕ) → m ≤ parts_of m ks
unfolding parts_of
parts_least m [] = omega arith
parts_least m (k ∷ ks) = by (dec_lt (k / 8192) m) (parts_least m ks) (parts_least (k / 8192 + 1) ks)
  where
    by : Dec (k / 8192 < m) → m ≤ parts_of m ks → k / 8192 + 1 ≤ parts_of (k / 8192 + 1) ks → m ≤ parts_of m (k ∷ ks)
    by (yes l) e f = rw (parts_same m k ks l) e
    by (no l) e f = rw (parts_more m k ks (omega arith)) (omega arith)

pub parts_over : (part m : ℕ) (ks : List ℕ) → parts_of m ks ≤ part → twice (part_from part) ks ≡ false
unfolding twice part_from
parts_over part m [] h = refl
parts_over part m (k ∷ ks) h = by (dec_lt (k / 8192) m) (parts_over part m ks) (parts_over part (k / 8192 + 1) ks)
  where
    by : Dec (k / 8192 < m)
        → (parts_of m ks ≤ part → twice (part_from part) ks ≡ false)
        → (parts_of (k / 8192 + 1) ks ≤ part → twice (part_from part) ks ≡ false)
        → ((leb part (k / 8192) && has k ks) || twice (part_from part) ks) ≡ false
    by (yes l) e f =
        let q : parts_of m ks ≤ part = rw (parts_same m k ks l) at h in
        rw (lt-leb part (k / 8192) (omega (arith, parts_least m ks)), e q)
    by (no l) e f =
        let q : parts_of (k / 8192 + 1) ks ≤ part = rw (parts_more m k ks (omega arith)) at h in
        rw (lt-leb part (k / 8192) (omega (arith, parts_least (k / 8192 + 1) ks)), f q)

-- ---- a pass: some key of the part has its bit set, or is there again later
unfoldable pub again : List ℕ → ℕ → List ℕ → Bool
again seen part [] = false
again seen part (k ∷ ks) = (in_part part k && (eqb (due_at seen (k % 8192)) 1 || has k ks)) || again seen part ks

pub again_start : (part : ℕ) (ks : List ℕ) → twice (in_part part) ks ≡ again (replicate 128 0) part ks
unfolding twice again
again_start part [] = refl
again_start part (k ∷ ks) = rw (none_set 128 (k % 8192), again_start part ks)

module _ (seen : List ℕ) (part k : ℕ) (ks : List ℕ) where
  pub again_other : (k / 8192 ≡ part → ⊥) → again seen part (k ∷ ks) ≡ again seen part ks
  unfolding again in_part
  again_other e = rw (ne_eqb (k / 8192) part e)

  pub again_seen : k / 8192 ≡ part → eqb (due_at seen (k % 8192)) 1 ≡ true → again seen part (k ∷ ks) ≡ true
  unfolding again in_part
  again_seen e s = rw (eq-eqb (k / 8192) part e, s)

-- the bit that is set for a key tells whether it comes again
set_tells : (seen : List ℕ) (part k : ℕ) → length seen ≡ 128 → k / 8192 ≡ part → due_at seen (k % 8192) ≡ 0
    → (ks : List ℕ) → (has k ks || again seen part ks) ≡ again (turned seen (k % 8192)) part ks
unfolding has again in_part
set_tells seen part k l e z [] = refl
set_tells seen part k l e z (j ∷ js) = rw (sym (set_tells seen part k l e z js)) (by (ℕ_discrete (j / 8192) part) (ℕ_discrete k j))
  where
    past : (s i h a : Bool) → (h || ((s || i) || a)) ≡ ((s || i) || (h || a))
    past true i true a = refl
    past true i false a = refl
    past false true true a = refl
    past false true false a = refl
    past false false h a = refl

    by : Dec (j / 8192 ≡ part) → Dec (k ≡ j)
        → ((eqb k j || has k js) || ((eqb (j / 8192) part && (eqb (due_at seen (j % 8192)) 1 || has j js)) || again seen part js))
        ≡ ((eqb (j / 8192) part && (eqb (due_at (turned seen (k % 8192)) (j % 8192)) 1 || has j js)) || (has k js || again seen part js))
    by (no d) q = rw (ne_eqb (j / 8192) part d, ne_eqb k j (λ p. d (omega arith))) refl
    by (yes d) (yes q) =
        let b : due_at (turned seen (k % 8192)) (j % 8192) ≡ 1 =
        ap (λ (m : ℕ). due_at (turned seen (k % 8192)) (m % 8192)) (sym q) ∙ set_bit seen (k % 8192) (omega arith) z in
        rw (eq-eqb (j / 8192) part d, eq-eqb k j q, b) refl
    by (yes d) (no q) =
        let b : due_at (turned seen (k % 8192)) (j % 8192) ≡ due_at seen (j % 8192) =
        other_bits seen (k % 8192) (j % 8192) (omega arith) (λ p. q (omega arith)) in
        rw (eq-eqb (j / 8192) part d, ne_eqb k j q, b)
        (past (eqb (due_at seen (j % 8192)) 1) (has j js) (has k js) (again seen part js))

pub again_set : (seen : List ℕ) (part k : ℕ) (ks : List ℕ) → length seen ≡ 128 → k / 8192 ≡ part → due_at seen (k % 8192) ≡ 0
    → again seen part (k ∷ ks) ≡ again (turned seen (k % 8192)) part ks
unfolding again in_part
again_set seen part k ks l e z = rw (eq-eqb (k / 8192) part e, z) (set_tells seen part k l e z ks)
