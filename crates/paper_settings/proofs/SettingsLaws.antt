-- The settings store answers as a plain map does, and survives an upgrade. On slots in order each operation does to what they show what
-- the map's operation does (SlotLaws); an area of whole slots is its slots end to end, so the same holds of bytes, and of sequences by
-- induction. The upgrade theorems follow from what a record's version says of its bytes.
use Prim.Native.Nat.{ℕ, zero, suc, ◌+◌, ◌*◌, ◌/◌, ◌%◌, ◌^◌, ◌<◌, ◌≤◌}
use mathlib.Core.Path.{◌≡◌, refl, sym, ap, ap₂, ◌∙◌, subst, fun_ext}
use mathlib.Core.Bool.{Bool, true, false, cond, ◌||◌, not}
use mathlib.Core.List.{List, [], ◌∷◌, ◌++◌}
use mathlib.Core.Option.{Option, some}
use native.Mathlib.Omega.{arith}
use borrow.Author.Tests.{eq-eqb, ne_eqb, eqb-true, eqb-false}
use lib.Dec.{eqb}
use lib.ListN.{length, take, drop, replicate, length-append, length-drop, length-replicate, take-append-drop, replicate-append-replicate}
use lib.Seq.{length-take-le, take_at, drop_at}
use Rattle.paper_settings.specs.Settings.{slot_of, free_slot, Setting, slots, joined, slots_of, shown, known, used, any_newer, all_free, in_order}
use Rattle.paper_settings.specs.Settings.{is_disordered}
use Rattle.paper_settings.specs.Settings.{area_verdict, Op, to_store, to_fetch, to_remove, Fits, AllFit, Reply, only, replies, Map, no_settings, with}
use Rattle.paper_settings.specs.Settings.{without, is_full, on_map, map_of, put, take_out, on_slots, called, fetch_reply, fetched, call_each, ask_each}
use Rattle.paper_settings.proofs.SlotLaws.{slot_length, slot_used, slot_sound, slot_key, slot_setting, free_slot_lem, free_shown, free_used, free_order}
use Rattle.paper_settings.proofs.SlotLaws.{Ordered, in_order_lem, order_in, place, shown_put, used_put, order_put, shown_out, used_out, order_out}
use Rattle.paper_settings.proofs.SlotLaws.{length_put, length_out, Each, each_put, each_out, newer_none, order_versions}

-- ---- an area and its slots
abbrev pub Whole : List (List ℕ) → Type 0
Whole = Each (λ x. length x ≡ 32)

pub slots_length : (n : ℕ) (a : List ℕ) → length (slots n a) ≡ n
unfolding slots
slots_length zero a = refl
slots_length (suc n) a = ap suc (slots_length n (drop 32 a))

pub slots_whole : (n : ℕ) (a : List ℕ) → 32 * n ≤ length a → Whole (slots n a)
unfolding slots
slots_whole zero a h = tt
slots_whole (suc n) a h =
    (length-take-le 32 a (omega arith), slots_whole n (drop 32 a) (simp length-drop (omega arith)))

pub joined_slots : (n : ℕ) (a : List ℕ) → length a ≡ 32 * n → joined (slots n a) ≡ a
unfolding slots joined
joined_slots zero [] h = refl
joined_slots zero (b ∷ a) h = absurd (omega arith)
joined_slots (suc n) a h =
    ap (λ (r : List ℕ). take 32 a ++ r) (joined_slots n (drop 32 a) (simp length-drop (omega arith)))
    ∙ take-append-drop 32 a

pub joined_length : (xs : List (List ℕ)) → Whole xs → length (joined xs) ≡ 32 * length xs
unfolding joined
joined_length [] w = refl
joined_length (x ∷ xs) w = simp length-append (omega (arith, w.0, joined_length xs w.1))

slots_joined : (xs : List (List ℕ)) → Whole xs → slots (length xs) (joined xs) ≡ xs
unfolding slots joined
slots_joined [] w = refl
slots_joined (x ∷ xs) w = rw (take_at x (joined xs) 32 w.0, drop_at x (joined xs) 32 w.0, slots_joined xs w.1)

pub slots_of_joined : (xs : List (List ℕ)) → Whole xs → slots_of (joined xs) ≡ xs
unfolding slots_of
slots_of_joined xs w =
    let l = joined_length xs w in
    let e : length (joined xs) / 32 ≡ length xs = omega arith in
    rw e (slots_joined xs w)

-- the slots of an area of whole slots
pub area_whole : (a : List ℕ) → Whole (slots_of a)
unfolding slots_of
area_whole a = slots_whole (length a / 32) a (omega arith)

pub area_joined : (a : List ℕ) → length a % 32 ≡ 0 → joined (slots_of a) ≡ a
unfolding slots_of
area_joined a h = joined_slots (length a / 32) a (omega arith)

pub area_slots : (a : List ℕ) → length (slots_of a) ≡ length a / 32
unfolding slots_of
area_slots a = slots_length (length a / 32) a

-- ---- an area that is not refused
pub record Kept (newest : ℕ) (a : List ℕ) : Type 0 where
  pub known_versions : any_newer newest (slots_of a) ≡ false
  pub whole : length a % 32 ≡ 0
  pub ordered : Ordered (slots_of a)

pub kept : (newest : ℕ) (a : List ℕ) → area_verdict newest a ≡ 0 → Kept newest a
unfolding area_verdict is_disordered
kept newest a h = go (any_newer newest (slots_of a)) refl (eqb (length a % 32) 0) refl (in_order (slots_of a)) refl h
  where
    go : (n : Bool) → any_newer newest (slots_of a) ≡ n → (m : Bool) → eqb (length a % 32) 0 ≡ m → (o : Bool) → in_order (slots_of a) ≡ o
        → ◌≡◌ {A = ℕ} (cond n 10 (cond (not m || not o) 11 0)) 0 → Kept newest a
    go true n m p o q h = absurd (omega arith)
    go false n true p true q h = record { known_versions = n; whole = eqb-true (length a % 32) 0 p; ordered = in_order_lem (slots_of a) q }
    go false n true p false q h = absurd (omega arith)
    go false n false p o q h = absurd (omega arith)

pub not_refused : (newest : ℕ) (a : List ℕ) → Kept newest a → area_verdict newest a ≡ 0
unfolding area_verdict is_disordered
not_refused newest a k = rw (k.known_versions, eq-eqb (length a % 32) 0 k.whole, order_in k.ordered)

-- slots in order, end to end, are an area that the new release takes
pub joined_kept : (xs : List (List ℕ)) → Whole xs → Ordered xs → area_verdict 2 (joined xs) ≡ 0
joined_kept xs w o =
    let l = joined_length xs w in
    let o' : Ordered (slots_of (joined xs)) = rw (slots_of_joined xs w) o in
    not_refused 2 (joined xs)
    (record { known_versions = newer_none 2 (slots_of (joined xs)) (order_versions o'); whole = omega arith; ordered = o' })

-- ---- one operation on slots in order
same_map : (l m : ℕ → Option Setting) (i j : ℕ) → ((k : ℕ) → l k ≡ m k) → i ≡ j
    → ◌≡◌ {A = Map} (record { look = l; size = i }) (record { look = m; size = j })
same_map l m i j p q = ap₂ (λ (f : ℕ → Option Setting) (n : ℕ). record { look = f; size = n }) (fun_ext p) q

put_map : (k v u : ℕ) → k < 2 ^ 16 → v < 2 ^ 64 → u < 2 ^ 16 → (xs : List (List ℕ)) → Ordered xs
    → is_full (length xs) (used xs) (shown xs k) ≡ false
    → with k (record { setting = v; unit = u }) (map_of xs) ≡ map_of (put k (slot_of k v u) xs)
unfolding with map_of
put_map k v u g h l xs o e =
    let p = place k xs e in
    let r = slot_of k v u in
    let rk = slot_key k v u g in
    same_map _ _ _ _
    (λ j. sym (shown_put k r (slot_used k v u) rk xs p j
    ∙ ap (λ (s : Setting). cond (eqb j k) (some s) (shown xs j)) (slot_setting k v u h l)))
    (sym (used_put k r (slot_used k v u) rk o p))

out_map : (k : ℕ) (xs : List (List ℕ)) → Ordered xs → known (shown xs k) ≡ true → without k (map_of xs) ≡ map_of (take_out k xs)
unfolding without map_of
out_map k xs o e = same_map _ _ _ _ (λ j. sym (shown_out k o j)) (omega (arith, used_out k o e))

-- the map's answer, and what shows afterwards is the map afterwards
pub on_slots_lem : (op : Op) → Fits op → (xs : List (List ℕ)) → Ordered xs
    → on_map (length xs) op (map_of xs) ≡ replies (on_slots op xs).reply (map_of (on_slots op xs).after)
unfolding on_map on_slots map_of
on_slots_lem (to_store k v u) f xs o = go (is_full (length xs) (used xs) (shown xs k)) refl
  where
    go : (b : Bool) → is_full (length xs) (used xs) (shown xs k) ≡ b
        → cond b (replies (only 13) (map_of xs)) (replies (only 0) (with k (record { setting = v; unit = u }) (map_of xs)))
        ≡ replies (cond b (replies (only 13) xs) (replies (only 0) (put k (slot_of k v u) xs))).reply
        (map_of (cond b (replies (only 13) xs) (replies (only 0) (put k (slot_of k v u) xs))).after)
    go true e = refl
    go false e = ap (λ (m : Map). replies (only 0) m) (put_map k v u f.0 f.1.0 f.1.1 xs o e)
on_slots_lem (to_fetch k) f xs o = refl
on_slots_lem (to_remove k) f xs o = go (known (shown xs k)) refl
  where
    go : (b : Bool) → known (shown xs k) ≡ b
        → cond b (replies (only 0) (without k (map_of xs))) (replies (only 12) (map_of xs))
        ≡ replies (cond b (replies (only 0) (take_out k xs)) (replies (only 12) xs)).reply
        (map_of (cond b (replies (only 0) (take_out k xs)) (replies (only 12) xs)).after)
    go true e = ap (λ (m : Map). replies (only 0) m) (out_map k xs o e)
    go false e = refl

-- slots stay as many, whole and in order
pub record Stays (xs ys : List (List ℕ)) : Type 0 where
  pub as_many : length ys ≡ length xs
  pub whole : Whole ys
  pub ordered : Ordered ys

pub on_slots_stays : (op : Op) → Fits op → (xs : List (List ℕ)) → Whole xs → Ordered xs → Stays xs (on_slots op xs).after
unfolding on_slots free_slot
on_slots_stays (to_store k v u) f xs w o = go (is_full (length xs) (used xs) (shown xs k)) refl
  where
    r : List ℕ
    r = slot_of k v u

    go : (b : Bool) → is_full (length xs) (used xs) (shown xs k) ≡ b
        → Stays xs (cond b (replies (only 13) xs) (replies (only 0) (put k (slot_of k v u) xs))).after
    go true e = record { as_many = refl; whole = w; ordered = o }
    go false e =
        record {
          as_many = length_put k r xs;
          whole = each_put (λ x. length x ≡ 32) k r (slot_length k v u) xs w;
          ordered = order_put k r (slot_used k v u) (slot_key k v u f.0) (slot_sound k v u) o (place k xs e);
        }
on_slots_stays (to_fetch k) f xs w o = record { as_many = refl; whole = w; ordered = o }
on_slots_stays (to_remove k) f xs w o = go (known (shown xs k))
  where
    go : (b : Bool) → Stays xs (cond b (replies (only 0) (take_out k xs)) (replies (only 12) xs)).after
    go true =
        record {
          as_many = length_out k xs;
          whole = each_out (λ x. length x ≡ 32) refl k xs w;
          ordered = order_out k o;
        }
    go false = record { as_many = refl; whole = w; ordered = o }

-- ---- "answers as a plain map from key to setting does": one call on an area that is not refused, version 1 records among it or not
pub called_kept : (op : Op) (a : List ℕ) → area_verdict 2 a ≡ 0
    → called op a ≡ replies (on_slots op (slots_of a)).reply (joined (on_slots op (slots_of a)).after)
unfolding called
called_kept op a h = rw h

-- an accepted call is one on an area that is not refused
pub accepted_area : (op : Op) (a : List ℕ) → (called op a).reply.number ≡ 0 → area_verdict 2 a ≡ 0
unfolding called
accepted_area op a h = go (eqb (area_verdict 2 a) 0) refl h
  where
    go : (b : Bool) → eqb (area_verdict 2 a) 0 ≡ b
        → (cond b (replies (on_slots op (slots_of a)).reply (joined (on_slots op (slots_of a)).after)) (replies (only (area_verdict 2 a)) a)).reply.number ≡ 0
        → area_verdict 2 a ≡ 0
    go true e h = eqb-true (area_verdict 2 a) 0 e
    go false e h = absurd (eqb-false (area_verdict 2 a) 0 e h)

module _ (op : Op) (fits : Fits op) (a : List ℕ) (h : area_verdict 2 a ≡ 0) where
  pub stays : Stays (slots_of a) (on_slots op (slots_of a)).after
  stays = on_slots_stays op fits (slots_of a) (area_whole a) (kept 2 a h).ordered

  pub after_slots : slots_of (called op a).after ≡ (on_slots op (slots_of a)).after
  after_slots = rw (called_kept op a h) (slots_of_joined (on_slots op (slots_of a)).after stays.whole)

  -- the reply is the map's, and the area afterwards shows the map afterwards
  pub as_a_map : on_map (length a / 32) op (map_of (slots_of a)) ≡ replies (called op a).reply (map_of (slots_of (called op a).after))
  as_a_map =
      rw (after_slots, called_kept op a h)
      (subst (λ (n : ℕ). on_map n op (map_of (slots_of a)) ≡ replies (on_slots op (slots_of a)).reply (map_of (on_slots op (slots_of a)).after))
      (area_slots a) (on_slots_lem op fits (slots_of a) (kept 2 a h).ordered))

  -- it is in order too
  pub order_kept : area_verdict 2 (called op a).after ≡ 0
  order_kept = rw (called_kept op a h) (joined_kept (on_slots op (slots_of a)).after stays.whole stays.ordered)

  -- and as long as it was
  pub length_kept : length (called op a).after ≡ length a
  length_kept =
      let l = joined_length (on_slots op (slots_of a)).after stays.whole in
      rw (called_kept op a h) (omega (arith, l, stays.as_many, area_slots a, (kept 2 a h).whole))

-- a fetch answers as the new release's reader, and leaves the area
pub fetch_called : (k : ℕ) (a : List ℕ) → called (to_fetch k) a ≡ replies (fetched 2 k a) a
unfolding called fetched on_slots
fetch_called k a = go (area_verdict 2 a) refl
  where
    go : (v : ℕ) → area_verdict 2 a ≡ v
        → cond (eqb v 0) (replies (fetch_reply (shown (slots_of a) k)) (joined (slots_of a))) (replies (only v) a)
        ≡ replies (cond (eqb v 0) (fetch_reply (shown (slots_of a) k)) (only v)) a
    go zero e = ap (replies (fetch_reply (shown (slots_of a) k))) (area_joined a (kept 2 a e).whole)
    go (suc v) e = rw (ne_eqb (suc v) 0 (λ q. omega arith))

-- "each changing nothing"
slots_unchanged : (op : Op) (xs : List (List ℕ)) → 0 < (on_slots op xs).reply.number → (on_slots op xs).after ≡ xs
unfolding on_slots
slots_unchanged (to_store k v u) xs h = go (is_full (length xs) (used xs) (shown xs k)) h
  where
    go : (b : Bool) → 0 < (cond b (replies (only 13) xs) (replies (only 0) (put k (slot_of k v u) xs))).reply.number
        → (cond b (replies (only 13) xs) (replies (only 0) (put k (slot_of k v u) xs))).after ≡ xs
    go true h = refl
    go false h = absurd (omega arith)
slots_unchanged (to_fetch k) xs h = refl
slots_unchanged (to_remove k) xs h = go (known (shown xs k)) h
  where
    go : (b : Bool) → 0 < (cond b (replies (only 0) (take_out k xs)) (replies (only 12) xs)).reply.number
        → (cond b (replies (only 0) (take_out k xs)) (replies (only 12) xs)).after ≡ xs
    go true h = absurd (omega arith)
    go false h = refl

pub refused_unchanged : (op : Op) (a : List ℕ) → 0 < (called op a).reply.number → (called op a).after ≡ a
unfolding called
refused_unchanged op a h = go (eqb (area_verdict 2 a) 0) refl h
  where
    go : (b : Bool) → eqb (area_verdict 2 a) 0 ≡ b
        → 0 < (cond b (replies (on_slots op (slots_of a)).reply (joined (on_slots op (slots_of a)).after)) (replies (only (area_verdict 2 a)) a)
        ).reply.number
        → (cond b (replies (on_slots op (slots_of a)).reply (joined (on_slots op (slots_of a)).after)) (replies (only (area_verdict 2 a)) a)
        ).after
        ≡ a
    go true e h =
        ap joined (slots_unchanged op (slots_of a) h)
        ∙ area_joined a (kept 2 a (eqb-true (area_verdict 2 a) 0 e)).whole
    go false e h = refl

-- ---- any sequence, from any area that is not refused
pub each_as_a_map : (ops : List Op) → AllFit ops → (a : List ℕ) → area_verdict 2 a ≡ 0
    → call_each ops a ≡ ask_each (length a / 32) ops (map_of (slots_of a))
unfolding call_each ask_each
each_as_a_map [] f a h = refl
each_as_a_map (op ∷ ops) f a h =
    let e = as_a_map op f.0 a h in
    let n = length_kept op f.0 a h in
    rw e
    (ap (λ (l : List Reply). (called op a).reply ∷ l)
    (each_as_a_map ops f.1 (called op a).after (order_kept op f.0 a h)
    ∙ ap (λ (m : ℕ). ask_each (m / 32) ops (map_of (slots_of (called op a).after))) n))

-- ---- "From an area of free slots, any sequence of store, fetch and remove answers as a plain map"
free_joined : (n : ℕ) → joined (replicate n free_slot) ≡ replicate (32 * n) 0
unfolding joined free_slot
free_joined zero = refl
free_joined (suc n) =
    let e : 32 * suc n ≡ 32 + 32 * n = omega arith in
    rw (free_joined n, replicate-append-replicate {A = ℕ} 32 (32 * n) 0, e)

all_free_lem : (n : ℕ) → all_free (replicate n free_slot) ≡ true
unfolding all_free
all_free_lem zero = refl
all_free_lem (suc n) = rw free_slot_lem (all_free_lem n)

free_whole : (n : ℕ) → Whole (replicate n free_slot)
unfolding free_slot
free_whole zero = tt
free_whole (suc n) = (refl, free_whole n)

free_map : (n : ℕ) → map_of (replicate n free_slot) ≡ no_settings
unfolding map_of no_settings
free_map n = same_map _ _ _ _ (free_shown (replicate n free_slot) (all_free_lem n)) (free_used (replicate n free_slot) (all_free_lem n))

pub from_free_lem : (n : ℕ) (ops : List Op) → AllFit ops → call_each ops (replicate (32 * n) 0) ≡ ask_each n ops no_settings
from_free_lem n ops f =
    let xs = replicate n free_slot in
    let w = free_whole n in
    let e : length (joined xs) / 32 ≡ n = omega (arith, joined_length xs w, length-replicate n free_slot) in
    rw (sym (free_joined n))
    (each_as_a_map ops f (joined xs) (joined_kept xs w (free_order xs (all_free_lem n)))
    ∙ rw (e, slots_of_joined xs w, free_map n))
