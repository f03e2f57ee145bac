-- Settings survive an upgrade. The new release shows the old one's records as the old one does, with unit 0, since their bytes 4 and 5 are
-- zero; the old release answers 10 to any area with a record of version 2 and shows nothing of it; a store writes version 2 in one slot
-- and leaves the others; a remove brings no version in.
use Prim.Native.Nat.{ℕ, zero, suc, ◌+◌, ◌*◌, ◌/◌, ◌<◌, ◌≤◌}
use mathlib.Core.Path.{◌≡◌, refl, sym, ap, ap₂, ◌∙◌}
use mathlib.Core.Bool.{Bool, true, false, cond}
use mathlib.Core.List.{List, [], ◌∷◌, ◌++◌, append_assoc}
use mathlib.Core.Option.{some}
use native.Mathlib.Nat.{add_assoc}
use native.Mathlib.Numerals.{add-one}
use native.Mathlib.Omega.{arith}
use borrow.Author.Tests.{eqb-true}
use lib.Dec.{eqb}
use lib.ListN.{length, get_or, take, drop, length-append}
use lib.Seq.{take-nil, drop-nil, get_or_at, get_or-take, get_or-drop, take-append-add, drop-append-add, length-take-le, drop-drop}
use Rattle.paper.specs.Bytes.{bytes, le, le2}
use Rattle.paper_settings.specs.Settings.{version, key_in, slot_of, free_slot, setting_of, slots, joined, slots_of, holds, shown, known, used}
use Rattle.paper_settings.specs.Settings.{any_newer, area_verdict, to_store, to_remove, Fits, Reply, only, fetch_reply, replies}
use Rattle.paper_settings.specs.Settings.{is_full, put, take_out, on_slots, called, fetched, fetched_old}
use Rattle.paper_settings.proofs.SlotLaws.{slot_length, old_unit, Ordered, no_slot, free_last, record_first, free_holds, free_shown, place, Each}
use Rattle.paper_settings.proofs.SlotLaws.{each_out, none_newer, newer_none, newer_at, put_at}
use Rattle.paper_settings.proofs.SettingsLaws.{Whole, area_whole, area_joined, area_slots, kept}
use Rattle.paper_settings.proofs.SettingsLaws.{not_refused, order_kept, called_kept, accepted_area, after_slots}

-- the versions that the old release knows, the new one knows
newer_up : (xs : List (List ℕ)) → Each (λ x. version x ≤ 1) xs → Each (λ x. version x ≤ 2) xs
newer_up [] a = tt
newer_up (x ∷ xs) a = (omega (arith, a.0), newer_up xs a.1)

both_know : (a : List ℕ) → any_newer 1 (slots_of a) ≡ false → any_newer 2 (slots_of a) ≡ false
both_know a h = newer_none 2 (slots_of a) (newer_up (slots_of a) (none_newer 1 (slots_of a) h))

both_judge : (a : List ℕ) → any_newer 1 (slots_of a) ≡ false → area_verdict 2 a ≡ area_verdict 1 a
unfolding area_verdict
both_judge a h = rw (h, both_know a h)

-- ---- "The version 2 reader shows version 1 records with unit 0."
old_shown : (k : ℕ) {xs : List (List ℕ)} → Ordered xs → Each (λ x. version x ≤ 1) xs → (fetch_reply (shown xs k)).unit ≡ 0
unfolding shown fetch_reply setting_of
old_shown k no_slot a = refl
old_shown k (free_last {x = x} {xs = xs} f b) a =
    rw (free_holds k x f, free_shown xs b k)
old_shown k (record_first {x = x} {xs = xs} f s n o) a = go (holds k x) (old_shown k o a.1)
  where
    go : (b : Bool) → (fetch_reply (shown xs k)).unit ≡ 0 → (fetch_reply (cond b (some (setting_of x)) (shown xs k))).unit ≡ 0
    go true ih = old_unit x a.0 s
    go false ih = ih

pub shows_version_1 : (k : ℕ) (a : List ℕ) → any_newer 1 (slots_of a) ≡ false
    → fetched 2 k a ≡ record { number = (fetched_old k a).number; setting = (fetched_old k a).setting; unit = 0 }
unfolding fetched fetched_old
shows_version_1 k a h =
    rw (both_judge a h)
    (go (area_verdict 1 a) (fetch_reply (shown (slots_of a) k)) (eqb (area_verdict 1 a) 0)
    (λ e. old_shown k (kept 1 a (eqb-true (area_verdict 1 a) 0 e)).ordered (none_newer 1 (slots_of a) h)))
  where
    go : (v : ℕ) (r : Reply) (b : Bool) → (b ≡ true → r.unit ≡ 0)
        → cond b r (only v) ≡ record { number = (cond b r (only v)).number; setting = (cond b r (only v)).setting; unit = 0 }
    go v r true z = ap (λ (u : ℕ). record { number = r.number; setting = r.setting; unit = u }) (z refl)
    go v r false z = refl

-- ---- "The version 1 reader refuses a version 2 record and shows nothing of it": whatever else the area holds
slots_at : (n : ℕ) (a : List ℕ) (i : ℕ) → i < n → get_or (slots n a) i [] ≡ take 32 (drop (32 * i) a)
unfolding slots
slots_at zero a i h = absurd (omega arith)
slots_at (suc n) a zero h = refl
slots_at (suc n) a (suc i) h =
    let e : 32 + 32 * i ≡ 32 * suc i = omega arith in
    slots_at n (drop 32 a) i (omega arith) ∙ ap (take 32) (drop-drop (32 * i) 32 a ∙ ap (λ (m : ℕ). drop m a) e)

-- slot i of an area
pub slot_at : (a : List ℕ) (i : ℕ) → i < length a / 32 → get_or (slots_of a) i [] ≡ take 32 (drop (32 * i) a)
unfolding slots_of
slot_at a i h = slots_at (length a / 32) a i h

-- byte j of slot i
pub byte_there : (a : List ℕ) (i j : ℕ) → j < 32 → get_or (take 32 (drop (32 * i) a)) j 0 ≡ get_or a (32 * i + j) 0
byte_there a i j l = get_or-take 32 (drop (32 * i) a) j 0 l ∙ get_or-drop (32 * i) a j 0

pub slot_byte : (a : List ℕ) (i j : ℕ) → i < length a / 32 → j < 32 → get_or (get_or (slots_of a) i []) j 0 ≡ get_or a (32 * i + j) 0
slot_byte a i j h l = rw (slot_at a i h) (byte_there a i j l)

-- and its key
pub key_there : (a : List ℕ) (i : ℕ) → key_in (take 32 (drop (32 * i) a)) ≡ le2 a (32 * i + 2)
unfolding key_in le2
key_there a i =
    ap₂ (λ (p q : ℕ). le (p ∷ q ∷ [])) (byte_there a i 2 (omega arith))
    (byte_there a i 3 (omega arith) ∙ ap (λ (m : ℕ). get_or a m 0) (sym (add_assoc (32 * i) 2 1)))

pub slot_version_at : (a : List ℕ) (i : ℕ) → i < length a / 32 → version (get_or (slots_of a) i []) ≡ get_or a (32 * i) 0
unfolding version
slot_version_at a i h = slot_byte a i 0 h (omega arith) ∙ ap (λ (m : ℕ). get_or a m 0) (omega arith)

pub old_refuses : (k : ℕ) (a : List ℕ) (i : ℕ) → i < length a / 32 → 1 < get_or a (32 * i) 0
    → fetched_old k a ≡ record { number = 10; setting = 0 }
unfolding fetched_old fetched area_verdict
old_refuses k a i h l =
    let n : any_newer 1 (slots_of a) ≡ true =
    newer_at 1 (slots_of a) i (omega (arith, area_slots a)) (omega (arith, slot_version_at a i h)) in
    rw n

-- ---- "The new release writes version 2 only": an accepted store writes one slot, and every other byte is as it was
pub joined_append : (xs ys : List (List ℕ)) → joined (xs ++ ys) ≡ joined xs ++ joined ys
unfolding joined
joined_append [] ys = refl
joined_append (x ∷ xs) ys = rw (joined_append xs ys) (sym (append_assoc x (joined xs) (joined ys)))

pub joined_take : (xs : List (List ℕ)) → Whole xs → (i : ℕ) → joined (take i xs) ≡ take (32 * i) (joined xs)
unfolding joined
joined_take xs w zero = refl
joined_take [] w (suc i) = sym (take-nil (32 * suc i))
joined_take (x ∷ xs) w (suc i) =
    let e : 32 * suc i ≡ length x + 32 * i = omega (arith, w.0) in
    rw (e, take-append-add x (joined xs) (32 * i), joined_take xs w.1 i)

pub joined_drop : (xs : List (List ℕ)) → Whole xs → (i : ℕ) → joined (drop i xs) ≡ drop (32 * i) (joined xs)
unfolding joined
joined_drop xs w zero = refl
joined_drop [] w (suc i) = sym (drop-nil (32 * suc i))
joined_drop (x ∷ xs) w (suc i) =
    let e : 32 * suc i ≡ length x + 32 * i = omega (arith, w.0) in
    rw (e, drop-append-add x (joined xs) (32 * i), joined_drop xs w.1 i)

-- what a store leaves: the record in slot i
pub record Wrote (k v u : ℕ) (a b : List ℕ) : Type 0 where
  pub slot : ℕ
  pub within : slot < length a / 32
  pub bytes_after : b ≡ take (32 * slot) a ++ (slot_of k v u ++ drop (32 * (slot + 1)) a)

module _ (k v u : ℕ) (a : List ℕ) (h : (called (to_store k v u) a).reply.number ≡ 0) where
  accepted : area_verdict 2 a ≡ 0
  accepted = accepted_area (to_store k v u) a h

  -- and it has a place
  has_place_lem : is_full (length (slots_of a)) (used (slots_of a)) (shown (slots_of a) k) ≡ false
  unfolding on_slots
  has_place_lem = go (is_full (length (slots_of a)) (used (slots_of a)) (shown (slots_of a) k)) (rw (called_kept (to_store k v u) a accepted) at h)
    where
      go : (c : Bool) → (cond c (replies (only 13) (slots_of a)) (replies (only 0) (put k (slot_of k v u) (slots_of a)))).reply.number ≡ 0 → c ≡ false
      go true h = absurd (omega arith)
      go false h = refl

  after_store : (called (to_store k v u) a).after ≡ joined (put k (slot_of k v u) (slots_of a))
  unfolding on_slots
  after_store = rw (called_kept (to_store k v u) a accepted, has_place_lem)

  pub new_writes_2 : Wrote k v u a (called (to_store k v u) a).after
  unfolding joined
  new_writes_2 =
      let xs = slots_of a in
      let w = area_whole a in
      let p = put_at k (slot_of k v u) xs (place k xs has_place_lem) in
      let i = p.0 in
      let e = area_joined a (kept 2 a accepted).whole in
      record {
        slot = i;
        within = omega (arith, p.1, area_slots a);
        bytes_after = after_store ∙ ap joined p.2 ∙ joined_append (take i xs) (slot_of k v u ∷ drop (suc i) xs)
            ∙ rw (joined_take xs w i, joined_drop xs w (suc i), e, add-one i);
      }

  -- and from then on the old release answers 10
  pub old_refuses_then : (j : ℕ) → fetched_old j (called (to_store k v u) a).after ≡ record { number = 10; setting = 0 }
  unfolding slot_of bytes
  old_refuses_then j =
      let w = new_writes_2 in
      let i = w.slot in
      let l = w.within in
      let t : length (take (32 * i) a) ≡ 32 * i = length-take-le (32 * i) a (omega arith) in
      rw w.bytes_after
      (old_refuses j (take (32 * i) a ++ (slot_of k v u ++ drop (32 * (i + 1)) a)) i
      (simp length-append (omega (arith, t, slot_length k v u)))
      (rw (get_or_at (take (32 * i) a) 2 _ 0 (32 * i) t) (omega arith)))

-- ---- a remove from an area of version 1 records leaves one that the old release still reads
removed_versions : (k : ℕ) (xs : List (List ℕ)) → Each (λ x. version x ≤ 1) xs → Each (λ x. version x ≤ 1) (on_slots (to_remove k) xs).after
unfolding on_slots version free_slot
removed_versions k xs a = go (known (shown xs k))
  where
    go : (b : Bool) → Each (λ x. version x ≤ 1) (cond b (replies (only 0) (take_out k xs)) (replies (only 12) xs)).after
    go true = each_out (λ x. version x ≤ 1) (omega arith) k xs a
    go false = a

pub remove_keeps_1 : (k : ℕ) → Fits (to_remove k) → (a : List ℕ) → area_verdict 1 a ≡ 0 → area_verdict 1 (called (to_remove k) a).after ≡ 0
remove_keeps_1 k f a h =
    let op = to_remove k in
    let n = (kept 1 a h).known_versions in
    let h₂ : area_verdict 2 a ≡ 0 = both_judge a n ∙ h in
    let b = (called op a).after in
    let q = kept 2 b (order_kept op f a h₂) in
    let v : any_newer 1 (slots_of b) ≡ false =
    rw (after_slots op f a h₂) (newer_none 1 (on_slots op (slots_of a)).after (removed_versions k (slots_of a) (none_newer 1 (slots_of a) n))) in
    not_refused 1 b (record { known_versions = v; whole = q.whole; ordered = q.ordered })
