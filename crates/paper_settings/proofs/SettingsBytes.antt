-- Fetch and remove by the area's bytes, on any area that is not refused, whatever versions stand side by side in it: the slot that has the key tells
-- the answer, and its bytes are what goes out. In slots in order a key stands once, so the first slot that has it is that slot (`shown_at`,
-- `out_at`, by induction over the order); a slot's bytes are the area's.
use Prim.Native.Nat.{ℕ, zero, suc, ◌+◌, ◌*◌, ◌/◌, ◌<◌, ◌≤◌}
use mathlib.Core.Path.{◌≡◌, refl, sym, ap, ◌∙◌}
use mathlib.Core.Bool.{Bool, true, false, cond}
use mathlib.Core.List.{List, [], ◌∷◌, ◌++◌}
use mathlib.Core.Option.{none, some}
use native.Mathlib.Numerals.{add-one}
use native.Mathlib.Omega.{arith}
use lib.ListN.{length, get_or, take, drop, replicate, length-drop, take-append-drop}
use lib.Seq.{length-take-le}
use Rattle.paper.specs.Bytes.{le2, le8}
use Rattle.paper.proofs.BytesLaws.{le2_append, le8_append, le2_drop, le8_drop}
use Rattle.paper.proofs.Tests.{true_not_false, not_so}
use Rattle.paper_settings.specs.Settings.{key_in, unit_in, setting_in, is_malformed, all_free, holds, free_slot, setting_of, joined, slots_of, shown, known}
use Rattle.paper_settings.specs.Settings.{area_verdict, to_remove, only, fetch_reply, replies, take_out, on_slots, called, fetched, KeyAt}
use Rattle.paper_settings.proofs.SlotLaws.{old_unit, Ordered, no_slot, free_last, record_first, free_holds}
use Rattle.paper_settings.proofs.SettingsLaws.{area_whole, area_joined, area_slots, kept, called_kept, accepted_area}
use Rattle.paper_settings.proofs.SettingsUpgrade.{slot_at, slot_version_at, joined_append, joined_take, joined_drop}
use Rattle.paper_settings.proofs.SettingsRefusals.{free_sound, holds_used, known_at, at_known, free_at, key_words, words_key}

-- ---- slots in order: no record is malformed, and a key stands once
sound_at : {xs : List (List ℕ)} → Ordered xs → (i : ℕ) → i < length xs → is_malformed (get_or xs i []) ≡ false
sound_at no_slot i l = absurd (omega arith)
sound_at (free_last {x = x} {xs = xs} f a) zero l = free_sound x f
sound_at (free_last {x = x} {xs = xs} f a) (suc i) l = free_sound (get_or xs i []) (free_at xs a i (omega arith))
sound_at (record_first f s n o) zero l = s
sound_at (record_first f s n o) (suc i) l = sound_at o i (omega arith)

module _ (k : ℕ) where
  -- where a later slot has the key, a record in front of it has another
  not_first : (x : List ℕ) (xs : List (List ℕ)) (i : ℕ) → i < length xs → holds k (get_or xs i []) ≡ true → shown xs (key_in x) ≡ none → holds k x ≡ false
  unfolding known
  not_first x xs i l h n =
      not_so (holds k x) (λ e. true_not_false (at_known xs k i l h) (ap known (ap (shown xs) (holds_used k x e).1 ∙ n)))

  not_free : (xs : List (List ℕ)) → all_free xs ≡ true → (i : ℕ) → i < length xs → ¬ (holds k (get_or xs i []) ≡ true)
  not_free xs a i l h = true_not_false h (free_holds k (get_or xs i []) (free_at xs a i l))

  -- what shows under the key is what its slot holds
  shown_at : {xs : List (List ℕ)} → Ordered xs → (i : ℕ) → i < length xs → holds k (get_or xs i []) ≡ true → shown xs k ≡ some (setting_of (get_or xs i []))
  unfolding shown
  shown_at no_slot i l h = absurd (omega arith)
  shown_at (free_last {x = x} {xs = xs} f a) zero l h = absurd (true_not_false h (free_holds k x f))
  shown_at (free_last {x = x} {xs = xs} f a) (suc i) l h = absurd (not_free xs a i (omega arith) h)
  shown_at (record_first {x = x} {xs = xs} f s n o) zero l h = rw h
  shown_at (record_first {x = x} {xs = xs} f s n o) (suc i) l h = rw (not_first x xs i (omega arith) h n) (shown_at o i (omega arith) h)

  -- taking it out leaves the slots before it, then those behind it, then a free one
  out_at : {xs : List (List ℕ)} → Ordered xs → (i : ℕ) → i < length xs → holds k (get_or xs i []) ≡ true
      → take_out k xs ≡ take i xs ++ (drop (suc i) xs ++ (free_slot ∷ []))
  unfolding take_out
  out_at no_slot i l h = absurd (omega arith)
  out_at (free_last {x = x} {xs = xs} f a) zero l h = absurd (true_not_false h (free_holds k x f))
  out_at (free_last {x = x} {xs = xs} f a) (suc i) l h = absurd (not_free xs a i (omega arith) h)
  out_at (record_first {x = x} {xs = xs} f s n o) zero l h = rw h
  out_at (record_first {x = x} {xs = xs} f s n o) (suc i) l h =
      rw (not_first x xs i (omega arith) h n) (ap (λ (ys : List (List ℕ)). x ∷ ys) (out_at o i (omega arith) h))

-- ---- a slot's setting and unit, in the area's bytes
module _ (a : List ℕ) (i : ℕ) (l : i < length a / 32) where
  slot_long : length (take 32 (drop (32 * i) a)) ≡ 32
  slot_long = length-take-le 32 (drop (32 * i) a) (simp length-drop (omega arith))

  unit_at : unit_in (get_or (slots_of a) i []) ≡ le2 a (32 * i + 4)
  unfolding unit_in
  unit_at =
      let x = drop (32 * i) a in
      rw (slot_at a i l)
      (sym (le2_append (take 32 x) (drop 32 x) 4 (omega (arith, slot_long))) ∙ ap (λ (s : List ℕ). le2 s 4) (take-append-drop 32 x) ∙ le2_drop (32 * i) a 4)

  setting_at : setting_in (get_or (slots_of a) i []) ≡ le8 a (32 * i + 8)
  unfolding setting_in
  setting_at =
      let x = drop (32 * i) a in
      rw (slot_at a i l)
      (sym (le8_append (take 32 x) (drop 32 x) 8 (omega (arith, slot_long))) ∙ ap (λ (s : List ℕ). le8 s 8) (take-append-drop 32 x) ∙ le8_drop (32 * i) a 8)

-- ---- slot i of an area that is not refused has the key
module _ (k : ℕ) (a : List ℕ) (i : ℕ) (h : area_verdict 2 a ≡ 0) (l : i < length a / 32) (w : KeyAt a i k) where
  slot_within : i < length (slots_of a)
  slot_within = omega (arith, area_slots a, l)

  -- a fetch shows the number in bytes 8-15 of that slot and the one in its bytes 4-5
  pub shows_record : fetched 2 k a ≡ record { number = 0; setting = le8 a (32 * i + 8); unit = le2 a (32 * i + 4) }
  unfolding fetched fetch_reply setting_of
  shows_record = rw (h, shown_at k (kept 2 a h).ordered i slot_within (words_key a i l k w), setting_at a i l, unit_at a i l)

  -- "The version 2 reader shows version 1 records with unit 0", also beside records of version 2
  pub shows_unit_0 : get_or a (32 * i) 0 ≤ 1 → fetched 2 k a ≡ record { number = 0; setting = le8 a (32 * i + 8); unit = 0 }
  shows_unit_0 v =
      let x = get_or (slots_of a) i [] in
      let u : unit_in x ≡ 0 = old_unit x (omega (arith, slot_version_at a i l, v)) (sound_at (kept 2 a h).ordered i slot_within) in
      shows_record ∙ ap (λ (n : ℕ). record { number = 0; setting = le8 a (32 * i + 8); unit = n }) (sym (unit_at a i l) ∙ u)

  -- "removing one moves the later ones up": a remove leaves the bytes before that slot, then those behind it, then 32 zeros
  pub removes_slot : called (to_remove k) a ≡ replies (only 0) (take (32 * i) a ++ (drop (32 * (i + 1)) a ++ replicate 32 0))
  unfolding on_slots joined free_slot
  removes_slot =
      let xs = slots_of a in
      let has = words_key a i l k w in
      let whole = area_whole a in
      let bytes = area_joined a (kept 2 a h).whole in
      let after : joined (take_out k xs) ≡ take (32 * i) a ++ (drop (32 * (i + 1)) a ++ replicate 32 0) =
      ap joined (out_at k (kept 2 a h).ordered i slot_within has) ∙ joined_append (take i xs) (drop (suc i) xs ++ (free_slot ∷ []))
      ∙ rw (joined_append (drop (suc i) xs) (free_slot ∷ []), joined_take xs whole i, joined_drop xs whole (suc i), bytes, add-one i) in
      called_kept (to_remove k) a h ∙ rw (at_known xs k i slot_within has) (ap (λ (b : List ℕ). replies (only 0) b) after)

-- ---- what an accepted remove leaves: some slot had the key, and it is gone
pub record Removed (k : ℕ) (a b : List ℕ) : Type 0 where
  pub slot : ℕ
  pub within : slot < length a / 32
  pub had_key : KeyAt a slot k
  pub bytes_after : b ≡ take (32 * slot) a ++ (drop (32 * (slot + 1)) a ++ replicate 32 0)

module _ (k : ℕ) (a : List ℕ) (h : (called (to_remove k) a).reply.number ≡ 0) where
  accepted : area_verdict 2 a ≡ 0
  accepted = accepted_area (to_remove k) a h

  -- and it has the key
  has_key : known (shown (slots_of a) k) ≡ true
  unfolding on_slots
  has_key = go (known (shown (slots_of a) k)) (rw (called_kept (to_remove k) a accepted) at h)
    where
      go : (c : Bool) → (cond c (replies (only 0) (take_out k (slots_of a))) (replies (only 12) (slots_of a))).reply.number ≡ 0 → c ≡ true
      go true h = refl
      go false h = absurd (omega arith)

  pub remove_removes : Removed k a (called (to_remove k) a).after
  remove_removes =
      let r = known_at (slots_of a) k has_key in
      let l : r.0 < length a / 32 = omega (arith, area_slots a, r.1) in
      let w = key_words a r.0 l k r.2 in
      record { slot = r.0; within = l; had_key = w; bytes_after = rw (removes_slot k a r.0 accepted l w) refl }
