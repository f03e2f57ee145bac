-- What the code's searches say of an area: order but for the keys is judged slot by slot; the first slot with the key shows the setting; the first that is
-- free or has the key takes the record; and the bytes after a store and a remove. Each is an induction on the slots that are left.
use Prim.Native.Nat.{ℕ, zero, suc, ◌+◌, ◌-◌, ◌*◌, ◌/◌, ◌%◌, ◌<◌, ◌≤◌}
use mathlib.Core.Path.{◌≡◌, refl, sym, ap, ◌∙◌, subst}
use mathlib.Core.Bool.{Bool, true, false, cond, ◌||◌, not}
use mathlib.Core.List.{List, [], ◌∷◌, ◌++◌, append_assoc, append-nil}
use mathlib.Core.Option.{some}
use Rattle.std.specs.Prelude.{Some, None, is_some}
use native.Mathlib.Nat.{sub-zero}
use native.Mathlib.Omega.{arith}
use lib.Dec.{eqb}
use lib.ListN.{length, take, drop, length-drop}
use lib.Seq.{take-add, drop-drop}
use Rattle.paper_settings.specs.Settings.{key_in, is_malformed, is_free, holds, free_slot, setting_of, joined, slots_of, shown, known, used}
use Rattle.paper_settings.specs.Settings.{all_free, is_full, take_out}
use Rattle.paper_settings.specs.Settings as paper
use Rattle.paper_settings.proofs.SlotLaws.{has_place, full_place}
use Rattle.paper_settings.proofs.SettingsLaws.{joined_slots}
use Rattle.paper_settings.proofs.SettingsUpgrade.{joined_append}
use Rattle.stretch.specs.Put.{put}
use Rattle.settings.specs.Slots.{slot_at, rest, first_in, takes, closed_up, in_place}
use Rattle.settings.proofs.StepLaws.{rest_all, rest_step, rest_done}

-- ---- order but for the keys, slot by slot
module _ (a : List ℕ) (i : ℕ) where
  pub place_free : i < length a / 32 → is_free (slot_at a i) ≡ true → in_place (rest a i) ≡ all_free (rest a (i + 1))
  unfolding in_place
  place_free h f = rw (rest_step a i h, f)

  pub place_bad : i < length a / 32 → is_free (slot_at a i) ≡ false → is_malformed (slot_at a i) ≡ true → in_place (rest a i) ≡ false
  unfolding in_place
  place_bad h f m = rw (rest_step a i h, f, m)

  pub place_later : i < length a / 32 → is_free (slot_at a i) ≡ false → is_malformed (slot_at a i) ≡ false
      → in_place (rest a i) ≡ in_place (rest a (i + 1))
  unfolding in_place
  place_later h f m = rw (rest_step a i h, f, m)

  pub place_done : length a / 32 ≤ i → in_place (rest a i) ≡ true
  unfolding in_place
  place_done h = rw (rest_done a i h)

-- ---- the first slot with the key
pub known_first : (k : ℕ) (xs : List (List ℕ)) (i : ℕ) → known (shown xs k) ≡ is_some (first_in (holds k) i xs)
unfolding known shown first_in
known_first k [] i = refl
known_first k (x ∷ xs) i = go (holds k x) (known_first k xs (i + 1))
  where
    go : (b : Bool) → known (shown xs k) ≡ is_some (first_in (holds k) (i + 1) xs)
        → known (cond b (some (setting_of x)) (shown xs k)) ≡ is_some (cond b (Some i) (first_in (holds k) (i + 1) xs))
    go true e = refl
    go false e = e

pub shown_rest : (a : List ℕ) (k p m i : ℕ) → length a / 32 - i ≡ m → Some p ≡ first_in (holds k) i (rest a i)
    → shown (rest a i) k ≡ some (setting_of (slot_at a p))
unfolding shown first_in
shown_rest a k p zero i e q =
    let d : Some p ≡ None = subst (λ (xs : List (List ℕ)). Some p ≡ first_in (holds k) i xs) (rest_done a i (omega arith)) q in
    absurd cc
shown_rest a k p (suc m) i e q =
    let s = rest_step a i (omega arith) in
    let q' : Some p ≡ cond (holds k (slot_at a i)) (Some i) (first_in (holds k) (i + 1) (rest a (i + 1))) =
    subst (λ (xs : List (List ℕ)). Some p ≡ first_in (holds k) i xs) s q in
    rw s (go (holds k (slot_at a i)) q' (λ r. shown_rest a k p m (i + 1) (omega arith) r))
  where
    go : (b : Bool) → Some p ≡ cond b (Some i) (first_in (holds k) (i + 1) (rest a (i + 1)))
        → (Some p ≡ first_in (holds k) (i + 1) (rest a (i + 1)) → shown (rest a (i + 1)) k ≡ some (setting_of (slot_at a p)))
        → cond b (some (setting_of (slot_at a i))) (shown (rest a (i + 1)) k) ≡ some (setting_of (slot_at a p))
    go true q ih = let e : i ≡ p = cc in ap (λ (j : ℕ). some (setting_of (slot_at a j))) e
    go false q ih = ih q

-- ---- the first slot that is free or has the key
place_first : (k : ℕ) (xs : List (List ℕ)) (i : ℕ) → has_place k xs ≡ is_some (first_in (takes k) i xs)
unfolding has_place first_in takes
place_first k [] i = refl
place_first k (x ∷ xs) i = go (is_free x || eqb k (key_in x)) (place_first k xs (i + 1))
  where
    go : (b : Bool) → has_place k xs ≡ is_some (first_in (takes k) (i + 1) xs)
        → b || has_place k xs ≡ is_some (cond b (Some i) (first_in (takes k) (i + 1) xs))
    go true e = refl
    go false e = e

pub full_first : (a : List ℕ) (k : ℕ)
    → is_full (length (slots_of a)) (used (slots_of a)) (shown (slots_of a) k) ≡ not (is_some (first_in (takes k) 0 (rest a 0)))
full_first a k = full_place k (slots_of a) ∙ ap not (ap (has_place k) (rest_all a) ∙ place_first k (rest a 0) 0)

-- ---- the bytes after a store and a remove, of an area of whole slots
module _ (a : List ℕ) (whole : length a % 32 ≡ 0) where
  joined_rest : (i : ℕ) → joined (rest a i) ≡ drop (32 * i) a
  unfolding rest
  joined_rest i = joined_slots (length a / 32 - i) (drop (32 * i) a) (simp length-drop (omega arith))

  -- before slot p the bytes of the area, and then t
  up_to : ℕ → ℕ → List ℕ → List ℕ
  up_to i p t = take (32 * (p - i)) (drop (32 * i) a) ++ t

  up_here : (i : ℕ) (t : List ℕ) → up_to i i t ≡ t
  unfolding up_to
  up_here i t = let e : 32 * (i - i) ≡ 0 = omega arith in rw e

  up_later : (i p : ℕ) (t : List ℕ) → i < p → slot_at a i ++ up_to (i + 1) p t ≡ up_to i p t
  unfolding up_to slot_at
  up_later i p t l =
      let e : 32 * (p - i) ≡ 32 + 32 * (p - (i + 1)) = omega arith in
      let f : 32 * i + 32 ≡ 32 * (i + 1) = omega arith in
      rw (e, take-add 32 (32 * (p - (i + 1))) (drop (32 * i) a), drop-drop 32 (32 * i) a, f, append_assoc)

  first_within : (p : List ℕ → Bool) (i j : ℕ) (xs : List (List ℕ)) → Some j ≡ first_in p i xs → i ≤ j
  unfolding first_in
  first_within p i j [] e = absurd cc
  first_within p i j (x ∷ xs) e = go (p x) e (first_within p (i + 1) j xs)
    where
      go : (b : Bool) → Some j ≡ cond b (Some i) (first_in p (i + 1) xs) → (Some j ≡ first_in p (i + 1) xs → i + 1 ≤ j) → i ≤ j
      go true e ih = let q : j ≡ i = cc in omega arith
      go false e ih = let q = ih e in omega arith

  store_rest : (k : ℕ) (r : List ℕ) (p m i : ℕ) → length a / 32 - i ≡ m → Some p ≡ first_in (takes k) i (rest a i)
      → joined (paper.put k r (rest a i)) ≡ up_to i p (r ++ drop (32 * (p + 1)) a)
  unfolding first_in joined takes paper.put
  store_rest k r p zero i e q =
      let d : Some p ≡ None = subst (λ (xs : List (List ℕ)). Some p ≡ first_in (takes k) i xs) (rest_done a i (omega arith)) q in
      absurd cc
  store_rest k r p (suc m) i e q =
      let s = rest_step a i (omega arith) in
      let q' : Some p ≡ cond (takes k (slot_at a i)) (Some i) (first_in (takes k) (i + 1) (rest a (i + 1))) =
      subst (λ (xs : List (List ℕ)). Some p ≡ first_in (takes k) i xs) s q in
      rw s (go (takes k (slot_at a i)) q' (λ z. store_rest k r p m (i + 1) (omega arith) z))
    where
      go : (b : Bool) → Some p ≡ cond b (Some i) (first_in (takes k) (i + 1) (rest a (i + 1)))
          → (Some p ≡ first_in (takes k) (i + 1) (rest a (i + 1)) → joined (paper.put k r (rest a (i + 1))) ≡ up_to (i + 1) p (r ++ drop (32 * (p + 1)) a))
          → joined (cond b (r ∷ rest a (i + 1)) (slot_at a i ∷ paper.put k r (rest a (i + 1)))) ≡ up_to i p (r ++ drop (32 * (p + 1)) a)
      go true q ih = let q' : p ≡ i = cc in rw (q', up_here i (r ++ drop (32 * (i + 1)) a), joined_rest (i + 1))
      go false q ih =
          let w = first_within (takes k) (i + 1) p (rest a (i + 1)) q in
          rw (ih q) (up_later i p (r ++ drop (32 * (p + 1)) a) (omega arith))

  remove_rest : (k : ℕ) (p m i : ℕ) → length a / 32 - i ≡ m → Some p ≡ first_in (holds k) i (rest a i)
      → joined (take_out k (rest a i)) ≡ up_to i p (drop (32 * (p + 1)) a ++ free_slot)
  unfolding first_in joined take_out
  remove_rest k p zero i e q =
      let d : Some p ≡ None = subst (λ (xs : List (List ℕ)). Some p ≡ first_in (holds k) i xs) (rest_done a i (omega arith)) q in
      absurd cc
  remove_rest k p (suc m) i e q =
      let s = rest_step a i (omega arith) in
      let q' : Some p ≡ cond (holds k (slot_at a i)) (Some i) (first_in (holds k) (i + 1) (rest a (i + 1))) =
      subst (λ (xs : List (List ℕ)). Some p ≡ first_in (holds k) i xs) s q in
      rw s (go (holds k (slot_at a i)) q' (λ z. remove_rest k p m (i + 1) (omega arith) z))
    where
      go : (b : Bool) → Some p ≡ cond b (Some i) (first_in (holds k) (i + 1) (rest a (i + 1)))
          → (Some p ≡ first_in (holds k) (i + 1) (rest a (i + 1)) → joined (take_out k (rest a (i + 1))) ≡ up_to (i + 1) p (drop (32 * (p + 1)) a ++ free_slot))
          → joined (cond b (rest a (i + 1) ++ (free_slot ∷ [])) (slot_at a i ∷ take_out k (rest a (i + 1)))) ≡ up_to i p (drop (32 * (p + 1)) a ++ free_slot)
      go true q ih =
          let q' : p ≡ i = cc in
          rw (q', up_here i (drop (32 * (i + 1)) a ++ free_slot), joined_append (rest a (i + 1)) (free_slot ∷ []), joined_rest (i + 1), append-nil free_slot)
      go false q ih =
          let w = first_within (holds k) (i + 1) p (rest a (i + 1)) q in
          rw (ih q) (up_later i p (drop (32 * (p + 1)) a ++ free_slot) (omega arith))

  up_start : (p : ℕ) (t : List ℕ) → up_to 0 p t ≡ take (32 * p) a ++ t
  unfolding up_to
  up_start p t = rw (sub-zero p)

  pub store_after : (k : ℕ) (r : List ℕ) (p : ℕ) → length r ≡ 32 → Some p ≡ first_in (takes k) 0 (rest a 0)
      → put a (32 * p) r ≡ joined (paper.put k r (slots_of a))
  unfolding put
  store_after k r p n q =
      let e : 32 * p + length r ≡ 32 * (p + 1) = omega arith in
      sym (rw (rest_all a) (store_rest k r p (length a / 32) 0 (sub-zero (length a / 32)) q ∙ up_start p (r ++ drop (32 * (p + 1)) a) ∙ rw e))

  pub remove_after : (k : ℕ) (p : ℕ) → Some p ≡ first_in (holds k) 0 (rest a 0) → closed_up a p ≡ joined (take_out k (slots_of a))
  unfolding closed_up
  remove_after k p q =
      let e : 32 * p + 32 ≡ 32 * (p + 1) = omega arith in
      sym (rw (rest_all a) (remove_rest k p (length a / 32) 0 (sub-zero (length a / 32)) q ∙ up_start p (drop (32 * (p + 1)) a ++ free_slot) ∙ rw e))
