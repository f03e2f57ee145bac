-- One turn of each loop over a slot's bytes and over an area's slots: what is left to look at is the byte, or the slot, at hand and what
-- is left after it; so a search ends there or goes on.
use Prim.Native.Nat.{ℕ, zero, suc, ◌+◌, ◌-◌, ◌*◌, ◌/◌, ◌<◌, ◌≤◌}
use mathlib.Core.Path.{◌≡◌, refl, sym, ap, ap₂, ◌∙◌, subst}
use mathlib.Core.Bool.{Bool, true, false, ◌||◌, not}
use mathlib.Core.List.{List, [], ◌∷◌}
use native.Mathlib.Nat.{add_assoc, add-zero, sub-zero}
use native.Mathlib.Omega.{arith}
use borrow.Author.Tests.{eqb-true, eq-eqb, ne_eqb, lt-ltb, le-ltb}
use lib.Dec.{eqb}
use Rattle.std.specs.Prelude.{◌↔◌, Option, Some, None, IsTrue, EachIndex}
use lib.ListN.{length, get_or, get_or-eq_default}
use lib.Seq.{drop-drop}
use Rattle.paper.specs.Bytes.{le, le2, le8}
use Rattle.paper_settings.specs.Settings.{version, key_in, unit_in, setting_in, may_table, may_be, strays, is_malformed, is_free, slots, slots_of}
use Rattle.paper_settings.specs.Settings.{any_newer, all_free}
use Rattle.paper.proofs.Tests.{true_not_false, and_left, and_right}
use Rattle.paper_settings.proofs.SlotLaws.{sound_version}
use Rattle.paper_settings.proofs.SettingsUpgrade.{byte_there, key_there}
use Rattle.settings.specs.Slots.{slot_at, rest, first_in, FirstSlot}

-- ---- the bytes of slot i
pub byte_at : (a : List ℕ) (i j : ℕ) → j < 32 → get_or (slot_at a i) j 0 ≡ get_or a (32 * i + j) 0
unfolding slot_at
byte_at a i j h = byte_there a i j h

pub version_at : (a : List ℕ) (i : ℕ) → version (slot_at a i) ≡ get_or a (32 * i) 0
unfolding version
version_at a i = byte_at a i 0 (omega arith) ∙ ap (λ (m : ℕ). get_or a m 0) (add-zero (32 * i))

pub key_at : (a : List ℕ) (i : ℕ) → key_in (slot_at a i) ≡ le2 a (32 * i + 2)
unfolding slot_at
key_at a i = key_there a i

pub unit_at : (a : List ℕ) (i : ℕ) → unit_in (slot_at a i) ≡ le2 a (32 * i + 4)
unfolding unit_in le2
unit_at a i =
    ap₂ (λ (p q : ℕ). le (p ∷ q ∷ [])) (byte_at a i 4 (omega arith))
    (byte_at a i 5 (omega arith) ∙ ap (λ (m : ℕ). get_or a m 0) (sym (add_assoc (32 * i) 4 1)))

pub setting_at : (a : List ℕ) (i : ℕ) → setting_in (slot_at a i) ≡ le8 a (32 * i + 8)
unfolding setting_in le8
setting_at a i =
    rw (
      byte_at a i 8 (omega arith),
      byte_at a i 9 (omega arith),
      byte_at a i 10 (omega arith),
      byte_at a i 11 (omega arith),
      byte_at a i 12 (omega arith),
      byte_at a i 13 (omega arith),
      byte_at a i 14 (omega arith),
      byte_at a i 15 (omega arith),
    )
    (simp add_assoc)

-- ---- free: each byte is zero
free_each : (x : List ℕ) → EachIndex x (λ k. get_or x k 0 ≡ 0) → is_free x ≡ true
unfolding is_free
free_each [] h = refl
free_each (b ∷ x) h = rw (eq-eqb b 0 (h 0 (omega arith))) (free_each x (λ k l. h (suc k) (omega arith)))

each_free : (x : List ℕ) → is_free x ≡ true → EachIndex x (λ k. get_or x k 0 ≡ 0)
unfolding is_free
each_free [] h k l = absurd (omega arith)
each_free (b ∷ x) h zero l = eqb-true b 0 (and_left (eqb b 0) (is_free x) h)
each_free (b ∷ x) h (suc k) l = each_free x (and_right (eqb b 0) (is_free x) h) k (omega arith)

pub free_told : (x : List ℕ) (b : Bool) → IsTrue b ↔ EachIndex x (λ k. get_or x k 0 ≡ 0) → b ≡ is_free x
free_told x true told = sym (free_each x (told.0 refl))
free_told x false told = go (is_free x) refl
  where
    go : (c : Bool) → is_free x ≡ c → false ≡ is_free x
    go true e = absurd (true_not_false (told.1 (each_free x e)) refl)
    go false e = sym e

-- ---- malformed: byte by byte, by the version v
row_most : (v : ℕ) → length (get_or may_table v []) ≤ 16
unfolding may_table
row_most zero = omega arith
row_most (suc zero) = omega arith
row_most (suc (suc zero)) = omega arith
row_most (suc (suc (suc v))) = omega arith

-- past byte 15 none may be other than zero
pub high_zero : (v j : ℕ) → 15 < j → may_be v j ≡ 0
unfolding may_be
high_zero v j h = get_or-eq_default (get_or may_table v []) 0 {n = j} (omega (arith, row_most v))

module _ (a : List ℕ) (i v : ℕ) where
  unfoldable pub strays_from : ℕ → Bool
  strays_from j = strays v (slot_at a i) j (32 - j)

  strays_turn : (j : ℕ) → j < 32 → strays_from j ≡ (not (not (eqb (may_be v j) 0) || eqb (get_or a (32 * i + j) 0) 0) || strays_from (j + 1))
  unfolding strays_from strays
  strays_turn j h =
      let e : 32 - j ≡ suc (32 - (j + 1)) = omega arith in
      rw (e, byte_at a i j h)

  pub strays_start : v ≡ version (slot_at a i) → is_malformed (slot_at a i) ≡ strays_from 0
  unfolding strays_from is_malformed
  strays_start e = ap (λ (w : ℕ). strays w (slot_at a i) 0 32) (sym e)

  pub strays_zero : (j : ℕ) → j < 32 → get_or a (32 * i + j) 0 ≡ 0 → strays_from j ≡ strays_from (j + 1)
  strays_zero j h z = strays_turn j h ∙ rw (eq-eqb (get_or a (32 * i + j) 0) 0 z) (go (eqb (may_be v j) 0))
    where
      go : (b : Bool) → not (not b || true) || strays_from (j + 1) ≡ strays_from (j + 1)
      go true = refl
      go false = refl

  pub strays_may : (j : ℕ) → j < 32 → (may_be v j ≡ 0 → ⊥) → strays_from j ≡ strays_from (j + 1)
  strays_may j h m = strays_turn j h ∙ rw (ne_eqb (may_be v j) 0 m)

  pub strays_here : (j : ℕ) → j < 32 → (get_or a (32 * i + j) 0 ≡ 0 → ⊥) → may_be v j ≡ 0 → strays_from j ≡ true
  strays_here j h z m = strays_turn j h ∙ rw (ne_eqb (get_or a (32 * i + j) 0) 0 z, eq-eqb (may_be v j) 0 m)

  pub strays_done : (j : ℕ) → 32 ≤ j → strays_from j ≡ false
  unfolding strays_from strays
  strays_done j h = let e : 32 - j ≡ 0 = omega arith in rw e

pub over_malformed : (a : List ℕ) (i : ℕ) → 2 < version (slot_at a i) → is_malformed (slot_at a i) ≡ true
over_malformed a i h = go (is_malformed (slot_at a i)) refl
  where
    go : (b : Bool) → is_malformed (slot_at a i) ≡ b → b ≡ true
    go true e = refl
    go false e = absurd (omega (arith, sound_version (slot_at a i) e))

-- ---- the slots from i on
pub rest_all : (a : List ℕ) → slots_of a ≡ rest a 0
unfolding slots_of rest
rest_all a = rw (sub-zero (length a / 32))

pub rest_step : (a : List ℕ) (i : ℕ) → i < length a / 32 → rest a i ≡ slot_at a i ∷ rest a (i + 1)
unfolding rest slot_at slots
rest_step a i h =
    let e : length a / 32 - i ≡ suc (length a / 32 - (i + 1)) = omega arith in
    let f : 32 * i + 32 ≡ 32 * (i + 1) = omega arith in
    rw (e, drop-drop 32 (32 * i) a, f)

pub rest_done : (a : List ℕ) (i : ℕ) → length a / 32 ≤ i → rest a i ≡ []
unfolding rest slots
rest_done a i h = let e : length a / 32 - i ≡ 0 = omega arith in rw e

module _ (a : List ℕ) (i : ℕ) where
  -- a newer version
  pub newer_here : (newest : ℕ) → i < length a / 32 → newest < version (slot_at a i) → any_newer newest (rest a i) ≡ true
  unfolding any_newer
  newer_here newest h l = rw (rest_step a i h, lt-ltb newest (version (slot_at a i)) l)

  pub newer_later : (newest : ℕ) → i < length a / 32 → version (slot_at a i) ≤ newest → any_newer newest (rest a i) ≡ any_newer newest (rest a (i + 1))
  unfolding any_newer
  newer_later newest h l = rw (rest_step a i h, le-ltb newest (version (slot_at a i)) l)

  pub newer_done : (newest : ℕ) → length a / 32 ≤ i → any_newer newest (rest a i) ≡ false
  unfolding any_newer
  newer_done newest h = rw (rest_done a i h)

  -- free slots
  pub frees_here : i < length a / 32 → is_free (slot_at a i) ≡ false → all_free (rest a i) ≡ false
  unfolding all_free
  frees_here h f = rw (rest_step a i h, f)

  pub frees_later : i < length a / 32 → is_free (slot_at a i) ≡ true → all_free (rest a i) ≡ all_free (rest a (i + 1))
  unfolding all_free
  frees_later h f = rw (rest_step a i h, f)

  pub frees_done : length a / 32 ≤ i → all_free (rest a i) ≡ true
  unfolding all_free
  frees_done h = rw (rest_done a i h)

  -- the first slot that passes
  pub first_here : (p : List ℕ → Bool) → i < length a / 32 → p (slot_at a i) ≡ true → first_in p i (rest a i) ≡ Some i
  unfolding first_in
  first_here p h e = rw (rest_step a i h, e)

  pub first_later : (p : List ℕ → Bool) → i < length a / 32 → p (slot_at a i) ≡ false
      → first_in p i (rest a i) ≡ first_in p (i + 1) (rest a (i + 1))
  unfolding first_in
  first_later p h e = rw (rest_step a i h, e)

  pub first_done : (p : List ℕ → Bool) → length a / 32 ≤ i → first_in p i (rest a i) ≡ None
  unfolding first_in
  first_done p h = rw (rest_done a i h)

-- a search that is told slot by slot: those before the one found do not pass, or none does
module _ (a : List ℕ) (p : List ℕ → Bool) where
  first_at : (j m i : ℕ) → j - i ≡ m → i ≤ j → j < length a / 32 → ((k : ℕ) → k < j → p (slot_at a k) ≡ false) → p (slot_at a j) ≡ true
      → first_in p i (rest a i) ≡ Some j
  first_at j zero i e l n before here =
      let q : i ≡ j = omega arith in
      subst (λ x. first_in p x (rest a x) ≡ Some j) (sym q) (first_here a j p n here)
  first_at j (suc m) i e l n before here =
      first_later a i p (omega arith) (before i (omega arith)) ∙ first_at j m (i + 1) (omega arith) (omega arith) n before here

  first_none : (m i : ℕ) → length a / 32 - i ≡ m → ((k : ℕ) → k < length a / 32 → p (slot_at a k) ≡ false) → first_in p i (rest a i) ≡ None
  first_none zero i e all = first_done a i p (omega arith)
  first_none (suc m) i e all = first_later a i p (omega arith) (all i (omega arith)) ∙ first_none m (i + 1) (omega arith) all

  pub first_told : (o : Option ℕ) → FirstSlot p a o → o ≡ first_in p 0 (rest a 0)
  first_told None all = sym (first_none (length a / 32) 0 (sub-zero (length a / 32)) all)
  first_told (Some j) told = sym (first_at j j 0 (sub-zero j) (omega arith) told.0 told.2 told.1)
