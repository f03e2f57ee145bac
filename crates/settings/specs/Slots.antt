-- The slots of an area as the code goes over them: slot i, those from i on, and the first of them that passes a test.
use Rattle.std.specs.Prelude.{ℕ, ◌+◌, ◌-◌, ◌*◌, ◌/◌, Bool, cond, ◌&&◌, ◌||◌, not, List, [], ◌∷◌, ◌++◌, eqb, length, take, drop}
use Rattle.std.specs.Prelude.{Option, Some, None, MatchOption, ◌<◌, ◌≡◌, true, false}
use Rattle.paper_settings.specs.Settings.{slots, is_free, is_malformed, all_free, key_in, free_slot}

unfoldable pub slot_at : List ℕ → ℕ → List ℕ
slot_at a i = take 32 (drop (32 * i) a)

unfoldable pub rest : List ℕ → ℕ → List (List ℕ)
rest a i = slots (length a / 32 - i) (drop (32 * i) a)

-- the number of the first slot that passes, the first of them having number i
unfoldable pub first_in : (List ℕ → Bool) → ℕ → List (List ℕ) → Option ℕ
first_in p i [] = None
first_in p i (x ∷ xs) = cond (p x) (Some i) (first_in p (i + 1) xs)

-- a test that goes by a slot's number answers of each slot of the area as p does
abbrev pub TestsAs : (List ℕ → Bool) → List ℕ → (ℕ → Bool → Type 0) → Type 0
TestsAs p a Answers = (k : ℕ) (b : Bool) → k < length a / 32 → Answers k b → p (slot_at a k) ≡ b

-- o is the first slot of the area that passes, and none where none does
abbrev pub FirstSlot : (List ℕ → Bool) → List ℕ → Option ℕ → Type 0
FirstSlot p a o = MatchOption o ((k : ℕ) → k < length a / 32 → p (slot_at a k) ≡ false)
    (λ j. (j < length a / 32) × (p (slot_at a j) ≡ true) × ((k : ℕ) → k < j → p (slot_at a k) ≡ false))

-- the slot is free, or has a record of key k: a record of k can be stored there
unfoldable pub takes : ℕ → List ℕ → Bool
takes k x = is_free x || eqb k (key_in x)

-- the slots after slot i moved up by one, and the last one free
unfoldable pub closed_up : List ℕ → ℕ → List ℕ
closed_up a i = take (32 * i) a ++ (drop (32 * i + 32) a ++ free_slot)

-- no record is malformed, and free slots come last: in order but for the keys
unfoldable pub in_place : List (List ℕ) → Bool
in_place [] = true
in_place (x ∷ xs) = cond (is_free x) (all_free xs) (not (is_malformed x) && in_place xs)

-- the keys of the records before the first free slot
unfoldable pub keys_in : List (List ℕ) → List ℕ
keys_in [] = []
keys_in (x ∷ xs) = cond (is_free x) [] (key_in x ∷ keys_in xs)
