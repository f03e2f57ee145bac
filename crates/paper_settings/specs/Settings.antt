-- Settings that survive an upgrade: "a store in records of 32 bytes, no header, little-endian". An area of bytes, what it shows, what
-- is refused, and what store, fetch and remove answer and leave; beside it the plain map that they are to answer as.
use Rattle.std.specs.Prelude.{ℕ, zero, suc, ◌+◌, ◌-◌, ◌*◌, ◌/◌, ◌%◌, ◌^◌, ◌<◌, ◌≡◌, Bool, true, false, cond, ◌&&◌, ◌||◌, not, List, [], ◌∷◌, ◌++◌}
use Rattle.std.specs.Prelude.{length, get_or, take, drop, replicate, eqb, ltb}
use Rattle.std.proofs.Math.Option.{Option, none, some}
use Rattle.paper.specs.Bytes.{bytes, le2, le8}

abbrev pub slot_bytes : ℕ
slot_bytes = 32

-- the version that the new release writes; the old one knows those up to 1
abbrev pub new_release : ℕ
new_release = 2

abbrev pub old_release : ℕ
old_release = 1

-- ---- one slot, its 32 bytes: "version in byte 0, key in bytes 2-3, signed 64-bit setting in bytes 8-15, and from version 2 a unit
-- number in bytes 4-5" (the setting as 64 bits)
unfoldable pub version : List ℕ → ℕ
version x = get_or x 0 0

unfoldable pub key_in : List ℕ → ℕ
key_in x = le2 x 2

unfoldable pub unit_in : List ℕ → ℕ
unit_in x = le2 x 4

unfoldable pub setting_in : List ℕ → ℕ
setting_in x = le8 x 8

-- "all other bytes are zero": which bytes may be other than zero, by version 0 to 2 and byte; past byte 15 none may. Version 0 has none:
-- with a byte other than zero it is malformed, and with none the slot is free.
unfoldable pub may_table : List (List ℕ)
may_table =
    (0 ∷ 0 ∷ 0 ∷ 0 ∷ 0 ∷ 0 ∷ 0 ∷ 0 ∷ 0 ∷ 0 ∷ 0 ∷ 0 ∷ 0 ∷ 0 ∷ 0 ∷ 0 ∷ [])
    ∷ (1 ∷ 0 ∷ 1 ∷ 1 ∷ 0 ∷ 0 ∷ 0 ∷ 0 ∷ 1 ∷ 1 ∷ 1 ∷ 1 ∷ 1 ∷ 1 ∷ 1 ∷ 1 ∷ [])
    ∷ (1 ∷ 0 ∷ 1 ∷ 1 ∷ 1 ∷ 1 ∷ 0 ∷ 0 ∷ 1 ∷ 1 ∷ 1 ∷ 1 ∷ 1 ∷ 1 ∷ 1 ∷ 1 ∷ [])
    ∷ []

-- byte j of a record of version v may be other than zero where this is not 0
unfoldable pub may_be : ℕ → ℕ → ℕ
may_be v j = get_or (get_or may_table v []) j 0

-- of the n bytes from byte j on, some one is other than zero and must be zero
unfoldable pub strays : ℕ → List ℕ → ℕ → ℕ → Bool
strays v x j zero = false
strays v x j (suc n) = not (not (eqb (may_be v j) 0) || eqb (get_or x j 0) 0) || strays v x (j + 1) n

unfoldable pub is_malformed : List ℕ → Bool
is_malformed x = strays (version x) x 0 32

-- "A free slot is all zero"
unfoldable pub is_free : List ℕ → Bool
is_free [] = true
is_free (b ∷ x) = eqb b 0 && is_free x

-- the slot has a record, and its key is k
unfoldable pub holds : ℕ → List ℕ → Bool
holds k x = not (is_free x) && eqb k (key_in x)

-- "The new release writes version 2 only."
unfoldable pub slot_of : ℕ → ℕ → ℕ → List ℕ
slot_of key setting unit = new_release ∷ 0 ∷ (bytes 2 key ++ (bytes 2 unit ++ (0 ∷ 0 ∷ (bytes 8 setting ++ replicate 16 0))))

unfoldable pub free_slot : List ℕ
free_slot = replicate slot_bytes 0

-- ---- the slots of an area, and what they show. "the unit being part of the setting here"
pub record Setting : Type 0 where
  pub setting : ℕ
  pub unit : ℕ

unfoldable pub setting_of : List ℕ → Setting
setting_of x = record { setting = setting_in x; unit = unit_in x }

-- the first n slots, and back
unfoldable pub slots : ℕ → List ℕ → List (List ℕ)
slots zero a = []
slots (suc n) a = take slot_bytes a ∷ slots n (drop slot_bytes a)

unfoldable pub joined : List (List ℕ) → List ℕ
joined [] = []
joined (x ∷ xs) = x ++ joined xs

-- the whole slots of an area, "whole" as in "any whole record"
unfoldable pub slots_of : List ℕ → List (List ℕ)
slots_of a = slots (length a / slot_bytes) a

-- by key
unfoldable pub shown : List (List ℕ) → ℕ → Option Setting
shown [] k = none
shown (x ∷ xs) k = cond (holds k x) (some (setting_of x)) (shown xs k)

unfoldable pub known : Option Setting → Bool
known none = false
known (some s) = true

-- the number of records
unfoldable pub used : List (List ℕ) → ℕ
used [] = 0
used (x ∷ xs) = cond (is_free x) (used xs) (suc (used xs))

-- ---- refusals "over the whole area"
-- 10: "a newer version in byte 0 of any whole record", for a release that knows the versions up to `newest`
unfoldable pub any_newer : ℕ → List (List ℕ) → Bool
any_newer newest [] = false
any_newer newest (x ∷ xs) = ltb newest (version x) || any_newer newest xs

unfoldable pub all_free : List (List ℕ) → Bool
all_free [] = true
all_free (x ∷ xs) = is_free x && all_free xs

-- no record is malformed, no key is there twice, and "free slots come last"
unfoldable pub in_order : List (List ℕ) → Bool
in_order [] = true
in_order (x ∷ xs) = cond (is_free x) (all_free xs) (not (is_malformed x) && (not (known (shown xs (key_in x))) && in_order xs))

-- 11: "a malformed record, a key twice, a record after a free slot, or an area that is no multiple of 32"
unfoldable pub is_disordered : List ℕ → Bool
is_disordered a = not (eqb (length a % slot_bytes) 0) || not (in_order (slots_of a))

unfoldable pub area_verdict : ℕ → List ℕ → ℕ
area_verdict newest a = cond (any_newer newest (slots_of a)) 10 (cond (is_disordered a) 11 0)

-- ---- the three operations, and their answers: 0 or a refusal's number; setting and unit are zero but after an accepted fetch
pub data Op : Type 0 where
  to_store : ℕ → ℕ → ℕ → Op
  to_fetch : ℕ → Op
  to_remove : ℕ → Op

-- keys and units have 16 bits, settings 64
abbrev pub Fits : Op → Type 0
Fits (to_store k v u) = (k < 2 ^ 16) × ((v < 2 ^ 64) × (u < 2 ^ 16))
Fits (to_fetch k) = k < 2 ^ 16
Fits (to_remove k) = k < 2 ^ 16

abbrev pub AllFit : List Op → Type 0
AllFit [] = Unit {0}
AllFit (op ∷ ops) = Fits op × AllFit ops

pub record Reply : Type 0 where
  pub number : ℕ
  pub setting : ℕ
  pub unit : ℕ

abbrev pub only : ℕ → Reply
only k = record { number = k; setting = 0; unit = 0 }

-- 12: "key absent, for fetch and remove"
unfoldable pub fetch_reply : Option Setting → Reply
fetch_reply none = only 12
fetch_reply (some s) = record { number = 0; setting = s.setting; unit = s.unit }

-- an answer, and what is there afterwards
pub record Replied (A : Type 0) : Type 0 where
  pub reply : Reply
  pub after : A

abbrev pub replies : {A : Type 0} → Reply → A → Replied A
replies r a = record { reply = r; after = a }

-- ---- "a plain map from key to setting", with room for so many keys
pub record Map : Type 0 where
  pub look : ℕ → Option Setting
  pub size : ℕ

unfoldable pub no_settings : Map
no_settings = record { look = λ k. none; size = 0 }

unfoldable pub with : ℕ → Setting → Map → Map
with k s m =
    record { look = λ j. cond (eqb j k) (some s) (m.look j); size = cond (known (m.look k)) m.size (suc m.size) }

unfoldable pub without : ℕ → Map → Map
without k m = record { look = λ j. cond (eqb j k) none (m.look j); size = m.size - 1 }

-- 13: "full, exactly when the key is new and no slot is free"
unfoldable pub is_full : ℕ → ℕ → Option Setting → Bool
is_full room size found = not (known found) && eqb size room

unfoldable pub on_map : ℕ → Op → Map → Replied Map
on_map room (to_store k v u) m =
    cond (is_full room m.size (m.look k)) (replies (only 13) m)
    (replies (only 0) (with k (record { setting = v; unit = u }) m))
on_map room (to_fetch k) m = replies (fetch_reply (m.look k)) m
on_map room (to_remove k) m = cond (known (m.look k)) (replies (only 0) (without k m)) (replies (only 12) m)

-- the map that slots show
unfoldable pub map_of : List (List ℕ) → Map
map_of xs = record { look = λ k. shown xs k; size = used xs }

-- ---- the same on slots
-- "Storing a known key replaces its record"; a new one goes into the first free slot
unfoldable pub put : ℕ → List ℕ → List (List ℕ) → List (List ℕ)
put k r [] = []
put k r (x ∷ xs) = cond (is_free x || eqb k (key_in x)) (r ∷ xs) (x ∷ put k r xs)

-- "removing one moves the later ones up, and the room is used again"
unfoldable pub take_out : ℕ → List (List ℕ) → List (List ℕ)
take_out k [] = []
take_out k (x ∷ xs) = cond (holds k x) (xs ++ (free_slot ∷ [])) (x ∷ take_out k xs)

unfoldable pub on_slots : Op → List (List ℕ) → Replied (List (List ℕ))
on_slots (to_store k v u) xs =
    cond (is_full (length xs) (used xs) (shown xs k)) (replies (only 13) xs) (replies (only 0) (put k (slot_of k v u) xs))
on_slots (to_fetch k) xs = replies (fetch_reply (shown xs k)) xs
on_slots (to_remove k) xs = cond (known (shown xs k)) (replies (only 0) (take_out k xs)) (replies (only 12) xs)

-- ---- the calls of the new release: "tested in this order over the whole area, each changing nothing"
unfoldable pub called : Op → List ℕ → Replied (List ℕ)
called op a =
    cond (eqb (area_verdict new_release a) 0)
    (replies (on_slots op (slots_of a)).reply (joined (on_slots op (slots_of a)).after))
    (replies (only (area_verdict new_release a)) a)

-- the reader of a release
unfoldable pub fetched : ℕ → ℕ → List ℕ → Reply
fetched newest k a = cond (eqb (area_verdict newest a) 0) (fetch_reply (shown (slots_of a) k)) (only (area_verdict newest a))

-- "The version 1 reader": it knows no unit
pub record OldReply : Type 0 where
  pub number : ℕ
  pub setting : ℕ

unfoldable pub fetched_old : ℕ → List ℕ → OldReply
fetched_old k a = record { number = (fetched old_release k a).number; setting = (fetched old_release k a).setting }

-- ---- "any sequence of store, fetch and remove": the answers, first to last
unfoldable pub call_each : List Op → List ℕ → List Reply
call_each [] a = []
call_each (op ∷ ops) a = (called op a).reply ∷ call_each ops (called op a).after

unfoldable pub ask_each : ℕ → List Op → Map → List Reply
ask_each room [] m = []
ask_each room (op ∷ ops) m = (on_map room op m).reply ∷ ask_each room ops (on_map room op m).after

-- ---- the refusals in the request's words, of the area's bytes, without the functions that find them
abbrev pub FreeAt : List ℕ → ℕ → Type 0
FreeAt a i = (j : ℕ) → j < 32 → get_or a (32 * i + j) 0 ≡ 0

-- slot i has a record of key k
abbrev pub KeyAt : List ℕ → ℕ → ℕ → Type 0
KeyAt a i k = (¬ FreeAt a i) × (le2 a (32 * i + 2) ≡ k)

-- "a malformed record, a key twice, a record after a free slot, or an area that is no multiple of 32"
pub data Disorder (a : List ℕ) : Type 0 where
  malformed : (i j : ℕ) → i < length a / 32 → j < 32 → may_be (get_or a (32 * i) 0) j ≡ 0 → ¬ (get_or a (32 * i + j) 0 ≡ 0) → Disorder a
  key_twice : (i j k : ℕ) → i < j → j < length a / 32 → KeyAt a i k → KeyAt a j k → Disorder a
  record_after_free : (i j : ℕ) → i < j → j < length a / 32 → FreeAt a i → ¬ FreeAt a j → Disorder a
  no_multiple : ((m : ℕ) → ¬ (length a ≡ 32 * m)) → Disorder a

-- what a release that knows the versions up to `newest` refuses: number and place (always 0), each by itself, whatever the others are
pub data Refuses (newest : ℕ) (a : List ℕ) : Op → ℕ → ℕ → Type 0 where
  newer : {op : Op} (i : ℕ) → i < length a / 32 → newest < get_or a (32 * i) 0 → Refuses newest a op 10 0
  disordered : {op : Op} → Disorder a → Refuses newest a op 11 0
  fetch_absent : {k : ℕ} → ((i : ℕ) → i < length a / 32 → ¬ KeyAt a i k) → Refuses newest a (to_fetch k) 12 0
  remove_absent : {k : ℕ} → ((i : ℕ) → i < length a / 32 → ¬ KeyAt a i k) → Refuses newest a (to_remove k) 12 0
  full : {k v u : ℕ} → ((i : ℕ) → i < length a / 32 → ¬ KeyAt a i k) → ((i : ℕ) → i < length a / 32 → ¬ FreeAt a i)
      → Refuses newest a (to_store k v u) 13 0
