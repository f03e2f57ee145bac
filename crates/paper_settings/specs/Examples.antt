-- Small areas with what the calls answer and leave, as one table: each row is one that a wrong reading of the request would get wrong.
-- proofs/Computed proves the whole table by one statement. Slots are written byte by byte, numbers as the caller sees them.
use Rattle.std.specs.Prelude.{ℕ, zero, suc, ◌+◌, List, [], ◌∷◌, ◌++◌, replicate}
use Rattle.paper_settings.specs.Settings.{Op, to_store, to_fetch, to_remove, Reply, OldReply, called, fetched_old, call_each}
use Rattle.paper_settings.specs.Calls.{fetch_returns, fetch_answers, old_returns, old_answers}

-- an area, the calls of the new release on it in turn, their answers, and the area that they leave
pub record Example : Type 0 where
  pub given : List ℕ
  pub asked : List Op
  pub answers : List Reply
  pub left : List ℕ

abbrev row : List ℕ → List Op → List Reply → List ℕ → Example
row a ops rs b = record { given = a; asked = ops; answers = rs; left = b }

-- version, key, unit and setting, each below 256
abbrev slot : ℕ → ℕ → ℕ → ℕ → List ℕ
slot v k u s = v ∷ 0 ∷ k ∷ 0 ∷ u ∷ 0 ∷ 0 ∷ 0 ∷ s ∷ replicate 23 0

abbrev free : List ℕ
free = replicate 32 0

-- a number with zeros, and an accepted fetch
abbrev just : ℕ → Reply
just k = record { number = k; setting = 0; unit = 0 }

abbrev shows : ℕ → ℕ → Reply
shows s u = record { number = 0; setting = s; unit = u }

-- each call is answered with number k, and the area stays
abbrev always : ℕ → List ℕ → Example
always k a = row a (to_fetch 5 ∷ to_remove 5 ∷ to_store 5 9 3 ∷ []) (just k ∷ just k ∷ just k ∷ []) a

unfoldable pub examples : List Example
examples =
    -- a newer version counts in any whole record, also after a free slot; a known one there is out of order
    always 10 (free ++ slot 3 5 0 77)
    ∷ always 11 (free ++ slot 2 5 0 77)
    -- 10 goes first, over the whole area
    ∷ always 10 (slot 1 5 1 77 ++ slot 3 6 0 1)
    -- what follows the last whole record is not looked at
    ∷ always 11 (slot 2 5 0 77 ++ (9 ∷ replicate 7 0))
    ∷ always 10 (slot 9 5 0 77 ++ replicate 8 0)
    ∷ always 11 (replicate 31 0)
    ∷ always 11 (replicate 33 0)
    -- version 1 with byte 4 set is malformed, and has no unit
    ∷ always 11 (slot 1 5 1 77)
    -- version 0 with a key is malformed, and not free
    ∷ always 11 (slot 0 5 0 0)
    -- a key twice, in two versions, and apart
    ∷ always 11 (slot 1 5 0 77 ++ slot 2 5 0 77)
    ∷ always 11 (slot 2 5 0 77 ++ slot 2 6 0 77 ++ slot 2 5 0 77)
    -- no bytes at all are no slots
    ∷ row [] (to_fetch 5 ∷ to_remove 5 ∷ to_store 5 9 3 ∷ []) (just 12 ∷ just 12 ∷ just 13 ∷ []) []
    -- full: a known key is replaced, a new one is refused by 13 and never by 12, an absent one by 12; removed, its room is used again
    ∷ row (slot 2 5 4 7)
    (to_store 6 1 1 ∷ to_store 5 1 1 ∷ to_fetch 5 ∷ to_fetch 6 ∷ to_remove 6 ∷ to_remove 5 ∷ to_store 6 1 1 ∷ to_fetch 6 ∷ [])
    (just 13 ∷ just 0 ∷ shows 1 1 ∷ just 12 ∷ just 12 ∷ just 0 ∷ just 0 ∷ shows 1 1 ∷ [])
    (slot 2 6 1 1)
    -- the later ones move up, byte for byte
    ∷ row (slot 2 1 1 1 ++ slot 1 2 0 2 ++ slot 2 3 3 3) (to_remove 1 ∷ to_fetch 2 ∷ to_fetch 1 ∷ []) (just 0 ∷ shows 2 0 ∷ just 12 ∷ [])
    (slot 1 2 0 2 ++ slot 2 3 3 3 ++ free)
    -- a store over version 1 writes version 2 into that slot and leaves the others
    ∷ row (slot 1 1 0 10 ++ slot 1 2 0 20 ++ free) (to_store 1 11 3 ∷ to_fetch 2 ∷ to_store 4 1 0 ∷ []) (just 0 ∷ shows 20 0 ∷ just 0 ∷ [])
    (slot 2 1 3 11 ++ slot 1 2 0 20 ++ slot 2 4 0 1)
    ∷ []

-- of the same form, from free slots
unfoldable pub from_free : List Example
from_free =
    -- key 0 with setting 0 and unit 0 is a record like any other, and a free slot has no key
    row (free ++ free) (to_fetch 0 ∷ to_store 0 0 0 ∷ to_fetch 0 ∷ to_fetch 1 ∷ to_store 1 2 3 ∷ to_remove 0 ∷ to_fetch 0 ∷ [])
    (just 12 ∷ just 0 ∷ just 0 ∷ just 12 ∷ just 0 ∷ just 0 ∷ just 12 ∷ [])
    (slot 2 1 3 2 ++ free)
    -- little-endian: key 256 * 1 + 2, unit 256 * 3 + 4, setting 1 + 2 * 256 + .. + 8 * 256^7
    ∷ row free (to_store 258 578437695752307201 772 ∷ to_fetch 258 ∷ to_store 259 0 0 ∷ [])
    (just 0 ∷ shows 578437695752307201 772 ∷ just 13 ∷ [])
    (2 ∷ 0 ∷ 2 ∷ 1 ∷ 4 ∷ 3 ∷ 0 ∷ 0 ∷ 1 ∷ 2 ∷ 3 ∷ 4 ∷ 5 ∷ 6 ∷ 7 ∷ 8 ∷ replicate 16 0)
    -- a setting of -1 is its 64 bits; the largest key and unit; the last slot taken and used again
    ∷ row free (to_store 65535 18446744073709551615 65535 ∷ to_fetch 65535 ∷ to_remove 65535 ∷ to_store 5 18446744073709551615 0 ∷ [])
    (just 0 ∷ shows 18446744073709551615 65535 ∷ just 0 ∷ just 0 ∷ [])
    (2 ∷ 0 ∷ 5 ∷ 0 ∷ 0 ∷ 0 ∷ 0 ∷ 0 ∷ 255 ∷ 255 ∷ 255 ∷ 255 ∷ 255 ∷ 255 ∷ 255 ∷ 255 ∷ replicate 16 0)
    ∷ []

-- what the definitions give for an area and calls on it
unfoldable pub left_by : List Op → List ℕ → List ℕ
left_by [] a = a
left_by (op ∷ ops) a = left_by ops (called op a).after

unfoldable pub computed : Example → Example
computed e = row e.given e.asked (call_each e.asked e.given) (left_by e.asked e.given)

-- "all other bytes are zero": a store where byte j of a record is other than zero, j from 1 to 31, by version 0 to 2
unfoldable pub by_byte : List (List ℕ)
by_byte =
    replicate 31 11
    ∷ (11 ∷ 0 ∷ 0 ∷ 11 ∷ 11 ∷ 11 ∷ 11 ∷ 0 ∷ 0 ∷ 0 ∷ 0 ∷ 0 ∷ 0 ∷ 0 ∷ 0 ∷ replicate 16 11)
    ∷ (11 ∷ 0 ∷ 0 ∷ 0 ∷ 0 ∷ 11 ∷ 11 ∷ 0 ∷ 0 ∷ 0 ∷ 0 ∷ 0 ∷ 0 ∷ 0 ∷ 0 ∷ replicate 16 11)
    ∷ []

unfoldable pub stored : ℕ → ℕ → ℕ → List ℕ
stored v j zero = []
stored v j (suc n) = (called (to_store 7 1 1) (v ∷ replicate j 0 ++ (1 ∷ replicate (n + 32) 0))).reply.number ∷ stored v (j + 1) n

-- the reader of the old release: an area, a key, the number, the setting
pub record OldExample : Type 0 where
  pub given : List ℕ
  pub key : ℕ
  pub answer : OldReply

abbrev old : List ℕ → ℕ → ℕ → ℕ → OldExample
old a k n s = record { given = a; key = k; answer = record { number = n; setting = s } }

unfoldable pub old_examples : List OldExample
old_examples =
    old (slot 1 1 0 10 ++ slot 1 2 0 20 ++ free) 2 0 20
    ∷ old (slot 1 1 0 10 ++ slot 1 2 0 20 ++ free) 3 12 0
    -- a version 2 record in any slot, also behind the asked one: nothing is shown
    ∷ old (slot 1 5 0 77 ++ slot 1 6 0 1 ++ slot 1 7 0 1 ++ slot 2 8 0 1) 5 10 0
    ∷ old (slot 2 5 3 77) 5 10 0
    ∷ old (free ++ slot 2 5 0 77) 5 10 0
    ∷ old (slot 2 5 0 77 ++ replicate 8 0) 5 10 0
    -- malformed is malformed for both releases
    ∷ old (slot 1 5 1 77) 5 11 0
    ∷ old (slot 1 5 0 77 ++ (2 ∷ replicate 7 0)) 5 11 0
    ∷ old (free ++ slot 1 5 0 77) 5 11 0
    ∷ old (slot 1 5 0 77 ++ slot 1 5 0 77) 5 11 0
    ∷ []

unfoldable pub old_computed : OldExample → OldExample
old_computed e = record { given = e.given; key = e.key; answer = fetched_old e.key e.given }

-- a fetch from C: the key, the length of the slice (each byte 165), what is returned, and the slice afterwards
pub record Fetch : Type 0 where
  pub area : List ℕ
  pub key : ℕ
  pub bytes_lent : ℕ
  pub returns : ℕ
  pub slice : List ℕ

abbrev fetch : List ℕ → ℕ → ℕ → ℕ → List ℕ → Fetch
fetch a k l n s = record { area = a; key = k; bytes_lent = l; returns = n; slice = s }

-- a number below 256 in 8 bytes
abbrev eight : ℕ → List ℕ
eight n = n ∷ replicate 7 0

-- number, place, setting, unit
unfoldable pub fetches : List Fetch
fetches =
    fetch (slot 2 5 3 77) 5 33 0 (eight 0 ++ eight 0 ++ eight 77 ++ eight 3 ++ (165 ∷ []))
    ∷ fetch (slot 1 5 0 77) 5 32 0 (eight 0 ++ eight 0 ++ eight 77 ++ eight 0)
    ∷ fetch (slot 2 5 3 77) 6 32 12 (eight 12 ++ eight 0 ++ eight 0 ++ eight 0)
    ∷ fetch (slot 3 5 3 77) 5 32 10 (eight 10 ++ eight 0 ++ eight 0 ++ eight 0)
    ∷ fetch (slot 3 5 3 77) 5 31 6 (replicate 31 165)
    ∷ []

unfoldable pub fetch_computed : Fetch → Fetch
fetch_computed e =
    let s : List ℕ = replicate e.bytes_lent 165 in
    fetch e.area e.key e.bytes_lent (fetch_returns e.key e.area s) (fetch_answers e.key e.area s)

-- the old release's: number, place, setting
unfoldable pub old_fetches : List Fetch
old_fetches =
    fetch (slot 1 5 0 77) 5 25 0 (eight 0 ++ eight 0 ++ eight 77 ++ (165 ∷ []))
    ∷ fetch (slot 2 5 3 77) 5 24 10 (eight 10 ++ eight 0 ++ eight 0)
    ∷ fetch (slot 2 5 3 77) 5 23 6 (replicate 23 165)
    ∷ []

unfoldable pub old_fetch_computed : Fetch → Fetch
old_fetch_computed e =
    let s : List ℕ = replicate e.bytes_lent 165 in
    fetch e.area e.key e.bytes_lent (old_returns e.key e.area s) (old_answers e.key e.area s)
