-- The calls from C. The link task's record is 16 bytes that the task keeps, count and past, 8 bytes each, little-endian: 16 zero bytes are an
-- empty receiver. The call that takes a piece has no more to say than the number that it returns; the finish writes the checker's numbers to
-- its answer slice. A record or an answer slice that is too short is 6 before all else, and changes nothing; bytes past the 16, and past the
-- answer, never change.
use Rattle.std.specs.Prelude.{ℕ, Bool, cond, ◌||◌, List, [], ◌∷◌, length, ltb}
use Rattle.paper.specs.Bytes.{le8}
use Rattle.paper.specs.Calls.{verdict_numbers, is_too_short, returned, answered}
use Rattle.paper_receiver.specs.Receiver.{Receiver, Held, received, finish_verdict, finish_state}

unfoldable pub receiver_in : List ℕ → Receiver
receiver_in s = record { count = le8 s 0; past = le8 s 8 }

unfoldable pub receiver_numbers : Receiver → List ℕ
receiver_numbers r = r.count ∷ r.past ∷ []

-- what is held, of the record's bytes and the area
unfoldable pub held_in : List ℕ → List ℕ → Held
held_in s area = record { state = receiver_in s; area = area }

-- simmergate_receive: of the limit, the record's bytes, the area and a piece, what it returns, and record and area afterwards
unfoldable pub receive_returns : ℕ → List ℕ → List ℕ → List ℕ → ℕ
receive_returns lim s area p =
    returned (receiver_numbers (received lim (held_in s area) p).held.state) (received lim (held_in s area) p).number s

unfoldable pub receive_record : ℕ → List ℕ → List ℕ → List ℕ → List ℕ
receive_record lim s area p = answered (receiver_numbers (received lim (held_in s area) p).held.state) s

unfoldable pub receive_area : ℕ → List ℕ → List ℕ → List ℕ → List ℕ
receive_area lim s area p =
    cond (is_too_short (receiver_numbers (received lim (held_in s area) p).held.state) s) area (received lim (held_in s area) p).held.area

-- simmergate_receive_finish: of the limit, the record's bytes, the area and the answer slice, for which four numbers need 32 bytes
unfoldable pub no_room : List ℕ → List ℕ → Bool
no_room s slice = ltb (length s) 16 || ltb (length slice) 32

unfoldable pub finish_returns : ℕ → List ℕ → List ℕ → List ℕ → ℕ
finish_returns lim s area slice = cond (no_room s slice) 6 (finish_verdict lim (held_in s area)).number

unfoldable pub finish_record : ℕ → List ℕ → List ℕ → List ℕ → List ℕ
finish_record lim s area slice = cond (no_room s slice) s (answered (receiver_numbers (finish_state lim (held_in s area))) s)

unfoldable pub finish_answers : ℕ → List ℕ → List ℕ → List ℕ → List ℕ
finish_answers lim s area slice = cond (no_room s slice) slice (answered (verdict_numbers (finish_verdict lim (held_in s area))) slice)
