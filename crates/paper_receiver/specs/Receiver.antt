-- Tables over the serial link: "a receiver that takes each piece, keeps the bytes in a lent area of 49,152, and answers at the finish as the
-- table checker does on the whole". What the link task's record and the area hold after each call, and what the calls answer. The area of
-- 49,152 bytes is that of the limit 3,072: m below is the longest table of the limit, 16 bytes for each unit of it.
use Rattle.std.specs.Prelude.{ℕ, ◌+◌, ◌-◌, min, Bool, cond, ◌||◌, not, List, [], ◌∷◌, ◌++◌, length, take, drop, eqb, ltb}
use Rattle.paper.specs.Limits.{is_limit, max_bytes}
use Rattle.paper.specs.Equal.{one}
use Rattle.paper.specs.Verdict.{Verdict, refused, verdict}

-- "The receiver's small record stays with the link task": any two numbers. What the task hands over is judged, never trusted.
pub record Receiver : Type 0 where
  -- how many bytes of the area are the table's
  pub count : ℕ
  -- 0, or more bytes came than are kept
  pub past : ℕ

abbrev pub empty : Receiver
empty = record { count = 0; past = 0 }

-- "A record whose count is over 49,152 counts as past the limit."
unfoldable pub is_past : ℕ → Receiver → Bool
is_past m r = not (eqb r.past 0) || ltb m r.count

-- how many of n further bytes are kept: "Past 49,152 it keeps nothing more"
unfoldable pub kept : ℕ → Receiver → ℕ → ℕ
kept m r n = cond (is_past m r) 0 (min n (m - r.count))

-- the record after n further bytes; one that is past the limit stays as it is, whatever is in it
unfoldable pub counted : ℕ → Receiver → ℕ → Receiver
counted m r n = cond (is_past m r) r (record { count = r.count + kept m r n; past = one (ltb (kept m r n) n) })

-- "keeps the bytes in a lent area": the area after the piece p
unfoldable pub area_after : ℕ → Receiver → List ℕ → List ℕ → List ℕ
area_after m r area p = take r.count area ++ (take (kept m r (length p)) p ++ drop (r.count + kept m r (length p)) area)

-- the link task's record and the area: what one call leaves, the next one finds, "as long as nobody else writes the area between calls"
pub record Held : Type 0 where
  pub state : Receiver
  pub area : List ℕ

abbrev pub fresh : List ℕ → Held
fresh area = record { state = empty; area = area }

unfoldable pub with_piece : ℕ → Held → List ℕ → Held
with_piece m x p = record { state = counted m x.state (length p); area = area_after m x.state x.area p }

-- "an area shorter than 49,152"
unfoldable pub is_short : ℕ → List ℕ → Bool
is_short lim area = ltb (length area) (max_bytes lim)

-- a piece is taken: the number of the answer, and what is held afterwards
pub record Receipt : Type 0 where
  pub number : ℕ
  pub held : Held

abbrev pub receipt : ℕ → Held → Receipt
receipt k x = record { number = k; held = x }

-- "another limit is 19, before all others"; an area that is short "is 6 at any call, before all else, and that call changes nothing"
unfoldable pub received : ℕ → Held → List ℕ → Receipt
received lim x p =
    cond (is_limit lim)
    (cond (is_short lim x.area) (receipt 6 x) (receipt 0 (with_piece (max_bytes lim) x p)))
    (receipt 19 x)

-- the finish: "Past 49,152 it .. finishes with 1"; else it "answers at the finish as the table checker does"
unfoldable pub finish_verdict : ℕ → Held → Verdict
finish_verdict lim x =
    cond (is_limit lim)
    (cond (is_short lim x.area) (refused 6 0)
    (cond (is_past (max_bytes lim) x.state) (refused 1 0) (verdict lim (take x.state.count x.area))))
    (refused 19 0)

-- "Any finish but one with 6 empties the receiver": nor does one with 19, which came later and changes nothing
unfoldable pub finish_state : ℕ → Held → Receiver
finish_state lim x = cond (is_limit lim) (cond (is_short lim x.area) x.state empty) x.state

-- "the area's bytes stay"
unfoldable pub after_finish : ℕ → Held → Held
after_finish lim x = record { state = finish_state lim x; area = x.area }

-- ---- "The link delivers a table in any lengths, sometimes one byte, sometimes none": pieces one after the other, and the whole that they are
unfoldable pub received_all : ℕ → Held → List (List ℕ) → Held
received_all lim x [] = x
received_all lim x (p ∷ ps) = received_all lim (received lim x p).held ps

unfoldable pub whole : List (List ℕ) → List ℕ
whole [] = []
whole (p ∷ ps) = p ++ whole ps
