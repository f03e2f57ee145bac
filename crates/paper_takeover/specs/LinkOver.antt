-- The link, told by the calls from C: pieces one after the other, each call handed the record and the area that the last one left, and the finish;
-- a transfer that the pair swaps in the middle of; and a result that comes to a machine at another limit. (TakenOver has the definitions' own.)
use Rattle.std.specs.Prelude.{ℕ, ◌≤◌, ◌<◌, ◌≡◌, true, cond, List, [], ◌∷◌, ◌++◌, ◌⊎◌, length, drop, replicate, ltb}
use Rattle.paper.specs.Limits.{is_limit, max_bytes}
use Rattle.paper.specs.Verdict.{Verdict, accepted, refused}
use Rattle.paper.specs.Calls.{verdict_numbers, eights}
use Rattle.paper.specs.Answers.{Lent, Given, simplified}
use Rattle.paper.specs.Demands.{result}
use Rattle.paper.specs.Takeover.{Room, Repeats}
use Rattle.paper_receiver.specs.Receiver.{Held, empty, received, finish_verdict, received_all, whole}
use Rattle.paper_receiver.specs.Calls.{receiver_in, held_in, receive_returns, receive_record, receive_area, finish_returns, finish_answers}
use Rattle.paper_takeover.specs.TakenOver.{held_bytes}
use Rattle.paper_takeover.specs.LimitOver.{OfAccepted, Holds}

-- ---- the link task's record and the area, as the bytes that a call finds
pub record Task : Type 0 where
  pub record_bytes : List ℕ
  pub area : List ℕ

unfoldable pub after_call : ℕ → Task → List ℕ → Task
after_call lim x p = record { record_bytes = receive_record lim x.record_bytes x.area p; area = receive_area lim x.record_bytes x.area p }

-- so many pieces: what the last call leaves, and what each call returns
unfoldable pub after_calls : ℕ → Task → List (List ℕ) → Task
after_calls lim x [] = x
after_calls lim x (p ∷ ps) = after_calls lim (after_call lim x p) ps

unfoldable pub returns : ℕ → Task → List (List ℕ) → List ℕ
returns lim x [] = []
returns lim x (p ∷ ps) = receive_returns lim x.record_bytes x.area p ∷ returns lim (after_call lim x p) ps

-- what has come, as the link task finds it: as many bytes of the area as its record counts
abbrev pub holding : Task → Held
holding x = held_in x.record_bytes x.area

abbrev pub table_in : Task → List ℕ
table_in x = held_bytes (holding x)

-- an empty receiver, as 16 zero bytes are one, with the area that the limit asks for
pub record Ready (lim : ℕ) (x : Task) : Type 0 where
  pub record_room : 16 ≤ length x.record_bytes
  pub nothing_yet : receiver_in x.record_bytes ≡ empty
  pub area_room : max_bytes lim ≤ length x.area

-- ---- takeover: where the record and the area are y, the finish accepts and tells so, the result is what the record counts, and simplifying that repeats
-- the first answer and gives the same bytes
pub record Arrived (there ed : ℕ) (g : Given) (y : Task) (slice : List ℕ) (l' : Lent) : Type 0 where
  pub finish_accepts : finish_returns there y.record_bytes y.area slice ≡ 0
  pub finish_tells : finish_answers there y.record_bytes y.area slice ≡ eights (verdict_numbers accepted) ++ drop 32 slice
  pub same_table : table_in y ≡ result g
  pub repeats : Repeats g (simplified there ed (table_in y) l')

-- each piece is taken, and the result stands at the front of the area
pub record CallsRepeat (there ed : ℕ) (g : Given) (x : Task) (ps : List (List ℕ)) (slice : List ℕ) (l' : Lent) : Type 0 where
  pub each_taken : returns there x ps ≡ replicate (length ps) 0
  pub at_the_front : (after_calls there x ps).area ≡ result g ++ drop (length (result g)) x.area
  pub arrived : Arrived there ed g (after_calls there x ps) slice l'

-- whatever pieces join to the result, at the limit `there` of the second machine
abbrev pub CallsTakeOver : ℕ → ℕ → ℕ → Type 0
CallsTakeOver lim there ed =
    OfAccepted lim ed (λ s g. Holds there g
    → (x : Task) → Ready there x → (ps : List (List ℕ)) → whole ps ≡ result g → (slice : List ℕ) → 32 ≤ length slice
    → (l' : Lent) → Room there g.answer.weight_out l' → CallsRepeat there ed g x ps slice l')

-- a result over the limit of the second machine: each piece is taken, and the finish refuses the whole, by 1 where it is longer than that limit's tables, else
-- by 3; it is never misread
unfoldable pub over_by : ℕ → List ℕ → Verdict
over_by there s = refused (cond (ltb (max_bytes there) (length s)) 1 3) 0

pub record CallsRefuse (there : ℕ) (g : Given) (x : Task) (ps : List (List ℕ)) (slice : List ℕ) : Type 0 where
  pub each_taken : returns there x ps ≡ replicate (length ps) 0
  pub finish_refuses : let y = after_calls there x ps in finish_returns there y.record_bytes y.area slice ≡ (over_by there (result g)).number
  pub finish_tells :
      let y = after_calls there x ps in
      finish_answers there y.record_bytes y.area slice ≡ eights (verdict_numbers (over_by there (result g))) ++ drop 32 slice

abbrev pub CallsTooHeavy : ℕ → ℕ → ℕ → Type 0
CallsTooHeavy lim there ed =
    OfAccepted lim ed (λ s g. is_limit there ≡ true → there < g.answer.weight_out
    → (x : Task) → Ready there x → (ps : List (List ℕ)) → whole ps ≡ result g → (slice : List ℕ) → 32 ≤ length slice → CallsRefuse there g x ps slice)

-- so at each limit, whatever it is: it takes over or it is refused
abbrev pub LinkNeverMisread : ℕ → ℕ → ℕ → Type 0
LinkNeverMisread lim there ed =
    OfAccepted lim ed (λ s g. is_limit there ≡ true
    → (x : Task) → Ready there x → (ps : List (List ℕ)) → whole ps ≡ result g → (slice : List ℕ) → 32 ≤ length slice
    → (l' : Lent) → Room there g.answer.weight_out l' → CallsRepeat there ed g x ps slice l' ⊎ CallsRefuse there g x ps slice)

-- ---- a swap: to go on with qs from record and area as they were left after ps is to receive them all
pub record SwapsOver (lim : ℕ) : Type 0 where
  pub goes_on : (x : Held) (ps qs : List (List ℕ)) → received_all lim x (ps ++ qs) ≡ received_all lim (received_all lim x ps) qs
  -- and of the calls
  pub calls_go_on : (x : Task) (ps qs : List (List ℕ)) → after_calls lim x (ps ++ qs) ≡ after_calls lim (after_calls lim x ps) qs
  pub calls_return : (x : Task) (ps qs : List (List ℕ)) → returns lim x (ps ++ qs) ≡ returns lim x ps ++ returns lim (after_calls lim x ps) qs

-- the second machine needs no more of the area than the bytes that the record counts, in an area of its own with the limit's room
pub record Copied (lim : ℕ) (x y : Held) : Type 0 where
  pub same_record : y.state ≡ x.state
  pub same_bytes : held_bytes y ≡ held_bytes x
  pub room : max_bytes lim ≤ length x.area
  pub own_room : max_bytes lim ≤ length y.area

-- whatever comes then: each piece has the same number, the record and the bytes that it counts stay the same, and so the finish does
pub record CopyGoesOn (lim : ℕ) (x y : Held) (qs : List (List ℕ)) : Type 0 where
  pub still : Copied lim (received_all lim x qs) (received_all lim y qs)
  pub same_number : (p : List ℕ) → (received lim (received_all lim y qs) p).number ≡ (received lim (received_all lim x qs) p).number
  pub same_finish : finish_verdict lim (received_all lim y qs) ≡ finish_verdict lim (received_all lim x qs)

abbrev pub CopySuffices : ℕ → Type 0
CopySuffices lim = (x y : Held) → Copied lim x y → (qs : List (List ℕ)) → CopyGoesOn lim x y qs

-- of the calls: y has the bytes of the record x, and the bytes of the area that it counts
pub record CopiedTask (lim : ℕ) (x y : Task) : Type 0 where
  pub record_copied : y.record_bytes ≡ x.record_bytes
  pub bytes_copied : table_in y ≡ table_in x
  pub area_room : max_bytes lim ≤ length y.area

-- the first machine takes ps, the second one goes on with qs from such a copy y: each piece is taken, and the result has arrived
pub record SwapRepeats (there ed : ℕ) (g : Given) (x : Task) (ps : List (List ℕ)) (y : Task) (qs : List (List ℕ)) (slice : List ℕ) (l' : Lent) : Type 0 where
  pub first_taken : returns there x ps ≡ replicate (length ps) 0
  pub second_taken : returns there y qs ≡ replicate (length qs) 0
  pub arrived : Arrived there ed g (after_calls there y qs) slice l'

abbrev pub SwapTakesOver : ℕ → ℕ → ℕ → Type 0
SwapTakesOver lim there ed =
    OfAccepted lim ed (λ s g. Holds there g
    → (x : Task) → Ready there x → (ps qs : List (List ℕ)) → whole (ps ++ qs) ≡ result g → (y : Task) → CopiedTask there (after_calls there x ps) y
    → (slice : List ℕ) → 32 ≤ length slice → (l' : Lent) → Room there g.answer.weight_out l' → SwapRepeats there ed g x ps y qs slice l')
