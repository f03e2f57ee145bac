-- Records, areas and pieces with what is held after them, and finishes with their answers, as one table: each row is one that a wrong reading
-- of the request would get wrong. proofs/Computed proves the whole table by one statement. Cuts are shown where 4 bytes are kept; the two
-- limits where only numbers count, and on areas of one byte too few and of just enough.
use Rattle.std.specs.Prelude.{ℕ, Bool, true, false, List, [], ◌∷◌, ◌++◌, replicate}
use Rattle.paper.specs.Limits.{max_bytes}
use Rattle.paper.specs.Record.{bad_kind}
use Rattle.paper.specs.Verdict.{Verdict, accepted, refused, flawed}
use Rattle.paper_receiver.specs.Receiver.{Receiver, empty, is_past, kept, counted, Held, with_piece, Receipt, receipt, received}
use Rattle.paper_receiver.specs.Receiver.{finish_verdict, finish_state}
use Rattle.paper_receiver.specs.Calls.{receive_returns, receive_record, receive_area, finish_returns, finish_record, finish_answers}

abbrev tally : ℕ → ℕ → Receiver
tally c n = record { count = c; past = n }

-- ---- pieces where 4 bytes are kept, in an area of 6
pub record Example : Type 0 where
  pub before : Held
  pub pieces : List (List ℕ)
  pub after : Held

abbrev row : ℕ → ℕ → List ℕ → List (List ℕ) → ℕ → ℕ → List ℕ → Example
row c n area ps c' n' area' = record { before = record { state = tally c n; area = area }; pieces = ps; after = record { state = tally c' n'; area = area' } }

abbrev marked : ℕ → List ℕ
marked n = replicate n 165

unfoldable pub with_each : ℕ → Held → List (List ℕ) → Held
with_each m x [] = x
with_each m x (p ∷ ps) = with_each m (with_piece m x p) ps

unfoldable pub examples : List Example
examples =
    row 0 0 (marked 6) ((1 ∷ 2 ∷ []) ∷ [] ∷ (3 ∷ []) ∷ []) 3 0 (1 ∷ 2 ∷ 3 ∷ marked 3)
    -- just full is not past the limit, nor does no byte more make it so; one byte more does, and is not kept
    ∷ row 0 0 (marked 6) ((1 ∷ 2 ∷ 3 ∷ 4 ∷ []) ∷ [] ∷ []) 4 0 (1 ∷ 2 ∷ 3 ∷ 4 ∷ marked 2)
    ∷ row 0 0 (marked 6) ((1 ∷ 2 ∷ 3 ∷ 4 ∷ []) ∷ (5 ∷ []) ∷ []) 4 1 (1 ∷ 2 ∷ 3 ∷ 4 ∷ marked 2)
    -- of a piece that crosses the limit the front is kept
    ∷ row 0 0 (marked 6) ((1 ∷ 2 ∷ 3 ∷ []) ∷ (4 ∷ 5 ∷ []) ∷ (6 ∷ []) ∷ []) 4 1 (1 ∷ 2 ∷ 3 ∷ 4 ∷ marked 2)
    ∷ row 0 0 (marked 6) ((1 ∷ 2 ∷ 3 ∷ 4 ∷ 5 ∷ 6 ∷ 7 ∷ []) ∷ []) 4 1 (1 ∷ 2 ∷ 3 ∷ 4 ∷ marked 2)
    -- a piece goes behind what came before
    ∷ row 2 0 (1 ∷ 2 ∷ marked 4) ((3 ∷ []) ∷ []) 3 0 (1 ∷ 2 ∷ 3 ∷ marked 3)
    -- a count that is over, and any mark that is not 0, is past the limit and stays
    ∷ row 5 0 (marked 6) ((9 ∷ []) ∷ []) 5 0 (marked 6)
    ∷ row 1 9223372036854775808 (marked 6) ((9 ∷ []) ∷ [] ∷ []) 1 9223372036854775808 (marked 6)
    ∷ row 18446744073709551615 1 (marked 6) ((9 ∷ []) ∷ []) 18446744073709551615 1 (marked 6)
    ∷ []

unfoldable pub computed : Example → Example
computed e = record { before = e.before; pieces = e.pieces; after = with_each 4 e.before e.pieces }

-- ---- the two limits, by numbers alone: a limit, a record, so many further bytes; past or not, how many are kept, the record afterwards
pub record Tally : Type 0 where
  pub limit : ℕ
  pub before : Receiver
  pub more : ℕ
  pub past : Bool
  pub keeps : ℕ
  pub after : Receiver

abbrev count : ℕ → Receiver → ℕ → Bool → ℕ → Receiver → Tally
count lim r n b k r' = record { limit = lim; before = r; more = n; past = b; keeps = k; after = r' }

unfoldable pub tallies : List Tally
tallies =
    count 3072 (tally 49151 0) 1 false 1 (tally 49152 0)
    ∷ count 3072 (tally 49151 0) 2 false 1 (tally 49152 1)
    ∷ count 3072 (tally 49152 0) 0 false 0 (tally 49152 0)
    ∷ count 3072 (tally 49152 0) 1 false 0 (tally 49152 1)
    ∷ count 3072 (tally 49153 0) 1 true 0 (tally 49153 0)
    ∷ count 3072 (tally 0 0) 1000000 false 49152 (tally 49152 1)
    ∷ count 16384 (tally 0 0) 1000000 false 262144 (tally 262144 1)
    ∷ count 16384 (tally 262144 0) 0 false 0 (tally 262144 0)
    ∷ count 16384 (tally 262145 0) 0 true 0 (tally 262145 0)
    -- one record under both limits
    ∷ count 16384 (tally 100000 0) 5 false 5 (tally 100005 0)
    ∷ count 3072 (tally 100000 0) 5 true 0 (tally 100000 0)
    ∷ []

unfoldable pub tallied : Tally → Tally
tallied t =
    let m : ℕ = max_bytes t.limit in
    count t.limit t.before t.more (is_past m t.before) (kept m t.before t.more) (counted m t.before t.more)

-- ---- calls that take a piece: the limit, what is held, the piece; the number, and what is held afterwards
pub record Taking : Type 0 where
  pub limit : ℕ
  pub before : Held
  pub piece : List ℕ
  pub answer : Receipt

abbrev taking : ℕ → Receiver → List ℕ → List ℕ → ℕ → Receiver → List ℕ → Taking
taking lim r area p k r' area' =
    record {
      limit = lim;
      before = record { state = r; area = area };
      piece = p;
      answer = receipt k (record { state = r'; area = area' });
    }

unfoldable pub takings : List Taking
takings =
    -- another limit is 19, before 6; an area a byte too short is 6; neither changes anything
    taking 3073 empty [] (7 ∷ []) 19 empty []
    ∷ taking 0 empty (marked 6) (7 ∷ []) 19 empty (marked 6)
    ∷ taking 3072 empty (marked 49151) (7 ∷ []) 6 empty (marked 49151)
    ∷ taking 16384 (tally 3 9) (marked 49152) (7 ∷ []) 6 (tally 3 9) (marked 49152)
    -- areas of just enough bytes, and of more
    ∷ taking 3072 empty (marked 49152) (7 ∷ 8 ∷ []) 0 (tally 2 0) (7 ∷ 8 ∷ marked 49150)
    ∷ taking 3072 (tally 49150 0) (marked 49153) (7 ∷ 8 ∷ 9 ∷ []) 0 (tally 49152 1) (marked 49150 ++ (7 ∷ 8 ∷ 165 ∷ []))
    ∷ []

unfoldable pub taken : Taking → Taking
taken t = record { limit = t.limit; before = t.before; piece = t.piece; answer = received t.limit t.before t.piece }

-- ---- finishes: the limit, the record, the area; the answer, and the record afterwards
pub record Finish : Type 0 where
  pub limit : ℕ
  pub before : Held
  pub answer : Verdict
  pub after : Receiver

abbrev finish : ℕ → Receiver → List ℕ → Verdict → Receiver → Finish
finish lim r area v r' = record { limit = lim; before = record { state = r; area = area }; answer = v; after = r' }

-- a symbol's record, and one of no kind
abbrev symbol : List ℕ
symbol = 1 ∷ replicate 15 0

abbrev unkind : List ℕ
unkind = 9 ∷ replicate 15 0

unfoldable pub finishes : List Finish
finishes =
    -- another limit is 19, before 6, and the record stays; an area a byte too short is 6, and the record stays
    finish 3073 (tally 16 1) [] (refused 19 0) (tally 16 1)
    ∷ finish 0 (tally 16 0) (symbol ++ marked 6) (refused 19 0) (tally 16 0)
    ∷ finish 3072 (tally 16 0) (symbol ++ marked 49135) (refused 6 0) (tally 16 0)
    ∷ finish 3072 (tally 49153 7) (marked 49151) (refused 6 0) (tally 49153 7)
    -- nothing came; past the limit, by the count and by the mark
    ∷ finish 3072 (tally 0 0) (symbol ++ marked 49136) (refused 1 0) empty
    ∷ finish 3072 (tally 49153 0) (marked 49152) (refused 1 0) empty
    ∷ finish 3072 (tally 16 2) (symbol ++ marked 49136) (refused 1 0) empty
    -- the checker's answers on what was kept: the bytes past it do not count
    ∷ finish 3072 (tally 16 0) (symbol ++ marked 49136) accepted empty
    ∷ finish 3072 (tally 17 0) (symbol ++ marked 49136) (refused 1 0) empty
    ∷ finish 3072 (tally 32 0) (symbol ++ unkind ++ marked 49120) (flawed 1 bad_kind) empty
    ∷ finish 3072 (tally 32 0) (symbol ++ symbol ++ marked 49120) (refused 4 1) empty
    ∷ []

unfoldable pub finished : Finish → Finish
finished f = finish f.limit f.before.state f.before.area (finish_verdict f.limit f.before) (finish_state f.limit f.before)

-- ---- the calls from C: a number below 256 in 8 bytes
abbrev eight : ℕ → List ℕ
eight n = n ∷ replicate 7 0

-- the limit, the record's bytes, the area, the piece; what is returned, the record's bytes and the area afterwards
pub record Receive : Type 0 where
  pub limit : ℕ
  pub task_record : List ℕ
  pub area : List ℕ
  pub piece : List ℕ
  pub returns : ℕ
  pub record_after : List ℕ
  pub area_after : List ℕ

abbrev receive : ℕ → List ℕ → List ℕ → List ℕ → ℕ → List ℕ → List ℕ → Receive
receive lim s area p k s' area' =
    record { limit = lim; task_record = s; area = area; piece = p; returns = k; record_after = s'; area_after = area' }

unfoldable pub receives : List Receive
receives =
    -- zero bytes begin; the bytes past the 16 stay
    receive 3072 (replicate 16 0 ++ (165 ∷ [])) (marked 49152) (7 ∷ 8 ∷ []) 0 (eight 2 ++ eight 0 ++ (165 ∷ [])) (7 ∷ 8 ∷ marked 49150)
    -- count 49,152: one byte more is past the limit
    ∷ receive 3072 (0 ∷ 192 ∷ replicate 14 0) (marked 49152) (7 ∷ []) 0 (0 ∷ 192 ∷ replicate 6 0 ++ eight 1) (marked 49152)
    -- a mark of 2^63 is not 0
    ∷ receive 3072 (replicate 15 0 ++ (128 ∷ [])) (marked 49152) (7 ∷ []) 0 (replicate 15 0 ++ (128 ∷ [])) (marked 49152)
    -- a record of 15 bytes is 6 before all else, then 19, then 6 for the area: nothing changes
    ∷ receive 3072 (replicate 15 0) (marked 49152) (7 ∷ []) 6 (replicate 15 0) (marked 49152)
    ∷ receive 3073 (replicate 15 0) (marked 4) (7 ∷ []) 6 (replicate 15 0) (marked 4)
    ∷ receive 3073 (replicate 16 0) (marked 4) (7 ∷ []) 19 (replicate 16 0) (marked 4)
    ∷ receive 3072 (replicate 17 165) (marked 4) (7 ∷ []) 6 (replicate 17 165) (marked 4)
    ∷ []

unfoldable pub receive_computed : Receive → Receive
receive_computed e =
    receive e.limit e.task_record e.area e.piece
    (receive_returns e.limit e.task_record e.area e.piece)
    (receive_record e.limit e.task_record e.area e.piece)
    (receive_area e.limit e.task_record e.area e.piece)

-- the limit, the record's bytes, the area, the answer slice; what is returned, the record's bytes and the slice afterwards
pub record Ending : Type 0 where
  pub limit : ℕ
  pub task_record : List ℕ
  pub area : List ℕ
  pub slice : List ℕ
  pub returns : ℕ
  pub record_after : List ℕ
  pub slice_after : List ℕ

abbrev ending : ℕ → List ℕ → List ℕ → List ℕ → ℕ → List ℕ → List ℕ → Ending
ending lim s area slice k s' slice' =
    record { limit = lim; task_record = s; area = area; slice = slice; returns = k; record_after = s'; slice_after = slice' }

unfoldable pub endings : List Ending
endings =
    ending 3072 (eight 16 ++ eight 0 ++ (165 ∷ [])) (symbol ++ marked 49136) (marked 33)
    0 (replicate 16 0 ++ (165 ∷ [])) (eight 0 ++ eight 0 ++ eight 0 ++ eight 0 ++ (165 ∷ []))
    -- number, place, what is wrong, which byte
    ∷ ending 3072 (eight 32 ++ eight 0) (symbol ++ unkind ++ marked 49120) (marked 32)
    2 (replicate 16 0) (eight 2 ++ eight 1 ++ eight 1 ++ eight 0)
    ∷ ending 3072 (eight 16 ++ eight 1) (symbol ++ marked 49136) (marked 32) 1 (replicate 16 0) (eight 1 ++ eight 0 ++ eight 0 ++ eight 0)
    -- a record of 15 bytes, or an answer slice of 31, is 6 before all else, and changes nothing; then 19, then 6 for the area, in the slice
    ∷ ending 3073 (replicate 15 3) (marked 4) (marked 32) 6 (replicate 15 3) (marked 32)
    ∷ ending 3073 (eight 16 ++ eight 0) (marked 4) (marked 31) 6 (eight 16 ++ eight 0) (marked 31)
    ∷ ending 3073 (eight 16 ++ eight 3) (marked 4) (marked 32) 19 (eight 16 ++ eight 3) (eight 19 ++ eight 0 ++ eight 0 ++ eight 0)
    ∷ ending 3072 (eight 16 ++ eight 3) (marked 4) (marked 32) 6 (eight 16 ++ eight 3) (eight 6 ++ eight 0 ++ eight 0 ++ eight 0)
    ∷ []

unfoldable pub ending_computed : Ending → Ending
ending_computed e =
    ending e.limit e.task_record e.area e.slice
    (finish_returns e.limit e.task_record e.area e.slice)
    (finish_record e.limit e.task_record e.area e.slice)
    (finish_answers e.limit e.task_record e.area e.slice)
