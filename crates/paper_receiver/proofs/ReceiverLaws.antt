-- "No cut may alter the answer, place or bytes kept": a piece and then another answer and leave what the two as one piece do, for every limit,
-- record and area; so any pieces leave what their whole leaves. From an empty receiver the first bytes of the whole are kept, and the
-- finish answers as the checker does on the whole. A refusal changes nothing, any other finish empties the receiver, and what comes after it
-- is received as by a fresh one. Each theorem is a case on the limit and on the area's length over the laws of a piece.
use Prim.Native.Nat.{ℕ, ◌-◌, ◌≤◌, ◌<◌, min}
use mathlib.Core.Path.{◌≡◌, refl, sym, ap, ◌∙◌}
use mathlib.Core.Bool.{true, false}
use mathlib.Core.List.{List, [], ◌∷◌, ◌++◌}
use native.Mathlib.Nat.{zero-add}
use native.Mathlib.Omega.{arith}
use lib.ListN.{length, take, drop}
use lib.Seq.{length-take-le, take_all}
use lib.Dec.{ltb}
use borrow.Author.Tests.{lt-ltb, le-ltb, ltb-true, ltb-false}
use Rattle.paper.specs.Limits.{is_limit, max_bytes}
use Rattle.paper.specs.Equal.{one}
use Rattle.paper.specs.Verdict.{Verdict, refused, bad_length, judged_table, verdict}
use Rattle.paper.proofs.Tests.{or_right}
use Rattle.stretch.specs.Put.{put}
use Rattle.stretch.proofs.Laws.{take_put_end}
use Rattle.paper_receiver.specs.Receiver.{Receiver, empty, is_past, Held, fresh, with_piece, is_short, Receipt, receipt, received}
use Rattle.paper_receiver.specs.Receiver.{finish_verdict, finish_state, after_finish, received_all, whole}
use Rattle.paper_receiver.proofs.PieceLaws.{either_way, over, holding, not_past, past_by_mark, fits_leaves, crosses_leaves}
use Rattle.paper_receiver.proofs.PieceLaws.{none_leaves, keeps_length, two_pieces}

-- ---- the three ways of a call: the limit is unknown, the area is short, or neither
module _ (lim : ℕ) where
  pub unknown_receives : (x : Held) (p : List ℕ) → is_limit lim ≡ false → received lim x p ≡ receipt 19 x
  unfolding received
  unknown_receives x p e = rw e

  pub short_receives : (x : Held) (p : List ℕ) → is_limit lim ≡ true → is_short lim x.area ≡ true → received lim x p ≡ receipt 6 x
  unfolding received
  short_receives x p e s = rw (e, s)

  pub receives : (x : Held) (p : List ℕ) → is_limit lim ≡ true → is_short lim x.area ≡ false
      → received lim x p ≡ receipt 0 (with_piece (max_bytes lim) x p)
  unfolding received
  receives x p e s = rw (e, s)

  pub is_short_lem : (area : List ℕ) → length area < max_bytes lim → is_short lim area ≡ true
  unfolding is_short
  is_short_lem area h = lt-ltb (length area) (max_bytes lim) h

  pub is_long : (area : List ℕ) → max_bytes lim ≤ length area → is_short lim area ≡ false
  unfolding is_short
  is_long area h = le-ltb (length area) (max_bytes lim) h

  long_room : (area : List ℕ) → is_short lim area ≡ false → max_bytes lim ≤ length area
  unfolding is_short
  long_room area s = ltb-false (length area) (max_bytes lim) s

  -- ---- no cut alters anything
  open_cut : (x : Held) (a b : List ℕ) → is_limit lim ≡ true → is_short lim x.area ≡ false
      → received lim (received lim x a).held b ≡ received lim x (a ++ b)
  open_cut x a b e s =
      let m = max_bytes lim in
      let room = long_room x.area s in
      let k = keeps_length m x a room in
      ap (λ (r : Receipt). received lim r.held b) (receives x a e s)
      ∙ receives (with_piece m x a) b e (is_long (with_piece m x a).area (omega arith))
      ∙ ap (receipt 0) (two_pieces m x a b room)
      ∙ sym (receives x (a ++ b) e s)

  pub cut : (x : Held) (a b : List ℕ) → received lim (received lim x a).held b ≡ received lim x (a ++ b)
  cut x a b =
      either_way (is_limit lim)
      (λ e. either_way (is_short lim x.area)
      (λ s. ap (λ (r : Receipt). received lim r.held b) (short_receives x a e s) ∙ short_receives x b e s ∙ sym (short_receives x (a ++ b) e s))
      (λ s. open_cut x a b e s))
      (λ e. ap (λ (r : Receipt). received lim r.held b) (unknown_receives x a e) ∙ unknown_receives x b e ∙ sym (unknown_receives x (a ++ b) e))

  none_received : (x : Held) → (received lim x []).held ≡ x
  none_received x =
      either_way (is_limit lim)
      (λ e. either_way (is_short lim x.area)
      (λ s. ap (λ (r : Receipt). r.held) (short_receives x [] e s))
      (λ s. ap (λ (r : Receipt). r.held) (receives x [] e s) ∙ none_leaves (max_bytes lim) x))
      (λ e. ap (λ (r : Receipt). r.held) (unknown_receives x [] e))

  pub pieces : (ps : List (List ℕ)) (x : Held) → received_all lim x ps ≡ (received lim x (whole ps)).held
  unfolding received_all whole
  pieces [] x = sym (none_received x)
  pieces (p ∷ ps) x = pieces ps (received lim x p).held ∙ ap (λ (r : Receipt). r.held) (cut x p (whole ps))

  -- ---- a refused piece changes nothing
  pub refused_changes_nothing : (x : Held) (p : List ℕ) → ¬ ((received lim x p).number ≡ 0) → (received lim x p).held ≡ x
  refused_changes_nothing x p n =
      either_way (is_limit lim)
      (λ e. either_way (is_short lim x.area)
      (λ s. ap (λ (r : Receipt). r.held) (short_receives x p e s))
      (λ s. absurd (n (ap (λ (r : Receipt). r.number) (receives x p e s)))))
      (λ e. ap (λ (r : Receipt). r.held) (unknown_receives x p e))

  -- ---- the three ways of a finish
  pub unknown_finish : (x : Held) → is_limit lim ≡ false → (finish_verdict lim x ≡ refused 19 0) × (finish_state lim x ≡ x.state)
  unfolding finish_verdict finish_state
  unknown_finish x e = (rw e, rw e)

  pub short_finish : (x : Held) → is_limit lim ≡ true → is_short lim x.area ≡ true
      → (finish_verdict lim x ≡ refused 6 0) × (finish_state lim x ≡ x.state)
  unfolding finish_verdict finish_state
  short_finish x e s = (rw (e, s), rw (e, s))

  pub past_finish : (x : Held) → is_limit lim ≡ true → is_short lim x.area ≡ false → is_past (max_bytes lim) x.state ≡ true
      → (finish_verdict lim x ≡ refused 1 0) × (finish_state lim x ≡ empty)
  unfolding finish_verdict finish_state
  past_finish x e s o = (rw (e, s, o), rw (e, s))

  pub open_finish : (x : Held) → is_limit lim ≡ true → is_short lim x.area ≡ false → is_past (max_bytes lim) x.state ≡ false
      → (finish_verdict lim x ≡ verdict lim (take x.state.count x.area)) × (finish_state lim x ≡ empty)
  unfolding finish_verdict finish_state
  open_finish x e s o = (rw (e, s, o), rw (e, s))

  -- ---- what an empty receiver holds after a whole, cut or not
  module _ (area w : List ℕ) (known : is_limit lim ≡ true) (room : max_bytes lim ≤ length area) where
    abbrev m : ℕ
    m = max_bytes lim

    fresh_receives : (received lim (fresh area) w).held ≡ with_piece m (fresh area) w
    fresh_receives = ap (λ (r : Receipt). r.held) (receives (fresh area) w known (is_long area room))

    whole_fits : length w ≤ m → (received lim (fresh area) w).held ≡ holding (length w) (put area 0 w)
    whole_fits h =
        fresh_receives ∙ fits_leaves m 0 area w (omega arith) (omega arith) ∙ ap (λ (n : ℕ). holding n (put area 0 w)) (zero-add (length w))

    whole_crosses : m < length w → (received lim (fresh area) w).held ≡ record { state = over m; area = put area 0 (take m w) }
    whole_crosses h =
        let e : m - 0 ≡ m = omega arith in
        fresh_receives
        ∙ crosses_leaves m 0 area w (omega arith) (omega arith)
        ∙ ap (λ (n : ℕ). record { state = over m; area = put area 0 (take n w) }) e

    -- what is put at the front stands there, and all other bytes stay
    front_put : (s : List ℕ) (n : ℕ) → length s ≡ n → put area 0 s ≡ s ++ drop n area
    unfolding put
    front_put s n e = ap (λ (i : ℕ). s ++ drop i area) (zero-add (length s) ∙ e)

    whole_area : (received lim (fresh area) w).held.area ≡ take m w ++ drop (min (length w) m) area
    whole_area =
        either_way (ltb m (length w))
        (λ o. let h = ltb-true m (length w) o in
        ap (λ (x : Held). x.area) (whole_crosses h)
        ∙ front_put (take m w) (min (length w) m) (length-take-le m w (omega arith) ∙ omega arith))
        (λ o. let h = ltb-false m (length w) o in
        ap (λ (x : Held). x.area) (whole_fits h)
        ∙ front_put w (min (length w) m) (omega arith)
        ∙ ap (λ (l : List ℕ). l ++ drop (min (length w) m) area) (sym (take_all m w h)))

    whole_record : (received lim (fresh area) w).held.state ≡ record { count = min (length w) m; past = one (ltb m (length w)) }
    unfolding one
    whole_record =
        either_way (ltb m (length w))
        (λ o. let h = ltb-true m (length w) o in
        let n : min (length w) m ≡ m = omega arith in
        ap (λ (x : Held). x.state) (whole_crosses h) ∙ rw (o, n) refl)
        (λ o. let h = ltb-false m (length w) o in
        let n : min (length w) m ≡ length w = omega arith in
        ap (λ (x : Held). x.state) (whole_fits h) ∙ rw (o, n) refl)

    -- the checker gives 1 to a table that is too long
    long_verdict : m < length w → verdict lim w ≡ refused 1 0
    unfolding verdict judged_table bad_length
    long_verdict h = rw (known, or_right _ (ltb m (length w)) (lt-ltb m (length w) h)) refl

    still_long : is_short lim (received lim (fresh area) w).held.area ≡ false
    still_long =
        let k = keeps_length m (fresh area) w room in
        let e = ap (λ (x : Held). length x.area) fresh_receives in
        is_long (received lim (fresh area) w).held.area (omega arith)

    whole_answer : finish_verdict lim (received lim (fresh area) w).held ≡ verdict lim w
    whole_answer =
        either_way (ltb m (length w))
        (λ o. let h = ltb-true m (length w) o in
        let x = (received lim (fresh area) w).held in
        (past_finish x known still_long (ap (λ (y : Held). is_past m y.state) (whole_crosses h) ∙ past_by_mark m (over m) (omega arith))).0
        ∙ sym (long_verdict h))
        (λ o. let h = ltb-false m (length w) o in
        let x = (received lim (fresh area) w).held in
        (open_finish x known still_long (ap (λ (y : Held). is_past m y.state) (whole_fits h) ∙ not_past m (record { count = length w; past = 0 }) refl h)).0
        ∙ ap (λ (y : Held). verdict lim (take y.state.count y.area)) (whole_fits h)
        ∙ ap (verdict lim) (take_put_end area 0 w (length w) (omega arith) (omega arith)))

  -- "answers at the finish as the table checker does on the whole": number, place and what is wrong, however it was cut, also where it is
  -- longer than what is kept, and where the limit is unknown
  pub answer_whole : (area : List ℕ) (ps : List (List ℕ)) → max_bytes lim ≤ length area
      → finish_verdict lim (received_all lim (fresh area) ps) ≡ verdict lim (whole ps)
  unfolding verdict
  answer_whole area ps room =
      either_way (is_limit lim)
      (λ e. ap (finish_verdict lim) (pieces ps (fresh area)) ∙ whole_answer area (whole ps) e room)
      (λ e. (unknown_finish (received_all lim (fresh area) ps) e).0 ∙ sym (rw e refl))

  -- "keeps the bytes": the first 49,152 of the whole, and all others of the area stay
  pub bytes_whole : (area : List ℕ) (ps : List (List ℕ)) → is_limit lim ≡ true → max_bytes lim ≤ length area
      → (received_all lim (fresh area) ps).area ≡ take (max_bytes lim) (whole ps) ++ drop (min (length (whole ps)) (max_bytes lim)) area
  bytes_whole area ps e room = ap (λ (x : Held). x.area) (pieces ps (fresh area)) ∙ whole_area area (whole ps) e room

  -- the record tells how many bytes are kept, and whether more came
  pub record_whole : (area : List ℕ) (ps : List (List ℕ)) → is_limit lim ≡ true → max_bytes lim ≤ length area
      → (received_all lim (fresh area) ps).state
      ≡ record { count = min (length (whole ps)) (max_bytes lim); past = one (ltb (max_bytes lim) (length (whole ps))) }
  record_whole area ps e room = ap (λ (x : Held). x.state) (pieces ps (fresh area)) ∙ whole_record area (whole ps) e room

  -- ---- after a finish
  -- "Any finish but one with 6 empties the receiver", or with 19
  pub finish_empties : (x : Held) → ¬ ((finish_verdict lim x).number ≡ 6) → ¬ ((finish_verdict lim x).number ≡ 19) → finish_state lim x ≡ empty
  finish_empties x n6 n19 =
      either_way (is_limit lim)
      (λ e. either_way (is_short lim x.area)
      (λ s. absurd (n6 (ap (λ (v : Verdict). v.number) (short_finish x e s).0)))
      (λ s. either_way (is_past (max_bytes lim) x.state) (λ o. (past_finish x e s o).1) (λ o. (open_finish x e s o).1)))
      (λ e. absurd (n19 (ap (λ (v : Verdict). v.number) (unknown_finish x e).0)))

  -- "the area's bytes stay"
  pub finish_keeps_area : (x : Held) → (after_finish lim x).area ≡ x.area
  unfolding after_finish
  finish_keeps_area x = refl

  -- what comes after a finish is received as by a fresh receiver
  pub starts_anew : (x : Held) (ps : List (List ℕ)) → ¬ ((finish_verdict lim x).number ≡ 6) → ¬ ((finish_verdict lim x).number ≡ 19)
      → received_all lim (after_finish lim x) ps ≡ received_all lim (fresh x.area) ps
  unfolding after_finish
  starts_anew x ps n6 n19 = ap (λ (r : Receiver). received_all lim (record { state = r; area = x.area }) ps) (finish_empties x n6 n19)
