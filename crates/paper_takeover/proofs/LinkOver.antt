-- The calls of the link, one after the other. Each call writes the record that the next one reads, since its numbers are below 2^64, so the calls are the
-- receivings of the definitions; the finish answers as the checker does on the whole, and a result is accepted where the limit holds its weight
-- and else is refused by 1 or 3. What comes after a swap depends on the record and the bytes that it counts alone: a piece is put behind them.
use Prim.Native.Nat.{ℕ, ◌+◌, ◌-◌, ◌^◌, ◌%◌, ◌≤◌, ◌<◌}
use mathlib.Core.Path.{◌≡◌, refl, sym, ap, ap₂, ◌∙◌, subst}
use mathlib.Core.Bool.{Bool, true, false, cond, ◌||◌, not}
use mathlib.Core.List.{List, [], ◌∷◌, ◌++◌, append_assoc}
use mathlib.Core.Logic.{inl, inr}
use native.Mathlib.Omega.{arith}
use lib.ListN.{length, take, drop, replicate, length-append}
use lib.Seq.{length-take-le, take_at}
use lib.Dec.{eqb, ltb}
use borrow.Author.Tests.{le-ltb, lt-ltb, ltb-true, ltb-false}
use Rattle.paper.specs.Limits.{is_limit, max_bytes}
use Rattle.paper.specs.Bytes.{Bytes, bytes}
use Rattle.paper.specs.Equal.{one}
use Rattle.paper.specs.Tree.{Tree, weight}
use Rattle.paper.specs.WellFormed.{WF}
use Rattle.paper.specs.Table.{encode}
use Rattle.paper.specs.Record.{weight_from}
use Rattle.paper.specs.Verdict.{Verdict, accepted, refused, records_in, bad_length, table_weight, judge_records, judged_table, verdict}
use Rattle.paper.specs.Calls.{verdict_numbers, eights, is_too_short, returned, answered}
use Rattle.paper.specs.Answers.{Lent, simplified}
use Rattle.paper.specs.Demands.{result}
use Rattle.paper.specs.Takeover.{Room, Repeats}
use Rattle.paper.proofs.LimitLaws.{limit_small}
use Rattle.paper.proofs.EncodeLaws.{encode_length, records_weight}
use Rattle.paper.proofs.TableLaws.{encode_weight, written_accepted}
use Rattle.paper.proofs.DemandLaws.{Done, call_done}
use Rattle.paper.proofs.Slices.{verdict_count}
use Rattle.paper.proofs.Tests.{or_right}
use Rattle.paper.proofs.BytesLaws.{length_bytes}
use Rattle.paper.proofs.FirstLaws.{no_flaw}
use Rattle.paper.proofs.VerdictLaws.{accepted_passes, good_length}
use Rattle.paper_receiver.specs.Receiver.{Receiver, is_past, kept, counted, area_after, Held, fresh, with_piece}
use Rattle.paper_receiver.specs.Receiver.{is_short, Receipt, receipt, received, finish_verdict, received_all, whole}
use Rattle.paper_receiver.specs.Calls.{receiver_in, receiver_numbers, held_in, receive_returns, receive_record, receive_area, no_room, finish_returns}
use Rattle.paper_receiver.specs.Calls.{finish_answers}
use Rattle.paper_receiver.proofs.PieceLaws.{either_way, open_count, past_leaves, keeps_length}
use Rattle.paper_receiver.proofs.ReceiverLaws.{unknown_receives, receives, is_long, answer_whole}
use Rattle.paper_receiver.proofs.CallLaws.{reads_back}
use Rattle.paper_takeover.specs.TakenOver.{held_bytes}
use Rattle.paper_takeover.specs.LimitOver.{Holds}
use Rattle.paper_takeover.specs.LinkOver.{Task, after_call, after_calls, returns, holding, table_in, Ready, Arrived, CallsTakeOver, over_by, CallsTooHeavy}
use Rattle.paper_takeover.specs.LinkOver.{LinkNeverMisread, SwapsOver, Copied, CopySuffices, CopiedTask, SwapTakesOver}
use Rattle.paper_takeover.proofs.LinkTaken.{area_whole, held_whole}
use Rattle.paper_takeover.proofs.LimitTaken.{out_weight_lem, out_light, takes_over_at}

-- ---- a swap
received_on : (lim : ℕ) (x : Held) (ps qs : List (List ℕ)) → received_all lim x (ps ++ qs) ≡ received_all lim (received_all lim x ps) qs
unfolding received_all
received_on lim x [] qs = refl
received_on lim x (p ∷ ps) qs = received_on lim (received lim x p).held ps qs

calls_on : (lim : ℕ) (x : Task) (ps qs : List (List ℕ)) → after_calls lim x (ps ++ qs) ≡ after_calls lim (after_calls lim x ps) qs
unfolding after_calls
calls_on lim x [] qs = refl
calls_on lim x (p ∷ ps) qs = calls_on lim (after_call lim x p) ps qs

returns_on : (lim : ℕ) (x : Task) (ps qs : List (List ℕ)) → returns lim x (ps ++ qs) ≡ returns lim x ps ++ returns lim (after_calls lim x ps) qs
unfolding after_calls returns
returns_on lim x [] qs = refl
returns_on lim x (p ∷ ps) qs = ap (λ (l : List ℕ). receive_returns lim x.record_bytes x.area p ∷ l) (returns_on lim (after_call lim x p) ps qs)

pub swaps_over : (lim : ℕ) → SwapsOver lim
swaps_over lim = record { goes_on = received_on lim; calls_go_on = calls_on lim; calls_return = returns_on lim }

-- ---- a copy of the record and of the bytes that it counts
-- a piece is put behind them, so much of it as is kept
behind : (m : ℕ) (x : Held) (p : List ℕ) → is_past m x.state ≡ false → m ≤ length x.area
    → held_bytes (with_piece m x p) ≡ held_bytes x ++ take (kept m x.state (length p)) p
unfolding held_bytes with_piece counted area_after
behind m x p e room =
    let c = x.state.count in
    let k = kept m x.state (length p) in
    let h = (open_count m x.state e).1 in
    let few : k ≤ length p = unfold kept in rw e (omega arith) in
    let front = length-take-le c x.area (omega arith) in
    let next = length-take-le k p few in
    let both : length (take c x.area ++ take k p) ≡ c + k = length-append (take c x.area) (take k p) ∙ omega (arith, front, next) in
    rw e (ap (take (c + k)) (sym (append_assoc (take c x.area) (take k p) (drop (c + k) x.area)))
    ∙ take_at (take c x.area ++ take k p) (drop (c + k) x.area) (c + k) both)

module _ (lim : ℕ) where
  long : (x : Held) → max_bytes lim ≤ length x.area → is_short lim x.area ≡ false
  long x room = is_long lim x.area room

  -- what is held after a piece, at a known limit
  piece_held : (x : Held) (p : List ℕ) → is_limit lim ≡ true → max_bytes lim ≤ length x.area → (received lim x p).held ≡ with_piece (max_bytes lim) x p
  piece_held x p e room = ap (λ (r : Receipt). r.held) (receives lim x p e (long x room))

  still_copied : (x y : Held) (p : List ℕ) → is_limit lim ≡ true → Copied lim x y → Copied lim (with_piece (max_bytes lim) x p) (with_piece (max_bytes lim) y p)
  still_copied x y p known c =
      let m = max_bytes lim in
      record {
        same_record = unfold with_piece in ap (λ (r : Receiver). counted m r (length p)) c.same_record;
        same_bytes =
            either_way (is_past m x.state)
            (λ e. ap held_bytes (past_leaves m y p (ap (is_past m) c.same_record ∙ e)) ∙ c.same_bytes ∙ sym (ap held_bytes (past_leaves m x p e)))
            (λ e. behind m y p (ap (is_past m) c.same_record ∙ e) c.own_room
            ∙ ap₂ (λ (l : List ℕ) (r : Receiver). l ++ take (kept m r (length p)) p) c.same_bytes c.same_record
            ∙ sym (behind m x p e c.room));
        room = let k = keeps_length m x p c.room in let h = c.room in omega (arith, k, h);
        own_room = let k = keeps_length m y p c.own_room in let h = c.own_room in omega (arith, k, h);
      }

  piece_copied : (x y : Held) (p : List ℕ) → Copied lim x y → Copied lim (received lim x p).held (received lim y p).held
  piece_copied x y p c =
      either_way (is_limit lim)
      (λ e. rw (piece_held x p e c.room, piece_held y p e c.own_room) (still_copied x y p e c))
      (λ e. rw (unknown_receives lim x p e, unknown_receives lim y p e) c)

  all_copied : (x y : Held) (qs : List (List ℕ)) → Copied lim x y → Copied lim (received_all lim x qs) (received_all lim y qs)
  unfolding received_all
  all_copied x y [] c = c
  all_copied x y (q ∷ qs) c = all_copied (received lim x q).held (received lim y q).held qs (piece_copied x y q c)

  same_numbers : (x y : Held) (p : List ℕ) → Copied lim x y → (received lim y p).number ≡ (received lim x p).number
  same_numbers x y p c =
      either_way (is_limit lim)
      (λ e. rw (receives lim x p e (long x c.room), receives lim y p e (long y c.own_room)))
      (λ e. rw (unknown_receives lim x p e, unknown_receives lim y p e))

  same_finishes : (x y : Held) → Copied lim x y → finish_verdict lim y ≡ finish_verdict lim x
  unfolding finish_verdict
  same_finishes x y c =
      rw (long x c.room, long y c.own_room, c.same_record)
      (ap (λ (l : List ℕ). cond (is_limit lim) (cond (is_past (max_bytes lim) x.state) (refused 1 0) (verdict lim l)) (refused 19 0))
      (ap (λ (r : Receiver). take r.count y.area) (sym c.same_record) ∙ unfold held_bytes in c.same_bytes))

pub copy_suffices : (lim : ℕ) → CopySuffices lim
copy_suffices lim x y c qs =
    let on = all_copied lim x y qs c in
    record { still = on; same_number = λ p. same_numbers lim _ _ p on; same_finish = same_finishes lim _ _ on }

-- ---- the calls are the receivings: numbers that 8 bytes hold are read back
abbrev Small : Receiver → Type 0
Small r = (r.count < 2 ^ 64) × (r.past < 2 ^ 64)

-- a record and an area with room, at a known limit
record Sane (lim : ℕ) (x : Task) : Type 0 where
  record_room : 16 ≤ length x.record_bytes
  area_room : max_bytes lim ≤ length x.area
  small : Small (receiver_in x.record_bytes)

one_small : (b : Bool) → one b ≤ 1
unfolding one
one_small true = omega arith
one_small false = omega arith

-- the four numbers of a verdict in a slice with room
tells : (v : Verdict) (slice : List ℕ) → 32 ≤ length slice → answered (verdict_numbers v) slice ≡ eights (verdict_numbers v) ++ drop 32 slice
unfolding answered is_too_short
tells v slice h = rw (verdict_count v, le-ltb (length slice) 32 h)

-- what a finish with room says
finish_says : (lim : ℕ) (y : Task) (slice : List ℕ) → 16 ≤ length y.record_bytes → 32 ≤ length slice → (v : Verdict) → finish_verdict lim (holding y) ≡ v
    → (finish_returns lim y.record_bytes y.area slice ≡ v.number)
    × (finish_answers lim y.record_bytes y.area slice ≡ eights (verdict_numbers v) ++ drop 32 slice)
unfolding finish_returns finish_answers no_room
finish_says lim y slice h room v e = rw (le-ltb (length y.record_bytes) 16 h, le-ltb (length slice) 32 room, e) (refl, tells v slice room)

module _ (lim : ℕ) (known : is_limit lim ≡ true) where
  small_counted : (r : Receiver) (n : ℕ) → Small r → Small (counted (max_bytes lim) r n)
  small_counted r n h =
      let m = max_bytes lim in
      let limited = limit_small lim known in
      either_way (is_past m r)
      (λ e. unfold counted in rw e h)
      (λ e. let c = (open_count m r e).1 in
      let few : kept m r n ≤ m - r.count = unfold kept in rw e (omega arith) in
      let b = one_small (ltb (kept m r n) n) in
      unfold counted in rw e (omega (arith, c, few, limited), omega (arith, b)))

  record_long : (r : Receiver) (s : List ℕ) → 16 ≤ length s → 16 ≤ length (answered (receiver_numbers r) s)
  unfolding answered is_too_short receiver_numbers eights
  record_long r s h =
      let a = length_bytes 8 r.count in
      let b = length_bytes 8 r.past in
      let all = length-append (bytes 8 r.count ++ (bytes 8 r.past ++ [])) (drop 16 s) in
      let two = length-append (bytes 8 r.count) (bytes 8 r.past ++ []) in
      let one_more_lem = length-append (bytes 8 r.past) [] in
      rw (le-ltb (length s) 16 h) (omega (arith, a, b, all, two, one_more_lem))

  module _ (x : Task) (p : List ℕ) (h : Sane lim x) where
    after : Held
    after = with_piece (max_bytes lim) (holding x) p

    took : received lim (holding x) p ≡ receipt 0 after
    unfolding after held_in
    took = receives lim (holding x) p known (is_long lim x.area h.area_room)

    roomy : is_too_short (receiver_numbers (received lim (holding x) p).held.state) x.record_bytes ≡ false
    unfolding is_too_short receiver_numbers
    roomy = le-ltb (length x.record_bytes) 16 h.record_room

    call_taken : receive_returns lim x.record_bytes x.area p ≡ 0
    unfolding receive_returns returned
    call_taken = rw roomy (ap (λ (r : Receipt). r.number) took)

    record_is : (after_call lim x p).record_bytes ≡ answered (receiver_numbers after.state) x.record_bytes
    unfolding after_call receive_record
    record_is = ap (λ (r : Receipt). answered (receiver_numbers r.held.state) x.record_bytes) took

    area_is : (after_call lim x p).area ≡ after.area
    unfolding after_call receive_area
    area_is = rw roomy (ap (λ (r : Receipt). r.held.area) took)

    after_small : Small after.state
    unfolding after with_piece held_in
    after_small = small_counted (receiver_in x.record_bytes) (length p) h.small

    state_is : receiver_in (after_call lim x p).record_bytes ≡ after.state
    state_is = ap receiver_in record_is ∙ reads_back after.state x.record_bytes after_small.0 after_small.1 h.record_room

    held_on : holding (after_call lim x p) ≡ (received lim (holding x) p).held
    unfolding held_in
    held_on =
        ap₂ (λ (r : Receiver) (l : List ℕ). record { state = r; area = l }) state_is area_is
        ∙ sym (ap (λ (r : Receipt). r.held) took)

    sane_on : Sane lim (after_call lim x p)
    unfolding after held_in
    sane_on =
        record {
          record_room = rw record_is (record_long after.state x.record_bytes h.record_room);
          area_room =
              let k : length after.area ≡ length x.area = keeps_length (max_bytes lim) (holding x) p h.area_room in
              let q = ap length area_is in
              let r = h.area_room in
              omega (arith, k, q, r);
          small = subst Small (sym state_is) after_small;
        }

  -- so what all the calls leave is what is received of all the pieces, and each returns 0
  calls_hold : (ps : List (List ℕ)) (x : Task) → Sane lim x → holding (after_calls lim x ps) ≡ received_all lim (holding x) ps
  unfolding after_calls received_all
  calls_hold [] x h = refl
  calls_hold (p ∷ ps) x h = calls_hold ps (after_call lim x p) (sane_on x p h) ∙ ap (λ (y : Held). received_all lim y ps) (held_on x p h)

  all_taken : (ps : List (List ℕ)) (x : Task) → Sane lim x → returns lim x ps ≡ replicate (length ps) 0
  unfolding returns
  all_taken [] x h = refl
  all_taken (p ∷ ps) x h = ap₂ (λ (n : ℕ) (l : List ℕ). n ∷ l) (call_taken x p h) (all_taken ps (after_call lim x p) (sane_on x p h))

  all_sane : (ps : List (List ℕ)) (x : Task) → Sane lim x → Sane lim (after_calls lim x ps)
  unfolding after_calls
  all_sane [] x h = h
  all_sane (p ∷ ps) x h = all_sane ps (after_call lim x p) (sane_on x p h)

  -- a copy of a sane task
  module _ (x y : Task) (h : Sane lim x) (c : CopiedTask lim x y) where
    copied_sane : Sane lim y
    copied_sane =
        let n = ap length c.record_copied in
        let r = h.record_room in
        record { record_room = omega (arith, n, r); area_room = c.area_room; small = subst Small (ap receiver_in (sym c.record_copied)) h.small }

    copied_held : Copied lim (holding x) (holding y)
    unfolding held_in
    copied_held = record { same_record = ap receiver_in c.record_copied; same_bytes = c.bytes_copied; room = h.area_room; own_room = c.area_room }

  -- an empty receiver
  ready_sane : (x : Task) → Ready lim x → Sane lim x
  ready_sane x ready =
      record {
        record_room = ready.record_room;
        area_room = ready.area_room;
        small = subst Small (sym ready.nothing_yet) (omega arith, omega arith);
      }

  ready_fresh : (x : Task) → Ready lim x → holding x ≡ fresh x.area
  unfolding held_in
  ready_fresh x ready = ap (λ (r : Receiver). record { state = r; area = x.area }) ready.nothing_yet

  module _ (x : Task) (ready : Ready lim x) (ps : List (List ℕ)) where
    held : holding (after_calls lim x ps) ≡ received_all lim (fresh x.area) ps
    held = calls_hold ps x (ready_sane x ready) ∙ ap (λ (y : Held). received_all lim y ps) (ready_fresh x ready)

    each_zero : returns lim x ps ≡ replicate (length ps) 0
    each_zero = all_taken ps x (ready_sane x ready)

    long_after : 16 ≤ length (after_calls lim x ps).record_bytes
    long_after = (all_sane ps x (ready_sane x ready)).record_room

    verdict_whole : finish_verdict lim (holding (after_calls lim x ps)) ≡ verdict lim (whole ps)
    verdict_whole = ap (finish_verdict lim) held ∙ answer_whole lim x.area ps ready.area_room

    -- the finish answers as the checker does on the whole
    finish_whole : (slice : List ℕ) → 32 ≤ length slice → let y = after_calls lim x ps in
        (finish_returns lim y.record_bytes y.area slice ≡ (verdict lim (whole ps)).number)
        × (finish_answers lim y.record_bytes y.area slice ≡ eights (verdict_numbers (verdict lim (whole ps))) ++ drop 32 slice)
    finish_whole slice room =
        finish_says lim (after_calls lim x ps) slice long_after room (verdict lim (whole ps)) verdict_whole

    -- what is held of a whole that the limit's area has room for
    module _ (short : length (whole ps) ≤ max_bytes lim) where
      front_whole : (after_calls lim x ps).area ≡ whole ps ++ drop (length (whole ps)) x.area
      unfolding held_in
      front_whole = ap (λ (y : Held). y.area) held ∙ area_whole lim known x.area ready.area_room ps short

      table_whole : table_in (after_calls lim x ps) ≡ whole ps
      table_whole = ap held_bytes held ∙ held_whole lim known x.area ready.area_room ps short

-- ---- takeover
module _ (lim there ed : ℕ) (s : List ℕ) (b : Bytes s) (l : Lent) (e : (simplified lim ed s l).answer.number ≡ 0) (h : Holds there (simplified lim ed s l))
    (ps : List (List ℕ)) (q : whole ps ≡ result (simplified lim ed s l)) where
  d : Done lim ed s l
  d = call_done lim ed s b l e

  light : weight d.tree_out ≤ there
  light = let k = out_weight_lem lim ed s l d in let n = h.light in omega (arith, k, n)

  short : length (whole ps) ≤ max_bytes there
  short =
      let n : length (whole ps) ≡ length (encode d.tree_out) = ap length (q ∙ d.written_bytes) in
      omega (arith, n, encode_length d.tree_out, records_weight d.tree_out, light)

  fine : verdict there (whole ps) ≡ accepted
  fine = ap (verdict there) (q ∙ d.written_bytes) ∙ written_accepted there h.known d.tree_out d.finished.result_wf light

  -- a record and an area that hold the whole, and whose finish is the checker's
  arrived_so : (y : Task) → 16 ≤ length y.record_bytes → finish_verdict there (holding y) ≡ verdict there (whole ps) → table_in y ≡ whole ps
      → (slice : List ℕ) → 32 ≤ length slice → (l' : Lent) → Room there (simplified lim ed s l).answer.weight_out l'
      → Arrived there ed (simplified lim ed s l) y slice l'
  arrived_so y long-record v t slice room l' roomy =
      let finish = finish_says there y slice long-record room accepted (v ∙ fine) in
      record {
        finish_accepts = finish.0;
        finish_tells = finish.1;
        same_table = t ∙ q;
        repeats =
            subst (λ (p : List ℕ). Repeats (simplified lim ed s l) (simplified there ed p l')) (sym (t ∙ q)) (takes_over_at lim there ed s b l e h l' roomy);
      }

pub calls_take_over : (lim there ed : ℕ) → CallsTakeOver lim there ed
calls_take_over lim there ed s b l e h x ready ps q slice room l' roomy =
    let known = h.known in
    let fits = short lim there ed s b l e h ps q in
    record {
      each_taken = each_zero there known x ready ps;
      at_the_front = front_whole there known x ready ps fits ∙ ap (λ (p : List ℕ). p ++ drop (length p) x.area) q;
      arrived =
          arrived_so lim there ed s b l e h ps q (after_calls there x ps) (long_after there known x ready ps) (verdict_whole there known x ready ps)
          (table_whole there known x ready ps fits) slice room l' roomy;
    }

-- the second machine: its record is the first one's, so it is sane, and what it holds in the end is a copy of what one machine would hold
pub swap_takes_over : (lim there ed : ℕ) → SwapTakesOver lim there ed
swap_takes_over lim there ed s b l e h x ready ps qs q y c slice room l' roomy =
    let known = h.known in
    let fits = short lim there ed s b l e h (ps ++ qs) q in
    let left = after_calls there x ps in
    let was = all_sane there known ps x (ready_sane there known x ready) in
    let is = copied_sane there known left y was c in
    let copied = all_copied there (holding left) (holding y) qs (copied_held there known left y was c) in
    let whole-held : received_all there (holding left) qs ≡ holding (after_calls there x (ps ++ qs)) =
    sym (calls_hold there known qs left was) ∙ ap holding (sym (calls_on there x ps qs)) in
    let held-now = calls_hold there known qs y is in
    record {
      first_taken = each_zero there known x ready ps;
      second_taken = all_taken there known qs y is;
      arrived =
          arrived_so lim there ed s b l e h (ps ++ qs) q (after_calls there y qs) (all_sane there known qs y is).record_room
          (ap (finish_verdict there) held-now ∙ same_finishes there _ _ copied ∙ ap (finish_verdict there) whole-held
          ∙ verdict_whole there known x ready (ps ++ qs))
          (ap held_bytes held-now ∙ copied.same_bytes ∙ ap held_bytes whole-held ∙ table_whole there known x ready (ps ++ qs) fits)
          slice room l' roomy;
    }

-- ---- a tree over the limit: longer than its tables, or too heavy
over_verdict : (lim there : ℕ) → is_limit lim ≡ true → is_limit there ≡ true → (u : Tree) → WF u → weight u ≤ lim → there < weight u
    → verdict there (encode u) ≡ over_by there (encode u)
unfolding verdict judged_table over_by
over_verdict lim there known known' u wf light heavy =
    let s = encode u in
    let passes = accepted_passes lim s (written_accepted lim known u wf light) in
    let flawless = no_flaw s (records_in s) (λ j a c. (passes.fine j a c).0) in
    let weight_is : weight_from s 0 (records_in s) ≡ weight u = unfold table_weight in encode_weight u in
    let weighs : there < weight_from s 0 (records_in s) = omega (arith, weight_is, heavy) in
    either_way (ltb (max_bytes there) (length s))
    (λ e. let bad : bad_length there (length s) ≡ true =
    unfold bad_length in or_right (eqb (length s) 0 || not (eqb (length s % 16) 0)) (ltb (max_bytes there) (length s)) e in rw (known', bad, e))
    (λ e. let fits = ltb-false (max_bytes there) (length s) e in
    let good = good_length there (length s) (record { positive = passes.long.positive; sixteens = passes.long.sixteens; short = fits }) in
    rw (known', good, e)
    (unfold judge_records in rw (flawless, le-ltb (records_in s) (records_in s) (omega arith), lt-ltb there (weight_from s 0 (records_in s)) weighs)))

pub calls_too_heavy : (lim there ed : ℕ) → CallsTooHeavy lim there ed
calls_too_heavy lim there ed s b l e known heavy x ready ps q slice room =
    let g = simplified lim ed s l in
    let d = call_done lim ed s b l e in
    let u = d.tree_out in
    let over : verdict there (whole ps) ≡ over_by there (result g) =
    ap (verdict there) (q ∙ d.written_bytes)
    ∙ over_verdict lim there d.holds.known known u d.finished.result_wf (out_light lim ed s l d)
    (let k = out_weight_lem lim ed s l d in omega (arith, k, heavy))
    ∙ sym (ap (over_by there) d.written_bytes) in
    let finish = finish_whole there known x ready ps slice room in
    record {
      each_taken = each_zero there known x ready ps;
      finish_refuses = finish.0 ∙ ap (λ (v : Verdict). v.number) over;
      finish_tells = finish.1 ∙ ap (λ (v : Verdict). eights (verdict_numbers v) ++ drop 32 slice) over;
    }

-- one or the other
pub link_never_misread : (lim there ed : ℕ) → LinkNeverMisread lim there ed
link_never_misread lim there ed s b l e known x ready ps q slice room l' roomy =
    let w = (simplified lim ed s l).answer.weight_out in
    either_way (ltb there w)
    (λ t. inr (calls_too_heavy lim there ed s b l e known (ltb-true there w t) x ready ps q slice room))
    (λ t. inl (calls_take_over lim there ed s b l e (record { known = known; light = ltb-false there w t }) x ready ps q slice room l' roomy))
