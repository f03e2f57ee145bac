-- Laws of the receiver's calls: a record or an answer slice that is too short, and with room the two numbers of the record and the four of the
-- answer, each written at the front of its slice.
use Prim.Native.Nat.{ℕ, ◌<◌, ◌≤◌}
use mathlib.Core.Path.{◌≡◌, refl, sym, ◌∙◌}
use mathlib.Core.Bool.{true}
use mathlib.Core.List.{List, ◌++◌}
use native.Mathlib.Omega.{arith}
use borrow.Author.Tests.{lt-ltb, le-ltb}
use lib.Dec.{ltb}
use lib.ListN.{length, drop}
use Rattle.paper.specs.Verdict.{Verdict}
use Rattle.paper.specs.Calls.{verdict_numbers, eights, is_too_short}
use Rattle.paper.proofs.Slices.{tells_in, verdict_count}
use Rattle.paper.proofs.Tests.{or_left, or_right}
use Rattle.paper_receiver.specs.Receiver.{Receiver, Receipt, received, finish_verdict, finish_state}
use Rattle.paper_receiver.specs.Calls.{receiver_numbers, held_in, receive_returns, receive_record, receive_area}
use Rattle.paper_receiver.specs.Calls.{no_room, finish_returns, finish_record, finish_answers}

-- ---- a piece
module _ (lim : ℕ) (s area p : List ℕ) where
  abbrev Takes : ℕ → List ℕ → List ℕ → Type 0
  Takes number s' area' = (number ≡ receive_returns lim s area p) × ((s' ≡ receive_record lim s area p) × (area' ≡ receive_area lim s area p))

  pub receive_no_room : length s < 16 → Takes 6 s area
  unfolding receive_returns receive_record receive_area receiver_numbers is_too_short
  receive_no_room h =
      let t = received lim (held_in s area) p in
      let q = (tells_in 16 t.number (receiver_numbers t.held.state) refl s).0 h in
      (sym q.0, (sym q.1, rw (lt-ltb (length s) 16 h)))

  pub receive_room : (t : Receipt) → t ≡ received lim (held_in s area) p → 16 ≤ length s
      → (s' : List ℕ) → s' ≡ eights (receiver_numbers t.held.state) ++ drop 16 s → Takes t.number s' t.held.area
  unfolding receive_returns receive_record receive_area receiver_numbers is_too_short
  receive_room t e h s' w =
      let q = (tells_in 16 t.number (receiver_numbers t.held.state) refl s).1 h in
      rw (← e) (sym q.0, (w ∙ sym q.1, rw (le-ltb (length s) 16 h)))

-- ---- the finish
module _ (lim : ℕ) (s area slice : List ℕ) where
  abbrev Says : ℕ → List ℕ → List ℕ → Type 0
  Says number s' slice' = (number ≡ finish_returns lim s area slice) × ((s' ≡ finish_record lim s area slice) × (slice' ≡ finish_answers lim s area slice))

  neither : no_room s slice ≡ true → Says 6 s slice
  unfolding finish_returns finish_record finish_answers
  neither e = (rw e, (rw e, rw e))

  pub short_record : length s < 16 → Says 6 s slice
  unfolding no_room
  short_record h = neither (or_left (ltb (length s) 16) (ltb (length slice) 32) (lt-ltb (length s) 16 h))

  pub short_slice : length slice < 32 → Says 6 s slice
  unfolding no_room
  short_slice h = neither (or_right (ltb (length s) 16) (ltb (length slice) 32) (lt-ltb (length slice) 32 h))

  pub finish_room : (v : Verdict) (r : Receiver) → v ≡ finish_verdict lim (held_in s area) → r ≡ finish_state lim (held_in s area)
      → 16 ≤ length s → 32 ≤ length slice → (s' slice' : List ℕ)
      → s' ≡ eights (receiver_numbers r) ++ drop 16 s → slice' ≡ eights (verdict_numbers v) ++ drop 32 slice → Says v.number s' slice'
  unfolding finish_returns finish_record finish_answers receiver_numbers no_room
  finish_room v r e f h l s' slice' w u =
      let q = ((tells_in 16 0 (receiver_numbers r) refl s).1 h).1 in
      let z = ((tells_in 32 v.number (verdict_numbers v) (omega (arith, verdict_count v)) slice).1 l).1 in
      rw (← e, ← f, le-ltb (length s) 16 h, le-ltb (length slice) 32 l) (refl, (w ∙ sym q, u ∙ sym z))
