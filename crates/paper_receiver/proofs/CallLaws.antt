-- The link task's record in its 16 bytes. What one call writes, the next one reads; and a record that stays as it is keeps every byte, so a
-- call that is refused changes nothing. Zero bytes are an empty receiver. Each number is written in the eight bytes that it was read from.
use Prim.Native.Nat.{ℕ, ◌+◌, ◌^◌, ◌≤◌, ◌<◌}
use mathlib.Core.Path.{◌≡◌, sym, ap, ◌∙◌}
use mathlib.Core.Bool.{true, false}
use mathlib.Core.Logic.{◌⊎◌, inl, inr}
use mathlib.Core.List.{List, [], ◌++◌, append_assoc, append-nil}
use native.Mathlib.Omega.{arith}
use lib.ListN.{length, take, drop, length-drop, take-append-drop}
use lib.Seq.{length-take-le, drop-drop}
use lib.Dec.{ltb}
use borrow.Author.Tests.{le-ltb, ltb-false}
use Rattle.paper.specs.Bytes.{Bytes, le, le8, bytes}
use Rattle.paper.specs.Limits.{is_limit}
use Rattle.paper.specs.Calls.{eights, is_too_short, returned, answered}
use Rattle.paper.proofs.BytesLaws.{bytes_le, length_bytes, take_bytes, drop_bytes, le8_append_add, le8_drop, first_eight, eight_front}
use Rattle.paper.proofs.Tests.{or_neither}
use Rattle.paper_receiver.specs.Receiver.{Receiver, Held, is_short, received, finish_state}
use Rattle.paper_receiver.specs.Calls.{receiver_in, receiver_numbers, held_in, receive_returns, receive_record, receive_area, no_room, finish_record}
use Rattle.paper_receiver.proofs.PieceLaws.{either_way}
use Rattle.paper_receiver.proofs.ReceiverLaws.{refused_changes_nothing}

-- the two numbers in a slice with room for them
two_numbers : (r : Receiver) (s : List ℕ) → 16 ≤ length s
    → answered (receiver_numbers r) s ≡ bytes 8 r.count ++ (bytes 8 r.past ++ drop 16 s)
unfolding answered is_too_short receiver_numbers eights
two_numbers r s h =
    rw (le-ltb (length s) 16 h)
    (append_assoc (bytes 8 r.count) (bytes 8 r.past ++ []) (drop 16 s)
    ∙ ap (λ (l : List ℕ). bytes 8 r.count ++ (l ++ drop 16 s)) (append-nil (bytes 8 r.past)))

pub reads_back : (r : Receiver) (s : List ℕ) → r.count < 2 ^ 64 → r.past < 2 ^ 64 → 16 ≤ length s
    → receiver_in (answered (receiver_numbers r) s) ≡ r
unfolding receiver_in
reads_back r s c p h =
    let l : 8 ≡ length (bytes 8 r.count) + 0 = rw length_bytes (omega arith) in
    let rest = bytes 8 r.past ++ drop 16 s in
    let second : le8 (bytes 8 r.count ++ rest) 8 ≡ r.past =
    ap (le8 (bytes 8 r.count ++ rest)) l ∙ le8_append_add (bytes 8 r.count) rest 0 ∙ first_eight r.past (drop 16 s) p in
    rw (two_numbers r s h, first_eight r.count rest c, second)

-- ---- the bytes of a record that stays
eight_stay : (s : List ℕ) → Bytes s → 8 ≤ length s → bytes 8 (le8 s 0) ≡ take 8 s
eight_stay s b h =
    ap (bytes 8) (eight_front s h)
    ∙ ap (λ (n : ℕ). bytes n (le (take 8 s))) (sym (length-take-le 8 s h))
    ∙ bytes_le (take 8 s) (take_bytes 8 s b)

pub record_stays : (s : List ℕ) → Bytes s → 16 ≤ length s → answered (receiver_numbers (receiver_in s)) s ≡ s
unfolding receiver_in
record_stays s b h =
    let first = eight_stay s b (omega arith) in
    let second : bytes 8 (le8 s 8) ≡ take 8 (drop 8 s) =
    ap (bytes 8) (sym (le8_drop 8 s 0)) ∙ eight_stay (drop 8 s) (drop_bytes 8 s b) (rw length-drop (omega arith)) in
    two_numbers (receiver_in s) s h
    ∙ rw (first, second, ← drop-drop 8 8 s) (ap (λ (l : List ℕ). take 8 s ++ l) (take-append-drop 8 (drop 8 s)) ∙ take-append-drop 8 s)

-- ---- "that call changes nothing": a refused piece, and a finish that 19 or 6 refuses, change no byte of the record, nor of the area
module _ (lim : ℕ) (s area : List ℕ) (b : Bytes s) where
  stays : (r : Receiver) → r ≡ receiver_in s → 16 ≤ length s → answered (receiver_numbers r) s ≡ s
  stays r e h = ap (λ (x : Receiver). answered (receiver_numbers x) s) e ∙ record_stays s b h

  long_enough : (r : Receiver) → is_too_short (receiver_numbers r) s ≡ false → 16 ≤ length s
  unfolding is_too_short receiver_numbers
  long_enough r e = ltb-false (length s) 16 e

  pub refused_piece_stays : (p : List ℕ) → ¬ (receive_returns lim s area p ≡ 0) → (receive_record lim s area p ≡ s) × (receive_area lim s area p ≡ area)
  unfolding receive_returns receive_record receive_area returned answered held_in
  refused_piece_stays p n =
      let x = held_in s area in
      let r = (received lim x p).held.state in
      either_way (is_too_short (receiver_numbers r) s)
      (λ t. (rw t, rw t))
      (λ t. let e : (received lim x p).held ≡ x = refused_changes_nothing lim x p (λ z. n (rw t z)) in
      (stays r (ap (λ (y : Held). y.state) e) (long_enough r t), rw t (ap (λ (y : Held). y.area) e)))

  state_stays : (is_limit lim ≡ false) ⊎ (is_short lim area ≡ true) → finish_state lim (held_in s area) ≡ receiver_in s
  unfolding held_in finish_state
  state_stays (inl e) = rw e
  state_stays (inr e) = either_way (is_limit lim) (λ k. rw (k, e)) (λ k. rw k)

  pub refused_finish_stays : (slice : List ℕ) → (is_limit lim ≡ false) ⊎ (is_short lim area ≡ true) → finish_record lim s area slice ≡ s
  unfolding finish_record no_room
  refused_finish_stays slice why =
      either_way (no_room s slice)
      (λ t. rw t)
      (λ t. let h = ltb-false (length s) 16 (or_neither (ltb (length s) 16) (ltb (length slice) 32) t).0 in
      rw t (stays (finish_state lim (held_in s area)) (state_stays why) h))
