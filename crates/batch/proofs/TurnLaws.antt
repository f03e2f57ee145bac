-- A turn of the loop. What the item is lent is what remains of the areas, and comes back behind what was used up before; the item keeps the
-- lengths and uses up no more than there is, as any call of the simplifier does; so what is still to do afterwards is what was before. So it is
-- too where `work` is not cleared between the items (WorkLaws).
use Prim.Native.Nat.{ℕ, ◌+◌, ◌-◌, ◌*◌, ◌≤◌, ◌<◌}
use mathlib.Core.Path.{◌≡◌, refl, sym, ap, ◌∙◌}
use mathlib.Core.List.{List, [], ◌++◌, append-nil}
use native.Mathlib.Omega.{arith}
use lib.ListN.{length, take, drop, length-append, length-drop, drop_of_length-le}
use lib.Seq.{length-take-le, take_all, drop-drop}
use borrow.Rule.Slice.PartMut.{put_mid}
use Rattle.paper.specs.Limits.{work_bytes}
use Rattle.paper.specs.Bytes.{Bytes, le8}
use Rattle.paper.specs.Answers.{Lent, simplified}
use Rattle.paper.specs.Calls.{eights, answer_numbers}
use Rattle.paper.proofs.BytesLaws.{take_bytes, drop_bytes}
use Rattle.simplify.specs.Answer.{lent}
use Rattle.paper_batch.specs.Batch.{remaining, in_front}
use Rattle.paper_batch.proofs.Orderly.{simplified_orderly}
use Rattle.batch.specs.Turn.{Turn, turn, turned, cleared, lengths_from, still}
use Rattle.batch.proofs.LengthsLaws.{from_turn}
use Rattle.batch.proofs.StillLaws.{numbers_size, still_turn}
use Rattle.batch.proofs.WorkLaws.{room_so_far, as_cleared}

-- ---- the rest of a slice, lent, and back as x
rest_lent : (d : List ℕ) (a : ℕ) → take (length d - a) (drop a d) ≡ drop a d
rest_lent d a = take_all (length d - a) (drop a d) (rw length-drop (omega arith))

rest_back : (d x : List ℕ) (a : ℕ) → put_mid a (length d - a) d x ≡ take a d ++ x
rest_back d x a =
    let none : drop (length d - a) (drop a d) ≡ [] = drop_of_length-le (drop a d) {i = length d - a} (rw length-drop (omega arith)) in
    rw (none, append-nil x) refl

behind_length : (d x : List ℕ) (a : ℕ) → a ≤ length d → length x ≡ length (drop a d) → length (take a d ++ x) ≡ length d
behind_length d x a h e = rw (length-append, length-take-le a d h, e, length-drop) (omega arith)

-- ---- an item, handed what remains: what it used up is within the areas, and all come back as long as before
record Within (l : Lent) (a : List ℕ) (i o : ℕ) (r : Turn) : Type 0 where
  out_fits : 16 * (o + r.used) ≤ length l.out
  steps_fit : o + r.used ≤ length l.steps
  out_kept : length (take (16 * o) l.out ++ r.lent.out) ≡ length l.out
  steps_kept : length (take o l.steps ++ r.lent.steps) ≡ length l.steps
  work_kept : length r.lent.work ≡ length l.work
  answers_kept : length (take (80 * i) a ++ r.answer) ≡ length a

within : (lim ed : ℕ) (s : List ℕ) → Bytes s → (l : Lent) (a : List ℕ) (i o : ℕ) → 16 * o ≤ length l.out → o ≤ length l.steps → 80 * (i + 1) ≤ length a
    → Within l a i o (turn lim ed s (remaining o l) (drop (80 * i) a))
unfolding turn remaining
within lim ed s b l a i o f g h =
    let q = simplified_orderly lim ed s b (remaining o l) in
    let e = eights (answer_numbers (simplified lim ed s (remaining o l)).answer) in
    let size : length (e ++ drop 80 (drop (80 * i) a)) ≡ length (drop (80 * i) a) =
    rw (length-append, numbers_size (simplified lim ed s (remaining o l)).answer, length-drop, length-drop) (omega arith) in
    record {
      out_fits = omega (arith, q.out_fits, length-drop (16 * o) l.out);
      steps_fit = omega (arith, q.steps_fit, length-drop o l.steps);
      out_kept = behind_length l.out _ (16 * o) f q.out_kept;
      steps_kept = behind_length l.steps _ o g q.steps_kept;
      work_kept = q.work_kept;
      answers_kept = behind_length a _ (80 * i) (omega arith) size;
    }

-- ---- the turn of an item of `len` bytes, from what the code finds again: the slices, of which the item was lent the rest
pub record Gone (lim ed : ℕ) (tables lengths answers : List ℕ) (l : Lent) (n i at used len : ℕ) (r : Turn) : Type 0 where
  pub out_fits : 16 * (used + r.used) ≤ length l.out
  pub steps_fit : used + r.used ≤ length l.steps
  pub out_kept : length (put_mid (16 * used) (length l.out - 16 * used) l.out r.lent.out) ≡ length l.out
  pub steps_kept : length (put_mid used (length l.steps - used) l.steps r.lent.steps) ≡ length l.steps
  pub work_kept : length r.lent.work ≡ length l.work
  pub answers_kept : length (put_mid (80 * i) (length answers - 80 * i) answers r.answer) ≡ length answers
  pub goes_on : still lim ed (i + 1) (used + r.used) (lengths_from lengths n (i + 1)) (drop (at + len) tables)
      (lent (put_mid (16 * used) (length l.out - 16 * used) l.out r.lent.out)
      (put_mid used (length l.steps - used) l.steps r.lent.steps) r.lent.work)
      (put_mid (80 * i) (length answers - 80 * i) answers r.answer)
      ≡ still lim ed i used (lengths_from lengths n i) (drop at tables) l answers

module _ (lim ed : ℕ) (tables lengths answers : List ℕ) (l : Lent) (n i at used len : ℕ) (r : Turn) (bytes : Bytes tables) (more : i < n)
    (out_room : 16 * used ≤ length l.out) (steps_room : used ≤ length l.steps) (places : 80 * n ≤ length answers)
    (told : len ≡ le8 lengths (i * 8))
    (ran : r
    ≡ turn lim ed (take ((at + len) - at) (drop at tables))
    (lent (take (length l.out - 16 * used) (drop (16 * used) l.out)) (take (length l.steps - used) (drop used l.steps)) l.work)
    (take (length answers - 80 * i) (drop (80 * i) answers))) where
  handed : r ≡ turn lim ed (take len (drop at tables)) (remaining used l) (drop (80 * i) answers)
  unfolding remaining
  handed =
      let k : (at + len) - at ≡ len = omega arith in
      ran ∙ rw (k, rest_lent l.out (16 * used), rest_lent l.steps used, rest_lent answers (80 * i)) refl

  stays : Within l answers i used r
  stays =
      rw handed
      (within lim ed (take len (drop at tables)) (take_bytes len (drop at tables) (drop_bytes at tables bytes)) l answers i used out_room steps_room
      (omega arith))

  on : still lim ed (i + 1) (used + r.used) (lengths_from lengths n (i + 1)) (drop (at + len) tables)
      (lent (take (16 * used) l.out ++ r.lent.out) (take used l.steps ++ r.lent.steps) r.lent.work)
      (take (80 * i) answers ++ r.answer)
      ≡ still lim ed i used (lengths_from lengths n i) (drop at tables) l answers
  unfolding in_front
  on =
      rw (← drop-drop len at tables, from_turn lengths n i more, ← told, handed)
      (sym (still_turn lim ed i used len (lengths_from lengths n (i + 1)) (drop at tables) l answers out_room steps_room (omega arith)))

  pub turn_gone : Gone lim ed tables lengths answers l n i at used len r
  turn_gone =
      let o = rest_back l.out r.lent.out (16 * used) in
      let s = rest_back l.steps r.lent.steps used in
      let a = rest_back answers r.answer (80 * i) in
      record {
        out_fits = stays.out_fits;
        steps_fit = stays.steps_fit;
        out_kept = ap length o ∙ stays.out_kept;
        steps_kept = ap length s ∙ stays.steps_kept;
        work_kept = stays.work_kept;
        answers_kept = ap length a ∙ stays.answers_kept;
        goes_on = rw (o, s, a) on;
      }

-- ---- the turn of an item that is handed `work` as the items before it left it, and does not clear it
pub record Passed (lim ed : ℕ) (tables lengths answers out steps work : List ℕ) (n i at used len w : ℕ) (out' steps' work' answer' : List ℕ) : Type 0 where
  pub gone : Gone lim ed tables lengths answers (lent out steps (cleared lim used work)) n i at used
      len (turned w out' steps' (cleared lim (used + w) work') answer')
  pub room : 1 ≤ used + w → work_bytes lim ≤ length work

module _ (lim ed : ℕ) (tables lengths answers out steps work : List ℕ) (n i at used len w : ℕ) (out' steps' work' answer' : List ℕ) (bytes : Bytes tables)
    (more : i < n) (out_room : 16 * used ≤ length out) (steps_room : used ≤ length steps) (places : 80 * n ≤ length answers) (told : len ≡ le8 lengths (i * 8))
    (room : 1 ≤ used → work_bytes lim ≤ length work)
    (ran : turned w out' steps' (cleared lim w work') answer'
    ≡ turn lim ed (take ((at + len) - at) (drop at tables))
    (lent (take (length out - 16 * used) (drop (16 * used) out)) (take (length steps - used) (drop used steps)) work)
    (take (length answers - 80 * i) (drop (80 * i) answers))) where
  pub passed : Passed lim ed tables lengths answers out steps work n i at used len w out' steps' work' answer'
  passed =
      let s = take ((at + len) - at) (drop at tables) in
      let b = take_bytes ((at + len) - at) (drop at tables) (drop_bytes at tables bytes) in
      let o = take (length out - 16 * used) (drop (16 * used) out) in
      let z = take (length steps - used) (drop used steps) in
      let a = take (length answers - 80 * i) (drop (80 * i) answers) in
      record {
        gone =
            turn_gone lim ed tables lengths answers (lent out steps (cleared lim used work)) n i at used
            len (turned w out' steps' (cleared lim (used + w) work') answer')
            bytes more out_room steps_room places told (as_cleared lim ed s b o z work a w out' steps' work' answer' ran used room);
        room = room_so_far lim ed s b o z work a w out' steps' work' answer' ran used room;
      }
