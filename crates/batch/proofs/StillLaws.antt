-- Laws of what is still to do. An item writes behind what those before it used up, so what it used up and what is left to the others stand
-- there side by side; with no item left, all is as it stands.
use Prim.Native.Nat.{ℕ, suc, ◌+◌, ◌*◌, ◌≤◌}
use mathlib.Core.Path.{◌≡◌, refl, sym, ap, ◌∙◌}
use mathlib.Core.List.{List, [], ◌∷◌, ◌++◌, append_assoc}
use native.Mathlib.Omega.{arith}
use lib.ListN.{length, take, drop, take-append-drop}
use lib.Seq.{length-take-le, take_at, take-append-add, drop-append-add, drop-drop}
use Rattle.paper.specs.Answers.{Lent, Answer, simplified}
use Rattle.paper.specs.Calls.{answer_numbers, eights}
use Rattle.paper.proofs.Slices.{answer_count}
use Rattle.number.proofs.EightsLaws.{eights_length, eights_append}
use Rattle.paper_batch.specs.Batch.{place_bytes, used_up, remaining, in_front, first_uses, handed_on, in_turn, all_numbers}
use Rattle.batch.specs.Turn.{turn, still}

-- an area of which the first a bytes are used up: an item that leaves `x` behind them, and uses up b bytes of it
behind_taken : (d x : List ℕ) (a b : ℕ) → a ≤ length d → take (a + b) (take a d ++ x) ≡ take a d ++ take b x
behind_taken d x a b h =
    let e : length (take a d) ≡ a = length-take-le a d h in
    ap (λ (k : ℕ). take (k + b) (take a d ++ x)) (sym e) ∙ take-append-add (take a d) x b

behind_left : (d x : List ℕ) (a b : ℕ) → a ≤ length d → drop (a + b) (take a d ++ x) ≡ drop b x
behind_left d x a b h =
    let e : length (take a d) ≡ a = length-take-le a d h in
    ap (λ (k : ℕ). drop (k + b) (take a d ++ x)) (sym e) ∙ drop-append-add (take a d) x b

module _ (o w : ℕ) (l m : Lent) (out_room : 16 * o ≤ length l.out) (steps_room : o ≤ length l.steps) where
  -- what remains behind both
  remains : remaining (o + w) (in_front o l m) ≡ remaining w m
  unfolding remaining in_front
  remains =
      let e : 16 * (o + w) ≡ 16 * o + 16 * w = omega arith in
      rw (e, behind_left l.out m.out (16 * o) (16 * w) out_room, behind_left l.steps m.steps o w steps_room) refl

  -- and what the later items leave there
  fronts : (r : Lent) → in_front o l (in_front w m r) ≡ in_front (o + w) (in_front o l m) r
  unfolding in_front
  fronts r =
      let e : 16 * (o + w) ≡ 16 * o + 16 * w = omega arith in
      rw (e, behind_taken l.out m.out (16 * o) (16 * w) out_room, behind_taken l.steps m.steps o w steps_room) (simp append_assoc)

-- ---- the answers: i places are written, and E goes to the next one
module _ (a e : List ℕ) (i : ℕ) (size : length e ≡ 80) (room : 80 * i ≤ length a) where
  unfoldable pub placed : List ℕ
  placed = take (80 * i) a ++ (e ++ drop 80 (drop (80 * i) a))

  placed_front : take (80 * (i + 1)) placed ≡ take (80 * i) a ++ e
  unfolding placed
  placed_front =
      let k : 80 * (i + 1) ≡ 80 * i + 80 = omega arith in
      rw (k, behind_taken a (e ++ drop 80 (drop (80 * i) a)) (80 * i) 80 room, take_at e (drop 80 (drop (80 * i) a)) 80 size) refl

  placed_past : (m : ℕ) → drop (80 * ((i + 1) + m)) placed ≡ drop (80 * (i + suc m)) a
  unfolding placed
  placed_past m =
      let k : 80 * ((i + 1) + m) ≡ 80 * i + (80 + 80 * m) = omega arith in
      let n : 80 * i + (80 + 80 * m) ≡ 80 * (i + suc m) = omega arith in
      let x = drop 80 (drop (80 * i) a) in
      rw (k, behind_left a (e ++ x) (80 * i) (80 + 80 * m) room)
      (ap (λ (j : ℕ). drop (j + 80 * m) (e ++ x)) (sym size) ∙ drop-append-add e x (80 * m) ∙ rw (drop-drop, drop-drop, n) refl)

-- ---- a turn, and the end
pub numbers_size : (x : Answer) → length (eights (answer_numbers x)) ≡ 80
numbers_size x = eights_length (answer_numbers x) ∙ ap (λ (n : ℕ). 8 * n) (answer_count x)

module _ (lim ed i o n : ℕ) (ns s : List ℕ) (l : Lent) (a : List ℕ) (out_room : 16 * o ≤ length l.out) (steps_room : o ≤ length l.steps)
    (place : 80 * i ≤ length a) where
  pub still_turn : let r = turn lim ed (take n s) (remaining o l) (drop (80 * i) a) in
      still lim ed i o (n ∷ ns) s l a ≡ still lim ed (i + 1) (o + r.used) ns (drop n s) (in_front o l r.lent) (take (80 * i) a ++ r.answer)
  unfolding still turn in_turn all_numbers first_uses handed_on placed
  still_turn =
      let g = simplified lim ed (take n s) (remaining o l) in
      let w = used_up (take n s) g.answer in
      let e = eights (answer_numbers g.answer) in
      let r = in_turn (simplified lim ed) ns (drop n s) (remaining w g.lent) in
      rw (
        remains o w l g.lent out_room steps_room,
        fronts o w l g.lent out_room steps_room r.lent,
        placed_front a e i (numbers_size g.answer) place,
        placed_past a e i (numbers_size g.answer) place (length ns),
        eights_append (answer_numbers g.answer) (all_numbers r.answers),
      )
      (simp append_assoc)

pub still_none : (lim ed i o : ℕ) (s : List ℕ) (l : Lent) (a : List ℕ)
    → still lim ed i o [] s l a ≡ record { number = 0; lent = l; answers = a }
unfolding still in_turn all_numbers remaining in_front eights
still_none lim ed i o s l a =
    let k : i + 0 ≡ i = omega arith in
    rw (k, take-append-drop (16 * o) l.out, take-append-drop o l.steps, take-append-drop (80 * i) a) refl

pub still_all : (lim ed : ℕ) (ns s : List ℕ) (l : Lent) (a : List ℕ)
    → still lim ed 0 0 ns s l a
    ≡ record {
      number = 0;
      lent = (in_turn (simplified lim ed) ns s l).lent;
      answers = eights (all_numbers (in_turn (simplified lim ed) ns s l).answers) ++ drop (place_bytes * length ns) a;
    }
unfolding still remaining in_front
still_all lim ed ns s l a = let k : 0 + length ns ≡ length ns = omega arith in rw k refl
