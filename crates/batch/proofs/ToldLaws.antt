-- What the caller of a whole site finds afterwards. The answers stand one after the other, each in its place, and their numbers fit in 8 bytes; so
-- place i tells the answer of item i, which is that of its separate call and meets demand 3.
use Prim.Native.Nat.{ℕ, zero, suc, ◌+◌, ◌*◌, ◌<◌}
use mathlib.Core.Path.{◌≡◌, refl, sym, ap, ◌∙◌}
use mathlib.Core.List.{List, [], ◌∷◌, ◌++◌, append_assoc}
use native.Mathlib.Omega.{arith}
use lib.ListN.{length, get_or, drop}
use lib.Seq.{drop-append-add}
use Rattle.paper.specs.Bytes.{Bytes}
use Rattle.paper.specs.Answers.{Lent, Answer, simplified}
use Rattle.paper.specs.Calls.{answer_numbers, eights}
use Rattle.paper.specs.Told.{answer_in}
use Rattle.paper.specs.Demands.{Simplifier}
use Rattle.paper.proofs.Told.{numbers_fit, told_answer}
use Rattle.number.proofs.EightsLaws.{eights_append}
use Rattle.paper_batch.specs.Batch.{in_turn, handed_on, lengths_in, all_numbers, SiteCall, site_number, carried_out, site_called}
use Rattle.paper_batch.specs.Sentences.{item, ItemTold}
use Rattle.paper_batch.proofs.UnfitLaws.{returns_number}
use Rattle.paper_batch.proofs.BatchLaws.{item_bytes, each_separate, each_demanded}
use Rattle.batch.proofs.StillLaws.{numbers_size}

-- ---- answers one after the other: from place i on stand the numbers of answer i, and others
numbers_from : List Answer → List ℕ → List ℕ
numbers_from [] rest = rest
numbers_from (x ∷ xs) rest = eights (answer_numbers x) ++ numbers_from xs rest

all_from : (xs : List Answer) (rest : List ℕ) → eights (all_numbers xs) ++ rest ≡ numbers_from xs rest
unfolding all_numbers eights numbers_from
all_from [] rest = refl
all_from (x ∷ xs) rest =
    rw (eights_append (answer_numbers x) (all_numbers xs), append_assoc (eights (answer_numbers x)) (eights (all_numbers xs)) rest, all_from xs rest) refl

in_place_lem : (xs : List Answer) (rest : List ℕ) (i : ℕ) (d : Answer) → i < length xs
    → (more : List ℕ) × (drop (80 * i) (numbers_from xs rest) ≡ eights (answer_numbers (get_or xs i d)) ++ more)
unfolding numbers_from
in_place_lem [] rest i d h = absurd (omega arith)
in_place_lem (x ∷ xs) rest zero d h = (numbers_from xs rest, refl)
in_place_lem (x ∷ xs) rest (suc i) d h =
    let e = eights (answer_numbers x) in
    let k : 80 * suc i ≡ length e + 80 * i = omega (arith, numbers_size x) in
    let tail = in_place_lem xs rest i d (omega arith) in
    (tail.0, ap (λ (n : ℕ). drop n (e ++ numbers_from xs rest)) k ∙ drop-append-add e (numbers_from xs rest) (80 * i) ∙ tail.1)

pub count : (f : Simplifier) (ns s : List ℕ) (l : Lent) → length (in_turn f ns s l).answers ≡ length ns
unfolding in_turn
count f [] s l = refl
count f (n ∷ ns) s l = ap suc (count f ns (drop n s) (handed_on f n s l))

-- ---- a call that returns 0
module _ (lim ed : ℕ) (tables lengths : List ℕ) (l : Lent) (answers : List ℕ) (c : SiteCall) (promised : c ≡ site_called lim ed tables lengths l answers)
    (returned : c.number ≡ 0) where
  carried : c ≡ carried_out 0 (lengths_in lengths) (in_turn (simplified lim ed) (lengths_in lengths) tables l) answers
  unfolding site_called
  carried =
      let zero-returned : site_number lim ed tables lengths answers ≡ 0 =
      sym (returns_number lim ed tables lengths answers l) ∙ sym (ap (λ (x : SiteCall). x.number) promised) ∙ returned in
      promised ∙ rw zero-returned refl

  -- the places, and `out`, are the site's
  places : (i : ℕ) (d : Answer) → i < length (lengths_in lengths)
      → (more : List ℕ)
      × (drop (80 * i) c.answers ≡ eights (answer_numbers (get_or (in_turn (simplified lim ed) (lengths_in lengths) tables l).answers i d)) ++ more)
  unfolding carried_out
  places i d h =
      let site = in_turn (simplified lim ed) (lengths_in lengths) tables l in
      let rest = drop (80 * length (lengths_in lengths)) answers in
      let here = in_place_lem site.answers rest i d (omega (arith, count (simplified lim ed) (lengths_in lengths) tables l)) in
      (here.0, ap (λ (x : SiteCall). drop (80 * i) x.answers) carried ∙ ap (drop (80 * i)) (all_from site.answers rest) ∙ here.1)

  pub out_left : (in_turn (simplified lim ed) (lengths_in lengths) tables l).lent.out ≡ c.lent.out
  unfolding carried_out
  out_left = sym (ap (λ (x : SiteCall). x.lent.out) carried)

  pub item_told : Bytes tables → (i : ℕ) → i < length (lengths_in lengths) → ItemTold lim ed tables lengths l c i
  item_told b i h =
      let own = each_separate lim ed (lengths_in lengths) tables b l i h in
      let t = item (lengths_in lengths) tables i in
      let a = (simplified lim ed t own.own).answer in
      let here = places i a h in
      let told : answer_in (drop (80 * i) c.answers) ≡ a =
      ap answer_in (here.1 ∙ ap (λ (x : Answer). eights (answer_numbers x) ++ here.0) (own.answer a))
      ∙ told_answer a here.0 (numbers_fit lim ed t (item_bytes (lengths_in lengths) tables b i) own.own) in
      record {
        separate = own;
        answer = told;
        demanded = λ e. rw (told, ← out_left) (each_demanded lim ed (lengths_in lengths) tables b l i h (ap (λ (x : Answer). x.number) (sym told) ∙ e));
      }
