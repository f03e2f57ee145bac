-- A site restored whole. An item that was accepted is paper's takeover; one that was refused, and not for want of room, is judged again as it was,
-- since the areas decide 6 alone, and one with 7 has its room again. So each item uses up what it is counted for, and the others have
-- theirs: by induction on the items. The lengths of what is restored add up to its bytes, so 8 does not refuse it.
use Prim.Native.Nat.{ℕ, suc, ◌+◌, ◌*◌, ◌/◌, ◌%◌, ◌≤◌}
use mathlib.Core.Path.{◌≡◌, refl, sym, ap, ap₂, ◌∙◌, subst}
use mathlib.Core.Bool.{Bool, true, false, cond, not}
use mathlib.Core.List.{List, [], ◌∷◌, ◌++◌}
use native.Mathlib.Omega.{arith}
use borrow.Author.Tests.{not-false, eq-eqb, eqb-true, le-ltb, ltb-false}
use lib.Dec.{eqb, ltb}
use lib.ListN.{length, take, drop, length-append, length-drop}
use lib.Seq.{length-take-le, take_at, drop_at}
use Rattle.paper.specs.Limits.{is_limit}
use Rattle.paper.specs.Bytes.{Bytes}
use Rattle.paper.specs.Verdict.{Verdict, accepted, refused, is_accepted, table_weight, verdict}
use Rattle.paper.specs.Rules.{is_edition, rules_of}
use Rattle.paper.specs.Driver.{simplify}
use Rattle.paper.specs.Answers.{Lent, Answer, Given, cramped, judged_call, judgement, refused_by, outcome_of, simplified_by, simplified}
use Rattle.paper.specs.Demands.{result}
use Rattle.paper.specs.Takeover.{Room, again}
use Rattle.paper.proofs.Tests.{or_neither}
use Rattle.paper.proofs.BytesLaws.{append_bytes, take_bytes, drop_bytes}
use Rattle.paper.proofs.JudgementLaws.{of_room}
use Rattle.paper.proofs.CallLaws.{Call, is_turned_down, is_run, call, judgement_accepted, accepted_judgement}
use Rattle.paper.proofs.Takeover.{takeover}
use Rattle.paper_batch.specs.Batch.{used_up, remaining, first_uses, handed_on, in_turn, lengths_in, total, unfit, turns_down, site_number}
use Rattle.paper_batch.proofs.Orderly.{simplified_orderly, uses_run}
use Rattle.paper_takeover.specs.TakenOver.{is_done, restored}
use Rattle.paper_takeover.specs.SiteRestored.{restored_whole, whole_lengths, whole_weight, again_in_place}
use Rattle.paper_takeover.specs.SiteRestored.{RepeatsWhole, SiteRestored, AsLong, SwapsAgain, ResultsPass, WholePasses}
use Rattle.paper_takeover.proofs.SiteTaken.{left, done_number, rest_behind, result_in_front, first_restored, room_behind, restored_adds_up}

module _ (lim ed : ℕ) where
  -- ---- an item that is handed in again as it was: refused, but not with 6, or with room for what it used up, it is answered as it was
  down_again : (a b c x y : Bool) (v : Verdict)
      → let judged : Bool → Verdict = λ z. cond a (cond b (cond c (cond z (refused 6 0) accepted) v) (refused 9 0)) (refused 19 0) in
      1 ≤ (judged x).number → ¬ ((judged x).number ≡ 6) → judged y ≡ judged x
  down_again true true true true y v h k = absurd (k refl)
  down_again true true true false y v h k = absurd (omega arith)
  down_again true true false x y v h k = refl
  down_again true false c x y v h k = refl
  down_again false b c x y v h k = refl

  turned_again : (s : List ℕ) (l m : Lent) → 1 ≤ (judgement lim ed s l).number → ¬ ((judgement lim ed s l).number ≡ 6)
      → judgement lim ed s m ≡ judgement lim ed s l
  unfolding judgement judged_call
  turned_again s l m =
      down_again (is_limit lim) (is_edition ed) (is_accepted (verdict lim s)) (cramped lim (table_weight s) l) (cramped lim (table_weight s) m) (verdict lim s)

  judged_again : (s : List ℕ) → Bytes s → (l m : Lent) → ¬ ((simplified lim ed s l).answer.number ≡ 6)
      → Room lim (used_up s (simplified lim ed s l).answer) m → judgement lim ed s m ≡ judgement lim ed s l
  unfolding simplified refused_by
  judged_again s b l m h room = go (call lim ed (simplify (rules_of ed)) s l b)
    where
      go : Call lim ed (simplify (rules_of ed)) s l → judgement lim ed s m ≡ judgement lim ed s l
      go (is_turned_down d) = turned_again s l m d.number (λ e. h (ap (λ (x : Answer). x.number) d.answer ∙ e))
      go (is_run r) =
          let j = judgement_accepted lim ed s l r.accepts in
          let w : used_up s (simplified lim ed s l).answer ≡ table_weight s = ap (used_up s) r.answer ∙ uses_run s _ _ in
          accepted_judgement lim ed s m r.holds.known j.2 j.0 (of_room lim (table_weight s) m (subst (λ (k : ℕ). Room lim k m) w room))
          ∙ sym r.accepts

  answered_again : (s : List ℕ) → Bytes s → (l m : Lent) → ¬ ((simplified lim ed s l).answer.number ≡ 6)
      → Room lim (used_up s (simplified lim ed s l).answer) m → (simplified lim ed s m).answer ≡ (simplified lim ed s l).answer
  unfolding simplified simplified_by outcome_of
  answered_again s b l m h room = rw (judged_again s b l m h room)

  -- ---- an item and what is put in its place: what that weighs, and what it is answered
  placed : List ℕ → Lent → List ℕ
  placed s l = let g = simplified lim ed s l in cond (is_done g.answer) (result g) s

  counted : List ℕ → Answer → ℕ
  counted s x = cond (is_done x) x.weight_out (used_up s x)

  second : Answer → Answer
  second x = cond (is_done x) (again x) x

  again_done : (x y : Answer) → y ≡ again x → is_done y ≡ true
  unfolding is_done again
  again_done x y e = rw e

  record Kept (s : List ℕ) (l : Lent) (m : Lent) : Type 0 where
    bytes : Bytes (placed s l)
    same : (simplified lim ed (placed s l) m).answer ≡ second (simplified lim ed s l).answer
    used : used_up (placed s l) (simplified lim ed (placed s l) m).answer ≡ counted s (simplified lim ed s l).answer
    stays : placed (placed s l) m ≡ placed s l

  kept : (s : List ℕ) → Bytes s → (l : Lent) → ¬ ((simplified lim ed s l).answer.number ≡ 6) → (m : Lent)
      → Room lim (counted s (simplified lim ed s l).answer) m → Kept s l m
  unfolding placed counted second again
  kept s b l h m room = go (is_done (simplified lim ed s l).answer) refl room
    where
      g : Given
      g = simplified lim ed s l

      go : (c : Bool) → is_done g.answer ≡ c → Room lim (cond c g.answer.weight_out (used_up s g.answer)) m → Kept s l m
      go true e room =
          let r = result g in
          let d = left lim ed s b l (done_number g.answer e) in
          let t = takeover lim ed s b l (done_number g.answer e) m room in
          let z : (simplified lim ed r m).answer.number ≡ 0 = ap (λ (x : Answer). x.number) t.same_answer in
          record {
            bytes = rw e d.bytes;
            same = rw e t.same_answer;
            used = rw e ((left lim ed r d.bytes m z).used ∙ d.weighs);
            stays = rw (e, again_done g.answer (simplified lim ed r m).answer t.same_answer) t.same_bytes;
          }
      go false e room =
          let same = answered_again s b l m h room in
          record {
            bytes = rw e b;
            same = rw e same;
            used = rw e (ap (used_up s) same);
            stays = rw (e, ap is_done same ∙ e) refl;
          }

  placed_long : (n : ℕ) (s : List ℕ) → Bytes s → n ≤ length s → (l : Lent) → let x = (simplified lim ed (take n s) l).answer in
      length (placed (take n s) l) ≡ cond (is_done x) (16 * x.records_written) n
  unfolding placed
  placed_long n s b h l = go (is_done g.answer) refl
    where
      g : Given
      g = simplified lim ed (take n s) l

      go : (c : Bool) → is_done g.answer ≡ c → length (cond c (result g) (take n s)) ≡ cond c (16 * g.answer.records_written) n
      go true e = (left lim ed (take n s) (take_bytes n s b) l (done_number g.answer e)).long
      go false e = length-take-le n s h

  placed_bytes : (s : List ℕ) → Bytes s → (l : Lent) → Bytes (placed s l)
  unfolding placed
  placed_bytes s b l = go (is_done (simplified lim ed s l).answer) refl
    where
      go : (c : Bool) → is_done (simplified lim ed s l).answer ≡ c → Bytes (cond c (result (simplified lim ed s l)) s)
      go true e = (left lim ed s b l (done_number _ e)).bytes
      go false e = b

  -- ---- what is restored of a site: of the item in front what is put in its place, and then what is restored of the others
  first_whole : (n : ℕ) (ns s : List ℕ) → Bytes (take n s) → (l : Lent)
      → let x = in_turn (simplified lim ed) ns (drop n s) (handed_on (simplified lim ed) n s l) in
      restored_whole (n ∷ ns) s (in_turn (simplified lim ed) (n ∷ ns) s l).answers (in_turn (simplified lim ed) (n ∷ ns) s l).lent.out
      ≡ placed (take n s) l ++ restored_whole ns (drop n s) x.answers x.lent.out
  unfolding restored_whole in_turn placed
  first_whole n ns s b l =
      let x = in_turn (simplified lim ed) ns (drop n s) (handed_on (simplified lim ed) n s l) in
      ap₂ (λ (p q : List ℕ). p ++ restored_whole ns (drop n s) x.answers q) (go (is_done (simplified lim ed (take n s) l).answer) refl)
      (rest_behind lim ed n ns s b l)
    where
      go : (c : Bool) → let g = simplified lim ed (take n s) l in
          is_done g.answer ≡ c
          → cond c (take (16 * g.answer.records_written) (in_turn (simplified lim ed) (n ∷ ns) s l).lent.out) (take n s) ≡ cond c (result g) (take n s)
      go true e = result_in_front lim ed n ns s b l e
      go false e = refl

  -- ---- a site that begins with the table p, of k bytes: p is answered first, and the others have what it leaves
  leaves : List ℕ → Lent → Lent
  leaves p m = remaining (used_up p (simplified lim ed p m).answer) (simplified lim ed p m).lent

  module _ (k : ℕ) (ms p t : List ℕ) (e : length p ≡ k) (m : Lent) where
    answered_first : (in_turn (simplified lim ed) (k ∷ ms) (p ++ t) m).answers
        ≡ (simplified lim ed p m).answer ∷ (in_turn (simplified lim ed) ms t (leaves p m)).answers
    unfolding in_turn handed_on first_uses leaves
    answered_first = rw (take_at p t k e, drop_at p t k e)

    restored_first : Bytes p → let x = in_turn (simplified lim ed) (k ∷ ms) (p ++ t) m in
        let y = in_turn (simplified lim ed) ms t (leaves p m) in
        restored_whole (k ∷ ms) (p ++ t) x.answers x.lent.out ≡ placed p m ++ restored_whole ms t y.answers y.lent.out
    unfolding handed_on first_uses leaves
    restored_first b =
        first_whole k ms (p ++ t) (subst Bytes (sym (take_at p t k e)) b) m
        ∙ rw (take_at p t k e, drop_at p t k e) refl

  second_long : (n : ℕ) (x : Answer) → let k = cond (is_done x) (16 * x.records_written) n in
      cond (is_done (second x)) (16 * (second x).records_written) k ≡ k
  unfolding second is_done again
  second_long n x = go (is_done x) refl
    where
      go : (c : Bool) → is_done x ≡ c → let k = cond c (16 * x.records_written) n in
          let y : Answer = cond c (again x) x in
          cond (is_done y) (16 * y.records_written) k ≡ k
      go true e = refl
      go false e = rw e

  -- an item in front of a site that repeats
  front : (n : ℕ) (s : List ℕ) (l m : Lent) → Kept s l m → let x = (simplified lim ed s l).answer in
      let k = cond (is_done x) (16 * x.records_written) n in
      length (placed s l) ≡ k → (xs : List Answer) (ms t : List ℕ) → RepeatsWhole xs ms t (in_turn (simplified lim ed) ms t (leaves (placed s l) m))
      → RepeatsWhole (x ∷ xs) (k ∷ ms) (placed s l ++ t) (in_turn (simplified lim ed) (k ∷ ms) (placed s l ++ t) m)
  unfolding again_in_place whole_lengths second
  front n s l m kept long xs ms t others =
      let x = (simplified lim ed s l).answer in
      let k = cond (is_done x) (16 * x.records_written) n in
      let p = placed s l in
      let first = answered_first k ms p t long m in
      record {
        same_answers = first ∙ ap₂ (λ (y : Answer) (ys : List Answer). y ∷ ys) kept.same others.same_answers;
        same_tables = restored_first k ms p t long m kept.bytes ∙ ap₂ (λ (q r : List ℕ). q ++ r) kept.stays others.same_tables;
        same_lengths =
            ap (whole_lengths (k ∷ ms)) first
            ∙ ap₂ (λ (j : ℕ) (js : List ℕ). j ∷ js)
            (ap (λ (y : Answer). cond (is_done y) (16 * y.records_written) k) kept.same ∙ second_long n x) others.same_lengths;
      }

  -- ---- what is restored is bytes, as many as its lengths add up to, and as many items
  whole_adds_up : (ns s : List ℕ) → Bytes s → total ns ≡ length s → (l : Lent) → let x = in_turn (simplified lim ed) ns s l in
      (total (whole_lengths ns x.answers) ≡ length (restored_whole ns s x.answers x.lent.out)) × (length (whole_lengths ns x.answers) ≡ length ns)
  unfolding in_turn whole_lengths restored_whole total
  whole_adds_up [] s b a l = (refl, refl)
  whole_adds_up (n ∷ ns) s b a l =
      let on = handed_on (simplified lim ed) n s l in
      let x = in_turn (simplified lim ed) ns (drop n s) on in
      let t = restored_whole ns (drop n s) x.answers x.lent.out in
      let ih = whole_adds_up ns (drop n s) (drop_bytes n s b) (simp length-drop (omega arith)) on in
      let long = placed_long n s b (omega arith) l in (
        omega (arith, ih.0, long, length-append (placed (take n s) l) t) ∙ ap length (sym (first_whole n ns s (take_bytes n s b) l)),
        ap suc ih.1,
      )

  pub whole_bytes : (ns s : List ℕ) → Bytes s → (l : Lent) → let x = in_turn (simplified lim ed) ns s l in Bytes (restored_whole ns s x.answers x.lent.out)
  unfolding in_turn restored_whole
  whole_bytes [] s b l = tt
  whole_bytes (n ∷ ns) s b l =
      subst Bytes (sym (first_whole n ns s (take_bytes n s b) l))
      (append_bytes (placed (take n s) l) _ (placed_bytes (take n s) (take_bytes n s b) l)
      (whole_bytes ns (drop n s) (drop_bytes n s b) (handed_on (simplified lim ed) n s l)))

  pub results_bytes : (ns s : List ℕ) → Bytes s → (l : Lent) → let x = in_turn (simplified lim ed) ns s l in Bytes (restored ns s x.answers x.lent.out)
  unfolding in_turn restored
  results_bytes [] s b l = tt
  results_bytes (n ∷ ns) s b l =
      subst Bytes (sym (first_restored lim ed n ns s (take_bytes n s b) l))
      (append_bytes (cond (is_done g.answer) (result g) []) _ (go (is_done g.answer) refl)
      (results_bytes ns (drop n s) (drop_bytes n s b) (handed_on (simplified lim ed) n s l)))
    where
      g : Given
      g = simplified lim ed (take n s) l

      go : (c : Bool) → is_done g.answer ≡ c → Bytes (cond c (result g) [])
      go true e = (left lim ed (take n s) (take_bytes n s b) l (done_number _ e)).bytes
      go false e = tt

  -- ---- what is restored uses up no more than the first site did, which was lent as much
  counted_least : (s : List ℕ) → Bytes s → (l : Lent) → let x = (simplified lim ed s l).answer in counted s x ≤ used_up s x
  unfolding counted
  counted_least s b l = go (is_done (simplified lim ed s l).answer) refl
    where
      go : (c : Bool) → let x = (simplified lim ed s l).answer in is_done x ≡ c → cond c x.weight_out (used_up s x) ≤ used_up s x
      go true e = let d = left lim ed s b l (done_number (simplified lim ed s l).answer e) in omega (arith, d.lighter, d.used)
      go false e = omega arith

  least_room : (ns s : List ℕ) → Bytes s → (l : Lent) → let w = whole_weight ns s (in_turn (simplified lim ed) ns s l).answers in
      (16 * w ≤ length l.out) × (w ≤ length l.steps)
  unfolding in_turn whole_weight handed_on first_uses remaining counted
  least_room [] s b l = (omega arith, omega arith)
  least_room (n ∷ ns) s b l =
      let o = simplified_orderly lim ed (take n s) (take_bytes n s b) l in
      let c = counted_least (take n s) (take_bytes n s b) l in
      let rest = simp length-drop at (least_room ns (drop n s) (drop_bytes n s b) (handed_on (simplified lim ed) n s l)) in
      (omega (arith, c, rest.0, o.out_kept, o.out_fits), omega (arith, c, rest.1, o.steps_kept, o.steps_fit))

-- a site restored whole
pub site_restored_whole : (lim ed : ℕ) → SiteRestored lim ed
unfolding in_turn restored_whole whole_lengths whole_weight again_in_place total counted leaves
site_restored_whole lim ed [] s b a l m none-6 room = record { same_answers = refl; same_tables = refl; same_lengths = refl }
site_restored_whole lim ed (n ∷ ns) s b a l m none-6 room =
    let f = simplified lim ed in
    let on = handed_on f n s l in
    let x = (f (take n s) l).answer in
    let y = in_turn f ns (drop n s) on in
    let v = whole_weight ns (drop n s) y.answers in
    let ms = whole_lengths ns y.answers in
    let t = restored_whole ns (drop n s) y.answers y.lent.out in
    let p = placed lim ed (take n s) l in
    let k = cond (is_done x) (16 * x.records_written) n in
    let own : Room lim (counted lim ed (take n s) x) m =
    record { out_room = omega (arith, room.out_room); steps_room = omega (arith, room.steps_room); work_room = room.work_room } in
    let one = kept lim ed (take n s) (take_bytes n s b) l none-6.0 m own in
    let rest_room = room_behind lim ed p one.bytes m v (subst (λ (w : ℕ). Room lim (w + v) m) (sym one.used) room) in
    let others = site_restored_whole lim ed ns (drop n s) (drop_bytes n s b) (simp length-drop (omega arith)) on (leaves lim ed p m) none-6.1 rest_room in
    subst (λ (q : List ℕ). RepeatsWhole (x ∷ y.answers) (k ∷ ms) q (in_turn f (k ∷ ms) q m)) (sym (first_whole lim ed n ns s (take_bytes n s b) l))
    (front lim ed n (take n s) l m one (placed_long lim ed n s b (omega arith) l) y.answers ms t others)

pub as_long : (lim ed : ℕ) → AsLong lim ed
as_long lim ed ns s b l m o k w =
    let r = least_room lim ed ns s b l in
    record { out_room = omega (arith, r.0); steps_room = omega (arith, r.1); work_room = w }

swaps_by : (lim ed : ℕ) → SiteRestored lim ed → SwapsAgain lim ed
swaps_by lim ed restores ns s b a l m m' none-6 room room' =
    let once = restores ns s b a l m none-6 room in
    let twice = restores ns s b a l m' none-6 room' in
    ap₂ (λ (ms t : List ℕ). (in_turn (simplified lim ed) ms t m').answers) once.same_lengths once.same_tables
    ∙ twice.same_answers ∙ sym once.same_answers

pub swaps_again : (lim ed : ℕ) → SwapsAgain lim ed
swaps_again lim ed = swaps_by lim ed (site_restored_whole lim ed)

-- ---- 8 of a second call, with no more items than the first
pub record Fit (lim ed : ℕ) (tables ns : List ℕ) : Type 0 where
  pub known : is_limit lim ≡ true
  pub edition_known : is_edition ed ≡ true
  pub few : length ns ≤ 200
  pub adds_up : total ns ≡ length tables

pub fit : (lim ed : ℕ) (tables lengths answers : List ℕ) → site_number lim ed tables lengths answers ≡ 0 → Fit lim ed tables (lengths_in lengths)
unfolding site_number turns_down unfit
fit lim ed tables lengths answers e =
    let ns = lengths_in lengths in
    let u = passed (is_limit lim) (is_edition ed) (turns_down tables lengths answers) e in
    let x = (or_neither (not (eqb (length lengths % 8) 0)) _ u.2).1 in
    let y = or_neither (ltb 200 (length ns)) _ x in
    let z = or_neither (not (eqb (total ns) (length tables))) _ y.1 in
    record {
      known = u.0;
      edition_known = u.1;
      few = ltb-false 200 (length ns) y.0;
      adds_up = eqb-true (total ns) (length tables) (not-false (eqb (total ns) (length tables)) z.0);
    }
  where
    passed : (a b c : Bool) → ◌≡◌ {A = ℕ} (cond a (cond b (cond c 8 0) 9) 19) 0 → (a ≡ true) × (b ≡ true) × (c ≡ false)
    passed true true true e = absurd (omega arith)
    passed true true false e = (refl, refl, refl)
    passed true false c e = absurd (omega arith)
    passed false b c e = absurd (omega arith)

fits_again : (lim ed : ℕ) (tables ns : List ℕ) → Fit lim ed tables ns → (t ls places : List ℕ) → length ls % 8 ≡ 0
    → total (lengths_in ls) ≡ length t → length (lengths_in ls) ≤ length ns → 80 * length (lengths_in ls) ≤ length places → site_number lim ed t ls places ≡ 0
unfolding site_number turns_down unfit
fits_again lim ed tables ns h t ls places whole adds fewer room =
    rw (
      h.known,
      h.edition_known,
      whole,
      le-ltb 200 (length (lengths_in ls)) (omega (arith, h.few)),
      eq-eqb (total (lengths_in ls)) (length t) adds,
      le-ltb (length places / 80) (length (lengths_in ls)) (omega arith),
    )

pub results_pass : (lim ed : ℕ) → ResultsPass lim ed
results_pass lim ed tables lengths answers b e l ls places whole q room =
    let ns = lengths_in lengths in
    let up = restored_adds_up lim ed ns tables b l in
    fits_again lim ed tables ns (fit lim ed tables lengths answers e) _ ls places whole (ap total q ∙ up.0)
    (omega (arith, ap length q, up.1)) (omega (arith, ap length q, room))

pub whole_passes : (lim ed : ℕ) → WholePasses lim ed
whole_passes lim ed tables lengths answers b e l ls places whole q room =
    let ns = lengths_in lengths in
    let h = fit lim ed tables lengths answers e in
    let up = whole_adds_up lim ed ns tables b h.adds_up l in
    fits_again lim ed tables ns h _ ls places whole (ap total q ∙ up.0) (omega (arith, ap length q, up.1)) (omega (arith, ap length q, room))
