-- A whole site, restored: what the items left in `out` are the results of their separate calls, one behind the other, so of a second site whose
-- tables they are each item is paper's takeover, and leaves the same bytes in turn. By induction on the items; an item that is refused
-- leaves nothing to restore.
use Prim.Native.Nat.{ℕ, suc, ◌+◌, ◌*◌, ◌≤◌}
use mathlib.Core.Path.{◌≡◌, refl, sym, ap, ap₂, ◌∙◌, subst}
use mathlib.Core.Bool.{Bool, true, false, cond}
use mathlib.Core.List.{List, [], ◌∷◌, ◌++◌}
use native.Mathlib.Omega.{arith}
use borrow.Author.Tests.{eqb-true}
use lib.ListN.{length, take, drop, length-drop, length-append}
use lib.Seq.{length-take-le, take-append-le, take-take, take_at, drop_at}
use Rattle.paper.specs.Bytes.{Bytes}
use Rattle.paper.specs.Tree.{weight, records}
use Rattle.paper.specs.Verdict.{table_weight}
use Rattle.paper.specs.Driver.{done}
use Rattle.paper.specs.Answers.{Lent, Answer, Given, ran_answer, simplified}
use Rattle.paper.specs.Demands.{result}
use Rattle.paper.specs.Takeover.{Room, again, Repeats}
use Rattle.paper.proofs.BytesLaws.{take_bytes, drop_bytes}
use Rattle.paper.proofs.EncodeLaws.{encode_length, encode_bytes}
use Rattle.paper.proofs.TableLaws.{encode_weight}
use Rattle.paper.proofs.DemandLaws.{call_done}
use Rattle.paper.proofs.Takeover.{takeover}
use Rattle.paper_batch.specs.Batch.{used_up, remaining, in_front, first_uses, handed_on, Site, in_turn, total}
use Rattle.paper_batch.proofs.Orderly.{simplified_orderly, uses_run}
use Rattle.paper_takeover.specs.TakenOver.{is_done, restored, restored_lengths, restored_weight, again_each, SiteRepeats, SiteTakesOver}

pub done_number : (x : Answer) → is_done x ≡ true → x.number ≡ 0
unfolding is_done
done_number x e = eqb-true x.number 0 e

module _ (lim ed : ℕ) where
  -- ---- an item that is done: what it used up, and its result, which stands within that and is bytes again
  pub record Left (s : List ℕ) (l : Lent) : Type 0 where
    pub used : used_up s (simplified lim ed s l).answer ≡ table_weight s
    pub within : 16 * (simplified lim ed s l).answer.records_written ≤ 16 * table_weight s
    pub long : length (result (simplified lim ed s l)) ≡ 16 * (simplified lim ed s l).answer.records_written
    pub weighs : table_weight (result (simplified lim ed s l)) ≡ (simplified lim ed s l).answer.weight_out
    pub bytes : Bytes (result (simplified lim ed s l))
    pub lighter : (simplified lim ed s l).answer.weight_out ≤ table_weight s

  pub left : (s : List ℕ) → Bytes s → (l : Lent) → (simplified lim ed s l).answer.number ≡ 0 → Left s l
  unfolding ran_answer
  left s b l e =
      let d = call_done lim ed s b l e in
      let u = d.tree_out in
      let w = weight d.holds.tree in
      let recs : (simplified lim ed s l).answer.records_written ≡ records u = ap (λ (x : Answer). x.records_written) d.answer in
      let out : (simplified lim ed s l).answer.weight_out ≡ weight u = ap (λ (x : Answer). x.weight_out) d.answer in
      let k = encode_length u in
      record {
        used = ap (used_up s) d.answer ∙ uses_run s w (done u d.steps d.opened d.tries);
        within = omega (arith, recs, d.holds.weighs, d.finished.out_suffices, k);
        long = ap length d.written_bytes ∙ omega (arith, recs, k);
        weighs = ap table_weight d.written_bytes ∙ encode_weight u ∙ sym out;
        bytes = subst Bytes (sym d.written_bytes) (encode_bytes u);
        lighter = omega (arith, out, d.holds.weighs, d.finished.lightens);
      }

  -- ---- the item in front of a site: its result, if it is done, begins `out`, and past what it used up stands what the others leave
  module _ (n : ℕ) (ns s : List ℕ) (b : Bytes (take n s)) (l : Lent) where
    item : Given
    item = simplified lim ed (take n s) l

    w : ℕ
    w = used_up (take n s) item.answer

    behind : List ℕ
    behind = (in_turn (simplified lim ed) ns (drop n s) (handed_on (simplified lim ed) n s l)).lent.out

    stands : length (take (16 * w) item.lent.out) ≡ 16 * w
    unfolding w item
    stands = let o = simplified_orderly lim ed (take n s) b l in length-take-le (16 * w) item.lent.out (omega (arith, o.out_fits, o.out_kept))

    pub rest_behind : drop (16 * used_up (take n s) (simplified lim ed (take n s) l).answer) (in_turn (simplified lim ed) (n ∷ ns) s l).lent.out
        ≡ (in_turn (simplified lim ed) ns (drop n s) (handed_on (simplified lim ed) n s l)).lent.out
    unfolding in_turn in_front first_uses item w behind
    rest_behind = drop_at (take (16 * w) item.lent.out) behind (16 * w) stands

    pub result_in_front : is_done (simplified lim ed (take n s) l).answer ≡ true
        → take (16 * (simplified lim ed (take n s) l).answer.records_written) (in_turn (simplified lim ed) (n ∷ ns) s l).lent.out
        ≡ result (simplified lim ed (take n s) l)
    unfolding in_turn in_front first_uses result item w behind
    result_in_front e =
        let d = left (take n s) b l (done_number item.answer e) in
        let r = 16 * item.answer.records_written in
        let k : r ≤ 16 * w = omega (arith, d.within, d.used) in
        take-append-le r (take (16 * w) item.lent.out) behind (omega (arith, k, stands)) ∙ take-take r (16 * w) item.lent.out k

  -- ---- what is restored of a site: of the item in front its result, if it is done, and then what is restored of the others
  pub first_restored : (n : ℕ) (ns s : List ℕ) → Bytes (take n s) → (l : Lent)
      → let g = simplified lim ed (take n s) l in
      let x = in_turn (simplified lim ed) ns (drop n s) (handed_on (simplified lim ed) n s l) in
      restored (n ∷ ns) s (in_turn (simplified lim ed) (n ∷ ns) s l).answers (in_turn (simplified lim ed) (n ∷ ns) s l).lent.out
      ≡ cond (is_done g.answer) (result g) [] ++ restored ns (drop n s) x.answers x.lent.out
  unfolding restored in_turn
  first_restored n ns s b l =
      let x = in_turn (simplified lim ed) ns (drop n s) (handed_on (simplified lim ed) n s l) in
      ap₂ (λ (p q : List ℕ). p ++ restored ns (drop n s) x.answers q) (go (is_done (simplified lim ed (take n s) l).answer) refl) (rest_behind n ns s b l)
    where
      go : (c : Bool) → let g = simplified lim ed (take n s) l in
          is_done g.answer ≡ c
          → cond c (take (16 * g.answer.records_written) (in_turn (simplified lim ed) (n ∷ ns) s l).lent.out) [] ≡ cond c (result g) []
      go true e = result_in_front n ns s b l e
      go false e = refl

  -- ---- room for what an item uses up and for more is room for that behind it
  pub room_behind : (p : List ℕ) → Bytes p → (m : Lent) (v : ℕ) → Room lim (used_up p (simplified lim ed p m).answer + v) m
      → Room lim v (remaining (used_up p (simplified lim ed p m).answer) (simplified lim ed p m).lent)
  unfolding remaining
  room_behind p b m v room =
      let o = simplified_orderly lim ed p b m in
      record {
        out_room = simp length-drop (omega (arith, room.out_room, o.out_kept));
        steps_room = simp length-drop (omega (arith, room.steps_room, o.steps_kept));
        work_room = omega (arith, room.work_room, o.work_kept);
      }

  -- ---- room for all is room for the item in front, and for the others behind it
  module _ (s : List ℕ) (b : Bytes s) (l : Lent) (e : (simplified lim ed s l).answer.number ≡ 0) (v : ℕ) (m : Lent)
      (room : Room lim ((simplified lim ed s l).answer.weight_out + v) m) where
    r : List ℕ
    r = result (simplified lim ed s l)

    own_room : Room lim (simplified lim ed s l).answer.weight_out m
    own_room = record { out_room = omega (arith, room.out_room); steps_room = omega (arith, room.steps_room); work_room = room.work_room }

    second : Repeats (simplified lim ed s l) (simplified lim ed r m)
    unfolding r
    second = takeover lim ed s b l e m own_room

    second_done : (simplified lim ed r m).answer.number ≡ 0
    unfolding again
    second_done = ap (λ (x : Answer). x.number) second.same_answer

    rest_room : Room lim v (remaining (used_up r (simplified lim ed r m).answer) (simplified lim ed r m).lent)
    unfolding r
    rest_room =
        let d = left s b l e in
        let w : used_up r (simplified lim ed r m).answer ≡ (simplified lim ed s l).answer.weight_out = (left r d.bytes m second_done).used ∙ d.weighs in
        room_behind r d.bytes m v (subst (λ (k : ℕ). Room lim (k + v) m) (sym w) room)

  -- ---- a site with a result in front
  module _ (s : List ℕ) (b : Bytes s) (l : Lent) (e : (simplified lim ed s l).answer.number ≡ 0) (xs : List Answer) (ms t : List ℕ)
      (rest : (m : Lent) → Room lim (restored_weight xs) m → SiteRepeats lim ed xs ms t m) where
    g : Given
    g = simplified lim ed s l

    k : ℕ
    k = 16 * g.answer.records_written

    whole : List ℕ
    whole = result g ++ t

    takes : take k whole ≡ result g
    unfolding g k whole
    takes = take_at (result g) t k (left s b l e).long

    drops : drop k whole ≡ t
    unfolding g k whole
    drops = drop_at (result g) t k (left s b l e).long

    module _ (m : Lent) (room : Room lim (g.answer.weight_out + restored_weight xs) m) where
      on : Lent
      on = handed_on (simplified lim ed) k whole m

      others : SiteRepeats lim ed xs ms (drop k whole) on
      unfolding g on handed_on first_uses r
      others =
          let on_room : Room lim (restored_weight xs) on =
          subst (λ (p : List ℕ). Room lim (restored_weight xs) (remaining (used_up p (simplified lim ed p m).answer) (simplified lim ed p m).lent)) (sym takes)
          (rest_room s b l e (restored_weight xs) m room) in
          subst (λ (p : List ℕ). SiteRepeats lim ed xs ms p on) (sym drops) (rest on on_room)

      own : Repeats g (simplified lim ed (take k whole) m)
      unfolding g r
      own = subst (λ (p : List ℕ). Repeats g (simplified lim ed p m)) (sym takes) (second s b l e (restored_weight xs) m room)

      is_done_lem : is_done (simplified lim ed (take k whole) m).answer ≡ true
      unfolding is_done again
      is_done_lem = rw own.same_answer

      front_bytes : Bytes (take k whole)
      unfolding g
      front_bytes = subst Bytes (sym takes) (left s b l e).bytes

      in_front_lem : is_done g.answer ≡ true → SiteRepeats lim ed (g.answer ∷ xs) (k ∷ ms) whole m
      unfolding in_turn again_each on whole
      in_front_lem d =
          let x = in_turn (simplified lim ed) ms (drop k whole) on in
          record {
            same_answers = rw d (ap₂ (λ (p : Answer) (q : List Answer). p ∷ q) own.same_answer others.same_answers);
            same_bytes =
                first_restored k ms whole front_bytes m
                ∙ ap (λ (c : Bool). cond c (result (simplified lim ed (take k whole) m)) [] ++ restored ms (drop k whole) x.answers x.lent.out) is_done_lem
                ∙ ap₂ (λ (p q : List ℕ). p ++ q) own.same_bytes (others.same_bytes ∙ drops);
          }

  -- ---- the item in front, done or not, and the others, of which it is known
  module _ (n : ℕ) (ns s : List ℕ) (b : Bytes s) (l : Lent) where
    first : Given
    first = simplified lim ed (take n s) l

    later : Site
    later = in_turn (simplified lim ed) ns (drop n s) (handed_on (simplified lim ed) n s l)

    tables : List ℕ
    tables = restored ns (drop n s) later.answers later.lent.out

    with_first_lem : ((m : Lent) → Room lim (restored_weight later.answers) m → SiteRepeats lim ed later.answers (restored_lengths later.answers) tables m)
        → (m : Lent) → Room lim (restored_weight (first.answer ∷ later.answers)) m
        → SiteRepeats lim ed (first.answer ∷ later.answers) (restored_lengths (first.answer ∷ later.answers))
        (cond (is_done first.answer) (result first) [] ++ tables) m
    unfolding restored_weight restored_lengths again_each first g k whole
    with_first_lem rest m room = go (is_done first.answer) refl room
      where
        go : (c : Bool) → is_done first.answer ≡ c → Room lim (cond c first.answer.weight_out 0 + restored_weight later.answers) m
            → SiteRepeats lim ed (first.answer ∷ later.answers)
            (cond c (16 * first.answer.records_written ∷ restored_lengths later.answers) (restored_lengths later.answers))
            (cond c (result first) [] ++ tables) m
        go true e room =
            in_front_lem (take n s) (take_bytes n s b) l (done_number first.answer e) later.answers (restored_lengths later.answers) tables rest m room e
        go false e room =
            let h = rest m (record { out_room = omega (arith, room.out_room); steps_room = omega (arith, room.steps_room); work_room = room.work_room }) in
            record { same_answers = rw e h.same_answers; same_bytes = h.same_bytes }

-- a whole site takes over
pub site_takes_over : (lim ed : ℕ) → SiteTakesOver lim ed
unfolding in_turn restored restored_lengths again_each first later tables
site_takes_over lim ed [] s b l m room = record { same_answers = refl; same_bytes = refl }
site_takes_over lim ed (n ∷ ns) s b l m room =
    let f = simplified lim ed in
    let x = in_turn f (n ∷ ns) s l in
    subst (λ (t : List ℕ). SiteRepeats lim ed x.answers (restored_lengths x.answers) t m) (sym (first_restored lim ed n ns s (take_bytes n s b) l))
    (with_first_lem lim ed n ns s b l (λ m h. site_takes_over lim ed ns (drop n s) (drop_bytes n s b) (handed_on f n s l) m h) m room)

-- what is restored is a site that 8 does not refuse, given a place for each answer: its lengths add up to its bytes, and it has no more items
module _ (lim ed : ℕ) where
  pub restored_adds_up : (ns s : List ℕ) → Bytes s → (l : Lent) → let x = in_turn (simplified lim ed) ns s l in
      (total (restored_lengths x.answers) ≡ length (restored ns s x.answers x.lent.out)) × (length (restored_lengths x.answers) ≤ length ns)
  unfolding in_turn restored restored_lengths total
  restored_adds_up [] s b l = (refl, omega arith)
  restored_adds_up (n ∷ ns) s b l =
      let f = simplified lim ed in
      let ih = restored_adds_up ns (drop n s) (drop_bytes n s b) (handed_on f n s l) in
      (adds ih (is_done g.answer) refl ∙ ap length (sym (first_restored lim ed n ns s (take_bytes n s b) l)), fewer ih (is_done g.answer))
    where
      g : Given
      g = simplified lim ed (take n s) l

      x : Site
      x = in_turn (simplified lim ed) ns (drop n s) (handed_on (simplified lim ed) n s l)

      rest : List ℕ
      rest = restored ns (drop n s) x.answers x.lent.out

      Ih : Type 0
      Ih = (total (restored_lengths x.answers) ≡ length rest) × (length (restored_lengths x.answers) ≤ length ns)

      adds : Ih → (c : Bool) → is_done g.answer ≡ c
          → total (cond c (16 * g.answer.records_written ∷ restored_lengths x.answers) (restored_lengths x.answers))
          ≡ length (cond c (result g) [] ++ rest)
      adds ih true e =
          let d = left lim ed (take n s) (take_bytes n s b) l (done_number g.answer e) in
          simp length-append (omega (arith, d.long, ih.0))
      adds ih false e = ih.0

      fewer : Ih → (c : Bool)
          → length (cond c (16 * g.answer.records_written ∷ restored_lengths x.answers) (restored_lengths x.answers)) ≤ suc (length ns)
      fewer ih true = omega (arith, ih.1)
      fewer ih false = omega (arith, ih.1)
