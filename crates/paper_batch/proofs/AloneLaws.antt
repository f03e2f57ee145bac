-- With room for all, each answer is that of a call on the item alone: an answer depends on the areas only by whether they are too short for its
-- table, and no item uses up more than its table weighs.
use Prim.Native.Nat.{ℕ, zero, suc, ◌<◌}
use mathlib.Core.Path.{◌≡◌, refl, sym, ap, ◌∙◌}
use mathlib.Core.Bool.{Bool, true, false, cond}
use mathlib.Core.List.{List, [], ◌∷◌}
use native.Mathlib.Omega.{arith}
use lib.ListN.{length, get_or, take, drop, length-drop}
use Rattle.paper.specs.Limits.{is_limit}
use Rattle.paper.specs.Bytes.{Bytes}
use Rattle.paper.specs.Verdict.{Verdict, accepted, refused, is_accepted, table_weight, verdict}
use Rattle.paper.specs.Table.{tree_of}
use Rattle.paper.specs.Rules.{is_edition, rules_of}
use Rattle.paper.specs.Driver.{simplify}
use Rattle.paper.specs.Answers.{Lent, Answer, cramped, judged_call, judgement, turned_down, run_on, answer_of, outcome_of, simplified_by, simplified}
use Rattle.paper.specs.Takeover.{Room}
use Rattle.paper.proofs.BytesLaws.{take_bytes, drop_bytes}
use Rattle.paper.proofs.JudgementLaws.{of_room}
use Rattle.paper_batch.specs.Batch.{remaining, first_uses, handed_on, in_turn}
use Rattle.paper_batch.specs.Sentences.{item, weight_if, site_weight, RoomForAll}
use Rattle.paper_batch.proofs.Orderly.{simplified_orderly, uses_at_most}

module _ (lim ed : ℕ) where
  -- an answer depends on the areas only by whether they are too short
  answer_by_room : (s : List ℕ) (l m : Lent) → (is_accepted (verdict lim s) ≡ true → cramped lim (table_weight s) l ≡ cramped lim (table_weight s) m)
      → (simplified lim ed s l).answer ≡ (simplified lim ed s m).answer
  unfolding simplified simplified_by outcome_of judgement judged_call
  answer_by_room s l m h = ap answer (go (is_accepted (verdict lim s)) h)
    where
      answer : Verdict → Answer
      answer v =
          let j : Verdict = cond (is_limit lim) (cond (is_edition ed) v (refused 9 0)) (refused 19 0) in
          answer_of (cond (is_accepted j) (run_on (simplify (rules_of ed)) (table_weight s) (tree_of s)) (turned_down j))

      go : (b : Bool) → (b ≡ true → cramped lim (table_weight s) l ≡ cramped lim (table_weight s) m)
          → cond b (cond (cramped lim (table_weight s) l) (refused 6 0) accepted) (verdict lim s)
          ≡ cond b (cond (cramped lim (table_weight s) m) (refused 6 0) accepted) (verdict lim s)
      go true h = rw (h refl)
      go false h = refl

  -- what the item in front leaves is room for the later ones
  room_on : (n : ℕ) (ns s : List ℕ) → Bytes s → (l : Lent) → RoomForAll lim (n ∷ ns) s l → RoomForAll lim ns (drop n s) (handed_on (simplified lim ed) n s l)
  unfolding site_weight handed_on remaining first_uses
  room_on n ns s b l r =
      let o = simplified_orderly lim ed (take n s) (take_bytes n s b) l in
      let u = uses_at_most lim ed (take n s) (take_bytes n s b) l in
      record {
        out_room = simp length-drop (omega (arith, r.out_room, o.out_kept, u));
        steps_room = simp length-drop (omega (arith, r.steps_room, o.steps_kept, u));
        work_room = omega (arith, r.work_room, o.work_kept);
      }

  -- the item in front, with room for all, answers as with any room for itself
  first_alone : (n : ℕ) (ns s : List ℕ) (l : Lent) → RoomForAll lim (n ∷ ns) s l → (m : Lent)
      → (is_accepted (verdict lim (take n s)) ≡ true → Room lim (table_weight (take n s)) m)
      → (simplified lim ed (take n s) l).answer ≡ (simplified lim ed (take n s) m).answer
  unfolding site_weight weight_if
  first_alone n ns s l r m e =
      answer_by_room (take n s) l m
      (λ v. let w : cond (is_accepted (verdict lim (take n s))) (table_weight (take n s)) 0 ≡ table_weight (take n s) = rw v in
      let here : Room lim (table_weight (take n s)) l =
      record { out_room = omega (arith, w, r.out_room); steps_room = omega (arith, w, r.steps_room); work_room = r.work_room } in
      of_room lim (table_weight (take n s)) l here ∙ sym (of_room lim (table_weight (take n s)) m (e v)))

  -- "Every answer must be what separate calls would give": with room for all, each on its item alone, with any areas, but that
  -- those of an item that 1 to 5 do not refuse have room for it
  pub alone : (ns s : List ℕ) → Bytes s → (l : Lent) → RoomForAll lim ns s l → (i : ℕ) (d : Answer) → i < length ns
      → (m : Lent) → (is_accepted (verdict lim (item ns s i)) ≡ true → Room lim (table_weight (item ns s i)) m)
      → get_or (in_turn (simplified lim ed) ns s l).answers i d ≡ (simplified lim ed (item ns s i) m).answer
  unfolding in_turn item
  alone [] s b l r i d h m e = absurd (omega arith)
  alone (n ∷ ns) s b l r zero d h m e = first_alone n ns s l r m e
  alone (n ∷ ns) s b l r (suc i) d h m e =
      alone ns (drop n s) (drop_bytes n s b) (handed_on (simplified lim ed) n s l) (room_on n ns s b l r) i d (omega arith) m e
