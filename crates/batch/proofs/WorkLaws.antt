-- `work` between the items. No answer of the simplifier looks at what `work` holds: of it a call judges the length, and a run writes it before it
-- reads. So an item that is handed a `work` which the items before it did not clear answers, writes and uses up what it does with a clear one; and
-- once `work` is cleared, all is as if each item had cleared it.
use Prim.Native.Nat.{ℕ, zero, suc, ◌+◌, ◌-◌, ◌*◌, ◌≤◌}
use mathlib.Core.Path.{◌≡◌, refl, sym, ap, ◌∙◌}
use mathlib.Core.Bool.{Bool, true, false, cond, ◌||◌}
use mathlib.Core.List.{List, [], ◌++◌}
use native.Mathlib.Omega.{arith}
use lib.ListN.{length, drop, replicate, length-append, length-replicate, length-drop}
use lib.Dec.{ltb}
use Rattle.paper.specs.Limits.{is_limit, work_bytes}
use Rattle.paper.specs.Bytes.{Bytes, stretch}
use Rattle.paper.specs.Tree.{Tree}
use Rattle.paper.specs.Table.{tree_of}
use Rattle.paper.specs.Verdict.{Verdict, accepted, refused, is_accepted, table_weight, verdict}
use Rattle.paper.specs.Rules.{is_edition, rules_of}
use Rattle.paper.specs.Driver.{Ran, simplify}
use Rattle.paper.specs.Answers.{Answer, Outcome, turned_down, cramped, judged_call, judgement, run_on, outcome_of, answer_of, out_after, steps_after}
use Rattle.paper.specs.Answers.{lent_after, simplified_by, simplified}
use Rattle.paper.specs.Calls.{answer_numbers, eights}
use Rattle.stretch.specs.Put.{put}
use Rattle.simplify.specs.Answer.{lent}
use Rattle.simplify.proofs.Calling.{put_zeros}
use Rattle.paper_batch.specs.Batch.{place_bytes, has_run, used_up}
use Rattle.paper_batch.proofs.Orderly.{cleared_again, simplified_orderly, work_turn}
use Rattle.batch.specs.Turn.{Turn, turn, turned, cleared}

-- ---- no answer looks at what `work` holds
module _ (lim ed : ℕ) (s : List ℕ) (out steps work other : List ℕ) (long : length work ≡ length other) where
  cramped_alike : (w : ℕ) → cramped lim w (lent out steps work) ≡ cramped lim w (lent out steps other)
  unfolding cramped
  cramped_alike w = ap (λ n. ltb (length out) (16 * w) || ltb (length steps) w || ltb n (work_bytes lim)) long

  judged_alike : judgement lim ed s (lent out steps work) ≡ judgement lim ed s (lent out steps other)
  unfolding judgement judged_call
  judged_alike =
      ap
      (λ (b : Bool). cond (is_limit lim)
      (cond (is_edition ed) (cond (is_accepted (verdict lim s)) (cond b (refused 6 0) accepted) (verdict lim s)) (refused 9 0))
      (refused 19 0))
      (cramped_alike (table_weight s))

  outcome_alike : (run : Tree → Ran) → outcome_of lim ed run s (lent out steps work) ≡ outcome_of lim ed run s (lent out steps other)
  unfolding outcome_of
  outcome_alike run = ap (λ (v : Verdict). cond (is_accepted v) (run_on run (table_weight s) (tree_of s)) (turned_down v)) judged_alike

  pub answer_alike : (simplified lim ed s (lent out steps work)).answer ≡ (simplified lim ed s (lent out steps other)).answer
  unfolding simplified simplified_by
  answer_alike = ap answer_of (outcome_alike (simplify (rules_of ed)))

  pub out_alike : (simplified lim ed s (lent out steps work)).lent.out ≡ (simplified lim ed s (lent out steps other)).lent.out
  unfolding simplified simplified_by lent_after
  out_alike = ap (λ (x : Outcome). out_after x out) (outcome_alike (simplify (rules_of ed)))

  pub steps_alike : (simplified lim ed s (lent out steps work)).lent.steps ≡ (simplified lim ed s (lent out steps other)).lent.steps
  unfolding simplified simplified_by lent_after
  steps_alike = ap (λ (x : Outcome). steps_after x steps) (outcome_alike (simplify (rules_of ed)))

-- ---- clearing
clear_length : (n : ℕ) (d : List ℕ) → length (stretch n [] d) ≡ n + (length d - n)
unfolding stretch
clear_length n d = simp (length-append, length-replicate, length-drop) (omega arith)

-- what is cleared in between is not seen
cleared_through : (lim w : ℕ) (d : List ℕ) → stretch (work_bytes lim) [] (cleared lim w d) ≡ stretch (work_bytes lim) [] d
unfolding cleared
cleared_through lim zero d = refl
cleared_through lim (suc w) d = cleared_again (work_bytes lim) d

cond_through : (n : ℕ) (b : Bool) (d : List ℕ) → stretch n [] (cond b (stretch n [] d) d) ≡ stretch n [] d
cond_through n true d = cleared_again n d
cond_through n false d = refl

cond_clear : (n : ℕ) (b : Bool) (d : List ℕ) → cond b (stretch n [] (stretch n [] d)) (stretch n [] d) ≡ stretch n [] d
cond_clear n true d = cleared_again n d
cond_clear n false d = refl

-- cleared at the end, where some was used up
pub cleared_once : (lim used need : ℕ) (work work' : List ℕ) → 1 ≤ used → need ≡ work_bytes lim
    → work' ≡ put work 0 (replicate need 0) → work' ≡ cleared lim used work
unfolding cleared
cleared_once lim zero need work work' h asks e = absurd (omega arith)
cleared_once lim (suc used) need work work' h asks e = e ∙ put_zeros need work ∙ ap (λ i. stretch i [] work) asks

pub not_cleared : (lim used : ℕ) (work : List ℕ) → used ≤ 0 → work ≡ cleared lim used work
unfolding cleared
not_cleared lim zero work h = refl
not_cleared lim (suc used) work h = absurd (omega arith)

same_turned : {w v : ℕ} {a b c d e f g h : List ℕ} → w ≡ v → a ≡ b → c ≡ d → e ≡ f → g ≡ h → turned w a c e g ≡ turned v b d f h
same_turned p q r s t = cc

-- ---- an item, handed what the items before it, which used up `used`, left of `work`
module _ (lim ed : ℕ) (s : List ℕ) (b : Bytes s) (out steps work slice : List ℕ) (w : ℕ) (out' steps' work' slice' : List ℕ)
    (ran : turned w out' steps' (cleared lim w work') slice' ≡ turn lim ed s (lent out steps work) slice) where
  work_is : cleared lim w work' ≡ (simplified lim ed s (lent out steps work)).lent.work
  unfolding turn
  work_is = ap (λ (r : Turn). r.lent.work) ran

  -- one that used up any was lent what the limit asks for
  pub work_room : 1 ≤ w → work_bytes lim ≤ length work
  unfolding cleared
  work_room h = go w refl h
    where
      go : (k : ℕ) → w ≡ k → 1 ≤ k → work_bytes lim ≤ length work
      go zero e g = absurd (omega arith)
      go (suc k) e g =
          let l : length (stretch (work_bytes lim) [] work') ≡ length work
          = ap length (ap (λ i. cleared lim i work') (sym e) ∙ work_is) ∙ (simplified_orderly lim ed s b (lent out steps work)).work_kept in
          omega (arith, clear_length (work_bytes lim) work')

  -- so `work` has it where any was used up so far
  pub room_so_far : (used : ℕ) → (1 ≤ used → work_bytes lim ≤ length work) → 1 ≤ used + w → work_bytes lim ≤ length work
  room_so_far zero room h = work_room (omega arith)
  room_so_far (suc used) room h = room (omega arith)

  -- `work` cleared is that which was handed in cleared
  work_alike : stretch (work_bytes lim) [] work' ≡ stretch (work_bytes lim) [] work
  work_alike =
      sym (cleared_through lim w work') ∙ ap (stretch (work_bytes lim) []) (work_is ∙ work_turn lim ed s b (lent out steps work))
      ∙ cond_through (work_bytes lim) (has_run (simplified lim ed s (lent out steps work)).answer) work

  -- as if it had been cleared before
  pub as_cleared : (used : ℕ) → (1 ≤ used → work_bytes lim ≤ length work)
      → turned w out' steps' (cleared lim (used + w) work') slice' ≡ turn lim ed s (lent out steps (cleared lim used work)) slice
  unfolding turn cleared
  as_cleared zero room = let z : 0 + w ≡ w = omega arith in ap (λ n. turned w out' steps' (cleared lim n work') slice') z ∙ ran
  as_cleared (suc used) room =
      let n = work_bytes lim in
      let clear = stretch n [] work in
      let long : length work ≡ length clear = omega (arith, clear_length n work, room (omega arith)) in
      let alike = answer_alike lim ed s out steps work clear long in
      let k : suc used + w ≡ suc (used + w) = omega arith in
      same_turned
      (ap (λ (r : Turn). r.used) ran ∙ ap (used_up s) alike)
      (ap (λ (r : Turn). r.lent.out) ran ∙ out_alike lim ed s out steps work clear long)
      (ap (λ (r : Turn). r.lent.steps) ran ∙ steps_alike lim ed s out steps work clear long)
      (ap (λ i. cleared lim i work') k ∙ work_alike
      ∙ sym (work_turn lim ed s b (lent out steps clear) ∙ cond_clear n (has_run (simplified lim ed s (lent out steps clear)).answer) work))
      (ap (λ (r : Turn). r.answer) ran ∙ ap (λ (x : Answer). eights (answer_numbers x) ++ drop place_bytes slice) alike)
