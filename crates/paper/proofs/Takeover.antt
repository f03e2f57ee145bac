-- The takeover theorem, for one limit and one edition on both sides: for every accepted table without refusal 7, simplifying the result is accepted,
-- gives the same bytes, and takes no step and no opening. The result is the records of a well-formed tree that admits no rule and no opening and is no
-- heavier than the table, so it is accepted, read as that tree, and the run on it ends at once. The areas that the first call left have room, since its
-- stretches are as long as the table's weight asks.
use Prim.Native.Nat.{ℕ, ◌*◌, ◌≤◌}
use mathlib.Core.Path.{◌≡◌, sym, ap, ◌∙◌, subst}
use mathlib.Core.List.{List, []}
use native.Mathlib.Omega.{arith}
use lib.ListN.{length, length-append, length-replicate}
use Rattle.paper.specs.Limits.{work_bytes}
use Rattle.paper.specs.Bytes.{Bytes, stretch}
use Rattle.paper.specs.Tree.{weight, records}
use Rattle.paper.specs.Table.{encode}
use Rattle.paper.specs.Verdict.{table_weight}
use Rattle.paper.specs.Driver.{Ran}
use Rattle.paper.specs.Answers.{Lent, Given, cramped, ran, ran_answer, out_after, steps_after, work_after, lent_after, simplified}
use Rattle.paper.specs.Demands.{Simplifier, result}
use Rattle.paper.specs.Takeover.{Room, again, Repeats, TakesOver, TakesOverInPlace}
use Rattle.paper.proofs.LimitLaws.{limit_small}
use Rattle.paper.proofs.EncodeLaws.{encode_bytes}
use Rattle.paper.proofs.TableLaws.{encode_weight, written_accepted}
use Rattle.paper.proofs.ReadLaws.{tree_of_written}
use Rattle.paper.proofs.CallLaws.{judgement_accepted, accepted_judgement, result_written}
use Rattle.paper.proofs.JudgementLaws.{of_room}
use Rattle.paper.proofs.Simplified.{simplify_again}
use Rattle.paper.proofs.DemandLaws.{call_done, simplified_meets}

pub takeover : (lim ed : ℕ) → TakesOver lim (simplified lim ed)
unfolding ran_answer again
takeover lim ed s b l e l' room =
    let d = call_done lim ed s b l e in
    let u = d.tree_out in
    let wf = d.finished.result_wf in
    let light : weight u ≤ lim = omega (arith, d.finished.lightens, d.holds.light) in
    let w : table_weight (encode u) ≡ (simplified lim ed s l).answer.weight_out = encode_weight u ∙ sym (ap (λ x. x.weight_out) d.answer) in
    let j =
    accepted_judgement lim ed (encode u) l' d.holds.known (judgement_accepted lim ed s l d.accepts).2
    (written_accepted lim d.holds.known u wf light) (ap (λ n. cramped lim n l') w ∙ of_room lim _ l' room) in
    let f =
    (simplified_meets lim ed).follows (encode u) (encode_bytes u) l' j u u [] 0 (records u)
    (tree_of_written u wf (omega (arith, limit_small lim d.holds.known)))
    (simplify_again u wf d.finished.admits_none) in
    subst (λ x. Repeats (simplified lim ed s l) (simplified lim ed x l')) (sym d.written_bytes)
    (record {
      same_answer = f.0 ∙ sym (ap again d.answer);
      same_bytes =
          result_written (simplified lim ed (encode u) l') (weight u) u l'.out (ap (λ x. x.records_written) f.0) (ap (λ x. x.out) f.1)
          ∙ sym d.written_bytes;
    })

-- ---- in place
stretch_room : (n : ℕ) (xs old : List ℕ) → n ≤ length (stretch n xs old)
unfolding stretch
stretch_room n xs old = simp (length-append, length-replicate) (omega arith)

left_room : (lim w : ℕ) (r : Ran) (l : Lent) → Room lim w (lent_after lim (ran w r) l)
unfolding lent_after out_after steps_after work_after
left_room lim w r l =
    record {
      out_room = stretch_room (16 * w) _ l.out;
      steps_room = stretch_room w _ l.steps;
      work_room = stretch_room (work_bytes lim) [] l.work;
    }

room_less : {lim v : ℕ} {l : Lent} (w : ℕ) → w ≤ v → Room lim v l → Room lim w l
room_less w h r =
    record { out_room = omega (arith, r.out_room); steps_room = omega (arith, r.steps_room); work_room = r.work_room }

pub takeover_in_place : (lim ed : ℕ) → TakesOverInPlace lim (simplified lim ed)
unfolding ran_answer
takeover_in_place lim ed s b l e =
    let d = call_done lim ed s b l e in
    let w : (simplified lim ed s l).answer.weight_out ≡ weight d.tree_out = ap (λ x. x.weight_out) d.answer in
    let room : Room lim (weight d.holds.tree) (simplified lim ed s l).lent = rw d.lent (left_room lim _ _ l) in
    takeover lim ed s b l e (simplified lim ed s l).lent (room_less _ (omega (arith, d.finished.lightens)) room)

-- ---- the statement turns wrong ones away: a second call has one answer and one result after the first, and a simplifier that refuses its own
-- result, in areas that have room for it, does not take over
pub repeats_once : (g h k : Given) → Repeats g h → Repeats g k → (h.answer ≡ k.answer) × (result h ≡ result k)
repeats_once g h k x y = (x.same_answer ∙ sym y.same_answer, x.same_bytes ∙ sym y.same_bytes)

pub greedy_is_refused : (lim : ℕ) (f : Simplifier) (s : List ℕ) → Bytes s → (l : Lent) → (f s l).answer.number ≡ 0
    → (l' : Lent) → Room lim (f s l).answer.weight_out l' → ¬ ((f (result (f s l)) l').answer.number ≡ 0) → ¬ TakesOver lim f
unfolding again
greedy_is_refused lim f s b l e l' room refuses takes = refuses (ap (λ a. a.number) (takes s b l e l' room).same_answer)
