-- A finished tree on any machine: where the limit holds it, its records are accepted, and simplifying them takes no step and no opening. The result of
-- an accepted call is the records of such a tree, so the takeover holds at another limit as well.
use Prim.Native.Nat.{ℕ, ◌≤◌}
use mathlib.Core.Path.{◌≡◌, sym, ap, ◌∙◌, subst}
use mathlib.Core.Bool.{true}
use mathlib.Core.List.{List, []}
use native.Mathlib.Omega.{arith}
use Rattle.paper.specs.Limits.{is_limit}
use Rattle.paper.specs.Tree.{Tree, weight, records}
use Rattle.paper.specs.WellFormed.{WF}
use Rattle.paper.specs.Table.{encode}
use Rattle.paper.specs.Bytes.{Bytes}
use Rattle.paper.specs.Rules.{is_edition, rules_of}
use Rattle.paper.specs.Driver.{done, simplify}
use Rattle.paper.specs.Record.{sound}
use Rattle.paper.specs.Answers.{Lent, Answer, cramped, ran_answer, simplified}
use Rattle.paper.specs.Demands.{result}
use Rattle.paper.specs.Takeover.{Room, again, Repeats}
use Rattle.paper.proofs.LimitLaws.{limit_small}
use Rattle.paper.proofs.EncodeLaws.{encode_bytes}
use Rattle.paper.proofs.TableLaws.{encode_weight, written_accepted}
use Rattle.paper.proofs.ReadLaws.{tree_of_written}
use Rattle.paper.proofs.CallLaws.{judgement_accepted, accepted_judgement, result_written}
use Rattle.paper.proofs.JudgementLaws.{of_room}
use Rattle.paper.proofs.Simplified.{simplify_again}
use Rattle.paper.proofs.DemandLaws.{Done, call_done, simplified_meets}
use Rattle.paper_takeover.specs.LimitOver.{Holds, TakesOverAt}

-- the answer on the records of a finished tree
unfoldable pub finished_answer : Tree → Answer
finished_answer u =
    record {
      number = 0;
      place = 0;
      flaw = sound;
      records_written = records u;
      steps_taken = 0;
      openings = 0;
      weight_in = weight u;
      weight_out = weight u;
      tries = records u;
    }

pub finished_again : (there ed : ℕ) → is_limit there ≡ true → is_edition ed ≡ true → (u : Tree) → WF u → weight u ≤ there
    → simplify (rules_of ed) u ≡ done u [] 0 (records u) → (l : Lent) → Room there (weight u) l
    → ((simplified there ed (encode u) l).answer ≡ finished_answer u) × (result (simplified there ed (encode u) l) ≡ encode u)
unfolding finished_answer
finished_again there ed known edition u wf light ends l room =
    let fits = ap (λ (n : ℕ). cramped there n l) (encode_weight u) ∙ of_room there (weight u) l room in
    let j = accepted_judgement there ed (encode u) l known edition (written_accepted there known u wf light) fits in
    let read = let small = limit_small there known in tree_of_written u wf (omega (arith, light, small)) in
    let f = (simplified_meets there ed).follows (encode u) (encode_bytes u) l j u u [] 0 (records u) read ends in (
      f.0,
      result_written (simplified there ed (encode u) l) (weight u) u l.out (ap (λ (x : Answer). x.records_written) f.0)
          (ap (λ (x : Lent). x.out) f.1),
    )

-- ---- an accepted call: the tree of its result, which is finished
module _ (lim ed : ℕ) (s : List ℕ) (l : Lent) (d : Done lim ed s l) where
  pub out_weight_lem : (simplified lim ed s l).answer.weight_out ≡ weight d.tree_out
  unfolding ran_answer
  out_weight_lem = ap (λ (x : Answer). x.weight_out) d.answer

  pub out_light : weight d.tree_out ≤ lim
  out_light = omega (arith, d.finished.lightens, d.holds.light)

  pub out_edition : is_edition ed ≡ true
  out_edition = (judgement_accepted lim ed s l d.accepts).2

  pub out_ends : simplify (rules_of ed) d.tree_out ≡ done d.tree_out [] 0 (records d.tree_out)
  out_ends = simplify_again d.tree_out d.finished.result_wf d.finished.admits_none

  pub out_again : again (simplified lim ed s l).answer ≡ finished_answer d.tree_out
  unfolding ran_answer again finished_answer
  out_again = ap again d.answer

-- the limit of the call holds its result
pub own_limit : (lim ed : ℕ) (s : List ℕ) → Bytes s → (l : Lent) → (simplified lim ed s l).answer.number ≡ 0 → Holds lim (simplified lim ed s l)
own_limit lim ed s b l e =
    let d = call_done lim ed s b l e in
    record { known = d.holds.known; light = let w = out_weight_lem lim ed s l d in let h = out_light lim ed s l d in omega (arith, w, h) }

-- a result takes over at each limit that holds it
pub takes_over_at : (lim there ed : ℕ) → TakesOverAt lim there ed
takes_over_at lim there ed s b l e h l' room =
    let d = call_done lim ed s b l e in
    let u = d.tree_out in
    let w = out_weight_lem lim ed s l d in
    let second =
    finished_again there ed h.known (out_edition lim ed s l d) u d.finished.result_wf
    (let k = h.light in omega (arith, w, k)) (out_ends lim ed s l d) l'
    (subst (λ (n : ℕ). Room there n l') w room) in
    subst (λ (x : List ℕ). Repeats (simplified lim ed s l) (simplified there ed x l')) (sym d.written_bytes)
    (record { same_answer = second.0 ∙ sym (out_again lim ed s l d); same_bytes = second.1 ∙ sym d.written_bytes })
