-- The simplifier of the definitions meets the three demands: each field is read off the two cases of a call (CallLaws) and, where
-- a run finished, off what a finished run gives (Simplified). And the demands leave no choice: two simplifiers that meet them
-- answer alike and leave alike bytes.
use Prim.Native.Nat.{ℕ, ◌*◌, ◌≤◌}
use mathlib.Core.Path.{◌≡◌, refl, sym, ap, ◌∙◌, subst}
use mathlib.Core.List.{List, []}
use mathlib.Core.Option.{some}
use native.Mathlib.Omega.{arith}
use lib.ListN.{length}
use Rattle.paper.specs.Limits.{work_bytes}
use Rattle.paper.specs.Bytes.{Bytes, stretch}
use Rattle.paper.specs.Tree.{Tree, weight, value}
use Rattle.paper.specs.Table.{encode, tree_of}
use Rattle.paper.specs.Verdict.{Verdict, accepted, refused}
use Rattle.paper.specs.Rules.{rules_of}
use Rattle.paper.specs.Driver.{Ran, done, over, simplify}
use Rattle.paper.specs.Answers.{Lent, Answer, Given, ran, judgement, refused_by, refusal, ran_answer, written, noted, out_after, steps_after, work_after}
use Rattle.paper.specs.Answers.{lent_after, simplified_by, simplified}
use Rattle.paper.specs.Demands.{Simplifier, result, Refuses, LeavesAlone, Clears, RunsOver, Follows, Demands}
use Rattle.paper.proofs.ReadLaws.{tree_of_written}
use Rattle.paper.proofs.LimitLaws.{limit_small}
use Rattle.paper.proofs.AcceptedLaws.{Holds}
use Rattle.paper.proofs.CallLaws.{RunOn, Call, is_turned_down, is_run, call, refusal_tells, result_written, same_tree}
use Rattle.paper.proofs.EditionTwo.{edition_good}
use Rattle.paper.proofs.Simplified.{Finished, simplify_finished}

-- ---- the judging half holds around any run
module _ (lim ed : ℕ) (run : Tree → Ran) where
  -- a run's answer is no refusal but 7
  no_refusal : {A : Type 0} (w : ℕ) (v : Verdict) (r : Ran) → 1 ≤ v.number → ¬ (v.number ≡ 7) → ran_answer w r ≡ refused_by v → A
  unfolding ran_answer refused_by
  no_refusal w v (done u ks o n) h g e = absurd (let z : 0 ≡ v.number = ap (λ (a : Answer). a.number) e in omega arith)
  no_refusal w v (over j) h g e = absurd (g (ap (λ (a : Answer). a.number) (sym e)))

  judges : Refuses lim ed (simplified_by lim ed run)
  judges s b l v h g = (there (call lim ed run s l b), back (call lim ed run s l b))
    where
      there : Call lim ed run s l → (simplified_by lim ed run s l).answer ≡ refused_by v → judgement lim ed s l ≡ v
      there (is_turned_down d) e = refusal_tells (judgement lim ed s l) v (sym d.answer ∙ e)
      there (is_run r) e = no_refusal _ v _ h g (sym r.answer ∙ e)

      back : Call lim ed run s l → judgement lim ed s l ≡ v → (simplified_by lim ed run s l).answer ≡ refused_by v
      back (is_turned_down d) e = d.answer ∙ ap refused_by e
      back (is_run r) e = absurd (let z : 0 ≡ v.number = ap (λ v. v.number) (sym r.accepts ∙ e) in omega arith)

  leaves : LeavesAlone lim ed (simplified_by lim ed run)
  leaves s b l v h g e = go (call lim ed run s l b)
    where
      go : Call lim ed run s l → (simplified_by lim ed run s l).lent ≡ l
      go (is_turned_down d) = d.lent
      go (is_run r) = no_refusal _ v _ h g (sym r.answer ∙ e)

  -- after 7: the call was accepted, and the run went over
  pub record WentOver (s : List ℕ) (l : Lent) (p : ℕ) : Type 0 where
    pub on : RunOn lim ed run s l
    pub at : run on.holds.tree ≡ over p

  ran_over : (w p : ℕ) (r : Ran) → ran_answer w r ≡ refusal 7 p → r ≡ over p
  unfolding ran_answer refused_by
  ran_over w p (done u ks o n) e = absurd (let z : ◌≡◌ {A = ℕ} 0 7 = ap (λ (a : Answer). a.number) e in omega arith)
  ran_over w p (over j) e = ap over (ap (λ (v : Verdict). v.place) (refusal_tells (refused 7 j) (refused 7 p) e))

  went_over : (s : List ℕ) → Bytes s → (l : Lent) (p : ℕ) → (simplified_by lim ed run s l).answer ≡ refusal 7 p → WentOver s l p
  went_over s b l p e = go (call lim ed run s l b)
    where
      go : Call lim ed run s l → WentOver s l p
      go (is_turned_down d) =
          absurd (d.not_7 (ap (λ (v : Verdict). v.number) (refusal_tells (judgement lim ed s l) (refused 7 p) (sym d.answer ∙ e))))
      go (is_run r) = record { on = r; at = ran_over _ p _ (sym r.answer ∙ e) }

  clearing : Clears lim ed (simplified_by lim ed run)
  unfolding lent_after out_after steps_after work_after written noted
  clearing s b l p e =
      let x = went_over s b l p e in
      let h = x.on.holds in
      x.on.lent ∙ ap (λ r. lent_after lim (ran (weight h.tree) r) l) x.at
      ∙ ap (λ w. record { out = stretch (16 * w) [] l.out; steps = stretch w [] l.steps; work = stretch (work_bytes lim) [] l.work }) (sym h.weighs)

-- ---- the running half
runs_over : (lim ed : ℕ) → RunsOver lim ed (simplified lim ed)
unfolding simplified ran_answer
runs_over lim ed s b l p = (there, λ x. back (call lim ed (simplify (rules_of ed)) s l b) x.0 x.1.0 x.1.1 x.1.2)
  where
    there : (simplified lim ed s l).answer ≡ refusal 7 p
        → (judgement lim ed s l ≡ accepted) × ((t : Tree) × (tree_of s ≡ some t) × (simplify (rules_of ed) t ≡ over p))
    there e =
        let x = went_over lim ed (simplify (rules_of ed)) s b l p e in
        (x.on.accepts, (x.on.holds.tree, x.on.holds.read, x.at))

    back : Call lim ed (simplify (rules_of ed)) s l → judgement lim ed s l ≡ accepted → (t : Tree) → tree_of s ≡ some t → simplify (rules_of ed) t ≡ over p
        → (simplified lim ed s l).answer ≡ refusal 7 p
    back (is_turned_down d) j t e h = absurd (let z : (judgement lim ed s l).number ≡ 0 = ap (λ v. v.number) j in omega (arith, d.number))
    back (is_run r) j t e h =
        r.answer ∙ ap (ran_answer _) (ap (simplify (rules_of ed)) (same_tree r.holds.read e) ∙ h)

follows : (lim ed : ℕ) → Follows lim ed (simplified lim ed)
unfolding simplified ran_answer lent_after out_after steps_after work_after written noted
follows lim ed s b l j t u ks o n e h = go (call lim ed (simplify (rules_of ed)) s l b)
  where
    f : Tree → Ran
    f = simplify (rules_of ed)

    go : Call lim ed f s l → ((simplified lim ed s l).answer ≡ ran_answer (weight t) (done u ks o n))
        × ((simplified lim ed s l).lent ≡ lent_after lim (ran (weight t) (done u ks o n)) l)
    go (is_turned_down d) = absurd (let z : (judgement lim ed s l).number ≡ 0 = ap (λ v. v.number) j in omega (arith, d.number))
    go (is_run r) =
        let x : r.holds.tree ≡ t = same_tree r.holds.read e in (
          r.answer ∙ ap (λ a. ran_answer (weight a) (f a)) x ∙ ap (ran_answer (weight t)) h,
          r.lent ∙ ap (λ a. lent_after lim (ran (weight a) (f a)) l) x ∙ ap (λ a. lent_after lim (ran (weight t) a) l) h,
        )

-- ---- an accepted call without refusal 7: its table's tree, the tree of its result, and what holds of the two
pub record Done (lim ed : ℕ) (s : List ℕ) (l : Lent) : Type 0 where
  pub holds : Holds lim s
  pub tree_out : Tree
  pub steps : List ℕ
  pub opened : ℕ
  pub tries : ℕ
  pub runs : simplify (rules_of ed) holds.tree ≡ done tree_out steps opened tries
  pub finished : Finished (rules_of ed) holds.tree tree_out steps opened tries
  pub accepts : judgement lim ed s l ≡ accepted
  pub answer : (simplified lim ed s l).answer ≡ ran_answer (weight holds.tree) (done tree_out steps opened tries)
  pub lent : (simplified lim ed s l).lent ≡ lent_after lim (ran (weight holds.tree) (done tree_out steps opened tries)) l
  pub written_bytes : result (simplified lim ed s l) ≡ encode tree_out
  pub read_back : tree_of (result (simplified lim ed s l)) ≡ some tree_out

pub call_done : (lim ed : ℕ) (s : List ℕ) → Bytes s → (l : Lent) → (simplified lim ed s l).answer.number ≡ 0 → Done lim ed s l
unfolding simplified ran_answer refused_by lent_after out_after written
call_done lim ed s b l e = go (call lim ed (simplify (rules_of ed)) s l b)
  where
    by_run : (r : RunOn lim ed (simplify (rules_of ed)) s l) (x : Ran) → simplify (rules_of ed) r.holds.tree ≡ x → Done lim ed s l
    by_run r (over k) h =
        absurd (let z : ◌≡◌ {A = ℕ} 7 0 = sym (ap (λ a. a.number) (r.answer ∙ ap (ran_answer (weight r.holds.tree)) h)) ∙ e in omega arith)
    by_run r (done u ks o n) h =
        let t : Tree = r.holds.tree in
        let f : Finished (rules_of ed) t u ks o n = simplify_finished (edition_good ed) t u ks o n r.holds.wf h in
        let a : (simplified lim ed s l).answer ≡ ran_answer (weight t) (done u ks o n) = r.answer ∙ ap (ran_answer (weight t)) h in
        let g : (simplified lim ed s l).lent ≡ lent_after lim (ran (weight t) (done u ks o n)) l = r.lent ∙ ap (λ x. lent_after lim (ran (weight t) x) l) h in
        let w : result (simplified lim ed s l) ≡ encode u =
        result_written (simplified lim ed s l) (weight t) u l.out (ap (λ x. x.records_written) a) (ap (λ x. x.out) g) in
        record {
          holds = r.holds;
          tree_out = u;
          steps = ks;
          opened = o;
          tries = n;
          runs = h;
          finished = f;
          accepts = r.accepts;
          answer = a;
          lent = g;
          written_bytes = w;
          read_back = ap tree_of w ∙ tree_of_written u f.result_wf (omega (arith, f.lightens, r.holds.light, limit_small lim r.holds.known));
        }

    go : Call lim ed (simplify (rules_of ed)) s l → Done lim ed s l
    go (is_turned_down d) = absurd (let z : (judgement lim ed s l).number ≡ 0 = sym (ap (λ a. a.number) d.answer) ∙ e in omega (arith, d.number))
    go (is_run r) = by_run r (simplify (rules_of ed) r.holds.tree) refl

-- the simplifier of the definitions meets the demands
pub simplified_meets : (lim ed : ℕ) → Demands lim ed (simplified lim ed)
unfolding simplified ran_answer
simplified_meets lim ed =
    record {
      refuses = judges lim ed (simplify (rules_of ed));
      leaves_alone = leaves lim ed (simplify (rules_of ed));
      clears = clearing lim ed (simplify (rules_of ed));
      runs_over = runs_over lim ed;
      follows = follows lim ed;
      lightens = λ s b l e t p.
          let d = call_done lim ed s b l e in
          let a : (simplified lim ed s l).answer.steps_taken ≡ length d.steps = ap (λ x. x.steps_taken) d.answer in
          let o : (simplified lim ed s l).answer.openings ≡ d.opened = ap (λ x. x.openings) d.answer in
          let f = d.finished.lightens in
          (d.tree_out, d.read_back, omega (arith, ap weight (same_tree p d.holds.read)));
      bounded = λ s b l e t p.
          let d = call_done lim ed s b l e in
          let a : (simplified lim ed s l).answer.tries ≡ d.tries = ap (λ x. x.tries) d.answer in (
            d.tree_out,
            d.read_back,
            subst (λ i. (simplified lim ed s l).answer.tries ≤ weight i * (weight i * weight i))
                (same_tree d.holds.read p) (omega (arith, d.finished.bounded)),
          );
      finishes = λ s b l e t p. let d = call_done lim ed s b l e in (d.tree_out, d.read_back, d.finished.admits_none);
      keeps_value = λ s b l e t p.
          let d = call_done lim ed s b l e in
          (d.tree_out, d.read_back, λ ρ. d.finished.keeps_value ρ ∙ ap (λ x. value x ρ) (same_tree d.holds.read p));
    }

pub given_by : (g h : Given) → g.answer ≡ h.answer → g.lent ≡ h.lent → g ≡ h
given_by g h x y = ap (λ a. record { answer = a; lent = g.lent }) x ∙ ap (λ a. record { answer = h.answer; lent = a }) y

-- two simplifiers that meet the demands answer alike and leave alike bytes
pub demands_once : (lim ed : ℕ) (f g : Simplifier) → Demands lim ed f → Demands lim ed g → (s : List ℕ) → Bytes s → (l : Lent) → f s l ≡ g s l
unfolding simplified
demands_once lim ed f g p q s b l = alike f p ∙ sym (alike g q)
  where
    ours : Call lim ed (simplify (rules_of ed)) s l
    ours = call lim ed (simplify (rules_of ed)) s l b

    both : (h : Simplifier) → (h s l).answer ≡ (simplified lim ed s l).answer → (h s l).lent ≡ (simplified lim ed s l).lent → h s l ≡ simplified lim ed s l
    both h x y = given_by (h s l) (simplified lim ed s l) x y

    by_run : (h : Simplifier) → Demands lim ed h → (r : RunOn lim ed (simplify (rules_of ed)) s l) (x : Ran)
        → simplify (rules_of ed) r.holds.tree ≡ x → h s l ≡ simplified lim ed s l
    by_run h d r (over k) e =
        let x = (d.runs_over s b l k).1 (r.accepts, (r.holds.tree, r.holds.read, e)) in
        let y = ((simplified_meets lim ed).runs_over s b l k).1 (r.accepts, (r.holds.tree, r.holds.read, e)) in
        both h (x ∙ sym y) (d.clears s b l k x ∙ sym ((simplified_meets lim ed).clears s b l k y))
    by_run h d r (done u ks o n) e =
        let x = d.follows s b l r.accepts r.holds.tree u ks o n r.holds.read e in
        let y = (simplified_meets lim ed).follows s b l r.accepts r.holds.tree u ks o n r.holds.read e in
        both h (x.0 ∙ sym y.0) (x.1 ∙ sym y.1)

    by_call : (h : Simplifier) → Demands lim ed h → Call lim ed (simplify (rules_of ed)) s l → h s l ≡ simplified lim ed s l
    by_call h d (is_turned_down t) =
        let v = judgement lim ed s l in
        let x = (d.refuses s b l v t.number t.not_7).1 refl in
        both h (x ∙ sym t.answer) (d.leaves_alone s b l v t.number t.not_7 x ∙ sym t.lent)
    by_call h d (is_run r) = by_run h d r (simplify (rules_of ed) r.holds.tree) refl

    alike : (h : Simplifier) → Demands lim ed h → h s l ≡ simplified lim ed s l
    alike h d = by_call h d ours
