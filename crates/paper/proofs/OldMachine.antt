-- The two limits agree on tables up to the old one, since the limit is asked for in two tests only, and both pass; what is beyond the
-- old limit is refused there with 1 or 3. A judgement's number tells the rest of it, so calls that are judged by the same number give the same. And what
-- is said of a machine at the old limit, an equation for each case, leaves it no choice.
use Prim.Native.Nat.{ℕ, ◌/◌, ◌≤◌, ◌<◌}
use mathlib.Core.Path.{◌≡◌, refl, sym, ap, ◌∙◌}
use mathlib.Core.Bool.{Bool, true, false, cond}
use mathlib.Core.List.{List}
use native.Mathlib.Omega.{arith}
use lib.ListN.{length}
use lib.Dec.{ltb, lit<}
use borrow.Author.Tests.{le-ltb, ltb-true, ltb-false}
use Rattle.paper.specs.Limits.{is_limit, work_bytes}
use Rattle.paper.specs.Tree.{Tree}
use Rattle.paper.specs.Record.{weight_from, is_flawed}
use Rattle.paper.specs.Table.{tree_of}
use Rattle.paper.specs.Verdict.{Verdict, accepted, refused, is_accepted, records_in, bad_length, table_weight, judge_records, judged_table, verdict}
use Rattle.paper.specs.Refusals.{BadLength, is_zero, no_multiple, is_over, refusal_1, refusal_2, refusal_3, refusal_4, refusal_5}
use Rattle.paper.specs.Refusals.{Flawed, Applies, of_records, refusal_19, rank}
use Rattle.paper.specs.Rules.{is_edition, rules_of}
use Rattle.paper.specs.Driver.{Ran, simplify}
use Rattle.paper.specs.Answers.{Lent, Given, measured, weighed, registers_verdict, valued, compared_tables, compared, cramped, judged_call, judgement}
use Rattle.paper.specs.Answers.{turned_down, run_on, outcome_of, answer_of, out_after, steps_after, lent_after, simplified_by, simplified}
use Rattle.paper.specs.Demands.{Simplifier}
use Rattle.paper.specs.OldMachine.{old, higher, UpToOld, SameVerdicts, SameComparison, SameResults, AcceptedHigher, OldTooLong, OldTooHeavy}
use Rattle.paper.specs.OldMachine.{Machine, Agrees, AgreesOnTwo, RefusesLong, RefusesHeavy, Alike, AgreesOnCalls}
use Rattle.paper.proofs.Tests.{true_not_false}
use Rattle.paper.proofs.VerdictLaws.{Passes, accepted_passes, passes_accepted}
use Rattle.paper.proofs.Refusals.{words_flaw, numbered, numbered_plain, table_numbered, verdict_exactly, rank_small, faulty_within}

limits_alike : (s : List ℕ) → UpToOld s → verdict old s ≡ verdict higher s
unfolding verdict judged_table judge_records bad_length is_limit table_weight
limits_alike s h =
    rw (
      le-ltb 49152 (length s) h.0,
      le-ltb 262144 (length s) (omega (arith, h.0)),
      le-ltb 3072 (weight_from s 0 (records_in s)) h.1,
      le-ltb 16384 (weight_from s 0 (records_in s)) (omega (arith, h.1)),
    )

pub limits_agree : SameVerdicts
unfolding weighed valued registers_verdict
limits_agree s h =
    let e = limits_alike s h in
    (e, ap (λ v. measured v (table_weight s)) e, λ regs. rw e)

pub same_comparison : SameComparison
unfolding compared compared_tables is_limit
same_comparison a b h k = rw (limits_alike a h, limits_alike b k)

-- ---- calls that are judged by the same number are judged alike, since the number tells the rest; and then the limit has no more to say
call_numbered : (s : List ℕ) (a b : Bool) (v : Verdict) → v ≡ numbered s v.number
    → let w = cond a (cond b (refused 6 0) accepted) v in w ≡ numbered s w.number
call_numbered s true true v e = sym (numbered_plain s).1
call_numbered s true false v e = sym (numbered_plain s).0
call_numbered s false b v e = e

judged_alike : (ed : ℕ) (s : List ℕ) (l l' : Lent) → (judgement old ed s l).number ≡ (judgement higher ed s l').number
    → judgement old ed s l ≡ judgement higher ed s l'
unfolding judgement judged_call verdict is_limit
judged_alike ed s l l' = go (is_edition ed)
  where
    before : Verdict
    before = judged_call old s l

    after : Verdict
    after = judged_call higher s l'

    go : (k : Bool) → (cond k before (refused 9 0)).number ≡ (cond k after (refused 9 0)).number → cond k before (refused 9 0) ≡ cond k after (refused 9 0)
    go true e =
        call_numbered s (is_accepted (judged_table old s)) (cramped old (table_weight s) l) (judged_table old s) (table_numbered old s)
        ∙ ap (numbered s) e
        ∙ sym (call_numbered s (is_accepted (judged_table higher s)) (cramped higher (table_weight s) l') (judged_table higher s) (table_numbered higher s))
    go false e = refl

pub same_results : SameResults
unfolding simplified simplified_by lent_after outcome_of
same_results ed s l l' o k n =
    let f : Tree → Ran = simplify (rules_of ed) in
    let e : outcome_of old ed f s l ≡ outcome_of higher ed f s l' =
    ap (λ v. cond (is_accepted v) (run_on f (table_weight s) (tree_of s)) (turned_down v)) (judged_alike ed s l l' n) in
    record {
      answer = ap answer_of e;
      out = ap (λ x. out_after x l.out) e ∙ ap (out_after (outcome_of higher ed f s l')) o;
      steps = ap (λ x. steps_after x l.steps) e ∙ ap (steps_after (outcome_of higher ed f s l')) k;
    }

pub accepted_higher : AcceptedHigher
unfolding is_limit
accepted_higher s h =
    let p = accepted_passes old s h in
    passes_accepted higher s (record {
      known = refl;
      long = record { positive = p.long.positive; sixteens = p.long.sixteens; short = omega (arith, p.long.short) };
      fine = p.fine;
      light = omega (arith, p.light);
      ends = p.ends;
    })

-- ---- beyond the old limit
pub old_too_long : OldTooLong
old_too_long s h =
    (verdict_exactly old s (refused 1 0) (lit< tt)).1 (
      record { given = of_records (refusal_1 (is_over h)); lowest = λ j q u x. first u x },
      (λ e. absurd (omega arith), λ e. refl),
    )
  where
    first : {j q : ℕ} → rank j < rank 1 → ¬ Applies old s j q
    first u (of_records {k = k} x) = let w = faulty_within x in omega (arith, rank_small 1 (lit< tt), rank_small k (omega (arith, w.1)), w.0)
    first u (refusal_19 x y) = x refl

pub old_too_heavy : OldTooHeavy
old_too_heavy s p m short flawless heavy =
    (verdict_exactly old s (refused 3 0) (lit< tt)).1 (
      record { given = of_records (refusal_3 heavy); lowest = λ j q u x. go u x },
      (λ e. absurd (omega arith), λ e. refl),
    )
  where
    no_bad_length : ¬ BadLength old s
    no_bad_length (is_zero e) = omega arith
    no_bad_length (no_multiple h) = h (length s / 16) (omega arith)
    no_bad_length (is_over l) = omega arith

    go : {j q : ℕ} → rank j < rank 3 → ¬ Applies old s j q
    go u (of_records (refusal_1 h)) = no_bad_length h
    go u (of_records (refusal_2 {p = i} h)) = flawless i h.0.0 h.0.1
    go u (of_records (refusal_3 h)) = omega arith
    go u (of_records (refusal_4 h)) = omega (arith, rank_small 3 (lit< tt), rank_small 4 (lit< tt))
    go u (of_records (refusal_5 h)) = omega (arith, rank_small 3 (lit< tt), rank_small 5 (lit< tt))
    go u (refusal_19 x y) = x refl

-- ---- the sentences leave no choice: two machines of which they hold answer alike, of every table that the higher limit accepts
pub accepted_up_to_old : (s : List ℕ) → verdict old s ≡ accepted → UpToOld s
accepted_up_to_old s h = let p = accepted_passes old s h in (omega (arith, p.long.short), p.light)

module _ (m n : Machine) where
  pub agrees_once : Agrees m → Agrees n → (s : List ℕ) → UpToOld s
      → (m.checks s ≡ n.checks s) × (m.weighs s ≡ n.weighs s) × ((regs : List ℕ) → m.values s regs ≡ n.values s regs)
  agrees_once h k s u = let x = h s u in let y = k s u in (x.0 ∙ sym y.0, x.1 ∙ sym y.1, λ regs. x.2 regs ∙ sym (y.2 regs))

  pub compares_once : AgreesOnTwo m → AgreesOnTwo n → (a b : List ℕ) → UpToOld a → UpToOld b → m.compares a b ≡ n.compares a b
  compares_once h k a b u v = h a b u v ∙ sym (k a b u v)

  pub checks_once : Agrees m → RefusesLong m → RefusesHeavy m → Agrees n → RefusesLong n → RefusesHeavy n
      → (s : List ℕ) → verdict higher s ≡ accepted → m.checks s ≡ n.checks s
  unfolding is_flawed
  checks_once agrees long heavy agrees' long' heavy' s h = go (ltb 49152 (length s)) refl (ltb old (table_weight s)) refl
    where
      p : Passes higher s
      p = accepted_passes higher s h

      unflawed : (i : ℕ) → i < records_in s → ¬ Flawed s i
      unflawed i l x = true_not_false (words_flaw s i x) (ap is_flawed (p.fine i (omega arith) l).0)

      go : (b : Bool) → ltb 49152 (length s) ≡ b → (c : Bool) → ltb old (table_weight s) ≡ c → m.checks s ≡ n.checks s
      go true e c f = let l = ltb-true 49152 (length s) e in long s l ∙ sym (long' s l)
      go false e true f =
          let short = ltb-false 49152 (length s) e in
          let over = ltb-true old (table_weight s) f in
          heavy s p.long.positive p.long.sixteens short unflawed over ∙ sym (heavy' s p.long.positive p.long.sixteens short unflawed over)
      go false e false f = (agrees_once agrees agrees' s (ltb-false 49152 (length s) e, ltb-false old (table_weight s) f)).0

-- the same of simplifiers. Calls that give alike answers and bytes differ in `work` alone
pub alike_but_work : (g h : Given) → Alike g h → g.lent.work ≡ h.lent.work → g ≡ h
alike_but_work g h e w =
    ap (λ a. record { answer = a; lent = g.lent }) e.answer
    ∙ ap (λ o. record { answer = h.answer; lent = record { out = o; steps = g.lent.steps; work = g.lent.work } }) e.out
    ∙ ap (λ o. record { answer = h.answer; lent = record { out = h.lent.out; steps = o; work = g.lent.work } }) e.steps
    ∙ ap (λ o. record { answer = h.answer; lent = record { out = h.lent.out; steps = h.lent.steps; work = o } }) w

-- where enough `work` is lent (w is what the call at the higher limit is lent), two simplifiers give alike answers and bytes for a table up to the old
-- limit, refused or not
judged_both : (ed : ℕ) (s : List ℕ) (l : Lent) (w : List ℕ) → UpToOld s → 65536 ≤ length l.work → 524288 ≤ length w
    → judgement old ed s l ≡ judgement higher ed s (record { out = l.out; steps = l.steps; work = w })
unfolding judgement judged_call cramped is_limit work_bytes
judged_both ed s l w u h k = rw (limits_alike s u, le-ltb (length l.work) 65536 h, le-ltb (length w) 524288 k) refl

pub calls_once : (f g : ℕ → Simplifier) → AgreesOnCalls f → AgreesOnCalls g → (ed : ℕ) (s : List ℕ) (l : Lent) → UpToOld s → 65536 ≤ length l.work
    → (w : List ℕ) → 524288 ≤ length w → Alike (f ed s l) (g ed s l)
calls_once f g h k ed s l u room w more =
    let l' : Lent = record { out = l.out; steps = l.steps; work = w } in
    let n = ap (λ v. v.number) (judged_both ed s l w u room more) in
    let x = h ed s l l' refl refl n in
    let y = k ed s l l' refl refl n in
    record { answer = x.answer ∙ sym y.answer; out = x.out ∙ sym y.out; steps = x.steps ∙ sym y.steps }
