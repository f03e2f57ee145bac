-- Laws of one item's answer. After 7 the table passed 1 to 5, so the weight function tells W; else the answer has it: where the item ran to its end, W,
-- and where it was refused, which uses up none, 0.
use Prim.Native.Nat.{ℕ, zero, suc, ◌≤◌}
use mathlib.Core.Path.{◌≡◌, refl, sym, ap, ◌∙◌}
use mathlib.Core.Bool.{Bool, true, false, cond}
use mathlib.Core.List.{List, [], ◌++◌}
use native.Mathlib.Omega.{arith}
use lib.ListN.{drop}
use borrow.Author.Tests.{ne_eqb}
use Rattle.paper.specs.Limits.{work_bytes}
use Rattle.paper.specs.Bytes.{Bytes, stretch}
use Rattle.paper.specs.Tree.{weight}
use Rattle.paper.specs.Verdict.{Verdict, is_accepted, table_weight, verdict}
use Rattle.paper.specs.Rules.{rules_of}
use Rattle.paper.specs.Driver.{Ran, done, over, simplify}
use Rattle.paper.specs.Answers.{Lent, Answer, Given, refused_by, ran_answer, judgement, simplified_by, simplified, measured, weighed}
use Rattle.paper.specs.Calls.{answer_numbers, eights}
use Rattle.paper.proofs.Tests.{true_not_false}
use Rattle.paper.proofs.Value.{weight_pos}
use Rattle.paper.proofs.CallLaws.{Call, is_turned_down, is_run, call, judgement_accepted}
use Rattle.simplify.specs.Answer.{has_run as ranWith, cleaned}
use Rattle.paper_batch.specs.Batch.{has_run, used_up}
use Rattle.paper_batch.proofs.Orderly.{uses_run, uses_none}
use Rattle.batch.specs.Turn.{turn, cleared}

-- what an answer with 7, and any other, tells of what the item used up; and one that ran used up some
pub record Uses (lim : ℕ) (s : List ℕ) (a : Answer) : Type 0 where
  pub seven : a.number ≡ 7 → (weighed lim s).result ≡ used_up s a
  pub other : ¬ (a.number ≡ 7) → a.weight_in ≡ used_up s a
  pub some_used : ranWith a.number ≡ true → 1 ≤ table_weight s

not_ran : (k : ℕ) → 1 ≤ k → ¬ (k ≡ 7) → ranWith k ≡ false
unfolding ranWith
not_ran k g h = rw (ne_eqb k 0 (λ e. omega arith), ne_eqb k 7 h)

refused_uses : (lim : ℕ) (s : List ℕ) (v : Verdict) → 1 ≤ v.number → ¬ (v.number ≡ 7) → Uses lim s (refused_by v)
unfolding refused_by
refused_uses lim s v g h =
    record { seven = λ e. absurd (h e); other = λ _. sym (uses_none s v g h); some_used = λ e. absurd (true_not_false e (not_ran v.number g h)) }

ran_uses : (lim : ℕ) (s : List ℕ) (w : ℕ) (r : Ran) → 1 ≤ w → table_weight s ≡ w → (weighed lim s).result ≡ table_weight s → Uses lim s (ran_answer w r)
unfolding ran_answer refused_by
ran_uses lim s w (done u ks o n) p e f =
    record { seven = λ e. absurd (omega arith); other = λ _. sym (uses_run s w (done u ks o n) ∙ e); some_used = λ _. omega arith }
ran_uses lim s w (over k) p e f = record { seven = λ _. f ∙ sym (uses_run s w (over k)); other = λ n. absurd (n refl); some_used = λ _. omega arith }

-- so where W is used up, and only there, `work` is to be cleared
pub cleared_used : (lim : ℕ) (s : List ℕ) (a : Answer) → Uses lim s a → (w : ℕ) → w ≡ used_up s a → (work : List ℕ)
    → cleared lim w work ≡ cleaned lim a.number work
unfolding used_up has_run ranWith cleaned cleared
cleared_used lim s a u w e work = go (ranWith a.number) refl w e
  where
    go : (b : Bool) → ranWith a.number ≡ b → (w : ℕ) → w ≡ cond (ranWith a.number) (table_weight s) 0
        → cleared lim w work ≡ cond (ranWith a.number) (stretch (work_bytes lim) [] work) work
    go true p zero q = absurd (omega (arith, u.some_used p, (rw p at q)))
    go true p (suc w) q = rw p refl
    go false p zero q = rw p refl
    go false p (suc w) q = absurd (omega (arith, (rw p at q)))

weighs : (lim : ℕ) (s : List ℕ) → is_accepted (verdict lim s) ≡ true → (weighed lim s).result ≡ table_weight s
unfolding weighed measured
weighs lim s e = rw e refl

module _ (lim ed : ℕ) (s : List ℕ) (l : Lent) where
  uses : Bytes s → Uses lim s (simplified lim ed s l).answer
  unfolding simplified is_accepted
  uses b = go (call lim ed (simplify (rules_of ed)) s l b)
    where
      go : Call lim ed (simplify (rules_of ed)) s l → Uses lim s (simplified_by lim ed (simplify (rules_of ed)) s l).answer
      go (is_turned_down d) = rw d.answer (refused_uses lim s (judgement lim ed s l) d.number d.not_7)
      go (is_run r) =
          rw r.answer
          (ran_uses lim s (weight r.holds.tree) (simplify (rules_of ed) r.holds.tree) (weight_pos r.holds.tree) r.holds.weighs
          (weighs lim s (ap is_accepted (judgement_accepted lim ed s l r.accepts).0)))

  -- ---- the item's turn, from what the simplifier gave, what it used up, and its numbers written
  module _ (g : Given) (gave : g ≡ simplified lim ed s l) where
    pub told : Bytes s → Uses lim s g.answer
    told b = rw gave (uses b)

    pub is_turn : (w : ℕ) (slice after : List ℕ) → w ≡ used_up s g.answer → after ≡ eights (answer_numbers g.answer) ++ drop 80 slice
        → record { used = w; lent = g.lent; answer = after } ≡ turn lim ed s l slice
    unfolding turn
    is_turn w slice after e f = rw (e, f, gave) refl
