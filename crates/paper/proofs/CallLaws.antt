-- What becomes of a call: its judgement is one of the refusals 1 to 6, with nothing else to tell, or it is accepted, and then the
-- table holds a well-formed tree (AcceptedLaws), the run on it is the driver's, and its laws hold. Everything that the demands
-- ask is read off these two cases.
use Prim.Native.Nat.{ℕ, zero, suc, ◌*◌, ◌≤◌, min}
use mathlib.Core.Path.{◌≡◌, refl, sym, ap, ◌∙◌}
use mathlib.Core.Bool.{Bool, true, false, cond, not}
use mathlib.Core.List.{List}
use mathlib.Core.Option.{Option, some}
use native.Mathlib.Omega.{arith}
use lib.ListN.{length, take}
use lib.Seq.{take_at}
use lib.Dec.{eqb, ltb}
use borrow.Author.Tests.{eq-eqb, eqb-true}
use Rattle.paper.specs.Limits.{is_limit}
use Rattle.paper.specs.Bytes.{Bytes, stretch}
use Rattle.paper.specs.Tree.{Tree, weight, records}
use Rattle.paper.specs.Table.{encode}
use Rattle.paper.specs.Record.{weight_from, Flaw, sound, flaw}
use Rattle.paper.specs.Verdict.{Verdict, accepted, told, refused, is_accepted, bad_length, first_flawed, table_weight, tree_end, first_bad_exponent, records_in}
use Rattle.paper.specs.Verdict.{judge_records, judged_table, verdict}
use Rattle.paper.specs.Rules.{is_edition}
use Rattle.paper.specs.Driver.{Ran}
use Rattle.paper.specs.Answers.{Lent, Answer, Given, turned_down, ran, cramped, judged_call, judgement, run_on, outcome_of}
use Rattle.paper.specs.Answers.{refused_by, ran_answer, answer_of, out_after, steps_after, work_after, lent_after, simplified_by}
use Rattle.paper.specs.Demands.{result}
use Rattle.paper.proofs.EncodeLaws.{encode_length}
use Rattle.paper.proofs.AcceptedLaws.{Holds, accepted_holds}

-- ---- numbers of verdicts
-- number 0 is said of `accepted` alone, and 7 of no verdict
abbrev Plain : Verdict → Type 0
Plain v = (is_accepted v ≡ true → v ≡ accepted) × (¬ (v.number ≡ 7))

told_plain : (j p : ℕ) (f : Flaw) → 1 ≤ j → ¬ (j ≡ 7) → Plain (told j p f)
unfolding is_accepted
told_plain j p f h g = (λ e. absurd (let z : j ≡ 0 = eqb-true j 0 e in omega arith), g)

accepted_plain : Plain accepted
accepted_plain = (λ e. refl, λ e. omega arith)

cond_plain : (b : Bool) (v w : Verdict) → Plain v → Plain w → Plain (cond b v w)
cond_plain true v w p q = p
cond_plain false v w p q = q

verdict_plain : (lim : ℕ) (s : List ℕ) → Plain (verdict lim s)
unfolding verdict judged_table judge_records
verdict_plain lim s =
    let n = records_in s in
    cond_plain (is_limit lim) _ _
    (cond_plain (bad_length lim (length s)) _ _ (told_plain 1 0 sound (omega arith) (λ e. omega arith))
    (cond_plain (ltb (first_flawed s 0 n) n) _ _ (told_plain 2 (first_flawed s 0 n) (flaw s (first_flawed s 0 n)) (omega arith) (λ e. omega arith))
    (cond_plain (ltb lim (weight_from s 0 n)) _ _ (told_plain 3 0 sound (omega arith) (λ e. omega arith))
    (cond_plain (not (eqb (tree_end s n 0) n)) _ _ (told_plain 4 (min (tree_end s n 0) n) sound (omega arith) (λ e. omega arith))
    (cond_plain (ltb (first_bad_exponent s n 0 n) n) _ _ (told_plain 5 (first_bad_exponent s n 0 n) sound (omega arith) (λ e. omega arith))
    accepted_plain)))))
    (told_plain 19 0 sound (omega arith) (λ e. omega arith))

judgement_plain : (lim ed : ℕ) (s : List ℕ) (l : Lent) → Plain (judgement lim ed s l)
unfolding judgement judged_call
judgement_plain lim ed s l =
    cond_plain (is_limit lim) _ _
    (cond_plain (is_edition ed) _ _
    (cond_plain (is_accepted (verdict lim s)) _ _
    (cond_plain (cramped lim (table_weight s) l) _ _ (told_plain 6 0 sound (omega arith) (λ e. omega arith)) accepted_plain) (verdict_plain lim s))
    (told_plain 9 0 sound (omega arith) (λ e. omega arith)))
    (told_plain 19 0 sound (omega arith) (λ e. omega arith))

pub verdict_accepted : (lim : ℕ) (s : List ℕ) → is_accepted (verdict lim s) ≡ true → verdict lim s ≡ accepted
verdict_accepted lim s e = (verdict_plain lim s).0 e

-- a checker's answer with number 0 accepts
pub told_accepted : (lim : ℕ) (s : List ℕ) (k p : ℕ) (f : Flaw) → told k p f ≡ verdict lim s → k ≤ 0 → verdict lim s ≡ accepted
unfolding is_accepted
told_accepted lim s k p f e h = verdict_accepted lim s (rw (← e, eq-eqb k 0 (omega arith)))

-- a judgement is accepted only where the verdict is, there is room, and the edition is known
pub judgement_accepted : (lim ed : ℕ) (s : List ℕ) (l : Lent) → judgement lim ed s l ≡ accepted
    → (verdict lim s ≡ accepted) × (cramped lim (table_weight s) l ≡ false) × (is_edition ed ≡ true)
unfolding judgement judged_call is_accepted
judgement_accepted lim ed s l e = limited (is_limit lim) refl e
  where
    go : (a : Bool) → is_accepted (verdict lim s) ≡ a → (b : Bool) → cramped lim (table_weight s) l ≡ b
        → cond a (cond b (refused 6 0) accepted) (verdict lim s) ≡ accepted → (verdict lim s ≡ accepted) × (cramped lim (table_weight s) l ≡ false)
    go true p true q h = absurd (let z : ◌≡◌ {A = ℕ} 6 0 = ap (λ v. v.number) h in omega arith)
    go true p false q h = (verdict_accepted lim s p, q)
    go false p b q h = absurd (let z : ◌≡◌ {A = Bool} true false = ap is_accepted (sym h) ∙ p in let y : ◌≡◌ {A = ℕ} 0 1 = cc in omega arith)

    known : (b : Bool) → is_edition ed ≡ b → cond b (judged_call lim s l) (refused 9 0) ≡ accepted
        → (verdict lim s ≡ accepted) × (cramped lim (table_weight s) l ≡ false) × (is_edition ed ≡ true)
    known true p h = let x = go (is_accepted (verdict lim s)) refl (cramped lim (table_weight s) l) refl h in (x.0, x.1, p)
    known false p h = absurd (let z : ◌≡◌ {A = ℕ} 9 0 = ap (λ v. v.number) h in omega arith)

    limited : (b : Bool) → is_limit lim ≡ b → cond b (cond (is_edition ed) (judged_call lim s l) (refused 9 0)) (refused 19 0) ≡ accepted
        → (verdict lim s ≡ accepted) × (cramped lim (table_weight s) l ≡ false) × (is_edition ed ≡ true)
    limited true p h = known (is_edition ed) refl h
    limited false p h = absurd (let z : ◌≡◌ {A = ℕ} 19 0 = ap (λ v. v.number) h in omega arith)

pub accepted_judgement : (lim ed : ℕ) (s : List ℕ) (l : Lent) → is_limit lim ≡ true → is_edition ed ≡ true → verdict lim s ≡ accepted
    → cramped lim (table_weight s) l ≡ false
    → judgement lim ed s l ≡ accepted
unfolding judgement judged_call is_accepted
accepted_judgement lim ed s l n k e h = rw (n, k, e, h)

-- ---- the two cases of a call
-- refused, but not with 7
pub record TurnedDown (lim ed : ℕ) (run : Tree → Ran) (s : List ℕ) (l : Lent) : Type 0 where
  pub number : 1 ≤ (judgement lim ed s l).number
  pub not_7 : ¬ ((judgement lim ed s l).number ≡ 7)
  pub answer : (simplified_by lim ed run s l).answer ≡ refused_by (judgement lim ed s l)
  pub lent : (simplified_by lim ed run s l).lent ≡ l

-- or run on the tree of the table
pub record RunOn (lim ed : ℕ) (run : Tree → Ran) (s : List ℕ) (l : Lent) : Type 0 where
  pub accepts : judgement lim ed s l ≡ accepted
  pub holds : Holds lim s
  pub answer : (simplified_by lim ed run s l).answer ≡ ran_answer (weight holds.tree) (run holds.tree)
  pub lent : (simplified_by lim ed run s l).lent ≡ lent_after lim (ran (weight holds.tree) (run holds.tree)) l

pub data Call (lim ed : ℕ) (run : Tree → Ran) (s : List ℕ) (l : Lent) : Type 0 where
  is_turned_down : TurnedDown lim ed run s l → Call lim ed run s l
  is_run : RunOn lim ed run s l → Call lim ed run s l

module _ (lim ed : ℕ) (run : Tree → Ran) (s : List ℕ) (l : Lent) where
  down_outcome : is_accepted (judgement lim ed s l) ≡ false → outcome_of lim ed run s l ≡ turned_down (judgement lim ed s l)
  unfolding outcome_of
  down_outcome e = rw e

  run_outcome : judgement lim ed s l ≡ accepted → (h : Holds lim s) → outcome_of lim ed run s l ≡ ran (weight h.tree) (run h.tree)
  unfolding outcome_of is_accepted run_on
  run_outcome e h = rw (e, h.read, h.weighs)

  -- whatever is handed in, one of the two
  pub call : Bytes s → Call lim ed run s l
  unfolding simplified_by answer_of lent_after out_after steps_after work_after is_accepted
  call b = go (is_accepted (judgement lim ed s l)) refl
    where
      go : (a : Bool) → is_accepted (judgement lim ed s l) ≡ a → Call lim ed run s l
      go true e =
          let j : judgement lim ed s l ≡ accepted = (judgement_plain lim ed s l).0 e in
          let h : Holds lim s = accepted_holds lim s b (judgement_accepted lim ed s l j).0 in
          let o = run_outcome j h in
          is_run (record { accepts = j; holds = h; answer = ap answer_of o; lent = ap (λ x. lent_after lim x l) o })
      go false e =
          let o = down_outcome e in
          is_turned_down
          (record {
            number = some_number (judgement lim ed s l).number refl e;
            not_7 = (judgement_plain lim ed s l).1;
            answer = ap answer_of o;
            lent = ap (λ x. lent_after lim x l) o;
          })
        where
          some_number : (n : ℕ) → (judgement lim ed s l).number ≡ n → eqb (judgement lim ed s l).number 0 ≡ false → 1 ≤ n
          some_number zero p q =
              absurd (let z : ◌≡◌ {A = Bool} true false = sym (eq-eqb (judgement lim ed s l).number 0 p) ∙ q in let y : ◌≡◌ {A = ℕ} 0 1 = cc in omega arith)
          some_number (suc n) p q = omega arith

-- ---- what a refusal's answer tells
pub refusal_tells : (v w : Verdict) → refused_by v ≡ refused_by w → v ≡ w
unfolding refused_by
refusal_tells v w e = ap (λ (a : Answer). told a.number a.place a.flaw) e

-- the bytes of the result are those of the tree written
pub result_written : (g : Given) (w : ℕ) (u : Tree) (old : List ℕ) → g.answer.records_written ≡ records u → g.lent.out ≡ stretch (16 * w) (encode u) old
    → result g ≡ encode u
unfolding result stretch
result_written g w u old e h =
    ap (λ k. take (16 * k) g.lent.out) e ∙ ap (take (16 * records u)) h ∙ take_at (encode u) _ (16 * records u) (encode_length u)

-- a table has one tree
pub same_tree : {o : Option Tree} {t u : Tree} → o ≡ some t → o ≡ some u → t ≡ u
same_tree e h = cc
