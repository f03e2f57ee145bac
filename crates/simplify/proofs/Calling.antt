-- The public call: what the checker's answer and the tests of the areas say of the paper's judgement, and how a run in stretches of
-- the areas gives the areas afterwards.
use Prim.Native.Nat.{ℕ, ◌+◌, ◌-◌, ◌*◌, ◌≤◌}
use mathlib.Core.Path.{◌≡◌, refl, sym, ap, ◌∙◌}
use mathlib.Core.Bool.{Bool, true, false, cond, ◌||◌}
use mathlib.Core.List.{List, [], ◌++◌, append_assoc}
use native.Mathlib.Omega.{arith}
use lib.ListN.{length, take, drop, replicate, length-replicate}
use lib.Seq.{length-take-le, drop_at}
use lib.Dec.{eqb, ltb}
use borrow.Author.Tests.{ne_eqb, ltb-false}
use borrow.Rule.Slice.PartMut.{put_mid, mid_len}
use Rattle.paper.specs.Limits.{is_limit, work_bytes}
use Rattle.paper.specs.Bytes.{Bytes, stretch}
use Rattle.paper.specs.Tree.{Tree, weight}
use Rattle.paper.specs.Verdict.{Verdict, accepted, refused, is_accepted, table_weight, verdict}
use Rattle.paper.specs.Driver.{Ran, done, over}
use Rattle.paper.specs.Answers as paper
use Rattle.paper.specs.Rules.{is_edition}
use Rattle.paper.specs.Answers.{simplified_by, outcome_of, judged_call, judgement, answer_of, lent_after, out_after, steps_after, work_after}
use Rattle.paper.proofs.Tests.{or_neither, true_not_false}
use Rattle.paper.proofs.LimitLaws.{limit_small, limit_work}
use Rattle.paper.proofs.AcceptedLaws.{Holds, accepted_holds}
use Rattle.paper.proofs.Editions.{unknown_edition, another_limit}
use Rattle.paper.proofs.CallLaws.{judgement_accepted, accepted_judgement, Call, is_turned_down, is_run, RunOn, call}
use Rattle.stretch.specs.Put.{put}
use Rattle.std.specs.Prelude.{Ok, Err}
use Rattle.table.specs.declared.refusals.Refusal.{Refusal}
use Rattle.table.specs.Refusals as table
use Rattle.table.specs.Refusals.{verdict_of}
use Rattle.table.proofs.RefusalLaws.{some_number, says_verdict}
use Rattle.simplify.specs.declared.Answer.{Answer}
use Rattle.simplify.specs.Answer.{says, lent, gives, call_number, short, has_run, cleaned, filled, Lending, Leaves}
use Rattle.driver.proofs.Runs.{drives}

-- a stretch that was lent and filled
pub lent_stretch : (n : ℕ) (d l xs : List ℕ) → n ≤ length d → l ≡ filled (length (take (n - 0) (drop 0 d))) xs → put_mid 0 (n - 0) d l ≡ stretch n xs d
unfolding filled stretch
lent_stretch n d l xs h e =
    let z : n - 0 ≡ n = omega arith in
    let k : length (take (n - 0) (drop 0 d)) ≡ n = ap (λ i. length (take i d)) z ∙ length-take-le n d h in
    ap (λ (i : List ℕ). i ++ drop (n - 0) d) (e ∙ ap (λ i. xs ++ replicate (i - length xs) 0) k)
    ∙ ap (λ i. (xs ++ replicate (n - length xs) 0) ++ drop i d) z
    ∙ append_assoc xs (replicate (n - length xs) 0) (drop n d)

same_given : {a b : paper.Answer} {l m : paper.Lent} → a ≡ b → l ≡ m
    → ◌≡◌ {A = paper.Given} (record { answer = a; lent = l }) (record { answer = b; lent = m })
same_given e f = cc

same_lent : {a b c d e f : List ℕ} → a ≡ b → c ≡ d → e ≡ f → lent a c e ≡ lent b d f
same_lent p q r = cc

-- ---- the limit and the edition: one of them is refused, or both are known
pub called_off : (lim ed : ℕ) (r : Refusal) → verdict_of r ≡ refused (call_number lim ed) 0 → (s : List ℕ) (a : Answer) (out steps work : List ℕ)
    → says a ≡ paper.refused_by (verdict_of r) → gives a out steps work ≡ paper.simplified lim ed s (lent out steps work)
unfolding call_number
called_off lim ed r e s a out steps work q = go (is_limit lim) refl (is_edition ed) refl e
  where
    go : (b : Bool) → is_limit lim ≡ b → (c : Bool) → is_edition ed ≡ c → verdict_of r ≡ refused (cond b (cond c 0 9) 19) 0
        → gives a out steps work ≡ paper.simplified lim ed s (lent out steps work)
    go false l c m f = same_given (q ∙ ap paper.refused_by f) refl ∙ sym (another_limit lim l ed s (lent out steps work))
    go true l false m f = same_given (q ∙ ap paper.refused_by f) refl ∙ sym (unknown_edition lim l s (lent out steps work) ed m)
    go true l true m f = absurd (omega (arith, some_number r, ap (λ (v : Verdict). v.number) f))

pub both_known : (lim ed : ℕ) → accepted ≡ refused (call_number lim ed) 0 → (is_limit lim ≡ true) × (is_edition ed ≡ true)
unfolding call_number
both_known lim ed e = go (is_limit lim) refl (is_edition ed) refl (ap (λ (v : Verdict). v.number) e)
  where
    go : (b : Bool) → is_limit lim ≡ b → (c : Bool) → is_edition ed ≡ c → ◌≡◌ {A = ℕ} 0 (cond b (cond c 0 9) 19)
        → (is_limit lim ≡ true) × (is_edition ed ≡ true)
    go false l c m f = absurd (omega arith)
    go true l false m f = absurd (omega arith)
    go true l true m f = (l, m)

module _ (lim : ℕ) (limited : is_limit lim ≡ true) (s : List ℕ) where
  -- refusals 1 to 5
  pub turned_down : (ed : ℕ) → is_edition ed ≡ true → (r : Refusal) → table.says (Err r) ≡ paper.weighed lim s → (a : Answer) (out steps work : List ℕ)
      → says a ≡ paper.refused_by (verdict_of r) → gives a out steps work ≡ paper.simplified lim ed s (lent out steps work)
  unfolding paper.simplified simplified_by outcome_of judgement judged_call answer_of lent_after out_after steps_after work_after is_accepted
      paper.weighed paper.measured
  turned_down ed known r e a out steps work q =
      let told_so : verdict_of r ≡ verdict lim s = says_verdict (verdict lim s) (table_weight s) (Err r) e in
      let n : eqb (verdict lim s).number 0 ≡ false
      = ne_eqb (verdict lim s).number 0 (λ z. omega (arith, some_number r, ap (λ (v : Verdict). v.number) told_so)) in
      rw (limited, known, n, n) (same_given (q ∙ ap paper.refused_by told_so) refl)

  module _ (w : ℕ) (e : table.says (Ok w) ≡ paper.weighed lim s) where
    pub fine : verdict lim s ≡ accepted
    unfolding paper.weighed
    fine = sym (says_verdict (verdict lim s) (table_weight s) (Ok w) e)

    pub weight_is : w ≡ table_weight s
    unfolding paper.weighed paper.measured is_accepted
    weight_is = ap (λ x. x.result) e ∙ rw fine refl

    pub holds : Bytes s → Holds lim s
    holds b = accepted_holds lim s b fine

    pub light : Bytes s → w ≤ lim
    light b = omega (arith, weight_is, (holds b).weighs, (holds b).light)

    -- refusal 6
    pub cramped : (ed : ℕ) → is_edition ed ≡ true → (a : Answer) (out steps work : List ℕ)
        → short lim w (length out) (length steps) (length work) ≡ true → says a ≡ paper.refusal 6 0
        → gives a out steps work ≡ paper.simplified lim ed s (lent out steps work)
    unfolding paper.simplified paper.cramped short simplified_by outcome_of judgement judged_call answer_of lent_after out_after steps_after
        work_after is_accepted
    cramped ed known a out steps work c q =
        let k : paper.cramped lim (table_weight s) (lent out steps work) ≡ true
        = ap (λ i. paper.cramped lim i (lent out steps work)) (sym weight_is) ∙ c in
        rw (limited, known, fine, k) (same_given q refl)

-- ---- `work`, cleared where there was a run
ran_number : (w : ℕ) (r : Ran) → has_run (paper.ran_answer w r).number ≡ true
unfolding has_run paper.ran_answer paper.refused_by
ran_number w (done u ks o n) = refl
ran_number w (over k) = refl

down_number : (k : ℕ) → 1 ≤ k → ¬ (k ≡ 7) → has_run k ≡ false
unfolding has_run
down_number k g h = rw (ne_eqb k 0 (λ e. omega arith), ne_eqb k 7 h)

cleaned_ran : (lim k : ℕ) (work : List ℕ) → has_run k ≡ true → cleaned lim k work ≡ stretch (work_bytes lim) [] work
unfolding cleaned
cleaned_ran lim k work e = rw e

cleaned_down : (lim k : ℕ) (work : List ℕ) → has_run k ≡ false → cleaned lim k work ≡ work
unfolding cleaned
cleaned_down lim k work e = rw e

-- clearing looks at nothing that it clears: a stretch of `work` that came back with other bytes is cleared to the same
cleans : (lim k : ℕ) (r : Ran) (w : ℕ) → k ≡ (paper.ran_answer w r).number → (need : ℕ) (work work' : List ℕ) → need ≡ work_bytes lim → need ≤ length work
    → length work' ≡ length (take (need - 0) (drop 0 work)) → cleaned lim k (put_mid 0 (need - 0) work work') ≡ stretch (work_bytes lim) [] work
unfolding stretch
cleans lim k r w e need work work' asks room long =
    let z : need - 0 ≡ need = omega arith in
    let l : length work' ≡ need = long ∙ ap (λ i. length (take i work)) z ∙ length-take-le need work room in
    let past : drop need (work' ++ drop (need - 0) work) ≡ drop need work = drop_at work' (drop (need - 0) work) need l ∙ ap (λ i. drop i work) z in
    cleaned_ran lim k (put_mid 0 (need - 0) work work') (ap has_run e ∙ ran_number w r)
    ∙ ap (λ i. replicate (work_bytes lim - 0) 0 ++ drop i (work' ++ drop (need - 0) work)) (sym asks)
    ∙ ap (λ (d : List ℕ). replicate (work_bytes lim - 0) 0 ++ d) (past ∙ ap (λ i. drop i work) asks)

-- a call's answer, by its two cases
module _ (lim ed : ℕ) (s : List ℕ) (b : Bytes s) (a : Answer) (out steps work out' steps' : List ℕ) where
  -- where the areas are as the simplifier leaves them, clearing changes nothing
  pub as_left : gives a out' steps' work ≡ paper.simplified lim ed s (lent out steps work)
      → gives a out' steps' (cleaned lim a.number work) ≡ paper.simplified lim ed s (lent out steps work)
  unfolding paper.simplified lent_after work_after paper.refused_by
  as_left e = ap (λ (x : List ℕ). gives a out' steps' x) (go (call lim ed (drives ed) s (lent out steps work) b)) ∙ e
    where
      go : Call lim ed (drives ed) s (lent out steps work) → cleaned lim a.number work ≡ work
      go (is_turned_down d) =
          let k : a.number ≡ (paper.judgement lim ed s (lent out steps work)).number =
          ap (λ (g : paper.Given). g.answer.number) e ∙ ap (λ (x : paper.Answer). x.number) d.answer in
          cleaned_down lim a.number work (ap has_run k ∙ down_number _ d.number d.not_7)
      go (is_run r) =
          let k : a.number ≡ (paper.ran_answer (weight r.holds.tree) (drives ed r.holds.tree)).number
          = ap (λ (g : paper.Given). g.answer.number) e ∙ ap (λ (x : paper.Answer). x.number) r.answer in
          cleaned_ran lim a.number work (ap has_run k ∙ ran_number (weight r.holds.tree) (drives ed r.holds.tree))
          ∙ sym (ap (λ (g : paper.Given). g.lent.work) e ∙ ap (λ (x : paper.Lent). x.work) r.lent)

  -- after a run `work` has the bytes that the limit asks for
  pub run_room : says a ≡ (paper.simplified lim ed s (lent out steps work)).answer → has_run a.number ≡ true → work_bytes lim ≤ length work
  unfolding paper.simplified paper.cramped paper.refused_by
  run_room e h = go (call lim ed (drives ed) s (lent out steps work) b)
    where
      go : Call lim ed (drives ed) s (lent out steps work) → work_bytes lim ≤ length work
      go (is_turned_down d) =
          let k : a.number ≡ (paper.judgement lim ed s (lent out steps work)).number = ap (λ (x : paper.Answer). x.number) (e ∙ d.answer) in
          absurd (true_not_false h (ap has_run k ∙ down_number _ d.number d.not_7))
      go (is_run r) =
          let w = table_weight s in
          ltb-false (length work) (work_bytes lim)
          (or_neither (ltb (length out) (16 * w) || ltb (length steps) w) (ltb (length work) (work_bytes lim))
          (judgement_accepted lim ed s (lent out steps work) r.accepts).1).1

-- zeros put in front are a stretch of zeros
pub put_zeros : (n : ℕ) (d : List ℕ) → put d 0 (replicate n 0) ≡ stretch n [] d
unfolding put stretch
put_zeros n d =
    let zeros : List ℕ = replicate n 0 in
    let l : 0 + length zeros ≡ n = omega (arith, length-replicate {A = ℕ} n 0) in
    let z : n ≡ n - 0 = omega arith in
    ap (λ i. zeros ++ drop i d) l ∙ ap (λ i. replicate i 0 ++ drop n d) z

-- and cleared it is as the simplifier leaves it
pub cleared : (lim k need : ℕ) (work work' : List ℕ) → has_run k ≡ true → need ≡ work_bytes lim
    → work' ≡ put work 0 (replicate need 0) → work' ≡ cleaned lim k work
cleared lim k need work work' h asks e = e ∙ put_zeros need work ∙ ap (λ i. stretch i [] work) asks ∙ sym (cleaned_ran lim k work h)

pub uncleared : (lim k : ℕ) (work : List ℕ) → has_run k ≡ false → work ≡ cleaned lim k work
uncleared lim k work h = sym (cleaned_down lim k work h)

-- a call that is accepted: limit and edition are known, the table is fine, and the areas have room
pub record Accepted (lim ed : ℕ) (s : List ℕ) (w : ℕ) (need : ℕ) (out steps work : List ℕ) : Type 0 where
  pub limited : is_limit lim ≡ true
  pub known : is_edition ed ≡ true
  pub asks : need ≡ work_bytes lim
  pub says_so : table.says (Ok w) ≡ paper.weighed lim s
  pub bytes : Bytes s
  pub roomy : short lim w (length out) (length steps) (length work) ≡ false

module _ {lim ed : ℕ} {s : List ℕ} {w : ℕ} {need : ℕ} {out steps work : List ℕ} (c : Accepted lim ed s w need out steps work) where
  weighs : w ≡ table_weight s
  weighs = weight_is lim c.limited s w c.says_so

  uncramped : paper.cramped lim (table_weight s) (lent out steps work) ≡ false
  unfolding paper.cramped short
  uncramped = ap (λ i. paper.cramped lim i (lent out steps work)) (sym weighs) ∙ c.roomy

  pub rooms : (16 * w ≤ length out) × (w ≤ length steps) × (need ≤ length work)
  unfolding short
  rooms =
      let apart = or_neither (ltb (length out) (16 * w) || ltb (length steps) w) (ltb (length work) (work_bytes lim)) c.roomy in
      let front = or_neither (ltb (length out) (16 * w)) (ltb (length steps) w) apart.0 in (
        ltb-false (length out) (16 * w) front.0,
        ltb-false (length steps) w front.1,
        omega (arith, ltb-false (length work) (work_bytes lim) apart.1, c.asks),
      )

  pub on : RunOn lim ed (drives ed) s (lent out steps work)
  on = go (call lim ed (drives ed) s (lent out steps work) c.bytes)
    where
      go : Call lim ed (drives ed) s (lent out steps work) → RunOn lim ed (drives ed) s (lent out steps work)
      go (is_run r) = r
      go (is_turned_down d) =
          let j = accepted_judgement lim ed s (lent out steps work) c.limited c.known
          (fine lim c.limited s w c.says_so) uncramped in
          absurd (let z = ap (λ v. v.number) j in omega (arith, d.number))

  abbrev pub tree : Tree
  tree = on.holds.tree

  -- what is lent to the run
  pub lending : Lending s (take (16 * w - 0) (drop 0 out)) (take (w - 0) (drop 0 steps)) (take (need - 0) (drop 0 work)) w tree
  lending =
      let k = on.holds in
      let its : w ≡ weight tree = weighs ∙ k.weighs in
      let l = k.light in
      let few = limit_small lim c.limited in
      let whole = limit_work lim c.limited in
      let asks = c.asks in
      let lo = mid_len 0 (16 * w) out rooms.0 in
      let lz = mid_len 0 w steps rooms.1 in
      let lw = mid_len 0 need work rooms.2 in
      record {
        wf = k.wf;
        light = omega arith;
        written = k.written;
        weighs = its;
        out_room = omega arith;
        steps_room = omega arith;
        work_room = omega arith;
        work_records = omega arith;
      }

  -- the run's answer, and the areas with their stretches back; that of `work` is cleared yet
  pub ran : (a : Answer) (out' steps' work' : List ℕ)
      → Leaves (drives ed tree) w a (take (16 * w - 0) (drop 0 out)) out' (take (w - 0) (drop 0 steps)) steps'
      → length work' ≡ length (take (need - 0) (drop 0 work))
      → gives a (put_mid 0 (16 * w - 0) out out') (put_mid 0 (w - 0) steps steps') (cleaned lim a.number (put_mid 0 (need - 0) work work'))
      ≡ paper.simplified lim ed s (lent out steps work)
  unfolding paper.simplified simplified_by lent_after out_after steps_after work_after
  ran a out' steps' work' r long =
      let its : w ≡ weight tree = weighs ∙ on.holds.weighs in
      same_given
      (r.answer ∙ ap (λ i. paper.ran_answer i (drives ed tree)) its ∙ sym on.answer)
      (same_lent
      (lent_stretch (16 * w) out out' (paper.written (drives ed tree)) rooms.0 r.out_is)
      (lent_stretch w steps steps' (paper.noted (drives ed tree)) rooms.1 r.steps_is)
      (cleans lim a.number (drives ed tree) w (ap (λ (x : paper.Answer). x.number) r.answer) need work work' c.asks rooms.2 long)
      ∙ ap (λ i. paper.lent_after lim (paper.ran i (drives ed tree)) (lent out steps work)) its ∙ sym on.lent)
