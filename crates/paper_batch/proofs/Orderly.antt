-- What an item does to what it is handed: it uses up stretches at the front, within the areas, and leaves what is past them. The paper's
-- simplifier does, in every edition: refused it leaves all, and a run writes no more than its stretches hold.
use Prim.Native.Nat.{ℕ, ◌-◌, ◌*◌, ◌≤◌}
use mathlib.Core.Path.{◌≡◌, refl, sym, ap, ◌∙◌}
use mathlib.Core.Bool.{true, false, cond, ◌||◌}
use mathlib.Core.List.{List, [], ◌++◌, append_assoc}
use native.Mathlib.Omega.{arith}
use borrow.Author.Tests.{ne_eqb, ltb-false}
use lib.Dec.{ltb}
use lib.ListN.{length, drop, replicate, length-append, length-drop, length-replicate}
use lib.Seq.{drop_at}
use Rattle.paper.specs.Limits.{work_bytes}
use Rattle.paper.specs.Bytes.{Bytes, stretch}
use Rattle.paper.specs.Tree.{weight}
use Rattle.paper.specs.Verdict.{Verdict, is_accepted, table_weight, verdict}
use Rattle.paper.specs.Rules.{rules_of}
use Rattle.paper.specs.Driver.{Ran, done, over, simplify}
use Rattle.paper.specs.Answers.{Lent, Given, cramped, judgement, refused_by, ran, ran_answer, written, noted, out_after, steps_after}
use Rattle.paper.specs.Answers.{work_after, lent_after, simplified_by, simplified}
use Rattle.paper.proofs.Tests.{or_neither}
use Rattle.paper.proofs.AcceptedLaws.{Holds}
use Rattle.paper.proofs.CallLaws.{Call, is_turned_down, is_run, call, judgement_accepted}
use Rattle.paper.proofs.EditionTwo.{edition_good}
use Rattle.paper.proofs.Simplified.{simplify_finished}
use Rattle.paper_batch.specs.Batch.{has_run, used_up}
use Rattle.paper_batch.specs.Sentences.{weight_if}

pub record Orderly (s : List ℕ) (l : Lent) (g : Given) : Type 0 where
  pub out_kept : length g.lent.out ≡ length l.out
  pub steps_kept : length g.lent.steps ≡ length l.steps
  pub work_kept : length g.lent.work ≡ length l.work
  pub out_fits : 16 * used_up s g.answer ≤ length l.out
  pub steps_fit : used_up s g.answer ≤ length l.steps
  pub out_past : drop (16 * used_up s g.answer) g.lent.out ≡ drop (16 * used_up s g.answer) l.out
  pub steps_past : drop (used_up s g.answer) g.lent.steps ≡ drop (used_up s g.answer) l.steps

-- ---- stretches
stretch_length : (n : ℕ) (xs old : List ℕ) → length xs ≤ n → n ≤ length old → length (stretch n xs old) ≡ length old
unfolding stretch
stretch_length n xs old h l = simp (length-append, length-replicate, length-drop) (omega arith)

stretch_past : (n : ℕ) (xs old : List ℕ) → length xs ≤ n → drop n (stretch n xs old) ≡ drop n old
unfolding stretch
stretch_past n xs old h =
    let e : length (xs ++ replicate (n - length xs) 0) ≡ n = simp (length-append, length-replicate) (omega arith) in
    rw (sym (append_assoc xs (replicate (n - length xs) 0) (drop n old))) (drop_at (xs ++ replicate (n - length xs) 0) (drop n old) n e)

pub cleared_again : (n : ℕ) (old : List ℕ) → stretch n [] (stretch n [] old) ≡ stretch n [] old
unfolding stretch
cleared_again n old = ap (λ (d : List ℕ). replicate (n - 0) 0 ++ d) (stretch_past n [] old (omega arith))

roomy : (lim w : ℕ) (l : Lent) → cramped lim w l ≡ false → (16 * w ≤ length l.out) × (w ≤ length l.steps) × (work_bytes lim ≤ length l.work)
unfolding cramped
roomy lim w l h =
    let a = or_neither (ltb (length l.out) (16 * w) || ltb (length l.steps) w) (ltb (length l.work) (work_bytes lim)) h in
    let b = or_neither (ltb (length l.out) (16 * w)) (ltb (length l.steps) w) a.0 in
    (ltb-false _ _ b.0, ltb-false _ _ b.1, ltb-false _ _ a.1)

-- ---- what an item uses up
has_run_lem : (w : ℕ) (r : Ran) → has_run (ran_answer w r) ≡ true
unfolding has_run ran_answer refused_by
has_run_lem w (done u ks o n) = refl
has_run_lem w (over k) = refl

not_run : (v : Verdict) → 1 ≤ v.number → ¬ (v.number ≡ 7) → has_run (refused_by v) ≡ false
unfolding has_run refused_by
not_run v g h = rw (ne_eqb v.number 0 (λ e. omega arith), ne_eqb v.number 7 h)

pub uses_run : (s : List ℕ) (w : ℕ) (r : Ran) → used_up s (ran_answer w r) ≡ table_weight s
unfolding used_up
uses_run s w r = rw (has_run_lem w r)

pub uses_none : (s : List ℕ) (v : Verdict) → 1 ≤ v.number → ¬ (v.number ≡ 7) → used_up s (refused_by v) ≡ 0
unfolding used_up
uses_none s v g h = rw (not_run v g h)

-- what a run writes fits into its stretches
record Fitting (w : ℕ) (r : Ran) : Type 0 where
  written_fits : length (written r) ≤ 16 * w
  noted_fits : length (noted r) ≤ w

module _ (lim ed : ℕ) where
  run_fits : (s : List ℕ) (h : Holds lim s) → Fitting (weight h.tree) (simplify (rules_of ed) h.tree)
  unfolding written noted
  run_fits s h = go (simplify (rules_of ed) h.tree) refl
    where
      go : (r : Ran) → simplify (rules_of ed) h.tree ≡ r → Fitting (weight h.tree) r
      go (done u ks o n) e =
          let f = simplify_finished (edition_good ed) h.tree u ks o n h.wf e in
          record { written_fits = f.out_suffices; noted_fits = f.steps_suffice }
      go (over k) e = record { written_fits = omega arith; noted_fits = omega arith }

  module _ (s : List ℕ) (b : Bytes s) (l : Lent) where
    down : (g : Given) (v : Verdict) → g.answer ≡ refused_by v → g.lent ≡ l → 1 ≤ v.number → ¬ (v.number ≡ 7) → Orderly s l g
    down g v e q x y =
        let z : used_up s g.answer ≡ 0 = ap (used_up s) e ∙ uses_none s v x y in
        record {
          out_kept = ap (λ (m : Lent). length m.out) q;
          steps_kept = ap (λ (m : Lent). length m.steps) q;
          work_kept = ap (λ (m : Lent). length m.work) q;
          out_fits = omega arith;
          steps_fit = omega arith;
          out_past = ap (λ (m : Lent). drop (16 * used_up s g.answer) m.out) q;
          steps_past = ap (λ (m : Lent). drop (used_up s g.answer) m.steps) q;
        }

    up : (g : Given) (w : ℕ) (r : Ran) → g.answer ≡ ran_answer w r → g.lent ≡ lent_after lim (ran w r) l → table_weight s ≡ w → Fitting w r
        → (16 * w ≤ length l.out) × (w ≤ length l.steps) × (work_bytes lim ≤ length l.work) → Orderly s l g
    unfolding lent_after out_after steps_after work_after
    up g w r e q t f h =
        let z : used_up s g.answer ≡ w = ap (used_up s) e ∙ uses_run s w r ∙ t in
        let o : g.lent.out ≡ stretch (16 * w) (written r) l.out = ap (λ (m : Lent). m.out) q in
        let p : g.lent.steps ≡ stretch w (noted r) l.steps = ap (λ (m : Lent). m.steps) q in
        record {
          out_kept = ap length o ∙ stretch_length (16 * w) (written r) l.out f.written_fits h.0;
          steps_kept = ap length p ∙ stretch_length w (noted r) l.steps f.noted_fits h.1;
          work_kept = ap (λ (m : Lent). length m.work) q ∙ stretch_length (work_bytes lim) [] l.work (omega arith) h.2;
          out_fits = omega (arith, h.0);
          steps_fit = omega (arith, h.1);
          out_past = rw (z, o) (stretch_past (16 * w) (written r) l.out f.written_fits);
          steps_past = rw (z, p) (stretch_past w (noted r) l.steps f.noted_fits);
        }

    pub simplified_orderly : Orderly s l (simplified lim ed s l)
    unfolding simplified
    simplified_orderly = go (call lim ed (simplify (rules_of ed)) s l b)
      where
        go : Call lim ed (simplify (rules_of ed)) s l → Orderly s l (simplified_by lim ed (simplify (rules_of ed)) s l)
        go (is_turned_down d) = down _ _ d.answer d.lent d.number d.not_7
        go (is_run r) =
            up _ _ _ r.answer r.lent r.holds.weighs (run_fits s r.holds)
            (rw r.holds.weighs at (roomy lim (table_weight s) l (judgement_accepted lim ed s l r.accepts).1))

    -- `work`: zeros in front where the item ran, else as it was
    pub work_turn : (simplified lim ed s l).lent.work ≡ cond (has_run (simplified lim ed s l).answer) (stretch (work_bytes lim) [] l.work) l.work
    unfolding simplified lent_after work_after
    work_turn = go (call lim ed (simplify (rules_of ed)) s l b)
      where
        go : Call lim ed (simplify (rules_of ed)) s l → let g = simplified_by lim ed (simplify (rules_of ed)) s l in
            g.lent.work ≡ cond (has_run g.answer) (stretch (work_bytes lim) [] l.work) l.work
        go (is_turned_down d) = rw (d.answer, not_run (judgement lim ed s l) d.number d.not_7) (ap (λ (m : Lent). m.work) d.lent)
        go (is_run r) =
            rw (r.answer, has_run_lem (weight r.holds.tree) (simplify (rules_of ed) r.holds.tree)) (ap (λ (m : Lent). m.work) r.lent)

    -- no item uses up more than its table weighs, and only an accepted table's uses up any
    pub uses_at_most : used_up s (simplified lim ed s l).answer ≤ weight_if (is_accepted (verdict lim s)) s
    unfolding simplified weight_if is_accepted
    uses_at_most = go (call lim ed (simplify (rules_of ed)) s l b)
      where
        go : Call lim ed (simplify (rules_of ed)) s l
            → used_up s (simplified_by lim ed (simplify (rules_of ed)) s l).answer ≤ cond (is_accepted (verdict lim s)) (table_weight s) 0
        go (is_turned_down d) = omega (arith, ap (used_up s) d.answer ∙ uses_none s (judgement lim ed s l) d.number d.not_7)
        go (is_run r) =
            let v : is_accepted (verdict lim s) ≡ true = ap is_accepted (judgement_accepted lim ed s l r.accepts).0 in
            rw v (omega (arith, ap (used_up s) r.answer ∙ uses_run s (weight r.holds.tree) (simplify (rules_of ed) r.holds.tree)))
