-- Laws of 8, test by test in the code's order, and of a call that none of the tests turns down.
use Prim.Native.Nat.{ℕ, ◌*◌, ◌/◌, ◌%◌, ◌≤◌, ◌<◌}
use mathlib.Core.Path.{◌≡◌, refl, ap}
use mathlib.Core.Bool.{Bool, true, false, cond, ◌||◌, not}
use mathlib.Core.List.{List}
use native.Mathlib.Omega.{arith}
use borrow.Author.Tests.{eq-eqb, ne_eqb, lt-ltb, le-ltb, ltb-false, eqb-true, not-false}
use lib.Dec.{eqb, ltb}
use lib.ListN.{length}
use Rattle.paper.specs.Limits.{is_limit}
use Rattle.paper.specs.Rules.{is_edition}
use Rattle.paper.specs.Answers.{Lent}
use Rattle.paper.specs.Verdict.{Verdict, refused}
use Rattle.table.specs.declared.refusals.Refusal.{Refusal}
use Rattle.table.specs.Refusals.{number_of, verdict_of}
use Rattle.table.proofs.RefusalLaws.{some_number}
use Rattle.paper.proofs.Tests.{or_neither}
use Rattle.paper_batch.specs.Batch.{lengths_in, total, unfit, turns_down, site_number, carried_out, site_called}
use Rattle.simplify.specs.Answer.{call_number}
use Rattle.batch.specs.Turn.{still}
use Rattle.batch.proofs.LengthsLaws.{length_lengths}
use Rattle.batch.proofs.StillLaws.{still_all}

module _ (tables lengths answers : List ℕ) where
  pub no_list : 0 < length lengths % 8 → true ≡ turns_down tables lengths answers
  unfolding turns_down
  no_list h = rw (ne_eqb (length lengths % 8) 0 (λ e. omega arith)) refl

  module _ (whole : length lengths % 8 ≤ 0) where
    pub too_many : 200 < length lengths / 8 → true ≡ turns_down tables lengths answers
    unfolding turns_down unfit
    too_many h =
        rw (eq-eqb (length lengths % 8) 0 (omega arith), length_lengths lengths, lt-ltb 200 (length lengths / 8) h) refl

    pub added_up : length lengths / 8 ≤ 200 → (sums : Bool) → sums ≡ eqb (total (lengths_in lengths)) (length tables)
        → not sums || ltb (length answers / 80) (length lengths / 8) ≡ turns_down tables lengths answers
    unfolding turns_down unfit
    added_up h sums e =
        rw (e, eq-eqb (length lengths % 8) 0 (omega arith), length_lengths lengths, le-ltb 200 (length lengths / 8) h) refl

  -- none of the tests turns it down
  fit : turns_down tables lengths answers ≡ false
      → (total (lengths_in lengths) ≡ length tables) × (80 * (length lengths / 8) ≤ length answers)
  unfolding turns_down unfit
  fit e =
      let n = length (lengths_in lengths) in
      let a = (or_neither (not (eqb (length lengths % 8) 0)) _ e).1 in
      let b = (or_neither (ltb 200 n) _ a).1 in
      let c = or_neither (not (eqb (total (lengths_in lengths)) (length tables))) (ltb (length answers / 80) n) b in
      (eqb-true _ _ (not-false _ c.0), omega (arith, ltb-false (length answers / 80) n c.1, length_lengths lengths))

  -- 19 goes first, then 9, then 8
  pub called_off : (lim ed : ℕ) (r : Refusal) → verdict_of r ≡ refused (call_number lim ed) 0 → number_of r ≡ site_number lim ed tables lengths answers
  unfolding site_number call_number
  called_off lim ed r e = go (is_limit lim) (is_edition ed) (ap (λ (v : Verdict). v.number) e)
    where
      go : (a b : Bool) → number_of r ≡ cond a (cond b 0 9) 19
          → number_of r ≡ cond a (cond b (cond (turns_down tables lengths answers) 8 0) 9) 19
      go false b f = f
      go true false f = f
      go true true f = absurd (omega (arith, some_number r, f))

  pub known : (lim ed : ℕ) (down : Bool) → is_limit lim ≡ true → is_edition ed ≡ true → turns_down tables lengths answers ≡ down
      → cond down 8 0 ≡ site_number lim ed tables lengths answers
  unfolding site_number
  known lim ed down n e h = rw (n, e, h) refl

  -- a call that is not refused: the lengths add up, each item has a place, and all items are still to do
  module _ (lim ed : ℕ) (accepts : site_number lim ed tables lengths answers ≡ 0) where
    not_down : turns_down tables lengths answers ≡ false
    unfolding site_number
    not_down = go (is_limit lim) (is_edition ed) (turns_down tables lengths answers) accepts
      where
        go : (a b down : Bool) → ◌≡◌ {A = ℕ} (cond a (cond b (cond down 8 0) 9) 19) 0 → down ≡ false
        go a b false e = refl
        go true true true e = absurd (omega arith)
        go true false true e = absurd (omega arith)
        go false b true e = absurd (omega arith)

    pub fits : (total (lengths_in lengths) ≡ length tables) × (80 * (length lengths / 8) ≤ length answers)
    fits = fit not_down

    pub carried_out_lem : (l : Lent) → still lim ed 0 0 (lengths_in lengths) tables l answers ≡ site_called lim ed tables lengths l answers
    unfolding site_called carried_out
    carried_out_lem l = rw accepts (still_all lim ed (lengths_in lengths) tables l answers)
