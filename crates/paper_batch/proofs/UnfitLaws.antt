-- The refusals of the call as a whole: 19, then 9, then 8, each exactly when the requests say so, and nothing is changed. The tests of 8 are its words.
use Prim.Native.Nat.{ℕ, ◌/◌, ◌%◌}
use mathlib.Core.Path.{◌≡◌, refl, ap}
use mathlib.Core.Bool.{Bool, true, false, cond, ◌||◌, not}
use mathlib.Core.List.{List}
use mathlib.Core.Logic.{◌⊎◌, inl, inr, ◌↔◌}
use native.Mathlib.Omega.{arith}
use borrow.Author.Tests.{ne_eqb, eqb-false, not-true, lt-ltb, ltb-true}
use lib.Dec.{eqb, ltb}
use lib.ListN.{length}
use Rattle.paper.specs.Limits.{is_limit}
use Rattle.paper.specs.Rules.{is_edition}
use Rattle.paper.specs.Answers.{Lent}
use Rattle.paper.proofs.Tests.{or_either, or_left, or_right}
use Rattle.paper_batch.specs.Batch.{total, lengths_in, unfit, turns_down, Site, site_number, untouched, carried_out, site_called}
use Rattle.paper_batch.specs.Sentences.{Unfit, no_lengths, over_200, not_adding_up, fewer_places}

-- ---- 8 in the request's words
module _ (tables lengths answers : List ℕ) where
  ns : List ℕ
  ns = lengths_in lengths

  ragged : Bool
  ragged = not (eqb (length lengths % 8) 0)

  most : Bool
  most = ltb 200 (length ns)

  sums : Bool
  sums = not (eqb (total ns) (length tables))

  few : Bool
  few = ltb (length answers / 80) (length ns)

  unfit_words : turns_down tables lengths answers ≡ true → Unfit tables lengths answers
  unfolding turns_down unfit ns ragged most sums few
  unfit_words e = first (or_either ragged (most || (sums || few)) e)
    where
      last : (sums ≡ true) ⊎ (few ≡ true) → Unfit tables lengths answers
      last (inl e) = not_adding_up (eqb-false (total ns) (length tables) (not-true _ e))
      last (inr e) = fewer_places (omega (arith, ltb-true (length answers / 80) (length ns) e))

      more : (most ≡ true) ⊎ ((sums || few) ≡ true) → Unfit tables lengths answers
      more (inl e) = over_200 (ltb-true 200 (length ns) e)
      more (inr e) = last (or_either sums few e)

      first : (ragged ≡ true) ⊎ ((most || (sums || few)) ≡ true) → Unfit tables lengths answers
      first (inl e) = no_lengths (λ m q. eqb-false (length lengths % 8) 0 (not-true _ e) (omega arith))
      first (inr e) = more (or_either most (sums || few) e)

  words_unfit : Unfit tables lengths answers → turns_down tables lengths answers ≡ true
  unfolding turns_down unfit ns ragged most sums few
  words_unfit (no_lengths h) =
      or_left ragged (most || (sums || few)) (ap not (ne_eqb (length lengths % 8) 0 (λ e. h (length lengths / 8) (omega arith))))
  words_unfit (over_200 h) = or_right ragged (most || (sums || few)) (or_left most (sums || few) (lt-ltb 200 (length ns) h))
  words_unfit (not_adding_up h) =
      or_right ragged (most || (sums || few)) (or_right most (sums || few) (or_left sums few (ap not (ne_eqb (total ns) (length tables) h))))
  words_unfit (fewer_places h) =
      or_right ragged (most || (sums || few))
      (or_right most (sums || few) (or_right sums few (lt-ltb (length answers / 80) (length ns) (omega arith))))

-- ---- what the call returns
module _ (lim ed : ℕ) (tables lengths answers : List ℕ) where
  -- the call is refused with k: k, and nothing changed
  pub refused_changes_nothing : (l : Lent) (k : ℕ) → site_number lim ed tables lengths answers ≡ k → ¬ (k ≡ 0)
      → site_called lim ed tables lengths l answers ≡ untouched k l answers
  unfolding site_called
  refused_changes_nothing l k e h = rw (e, ne_eqb k 0 h)

  -- what the call returns is that number
  pub returns_number : (l : Lent) → (site_called lim ed tables lengths l answers).number ≡ site_number lim ed tables lengths answers
  unfolding site_called untouched carried_out
  returns_number l = go (eqb (site_number lim ed tables lengths answers) 0) (site_number lim ed tables lengths answers) _
    where
      go : (b : Bool) (k : ℕ) (x : Site) → (cond b (carried_out k (lengths_in lengths) x answers) (untouched k l answers)).number ≡ k
      go true k x = refl
      go false k x = refl

  -- "another limit is 19, before all others"
  pub nineteen_exactly : (site_number lim ed tables lengths answers ≡ 19) ↔ (is_limit lim ≡ false)
  unfolding site_number
  nineteen_exactly = (λ e. go (is_limit lim) (is_edition ed) (turns_down tables lengths answers) e, λ h. rw h)
    where
      go : (a b c : Bool) → ◌≡◌ {A = ℕ} (cond a (cond b (cond c 8 0) 9) 19) 19 → a ≡ false
      go true true true e = absurd (omega arith)
      go true true false e = absurd (omega arith)
      go true false c e = absurd (omega arith)
      go false b c e = refl

  -- "an unknown edition, before 8 and 1, number 9", at a limit that there is
  pub nine_exactly : (site_number lim ed tables lengths answers ≡ 9) ↔ ((is_limit lim ≡ true) × (is_edition ed ≡ false))
  unfolding site_number
  nine_exactly = (λ e. go (is_limit lim) (is_edition ed) (turns_down tables lengths answers) e, λ h. rw (h.0, h.1))
    where
      go : (a b c : Bool) → ◌≡◌ {A = ℕ} (cond a (cond b (cond c 8 0) 9) 19) 9 → (a ≡ true) × (b ≡ false)
      go true true true e = absurd (omega arith)
      go true true false e = absurd (omega arith)
      go true false c e = (refl, refl)
      go false b c e = absurd (omega arith)

  -- "the call as a whole is refused with 8 before any item": exactly when the request says so, at a limit and in an edition that there are
  pub unfit_exactly : (site_number lim ed tables lengths answers ≡ 8) ↔ ((is_limit lim ≡ true) × (is_edition ed ≡ true) × Unfit tables lengths answers)
  unfolding site_number
  unfit_exactly = (
    λ e. let x = go (is_limit lim) (is_edition ed) (turns_down tables lengths answers) e in
        (x.0, x.1, unfit_words tables lengths answers x.2),
    λ h. rw (h.0, h.1, words_unfit tables lengths answers h.2),
  )
    where
      go : (a b c : Bool) → ◌≡◌ {A = ℕ} (cond a (cond b (cond c 8 0) 9) 19) 8 → (a ≡ true) × (b ≡ true) × (c ≡ true)
      go true true true e = (refl, refl, refl)
      go true true false e = absurd (omega arith)
      go true false c e = absurd (omega arith)
      go false b c e = absurd (omega arith)

  -- "changing nothing"
  pub unfit_changes_nothing : is_limit lim ≡ true → is_edition ed ≡ true → Unfit tables lengths answers → (l : Lent)
      → site_called lim ed tables lengths l answers ≡ untouched 8 l answers
  unfit_changes_nothing m k h l = refused_changes_nothing l 8 (unfit_exactly.1 (m, k, h)) (λ e. omega arith)
