-- The call is refused exactly as the request's words have it: the tests of the definition, taken one after the other, are those of the words,
-- and a refusal's answer tells its verdict and its table. The list is chosen by the number that is answered: after a refusal it stays, without one
-- it begins with every pair (`refused_stays`, `accepted_lists`).
use Prim.Native.Nat.{ℕ, ◌*◌, ◌/◌, ◌≤◌}
use mathlib.Core.Path.{◌≡◌, refl, sym, ap, ◌∙◌, subst}
use mathlib.Core.Bool.{Bool, true, false}
use mathlib.Core.List.{List, ◌++◌}
use mathlib.Core.Logic.{◌↔◌}
use native.Mathlib.Omega.{arith}
use borrow.Author.Tests.{lt-ltb, le-ltb, ltb-true, ne_eqb}
use lib.ListN.{length, drop}
use lib.Dec.{ltb}
use Rattle.paper.specs.Limits.{is_limit}
use Rattle.paper.specs.Record.{sound}
use Rattle.paper.specs.Verdict.{Verdict, accepted, told, refused, is_accepted, verdict}
use Rattle.paper.specs.Calls.{eights}
use Rattle.paper_differ.specs.Differ.{Differed, differences_of, too_few_places, refused_for, differed_tables, differed}
use Rattle.paper_differ.specs.Differ.{numbers_of, at_front, list_after, differing}
use Rattle.paper_differ.specs.Refusals.{Refuses, no_limit, first_table, second_table, short_list}
use Rattle.paper.proofs.Tests.{true_not_false}
use Rattle.paper.proofs.CallLaws.{verdict_accepted}

-- what an answer tells of the verdict
abbrev verdict_in : Differed → Verdict
verdict_in d = told d.number d.place d.flaw

verdict_in_lem : (v : Verdict) (k : ℕ) → verdict_in (refused_for v k) ≡ v
unfolding refused_for
verdict_in_lem v k = refl

which_in : (v : Verdict) (k : ℕ) → (refused_for v k).which ≡ k
unfolding refused_for
which_in v k = refl

module _ (lim : ℕ) (a b list : List ℕ) where
  -- a refusal that is told as that of w and j is that of v and k
  same_refusal : (v w : Verdict) (k j : ℕ) → refused_for w j ≡ refused_for v k → Refuses lim a b list w j → Refuses lim a b list v k
  same_refusal v w k j e r =
      let x : w ≡ v = sym (verdict_in_lem w j) ∙ ap verdict_in e ∙ verdict_in_lem v k in
      let y : j ≡ k = sym (which_in w j) ∙ ap (λ (d : Differed). d.which) e ∙ which_in v k in
      subst (λ (n : ℕ). Refuses lim a b list v n) y (subst (λ (u : Verdict). Refuses lim a b list u j) x r)

  told_words : (v : Verdict) (k : ℕ) → is_accepted v ≡ false → differed lim a b list ≡ refused_for v k → Refuses lim a b list v k
  unfolding differed differed_tables too_few_places is_accepted
  told_words v k n e =
      go (is_limit lim) refl (is_accepted (verdict lim a)) refl (is_accepted (verdict lim b)) refl
      (ltb (length list / 8) (2 * length (differences_of a b))) refl e
    where
      go : (l : Bool) → is_limit lim ≡ l → (x : Bool) → is_accepted (verdict lim a) ≡ x → (y : Bool) → is_accepted (verdict lim b) ≡ y
          → (s : Bool) → ltb (length list / 8) (2 * length (differences_of a b)) ≡ s → differed lim a b list ≡ refused_for v k
          → Refuses lim a b list v k
      go false p x q y r s t h = same_refusal v (refused 19 0) k 0 (rw p at h) (no_limit p)
      go true p false q y r s t h = same_refusal v (verdict lim a) k 1 (rw (p, q) at h) (first_table p q)
      go true p true q false r s t h = same_refusal v (verdict lim b) k 2 (rw (p, q, r) at h) (second_table p (verdict_accepted lim a q) r)
      go true p true q true r true t h =
          let short = ltb-true (length list / 8) (2 * length (differences_of a b)) t in
          same_refusal v (refused 6 0) k 0 (rw (p, q, r, t) at h)
          (short_list p (verdict_accepted lim a q) (verdict_accepted lim b r) (omega (arith, short)))
      go true p true q true r false t h =
          let none = rw (p, q, r, t) at h in
          let zero : accepted ≡ v = ap (λ (d : Differed). verdict_in d) none ∙ verdict_in_lem v k in
          absurd (true_not_false refl (ap is_accepted zero ∙ n))

  words_told : (v : Verdict) (k : ℕ) → Refuses lim a b list v k → differed lim a b list ≡ refused_for v k
  unfolding differed differed_tables too_few_places is_accepted
  words_told v k (no_limit p) = rw p refl
  words_told v k (first_table p q) = rw (p, q) refl
  words_told v k (second_table p q r) = rw (p, q, r) refl
  words_told v k (short_list p q r h) =
      let short = lt-ltb (length list / 8) (2 * length (differences_of a b)) (omega (arith, h)) in
      rw (p, q, r, short) refl

  pub refused_exactly : (v : Verdict) (k : ℕ) → is_accepted v ≡ false → (differed lim a b list ≡ refused_for v k) ↔ Refuses lim a b list v k
  refused_exactly v k n = (told_words v k n, words_told v k)

  -- ".. which stays unchanged", and so it does after every refusal
  pub refused_stays : ¬ ((differed lim a b list).number ≡ 0) → list_after lim a b list ≡ list
  unfolding list_after
  refused_stays n = rw (ne_eqb (differed lim a b list).number 0 n)

  -- and a call that is not refused tells how many pairs there are, and lists them all, the bytes behind them staying
  pub accepted_lists : is_limit lim ≡ true → verdict lim a ≡ accepted → verdict lim b ≡ accepted → 16 * length (differences_of a b) ≤ length list
      → differing lim a b list
      ≡ (
        record { number = 0; place = 0; flaw = sound; which = 0; pairs = length (differences_of a b) },
        eights (numbers_of (differences_of a b)) ++ drop (16 * length (differences_of a b)) list,
      )
  unfolding differing list_after differed differed_tables too_few_places is_accepted at_front
  accepted_lists p q r h =
      let long = le-ltb (length list / 8) (2 * length (differences_of a b)) (omega (arith, h)) in
      rw (p, q, r, long) refl
