-- Step 2 keeps the value. A member is its coefficient times its rest; two terms with equal rests are the sum of their coefficients
-- times that rest, and the word of a sum, or product, of integers is that of their words modulo 2^64; so the terms that come out of
-- the walk have the sum of those that went in.
use Prim.Native.Nat.{ℕ, ◌+◌, ◌*◌}
use mathlib.Core.Path.{◌≡◌, refl, sym, ap, ◌∙◌, subst}
use mathlib.Core.Bool.{Bool, true, false}
use mathlib.Core.List.{List, [], ◌∷◌, ◌++◌}
use mathlib.Core.Option.{some, some-injective, none-ne-some}
use native.Mathlib.Omega.{arith}
use lib.IntN.{ℤ, pos}
use Rattle.paper.specs.Limits.{modulus}
use Rattle.paper.specs.Bytes.{word}
use Rattle.paper.specs.Tree.{Tree, Forest, integer, symbol, sum, product, power, to_list, of_list, value}
use Rattle.paper.specs.Equal.{equal, eq_z}
use Rattle.paper.specs.Rules.{sum_of, as_integer, Term, term, with_integer, integers_of, with_other, others_of, Multiplied, times_one, times_each, unit}
use Rattle.paper.specs.Rules.{product_term, term_of, added, add_if, merge_terms, coefficient_times, times_unless, from_term}
use Rattle.paper.proofs.Congruence.{Agree, agree_refl, agree_of, agree_trans, agree_add, agree_mul, word_add, word_mul}
use Rattle.paper.proofs.Value.{exact, value_exact, total, multiplied, multiplied_append, sum_list, product_list, list_product}
use Rattle.paper.proofs.Tests.{eq_z_true}
use Rattle.paper.proofs.MarkLaws.{marked_exact}
use Rattle.paper.proofs.EqualView.{equal_exact}
use Rattle.paper.proofs.WalkLaws.{Respects, plus_laws}
use Rattle.paper.proofs.OutcomeLaws.{sum_of_exact, product_of_exact, total_fold, come_out, combine_keeps}

-- where two terms merge, their rests are equal and the coefficients are added
pub merge_terms_some : (c x d : Term) → merge_terms c x ≡ some d → (equal c.rest x.rest ≡ true) × (added c x ≡ d)
unfolding merge_terms add_if
merge_terms_some c x d h = go (equal c.rest x.rest) h
  where
    go : (b : Bool) → add_if b c x ≡ some d → (b ≡ true) × (added c x ≡ d)
    go true h = (refl, some-injective (added c x) d h)
    go false h = absurd (none-ne-some d h)

agree_plus : Respects ◌+◌ (Agree modulus)
agree_plus = record { of = λ e. agree_of e; then = λ p q. agree_trans p q; both = λ p q. agree_add p q }

module _ (ρ : ℕ → ℕ) where
  abbrev unreduced : Tree → ℕ
  unreduced t = exact t ρ

  -- what a term stands for
  unfoldable worth : Term → ℕ
  worth c = word c.coefficient * unreduced c.rest

  -- the words of integers, multiplied
  unfoldable words : List ℤ → ℕ
  words [] = 1
  words (z ∷ l) = word z * words l

  times_each_word : (c : Multiplied) (l : List ℤ) → Agree modulus (word (times_each c l).number) (word c.number * words l)
  unfolding times_each times_one words
  times_each_word c [] = agree_of (omega arith)
  times_each_word c (z ∷ l) =
      agree_trans (times_each_word (times_one c z) l)
      (agree_trans (agree_mul (word_mul c.number z) (agree_refl {a = words l})) (agree_of (omega arith)))

  -- the integers and the others make the product
  parted : (l : List Tree) → words (integers_of l) * multiplied unreduced (others_of l) ≡ multiplied unreduced l
  unfolding integers_of others_of with_integer with_other as_integer words multiplied exact
  parted [] = refl
  parted (integer μ z ∷ l) = let h = parted l in rw (← h) (omega arith)
  parted (symbol μ s ∷ l) = let h = parted l in rw (← h) (omega arith)
  parted (sum μ f ∷ l) = let h = parted l in rw (← h) (omega arith)
  parted (product μ f ∷ l) = let h = parted l in rw (← h) (omega arith)
  parted (power μ b ξ e ∷ l) = let h = parted l in rw (← h) (omega arith)

  product_term_worth : (μ : ℕ) (l : List Tree) → Agree modulus (worth (product_term μ l)) (multiplied unreduced l)
  unfolding worth product_term unit word
  product_term_worth μ l =
      agree_trans (agree_mul (times_each_word unit (integers_of l)) (agree_of (product_of_exact μ (others_of l) ρ)))
      (agree_of (omega (arith, parted l)))

  term_of_worth : (t : Tree) → Agree modulus (worth (term_of t)) (unreduced t)
  unfolding worth term_of term word exact
  term_of_worth (integer μ z) = agree_of (omega arith)
  term_of_worth (symbol μ s) = agree_of (omega arith)
  term_of_worth (sum μ f) = agree_of (omega arith)
  term_of_worth (product μ f) = agree_trans (product_term_worth μ (to_list f)) (agree_of (product_list f ρ))
  term_of_worth (power μ b ξ e) = agree_of (omega arith)

  added_worth : (c x : Term) → equal c.rest x.rest ≡ true → Agree modulus (worth (added c x)) (worth c + worth x)
  unfolding worth added
  added_worth c x s =
      agree_trans (agree_mul (word_add c.coefficient x.coefficient) (agree_refl {a = unreduced c.rest}))
      (agree_of (omega (arith, ap (λ n. word x.coefficient * n) (equal_exact c.rest x.rest ρ s))))

  merge_terms_worth : (c x d : Term) → merge_terms c x ≡ some d → Agree modulus (worth d) (worth c + worth x)
  merge_terms_worth c x d h =
      let m = merge_terms_some c x d h in
      subst (λ d. Agree modulus (worth d) (worth c + worth x)) m.1 (added_worth c x m.0)

  times_worth : (μ : ℕ) (z : ℤ) (t : Tree) → Agree modulus (unreduced (coefficient_times μ z t).0) (word z * unreduced t)
  unfolding coefficient_times exact of_list multiplied
  times_worth μ z (integer ν y) = word_mul z y
  times_worth μ z (symbol ν s) = agree_of (omega arith)
  times_worth μ z (sum ν f) = agree_of (omega arith)
  times_worth μ z (product ν f) =
      agree_of
      (list_product (to_list f ++ (integer μ z ∷ [])) ρ
      ∙ multiplied_append unreduced (to_list f) (integer μ z ∷ [])
      ∙ last (multiplied unreduced (to_list f)) (word z)
      ∙ ap (λ n. word z * n) (product_list f ρ))
    where
      last : (a b : ℕ) → a * (b * 1) ≡ b * a
      last a b = omega arith
  times_worth μ z (power ν b ξ e) = agree_of (omega arith)

  from_term_worth : (c : Term) → Agree modulus (unreduced (from_term c).0) (worth c)
  unfolding from_term times_unless worth word
  from_term_worth c = go (eq_z c.coefficient (pos 1)) refl
    where
      go : (b : Bool) → eq_z c.coefficient (pos 1) ≡ b → Agree modulus (unreduced (times_unless b c).0) (worth c)
      go true e =
          agree_of (marked_exact c.mark c.rest ρ ∙ sym (ap (λ z. word z * unreduced c.rest) (eq_z_true c.coefficient (pos 1) e) ∙ omega arith))
      go false e = times_worth c.mark c.coefficient c.rest

  -- the members that come out have the sum of the members that went in, modulo 2^64
  like_terms_total : (l : List Tree) → Agree modulus (total unreduced (come_out term_of merge_terms from_term l)) (total unreduced l)
  like_terms_total l =
      let out = come_out term_of merge_terms from_term l in
      agree_trans (agree_of (total_fold unreduced out))
      (agree_trans (combine_keeps term_of merge_terms from_term plus_laws agree_plus unreduced worth term_of_worth merge_terms_worth from_term_worth l)
      (agree_of (sym (total_fold unreduced l))))

-- step 2 keeps the value
pub like_terms_value : (μ : ℕ) (f : Forest) (ρ : ℕ → ℕ) → value (sum_of μ (come_out term_of merge_terms from_term (to_list f))) ρ ≡ value (sum μ f) ρ
unfolding exact
like_terms_value μ f ρ =
    let out = come_out term_of merge_terms from_term (to_list f) in
    value_exact (sum_of μ out) ρ
    ∙ (agree_trans (agree_of (sum_of_exact μ out ρ)) (agree_trans (like_terms_total ρ (to_list f)) (agree_of (sum_list f ρ)))).agree
    ∙ sym (value_exact (sum μ f) ρ)
