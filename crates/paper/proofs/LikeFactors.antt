-- Step 6 keeps the value. A member is its base to its exponent; b^e b^f = b^(e + f) and a^e b^e = (a b)^e, and the word of a product of
-- integers is that of their words modulo 2^64; so the factors that come out of the walk have the product of those that went in.
use Prim.Native.Nat.{ℕ, zero, suc, ◌*◌, ◌^◌}
use mathlib.Core.Path.{◌≡◌, refl, sym, ap, ◌∙◌}
use mathlib.Core.Bool.{Bool, true, false}
use mathlib.Core.List.{List}
use mathlib.Core.Option.{some}
use native.Mathlib.Omega.{arith}
use native.Mathlib.Nat.{pow-zero, pow-suc, mul_comm, mul_assoc}
use lib.Pow.{pow-add}
use lib.IntN.{ℤ, ◌*ℤ◌}
use lib.Dec.{eqb}
use borrow.Author.Tests.{eqb-true}
use Rattle.paper.specs.Limits.{modulus}
use Rattle.paper.specs.Bytes.{word}
use Rattle.paper.specs.Tree.{Tree, Forest, integer, symbol, sum, product, power, to_list}
use Rattle.paper.specs.Rules.{product_of, Factor, factor, factor_of, merge_factors, power_unless, from_factor}
use Rattle.paper.proofs.Congruence.{Agree, agree_of, agree_trans, agree_mul, agree_pow, word_mul}
use Rattle.paper.proofs.Value.{exact, multiplied, product_list}
use Rattle.paper.proofs.MarkLaws.{marked_exact}
use Rattle.paper.proofs.EqualView.{equal_exact}
use Rattle.paper.proofs.WalkLaws.{Commutes, Respects}
use Rattle.paper.proofs.OutcomeLaws.{product_of_exact, multiplied_fold, come_out, combine_keeps}
use Rattle.paper.proofs.MergeFactors.{times_bases, add_exponents, Merged, by_bases, by_exponents, merge_factors_some}

mul_pow : (a b n : ℕ) → (a * b) ^ n ≡ a ^ n * b ^ n
mul_pow a b zero = rw (pow-zero (a * b), pow-zero a, pow-zero b) refl
mul_pow a b (suc n) = rw (pow-suc (a * b) n, pow-suc a n, pow-suc b n, mul_pow a b n) (omega arith)

pub pow_one : (a : ℕ) → a ^ 1 ≡ a
pow_one a = rw (pow-suc a 0, pow-zero a) (omega arith)

times_laws : Commutes ◌*◌ 1
times_laws = record { unit = λ x. omega arith; comm = λ x y. mul_comm x y; assoc = λ x y z. mul_assoc x y z }

agree_times : Respects ◌*◌ (Agree modulus)
agree_times = record { of = λ e. agree_of e; then = λ p q. agree_trans p q; both = λ p q. agree_mul p q }

module _ (ρ : ℕ → ℕ) where
  abbrev unreduced : Tree → ℕ
  unreduced t = exact t ρ

  -- what a factor stands for
  unfoldable worth : Factor → ℕ
  worth c = unreduced c.base ^ c.exponent

  factor_of_worth : (t : Tree) → worth (factor_of t) ≡ unreduced t
  unfolding worth factor_of factor exact
  factor_of_worth (integer μ z) = pow_one _
  factor_of_worth (symbol μ s) = pow_one _
  factor_of_worth (sum μ f) = pow_one _
  factor_of_worth (product μ f) = pow_one _
  factor_of_worth (power μ b ξ e) = refl

  -- two integers with equal exponents
  bases_worth : {t u : Tree} {e f μ ν : ℕ} (κ : ℕ) (y z : ℤ) → t ≡ integer μ y → u ≡ integer ν z → e ≡ f
      → Agree modulus (unreduced (integer κ (y *ℤ z)) ^ e) (unreduced t ^ e * unreduced u ^ f)
  unfolding exact
  bases_worth {t} {u} {e} {f} κ y z p q r =
      agree_trans (agree_pow e (word_mul y z)) (agree_of (mul_pow (word y) (word z) e ∙ sym (rw (p, q, r) refl)))

  merge_factors_worth : (c x d : Factor) → merge_factors c x ≡ some d → Agree modulus (worth d) (worth c * worth x)
  unfolding worth times_bases add_exponents
  merge_factors_worth c x d m = go (merge_factors_some c x d m)
    where
      go : {d : Factor} → Merged c x d → Agree modulus (worth d) (worth c * worth x)
      go (by_bases {y = y} {z = z} p q r) = bases_worth c.mark y z p q r
      go (by_exponents e h) =
          agree_of
          (pow-add (unreduced c.base) c.exponent x.exponent
          ∙ ap (λ v. worth c * v ^ x.exponent) (equal_exact c.base x.base ρ e))

  from_factor_worth : (c : Factor) → unreduced (from_factor c).0 ≡ worth c
  unfolding worth from_factor power_unless exact
  from_factor_worth c = go (eqb c.exponent 1) refl
    where
      go : (b : Bool) → eqb c.exponent 1 ≡ b → unreduced (power_unless b c).0 ≡ worth c
      go true e = marked_exact c.mark c.base ρ ∙ sym (ap (λ n. unreduced c.base ^ n) (eqb-true c.exponent 1 e) ∙ pow_one (unreduced c.base))
      go false e = refl

  -- the members that come out have the product of the members that went in, modulo 2^64
  like_factors_multiplied : (l : List Tree)
      → Agree modulus (multiplied unreduced (come_out factor_of merge_factors from_factor l)) (multiplied unreduced l)
  like_factors_multiplied l =
      agree_trans (agree_of (multiplied_fold unreduced (come_out factor_of merge_factors from_factor l)))
      (agree_trans
      (combine_keeps factor_of merge_factors from_factor times_laws agree_times unreduced worth
      (λ t. agree_of (factor_of_worth t)) merge_factors_worth (λ c. agree_of (from_factor_worth c)) l)
      (agree_of (sym (multiplied_fold unreduced l))))

-- step 6 keeps the value
pub like_factors_exact : (μ : ℕ) (f : Forest) (ρ : ℕ → ℕ)
    → Agree modulus (exact (product_of μ (come_out factor_of merge_factors from_factor (to_list f))) ρ) (exact (product μ f) ρ)
unfolding exact
like_factors_exact μ f ρ =
    agree_trans (agree_of (product_of_exact μ (come_out factor_of merge_factors from_factor (to_list f)) ρ))
    (agree_trans (like_factors_multiplied ρ (to_list f)) (agree_of (product_list f ρ)))
