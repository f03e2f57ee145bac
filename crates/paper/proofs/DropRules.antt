-- Steps 1, 3 and 4 are good rules: a dropped 0 adds nothing and a dropped 1 multiplies nothing, a factor 0 makes the product 0, and
-- the weight of a dropped member, 1 at least, goes.
use Prim.Native.Nat.{ℕ, ◌+◌, ◌*◌, ◌≤◌}
use mathlib.Core.Path.{◌≡◌, refl, sym, ap, ◌∙◌}
use mathlib.Core.Bool.{Bool, true, false, ◌||◌}
use mathlib.Core.List.{List, [], ◌∷◌}
use native.Mathlib.Omega.{arith}
use lib.IntN.{ℤ, pos}
use lib.Dec.{lit<}
use Rattle.paper.specs.Bytes.{word}
use Rattle.paper.specs.Tree.{Tree, Forest, integer, symbol, sum, product, power, to_list, weight}
use Rattle.paper.specs.WellFormed.{WF, WFl}
use Rattle.paper.specs.Rules.{sum_of, product_of, as_integer, is_the, unless, drop_all, any_of, applies_if, add_zero, multiply_zero, multiply_one}
use Rattle.paper.specs.Good.{Kept, GoodAnswer, Good}
use Rattle.paper.proofs.Tests.{never, eq_z_true}
use Rattle.paper.proofs.Congruence.{agree_of}
use Rattle.paper.proofs.Value.{exact, total, multiplied, sum_list, product_list, weights_list, weight_pos}
use Rattle.paper.proofs.WFLaws.{wf_list, sum_of_wf, product_of_wf}
use Rattle.paper.proofs.OutcomeLaws.{sum_of_exact, sum_of_weight, product_of_exact, product_of_weight}
use Rattle.paper.proofs.AnswerLaws.{on_sum_good, on_product_good, applies_good, kept_agree}

-- ---- dropping the members that p holds of
module _ (p : Tree → Bool) where
  -- a measure of lists, built member by member, in which dropped members count for nothing, stays the same
  pub drop_all_keeps : (m : List Tree → ℕ) → ((t : Tree) (l : List Tree) → p t ≡ true → m (t ∷ l) ≡ m l)
      → ((t : Tree) (k l : List Tree) → m k ≡ m l → m (t ∷ k) ≡ m (t ∷ l)) → (l : List Tree) → m (drop_all p l) ≡ m l
  unfolding drop_all unless
  drop_all_keeps m nothing built [] = refl
  drop_all_keeps m nothing built (t ∷ l) = go (p t) refl (drop_all_keeps m nothing built l)
    where
      go : (b : Bool) → p t ≡ b → m (drop_all p l) ≡ m l → m (unless b t (drop_all p l)) ≡ m (t ∷ l)
      go true e h = h ∙ sym (nothing t l e)
      go false e h = built t (drop_all p l) l h

  drop_all_weight : (l : List Tree) → total weight (drop_all p l) ≤ total weight l
  unfolding total drop_all unless
  drop_all_weight [] = omega arith
  drop_all_weight (t ∷ l) = go (p t) (drop_all_weight l)
    where
      go : (b : Bool) → total weight (drop_all p l) ≤ total weight l → total weight (unless b t (drop_all p l)) ≤ total weight (t ∷ l)
      go true h = omega arith
      go false h = omega arith

  -- where a member is dropped, the weight falls
  pub drop_all_lighter : (l : List Tree) → any_of p l ≡ true → total weight (drop_all p l) + 1 ≤ total weight l
  unfolding total drop_all unless any_of
  drop_all_lighter [] e = never e
  drop_all_lighter (t ∷ l) e = go (p t) e (drop_all_lighter l) (drop_all_weight l)
    where
      go : (b : Bool) → b || any_of p l ≡ true → (any_of p l ≡ true → total weight (drop_all p l) + 1 ≤ total weight l)
          → total weight (drop_all p l) ≤ total weight l → total weight (unless b t (drop_all p l)) + 1 ≤ total weight (t ∷ l)
      go true e ih h = omega (arith, weight_pos t)
      go false e ih h = omega (arith, ih e)

  pub drop_all_wf : (l : List Tree) → WFl l → WFl (drop_all p l)
  unfolding drop_all unless
  drop_all_wf [] w = tt
  drop_all_wf (t ∷ l) w = go (p t) (drop_all_wf l w.1)
    where
      go : (b : Bool) → WFl (drop_all p l) → WFl (unless b t (drop_all p l))
      go true h = h
      go false h = (w.0, h)

  -- a product with a member that counts as 0 is 0
  pub any_of_multiplied : (g : Tree → ℕ) → ((t : Tree) → p t ≡ true → g t ≡ 0) → (l : List Tree) → any_of p l ≡ true → multiplied g l ≡ 0
  unfolding multiplied any_of
  any_of_multiplied g zeros [] e = never e
  any_of_multiplied g zeros (t ∷ l) e = go (p t) refl e (any_of_multiplied g zeros l)
    where
      go : (b : Bool) → p t ≡ b → b || any_of p l ≡ true → (any_of p l ≡ true → multiplied g l ≡ 0) → g t * multiplied g l ≡ 0
      go true q e ih = ap (λ n. n * multiplied g l) (zeros t q) ∙ omega arith
      go false q e ih = ap (λ n. g t * n) (ih e) ∙ omega arith

-- ---- members that are a certain integer
is_the_true : (z : ℤ) (t : Tree) → is_the z t ≡ true → (μ : ℕ) × (t ≡ integer μ z)
unfolding is_the as_integer
is_the_true z (integer μ y) e = (μ, ap (integer μ) (eq_z_true y z e))
is_the_true z (symbol μ s) e = never e
is_the_true z (sum μ f) e = never e
is_the_true z (product μ f) e = never e
is_the_true z (power μ b ξ x) e = never e

is_the_exact : (z : ℤ) (ρ : ℕ → ℕ) (t : Tree) → is_the z t ≡ true → exact t ρ ≡ word z
unfolding exact
is_the_exact z ρ t e = ap (λ u. exact u ρ) (is_the_true z t e).1

-- ---- the rules
-- steps 1 and 4 alike: t has the members l, and `node` makes a tree of those that are left
module _ (p : Tree → Bool) (node : List Tree → Tree) (node-wf : (l : List Tree) → WFl l → WF (node l))
    (node_weight : (l : List Tree) → weight (node l) ≤ 1 + total weight l) where
  drop_good : (t : Tree) (l : List Tree) → WFl l → weight t ≡ 1 + total weight l
      → ((ρ : ℕ → ℕ) → exact (node (drop_all p l)) ρ ≡ exact t ρ) → GoodAnswer t (applies_if (any_of p l) (node (drop_all p l)))
  drop_good t l w whole same = applies_good t (node (drop_all p l)) (any_of p l) (λ e. (node-wf (drop_all p l) (drop_all_wf p l w), kept e))
    where
      kept : any_of p l ≡ true → Kept 1 t (node (drop_all p l))
      kept e = kept_agree t _ (λ ρ. agree_of (same ρ)) (omega (arith, whole, node_weight (drop_all p l), drop_all_lighter p l e))

-- step 1 is a good rule
pub add_zero_good : Good (record { number = 1; try = add_zero })
unfolding add_zero exact weight total word
add_zero_good = record { good = on_sum_good _ members }
  where
    zero? : Tree → Bool
    zero? = is_the (pos 0)

    same : (μ : ℕ) (f : Forest) (ρ : ℕ → ℕ) → exact (sum_of μ (drop_all zero? (to_list f))) ρ ≡ exact (sum μ f) ρ
    same μ f ρ =
        sum_of_exact μ (drop_all zero? (to_list f)) ρ
        ∙ drop_all_keeps zero? (total (λ t. exact t ρ)) (λ t l e. omega (arith, is_the_exact (pos 0) ρ t e)) (λ t k l h. omega (arith, h)) (to_list f)
        ∙ sum_list f ρ

    members : (μ : ℕ) (f : Forest) → WF (sum μ f) → GoodAnswer (sum μ f) (applies_if (any_of zero? (to_list f)) (sum_of μ (drop_all zero? (to_list f))))
    members μ f w =
        drop_good zero? (sum_of μ) (sum_of_wf μ w.2) (sum_of_weight μ) (sum μ f) (to_list f) (wf_list f w.1) (omega (arith, weights_list f)) (same μ f)

-- step 3 is a good rule
pub multiply_zero_good : Good (record { number = 3; try = multiply_zero })
unfolding multiply_zero exact weight word
multiply_zero_good = record { good = on_product_good _ (λ μ f w. applies_good (product μ f) _ _ (λ e. ((lit< tt, w.2), kept μ f e))) }
  where
    zero? : Tree → Bool
    zero? = is_the (pos 0)

    same : (μ : ℕ) (f : Forest) → any_of zero? (to_list f) ≡ true → (ρ : ℕ → ℕ) → 0 ≡ exact (product μ f) ρ
    same μ f e ρ = sym (any_of_multiplied zero? (λ t. exact t ρ) (is_the_exact (pos 0) ρ) (to_list f) e) ∙ product_list f ρ

    kept : (μ : ℕ) (f : Forest) → any_of zero? (to_list f) ≡ true → Kept 1 (product μ f) (integer μ (pos 0))
    kept μ f e = kept_agree (product μ f) _ (λ ρ. agree_of (same μ f e ρ)) (omega (arith, drop_all_lighter zero? (to_list f) e, weights_list f))

-- step 4 is a good rule
pub multiply_one_good : Good (record { number = 4; try = multiply_one })
unfolding multiply_one exact weight multiplied word
multiply_one_good = record { good = on_product_good _ members }
  where
    one? : Tree → Bool
    one? = is_the (pos 1)

    nothing : (ρ : ℕ → ℕ) (t : Tree) (l : List Tree) → one? t ≡ true → multiplied (λ t. exact t ρ) (t ∷ l) ≡ multiplied (λ t. exact t ρ) l
    nothing ρ t l e = ap (λ n. n * multiplied (λ t. exact t ρ) l) (is_the_exact (pos 1) ρ t e) ∙ omega arith

    same : (μ : ℕ) (f : Forest) (ρ : ℕ → ℕ) → exact (product_of μ (drop_all one? (to_list f))) ρ ≡ exact (product μ f) ρ
    same μ f ρ =
        product_of_exact μ (drop_all one? (to_list f)) ρ
        ∙ drop_all_keeps one? (multiplied (λ t. exact t ρ)) (nothing ρ) (λ t k l h. ap (λ n. exact t ρ * n) h) (to_list f)
        ∙ product_list f ρ

    members : (μ : ℕ) (f : Forest) → WF (product μ f) → GoodAnswer (product μ f)
        (applies_if (any_of one? (to_list f)) (product_of μ (drop_all one? (to_list f))))
    members μ f w =
        drop_good one? (product_of μ) (product_of_wf μ w.2) (product_of_weight μ) (product μ f) (to_list f) (wf_list f w.1)
        (omega (arith, weights_list f)) (same μ f)
