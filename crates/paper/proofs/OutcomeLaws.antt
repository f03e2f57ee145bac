-- What holds of the answer of a rule that splits its members into parts, walks over them and puts the members together again, once
-- for both such rules: if splitting, merging and joining each keep a value, a cost or a property of the parts, then so does the
-- whole, by the laws of the walk; and the collapse of the members that come out changes no value and adds no weight.
use Prim.Native.Nat.{ℕ, zero, suc, ◌+◌, ◌*◌, ◌≤◌}
use mathlib.Core.Path.{◌≡◌, refl, ap}
use mathlib.Core.Bool.{Bool, true, false}
use mathlib.Core.List.{List, [], ◌∷◌, map}
use mathlib.Core.Option.{Option, some}
use native.Mathlib.Omega.{arith}
use lib.ListN.{length}
use Rattle.paper.specs.Limits.{modulus}
use Rattle.paper.specs.Bytes.{word}
use Rattle.paper.specs.Tree.{Tree, of_list, weight}
use Rattle.paper.specs.WellFormed.{WF, WFl}
use Rattle.paper.specs.Walk.{WalkEnd, walk}
use Rattle.paper.specs.Rules.{collapse, sum_of, product_of, all_in_range, rebuilt, outcome, combine}
use Rattle.paper.specs.Good.{Kept, GoodAnswer}
use Rattle.paper.proofs.Congruence.{Agree, agree_of, agree_trans}
use Rattle.paper.proofs.Tests.{and_left, and_right}
use Rattle.paper.proofs.Value.{exact, total, multiplied, list_sum, list_product, list_weights}
use Rattle.paper.proofs.WalkLaws.{Commutes, Respects, fold, walk_keeps, walk_lowers, All, walk_all}

-- ---- the collapse
pub sum_of_exact : (μ : ℕ) (l : List Tree) (ρ : ℕ → ℕ) → exact (sum_of μ l) ρ ≡ total (λ t. exact t ρ) l
unfolding exact total sum_of collapse word of_list
sum_of_exact μ [] ρ = refl
sum_of_exact μ (t ∷ []) ρ = omega arith
sum_of_exact μ (t ∷ u ∷ l) ρ = rw (list_sum l ρ)

pub product_of_exact : (μ : ℕ) (l : List Tree) (ρ : ℕ → ℕ) → exact (product_of μ l) ρ ≡ multiplied (λ t. exact t ρ) l
unfolding exact multiplied product_of collapse word of_list
product_of_exact μ [] ρ = refl
product_of_exact μ (t ∷ []) ρ = omega arith
product_of_exact μ (t ∷ u ∷ l) ρ = rw (list_product l ρ)

pub sum_of_weight : (μ : ℕ) (l : List Tree) → weight (sum_of μ l) ≤ 1 + total weight l
unfolding weight total sum_of collapse of_list
sum_of_weight μ [] = omega arith
sum_of_weight μ (t ∷ []) = omega arith
sum_of_weight μ (t ∷ u ∷ l) = omega (arith, list_weights l)

pub product_of_weight : (μ : ℕ) (l : List Tree) → weight (product_of μ l) ≤ 1 + total weight l
unfolding weight total product_of collapse of_list
product_of_weight μ [] = omega arith
product_of_weight μ (t ∷ []) = omega arith
product_of_weight μ (t ∷ u ∷ l) = omega (arith, list_weights l)

-- ---- totals and products as folds
pub total_fold : (g : Tree → ℕ) (l : List Tree) → total g l ≡ fold ◌+◌ 0 g l
unfolding total fold
total_fold g [] = refl
total_fold g (t ∷ l) = ap (λ n. g t + n) (total_fold g l)

pub multiplied_fold : (g : Tree → ℕ) (l : List Tree) → multiplied g l ≡ fold ◌*◌ 1 g l
unfolding multiplied fold
multiplied_fold g [] = refl
multiplied_fold g (t ∷ l) = ap (λ n. g t * n) (multiplied_fold g l)

-- ---- a rule that walks: its answer is good if the members that come out, all in range and some removed, make a good tree
outcome_good : (t : Tree) (node : List Tree → Tree) (l : List (Tree × Bool)) (n : ℕ)
    → (all_in_range l ≡ true → 1 ≤ n → WF (node (map (λ r. r.0) l)) × Kept 1 t (node (map (λ r. r.0) l)))
    → GoodAnswer t (outcome node l n)
unfolding outcome rebuilt
outcome_good t node l zero h = tt
outcome_good t node l (suc n) h = go (all_in_range l) refl
  where
    go : (b : Bool) → all_in_range l ≡ b → GoodAnswer t (rebuilt node l b)
    go true e = h e (omega arith)
    go false e = tt

module _ {P : Type 0} (split : Tree → P) (merge : P → P → Option P) (join : P → Tree × Bool) where
  -- the walk over the members l, the members that come out, and whether all of them are in range
  abbrev pub walked : List Tree → WalkEnd P
  walked l = walk merge (length l) (map split l)

  abbrev pub come_out : List Tree → List Tree
  come_out l = map (λ r. r.0) (map join (walked l).parts)

  abbrev pub stay_in_range : List Tree → Type 0
  stay_in_range l = all_in_range (map join (walked l).parts) ≡ true

  pub combine_good : (t : Tree) (node : List Tree → Tree) (l : List Tree)
      → (stay_in_range l → 1 ≤ (walked l).removed → WF (node (come_out l)) × Kept 1 t (node (come_out l)))
      → GoodAnswer t (combine node split merge join l)
  unfolding combine
  combine_good t node l h = outcome_good t node (map join (walked l).parts) (walked l).removed h

  -- a worth of parts that splitting, merging and joining keep modulo 2^64: the walk keeps the fold of the members
  module _ {op : ℕ → ℕ → ℕ} {e : ℕ} (C : Commutes op e) (R : Respects op (Agree modulus)) (g : Tree → ℕ) (worth : P → ℕ)
      (split-worth : (t : Tree) → Agree modulus (worth (split t)) (g t))
      (merge-worth : (c x d : P) → merge c x ≡ some d → Agree modulus (worth d) (op (worth c) (worth x)))
      (join-worth : (c : P) → Agree modulus (g (join c).0) (worth c)) where
    split_fold : (l : List Tree) → Agree modulus (fold op e worth (map split l)) (fold op e g l)
    unfolding fold
    split_fold [] = agree_of refl
    split_fold (t ∷ l) = R.both (split-worth t) (split_fold l)

    join_fold : (ps : List P) → Agree modulus (fold op e g (map (λ r. r.0) (map join ps))) (fold op e worth ps)
    unfolding fold
    join_fold [] = agree_of refl
    join_fold (c ∷ ps) = R.both (join-worth c) (join_fold ps)

    pub combine_keeps : (l : List Tree) → Agree modulus (fold op e g (come_out l)) (fold op e g l)
    combine_keeps l =
        agree_trans (join_fold (walked l).parts)
        (agree_trans (walk_keeps merge C R worth merge-worth (length l) (map split l)) (split_fold l))

  -- a cost of parts that no splitting and no joining raises and each merge lowers: the weight falls by what is removed
  module _ (cost : P → ℕ)
      (split-cost : (t : Tree) → WF t → cost (split t) ≤ weight t)
      (merge-cost : (c x d : P) → merge c x ≡ some d → cost d + 1 ≤ cost c + cost x)
      (join-cost : (c : P) → weight (join c).0 ≤ cost c) where
    split_costs : (l : List Tree) → WFl l → fold ◌+◌ 0 cost (map split l) ≤ total weight l
    unfolding fold total
    split_costs [] w = omega arith
    split_costs (t ∷ l) w = omega (arith, split-cost t w.0, split_costs l w.1)

    join_costs : (ps : List P) → total weight (map (λ r. r.0) (map join ps)) ≤ fold ◌+◌ 0 cost ps
    unfolding fold total
    join_costs [] = omega arith
    join_costs (c ∷ ps) = omega (arith, join-cost c, join_costs ps)

    pub combine_lowers : (l : List Tree) → WFl l → total weight (come_out l) + (walked l).removed ≤ total weight l
    combine_lowers l w =
        omega (arith, join_costs (walked l).parts, walk_lowers merge cost merge-cost (length l) (map split l), split_costs l w)

  -- a property of parts that splitting gives, merging keeps, and that gives well-formed members where they are in range
  module _ (Q : P → Type 0)
      (split-has : (t : Tree) → WF t → Q (split t))
      (merge-has : (c x d : P) → Q c → Q x → merge c x ≡ some d → Q d)
      (join-wf : (c : P) → Q c → (join c).1 ≡ true → WF (join c).0) where
    split_all : (l : List Tree) → WFl l → All Q (map split l)
    split_all [] w = tt
    split_all (t ∷ l) w = (split-has t w.0, split_all l w.1)

    join_all : (ps : List P) → All Q ps → all_in_range (map join ps) ≡ true → WFl (map (λ r. r.0) (map join ps))
    unfolding all_in_range
    join_all [] q h = tt
    join_all (c ∷ ps) q h = (
      join-wf c q.0 (and_left (join c).1 (all_in_range (map join ps)) h),
      join_all ps q.1 (and_right (join c).1 (all_in_range (map join ps)) h),
    )

    pub combine_wf : (l : List Tree) → WFl l → stay_in_range l → WFl (come_out l)
    combine_wf l w h = join_all (walked l).parts (walk_all merge Q merge-has (length l) (map split l) (split_all l w)) h
