-- Laws of `skip`: one step of it, its bounds, and that trees one after the other are skipped one after the other. By induction on
-- the records that are left; past the end of the records nothing changes any more, whatever is owed.
use Prim.Native.Nat.{ℕ, zero, suc, ◌+◌, ◌-◌, ◌<◌, ◌≤◌}
use mathlib.Core.Path.{◌≡◌, refl, sym, ap, ◌∙◌}
use mathlib.Core.List.{List}
use mathlib.Core.Logic.{◌⊎◌, inl, inr}
use native.Mathlib.Nat.{zero-add, eq-or-lt_of_le}
use native.Mathlib.Omega.{arith}
use borrow.Author.Tests.{ne_eqb}
use Rattle.paper.specs.Record.{arity}
use Rattle.paper.specs.Verdict.{skip, tree_end}

pub left : (n i : ℕ) → i < n → n - i ≡ suc (n - (i + 1))
left n i h = omega arith

-- where nothing is owed, the trees end
pub skip_none : (s : List ℕ) (n f i : ℕ) → skip s n f 0 i ≡ i
unfolding skip
skip_none s n zero i = refl
skip_none s n (suc f) i = refl

skip_short : (s : List ℕ) (n o i : ℕ) → 0 < o → skip s n 0 o i ≡ n + 1
unfolding skip
skip_short s n o i h = simp (ne_eqb o 0 (λ e. omega arith))

skip_go : (s : List ℕ) (n f o i : ℕ) → 0 < o → skip s n (suc f) o i ≡ skip s n f (o - 1 + arity s i) (i + 1)
unfolding skip
skip_go s n f o i h = simp (ne_eqb o 0 (λ e. omega arith))

-- a record is one of the trees that are owed, and owes its members
pub skip_step : (s : List ℕ) (n i owed : ℕ) → 0 < owed → i < n → skip s n (n - i) owed i ≡ skip s n (n - (i + 1)) (owed - 1 + arity s i) (i + 1)
skip_step s n i owed o h = rw (left n i h) (skip_go s n (n - (i + 1)) owed i o)

-- past the end nothing changes any more
pub skip_past : (s : List ℕ) (n o : ℕ) → skip s n (n - (n + 1)) o (n + 1) ≡ n + 1
skip_past s n zero = skip_none s n (n - (n + 1)) (n + 1)
skip_past s n (suc o) = let e : n - (n + 1) ≡ 0 = omega arith in rw e (skip_short s n (suc o) (n + 1) (omega arith))

-- a + b trees are a trees and then b trees
pub skip_both : (s : List ℕ) (n f a b i : ℕ) → n - i ≡ f → skip s n f (a + b) i ≡ skip s n (n - skip s n f a i) b (skip s n f a i)
skip_both s n zero zero b i e = rw (skip_none s n zero i, e, zero-add) refl
skip_both s n (suc f) zero b i e = rw (skip_none s n (suc f) i, e, zero-add) refl
skip_both s n zero (suc a) b i e =
    rw (skip_short s n (suc a) i (omega arith), skip_short s n (suc a + b) i (omega arith)) (sym (skip_past s n b))
skip_both s n (suc f) (suc a) b i e =
    let q : suc a + b - 1 + arity s i ≡ suc a - 1 + arity s i + b = omega arith in
    rw (skip_go s n f (suc a) i (omega arith), skip_go s n f (suc a + b) i (omega arith), q)
    (skip_both s n f (suc a - 1 + arity s i) b (i + 1) (omega arith))

-- the trees end no earlier than they begin, and no later than n + 1
pub skip_within : (s : List ℕ) (n f o i : ℕ) → n - i ≡ f → i ≤ n + 1 → (i ≤ skip s n f o i) × (skip s n f o i ≤ n + 1)
skip_within s n zero zero i e h = rw (skip_none s n zero i) (omega arith)
skip_within s n (suc f) zero i e h = rw (skip_none s n (suc f) i) (omega arith)
skip_within s n zero (suc o) i e h = rw (skip_short s n (suc o) i (omega arith)) (omega arith)
skip_within s n (suc f) (suc o) i e h =
    let r = skip_within s n f (suc o - 1 + arity s i) (i + 1) (omega arith) (omega arith) in
    rw (skip_go s n f (suc o) i (omega arith)) (omega arith)

-- where trees are owed and no record is left, the records end before the trees
pub skip_out : (s : List ℕ) (n o i : ℕ) → 0 < o → n ≤ i → skip s n (n - i) o i ≡ n + 1
skip_out s n o i h l = let e : n - i ≡ 0 = omega arith in rw e (skip_short s n o i h)

pub skip_one : (s : List ℕ) (n i : ℕ) → skip s n (n - i) 1 i ≡ tree_end s n i
unfolding tree_end
skip_one s n i = refl

-- one tree is its first record and its members
pub end_step : (s : List ℕ) (n i : ℕ) → i < n → tree_end s n i ≡ skip s n (n - (i + 1)) (arity s i) (i + 1)
unfolding tree_end
end_step s n i h =
    let q : 1 - 1 + arity s i ≡ arity s i = omega arith in
    rw (left n i h, skip_go s n (n - (i + 1)) 1 i (omega arith), q) refl

-- one tree more is that tree, and then the others
pub skip_more : (s : List ℕ) (n i k : ℕ) → skip s n (n - i) (suc k) i ≡ skip s n (n - tree_end s n i) k (tree_end s n i)
unfolding tree_end
skip_more s n i k = let q : suc k ≡ 1 + k = omega arith in rw q (skip_both s n (n - i) 1 k i refl)

-- where the records suffice for one tree and k more, they suffice for the one
pub end_at_most : (s : List ℕ) (n i k : ℕ) → i < n → skip s n (n - i) (suc k) i ≤ n → (i + 1 ≤ tree_end s n i) × (tree_end s n i ≤ n)
end_at_most s n i k u v = (w.0, go (eq-or-lt_of_le w.1))
  where
    w : (i + 1 ≤ tree_end s n i) × (tree_end s n i ≤ n + 1)
    w = rw (end_step s n i u) (skip_within s n (n - (i + 1)) (arity s i) (i + 1) refl (omega arith))

    go : (tree_end s n i ≡ n + 1) ⊎ (tree_end s n i < n + 1) → tree_end s n i ≤ n
    go (inl e) = absurd (omega (arith, skip_more s n i k ∙ ap (λ (x : ℕ). skip s n (n - x) k x) e ∙ skip_past s n k))
    go (inr h) = omega arith
