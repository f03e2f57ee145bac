-- Trees one after the other, said by an inductive definition (`Spans`) and by the function that goes over the records (`skip`),
-- end at the same record: one way by induction on the evidence, the other on the records left.
use Prim.Native.Nat.{ℕ, zero, suc, ◌+◌, ◌-◌, ◌<◌, ◌≤◌}
use mathlib.Core.Path.{◌≡◌, sym, ap, ◌∙◌, subst}
use mathlib.Core.List.{List}
use mathlib.Core.Logic.{◌⊎◌, inl, inr, ◌↔◌}
use native.Mathlib.Nat.{eq-or-lt_of_le}
use native.Mathlib.Omega.{arith}
use Rattle.paper.specs.Record.{arity}
use Rattle.paper.specs.Verdict.{skip, tree_end}
use Rattle.paper.specs.Refusals.{Spans, no_tree, one_tree}
use Rattle.paper.proofs.SkipLaws.{skip_none, skip_one, skip_out, skip_more, end_step, end_at_most}

module _ (s : List ℕ) (n : ℕ) where
  -- where trees end
  pub spans_within : {i k e : ℕ} → Spans s n i k e → i ≤ n → (i ≤ e) × (e ≤ n)
  spans_within no_tree h = omega arith
  spans_within (one_tree l a b) h =
      let x = spans_within a (omega arith) in
      let y = spans_within b x.1 in
      omega (arith, x, y)

  pub spans_skip : {i k e : ℕ} → Spans s n i k e → skip s n (n - i) k i ≡ e
  spans_skip (no_tree {i = i}) = skip_none s n (n - i) i
  spans_skip (one_tree {i = i} {k = k} l a b) =
      skip_more s n i k ∙ ap (λ (x : ℕ). skip s n (n - x) k x) (end_step s n i l ∙ spans_skip a) ∙ spans_skip b

  -- from every record on from which at most f records are left
  abbrev SpansWithin : ℕ → Type 0
  SpansWithin f = (i k : ℕ) → n - i ≤ f → i ≤ n → skip s n (n - i) k i ≤ n → Spans s n i k (skip s n (n - i) k i)

  none_more : (i : ℕ) → Spans s n i 0 (skip s n (n - i) 0 i)
  none_more i = rw (skip_none s n (n - i) i) no_tree

  one_more_lem : (f i k : ℕ) → n - i ≤ suc f → i < n → skip s n (n - i) (suc k) i ≤ n → SpansWithin f
      → Spans s n i (suc k) (skip s n (n - i) (suc k) i)
  one_more_lem f i k d h v ih =
      let e = tree_end s n i in
      let r : (i + 1 ≤ e) × (e ≤ n) = end_at_most s n i k h v in
      let q : skip s n (n - i) (suc k) i ≡ skip s n (n - e) k e = skip_more s n i k in
      let p : skip s n (n - (i + 1)) (arity s i) (i + 1) ≡ e = sym (end_step s n i h) in
      let m : Spans s n (i + 1) (arity s i) e = rw p at (ih (i + 1) (arity s i) (omega arith) (omega arith) (omega arith)) in
      rw q (one_tree h m (ih e k (omega arith) r.1 (omega arith)))

  some_more : (f i k : ℕ) → n - i ≤ suc f → (i ≡ n) ⊎ (i < n) → skip s n (n - i) (suc k) i ≤ n → SpansWithin f
      → Spans s n i (suc k) (skip s n (n - i) (suc k) i)
  some_more f i k d (inl e) v ih = absurd (omega (arith, skip_out s n (suc k) i (omega arith) (omega arith)))
  some_more f i k d (inr h) v ih = one_more_lem f i k d h v ih

  -- where the records suffice, they are so many trees
  pub skip_spans : (f i k : ℕ) → n - i ≤ f → i ≤ n → skip s n (n - i) k i ≤ n → Spans s n i k (skip s n (n - i) k i)
  skip_spans zero i zero d u v = none_more i
  skip_spans zero i (suc k) d u v = absurd (omega (arith, skip_out s n (suc k) i (omega arith) (omega arith)))
  skip_spans (suc f) i zero d u v = none_more i
  skip_spans (suc f) i (suc k) d u v = some_more f i k d (eq-or-lt_of_le u) v (λ j c x y z. skip_spans f j c x y z)

  -- one tree stands from record i up to record e exactly when it ends there
  pub spans_end : (i e : ℕ) → i ≤ n → Spans s n i 1 e ↔ ((tree_end s n i ≡ e) × (e ≤ n))
  spans_end i e h = (
    λ a. (sym (skip_one s n i) ∙ spans_skip a, (spans_within a h).1),
    λ a. subst (λ (x : ℕ). Spans s n i 1 x) (skip_one s n i ∙ a.0)
        (skip_spans (n - i) i 1 (omega arith) h (omega (arith, skip_one s n i, a.0, a.1))),
  )
