-- Laws of the first bad exponent among some records: it is the lesser one of the first record's and the others', and it stands behind the
-- first of the records, since an exponent stands behind its power.
use Prim.Native.Nat.{ℕ, zero, suc, ◌+◌, ◌-◌, ◌<◌, ◌≤◌, min}
use mathlib.Core.Path.{◌≡◌, refl}
use mathlib.Core.Bool.{Bool, true, false, cond, ◌&&◌, not}
use mathlib.Core.List.{List}
use native.Mathlib.Omega.{arith}
use borrow.Author.Tests.{eq-eqb, ne_eqb, eqb-false}
use lib.Dec.{eqb, ltb}
use Rattle.paper.specs.Record.{kind}
use Rattle.paper.specs.Verdict.{tree_end, is_positive, bad_exponent, first_bad_exponent}
use Rattle.paper.proofs.Tests.{or_neither}
use Rattle.paper.proofs.SkipLaws.{skip_within, skip_one}
use Rattle.table.specs.Due.{has_power}

pub cond_least : (b : Bool) (z x y : ℕ) → z ≤ x → z ≤ y → z ≤ cond b x y
cond_least true z x y h k = h
cond_least false z x y h k = k

module _ (s : List ℕ) (n : ℕ) where
  -- record x, an exponent, where it is one of the n records and no integer of at least 1; else n
  unfoldable pub bad_at : ℕ → ℕ
  bad_at x = cond (ltb x n && not (is_positive s x)) x n

  pub bad_least : (x z : ℕ) → z ≤ x → z ≤ n → z ≤ bad_at x
  unfolding bad_at
  bad_least x z h k = cond_least (ltb x n && not (is_positive s x)) z x n h k

  -- a tree ends no earlier than it begins
  pub end_after : (i : ℕ) → i ≤ n + 1 → (i ≤ tree_end s n i) × (tree_end s n i ≤ n + 1)
  end_after i h = rw (← (skip_one s n i)) (skip_within s n (n - i) 1 i refl h)

  -- the bad exponent of one record
  pub no_power : (i : ℕ) → (kind s i ≡ 4 → ⊥) → bad_exponent s n i ≡ n
  unfolding bad_exponent
  no_power i h = rw (ne_eqb (kind s i) 4 h)

  pub of_power : (i : ℕ) → kind s i ≡ 4 → bad_exponent s n i ≡ bad_at (tree_end s n (i + 1))
  unfolding bad_exponent bad_at
  of_power i h = rw (eq-eqb (kind s i) 4 h) refl

  exponent_after_lem : (i : ℕ) → i < n → i ≤ bad_exponent s n i
  unfolding bad_exponent
  exponent_after_lem i h =
      let x = tree_end s n (i + 1) in
      let l = end_after (i + 1) (omega arith) in
      cond_least (eqb (kind s i) 4) i _ n (cond_least (ltb x n && not (is_positive s x)) i x n (omega arith) (omega arith)) (omega arith)

  -- the first one of the f records from i on
  pub first_most : (i f : ℕ) → first_bad_exponent s n i f ≤ n
  unfolding first_bad_exponent
  first_most i zero = omega arith
  first_most i (suc f) = let h = first_most (i + 1) f in omega arith

  pub first_after : (i f : ℕ) → i + f ≤ n → i ≤ first_bad_exponent s n i f
  unfolding first_bad_exponent
  first_after i zero h = omega arith
  first_after i (suc f) h = let r = first_after (i + 1) f (omega arith) in omega (arith, exponent_after_lem i (omega arith))

  pub first_none : (i : ℕ) → n ≤ i → first_bad_exponent s n i (n - i) ≡ n
  unfolding first_bad_exponent
  first_none i h = let none : n - i ≡ 0 = omega arith in rw none refl

  pub first_step : (i : ℕ) → i < n → first_bad_exponent s n i (n - i) ≡ min (bad_exponent s n i) (first_bad_exponent s n (i + 1) (n - (i + 1)))
  unfolding first_bad_exponent
  first_step i h = let left : n - i ≡ suc (n - (i + 1)) = omega arith in rw left refl

  -- where there is no power there is no exponent
  pub no_powers : (i f : ℕ) → has_power s i f ≡ false → first_bad_exponent s n i f ≡ n
  unfolding first_bad_exponent has_power
  no_powers i zero h = refl
  no_powers i (suc f) h =
      let r = no_powers (i + 1) f (or_neither (eqb (kind s i) 4) _ h).1 in
      let none = no_power i (eqb-false (kind s i) 4 (or_neither (eqb (kind s i) 4) _ h).0) in
      omega arith
