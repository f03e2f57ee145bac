-- One record of each definition that goes through the records of a table, as a loop takes it.
use Prim.Native.Nat.{ℕ, suc, ◌+◌, ◌-◌, ◌<◌, ◌≤◌}
use mathlib.Core.Path.{◌≡◌, refl, sym, ap, ◌∙◌}
use mathlib.Core.Bool.{Bool, true, false, cond, not, ◌||◌}
use mathlib.Core.List.{List}
use native.Mathlib.Omega.{arith}
use borrow.Author.Tests.{eq-eqb, ne_eqb}
use lib.Dec.{eqb}
use Rattle.paper.specs.Record.{kind, flaw, is_flawed, weight_from}
use Rattle.paper.specs.Verdict.{first_flawed}
use Rattle.table.specs.Due.{has_power}

-- a test that says where there is no flaw, turned round
other_way : (b c : Bool) → c ≡ not b → b ≡ not c
other_way true c e = sym (ap not e)
other_way false c e = sym (ap not e)

module _ (s : List ℕ) (n i : ℕ) where
  flawed_step : i < n → first_flawed s i (n - i) ≡ cond (is_flawed (flaw s i)) i (first_flawed s (i + 1) (n - (i + 1)))
  unfolding first_flawed
  flawed_step h = let left : n - i ≡ suc (n - (i + 1)) = omega arith in rw left refl

  -- by a test that says whether the record is sound
  pub flawed_here : i < n → (b : Bool) → b ≡ not (is_flawed (flaw s i)) → b ≡ false → first_flawed s i (n - i) ≡ i
  flawed_here h b e f = flawed_step h ∙ rw (other_way (is_flawed (flaw s i)) b e, f)

  pub flawed_later : i < n → (b : Bool) → b ≡ not (is_flawed (flaw s i)) → b ≡ true
      → first_flawed s i (n - i) ≡ first_flawed s (i + 1) (n - (i + 1))
  flawed_later h b e f = flawed_step h ∙ rw (other_way (is_flawed (flaw s i)) b e, f)

  pub flawed_done : n ≤ i → first_flawed s i (n - i) ≡ i
  unfolding first_flawed
  flawed_done h = let none : n - i ≡ 0 = omega arith in rw none refl

  weight_step : i < n → weight_from s i (n - i) ≡ cond (eqb (kind s i) 1) 3 1 + weight_from s (i + 1) (n - (i + 1))
  unfolding weight_from
  weight_step h = let left : n - i ≡ suc (n - (i + 1)) = omega arith in rw left refl

  pub weight_symbol : i < n → kind s i ≡ 1 → weight_from s i (n - i) ≡ 3 + weight_from s (i + 1) (n - (i + 1))
  weight_symbol h e = weight_step h ∙ rw (eq-eqb (kind s i) 1 e)

  pub weight_other : i < n → (kind s i ≡ 1 → ⊥) → weight_from s i (n - i) ≡ 1 + weight_from s (i + 1) (n - (i + 1))
  weight_other h e = weight_step h ∙ rw (ne_eqb (kind s i) 1 e)

  pub weight_done : n ≤ i → weight_from s i (n - i) ≡ 0
  unfolding weight_from
  weight_done h = let none : n - i ≡ 0 = omega arith in rw none refl

  power_step : i < n → has_power s i (n - i) ≡ (eqb (kind s i) 4 || has_power s (i + 1) (n - (i + 1)))
  unfolding has_power
  power_step h = let left : n - i ≡ suc (n - (i + 1)) = omega arith in rw left refl

  pub power_here : i < n → kind s i ≡ 4 → has_power s i (n - i) ≡ true
  power_here h e = power_step h ∙ rw (eq-eqb (kind s i) 4 e)

  pub power_later : i < n → (kind s i ≡ 4 → ⊥) → has_power s i (n - i) ≡ has_power s (i + 1) (n - (i + 1))
  power_later h e = power_step h ∙ rw (ne_eqb (kind s i) 4 e)

  pub power_done : n ≤ i → has_power s i (n - i) ≡ false
  unfolding has_power
  power_done h = let none : n - i ≡ 0 = omega arith in rw none refl
