-- What a test of a record's kind says of the number that its first byte is.
use Prim.Native.Nat.{ℕ, ◌≤◌, ◌<◌, min}
use mathlib.Core.Path.{◌≡◌, refl, sym, ap, ◌∙◌}
use mathlib.Core.Bool.{Bool, true, false, not}
use native.Mathlib.Omega.{arith}
use borrow.Author.Tests.{eq-eqb, ne_eqb, lt-ltb, le-ltb, eqb-true, eqb-false, not-true}
use denote.Enum.Bare.{sameb}
use lib.Dec.{eqb, ltb}
use Rattle.record.specs.Kinds.{number_of}
use Rattle.record.proofs.KindLaws.{compared}
use Rattle.record.specs.contracts.kinds.Kind.{the_type}
use Rattle.record.specs.declared.kinds.Kind.{Kind}
use Rattle.record.specs.declared.kinds.Kind.TheVariants.{Integer, Symbol, Sum, Product, Power}

not_false : (b : Bool) → not b ≡ false → b ≡ true
not_false true e = refl
not_false false e = absurd (cc)

module _ (k : Kind) (n : ℕ) (at : number_of k ≡ min n 4) where
  -- the answer r of a test for one of the first four kinds
  module _ (j : Kind) (few : number_of j < 4) {r : Bool} where
    pub eq_true : r ≡ sameb the_type k j → r ≡ true → n ≡ number_of j
    eq_true p q = let e : number_of k ≡ number_of j = eqb-true _ _ (sym (compared k j) ∙ sym p ∙ q) in omega arith

    pub eq_false : r ≡ sameb the_type k j → r ≡ false → n ≡ number_of j → ⊥
    eq_false p q = let e : number_of k ≡ number_of j → ⊥ = eqb-false _ _ (sym (compared k j) ∙ sym p ∙ q) in λ d. e (omega arith)

    pub ne_true : r ≡ not (sameb the_type k j) → r ≡ true → n ≡ number_of j → ⊥
    ne_true p q =
        let e : number_of k ≡ number_of j → ⊥ = eqb-false _ _ (sym (compared k j) ∙ not-true (sameb the_type k j) (sym p ∙ q)) in
        λ d. e (omega arith)

    pub ne_false : r ≡ not (sameb the_type k j) → r ≡ false → n ≡ number_of j
    ne_false p q =
        let e : number_of k ≡ number_of j = eqb-true _ _ (sym (compared k j) ∙ not_false (sameb the_type k j) (sym p ∙ q)) in
        omega arith

    pub ne_says : r ≡ not (sameb the_type k j) → r ≡ not (eqb n (number_of j))
    ne_says p = p ∙ ap not (by (sameb the_type k j) refl)
      where
        by : (b : Bool) → sameb the_type k j ≡ b → sameb the_type k j ≡ eqb n (number_of j)
        by true e =
            let d : number_of k ≡ number_of j = eqb-true _ _ (sym (compared k j) ∙ e) in
            e ∙ sym (eq-eqb n (number_of j) (omega arith))
        by false e =
            let d : number_of k ≡ number_of j → ⊥ = eqb-false _ _ (sym (compared k j) ∙ e) in
            e ∙ sym (ne_eqb n (number_of j) (λ x. d (omega arith)))

  -- a test for the last
  pub ne_power_true : {r : Bool} → r ≡ not (sameb the_type k Power) → r ≡ true → n < 4
  ne_power_true p q =
      let e : number_of k ≡ 4 → ⊥ = eqb-false _ _ (sym (compared k Power) ∙ not-true (sameb the_type k Power) (sym p ∙ q)) in
      omega arith

  pub ne_power_false : {r : Bool} → r ≡ not (sameb the_type k Power) → r ≡ false → 4 ≤ n
  ne_power_false p q =
      let e : number_of k ≡ 4 = eqb-true _ _ (sym (compared k Power) ∙ not_false (sameb the_type k Power) (sym p ∙ q)) in
      omega arith

  pub is_power : k ≡ Power → 4 ≤ n
  is_power e = let d : number_of k ≡ 4 = ap number_of e in omega arith

pub no_power : (k : Kind) {n : ℕ} → number_of k ≡ min n 4 → (k ≡ Power → ⊥) → n < 4
no_power Integer m h = omega arith
no_power Symbol m h = omega arith
no_power Sum m h = omega arith
no_power Product m h = omega arith
no_power Power m h = absurd (h refl)

-- an integer's record is told by a number below 1
pub integer_says : (k : Kind) (n : ℕ) {r : Bool} → number_of k ≡ min n 4 → r ≡ sameb the_type k Integer → r ≡ ltb n 1
integer_says Integer n m p = p ∙ sym (lt-ltb n 1 (omega arith))
integer_says Symbol n m p = p ∙ sym (le-ltb n 1 (omega arith))
integer_says Sum n m p = p ∙ sym (le-ltb n 1 (omega arith))
integer_says Product n m p = p ∙ sym (le-ltb n 1 (omega arith))
integer_says Power n m p = p ∙ sym (le-ltb n 1 (omega arith))
