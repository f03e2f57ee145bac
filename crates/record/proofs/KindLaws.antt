-- The kinds that have a count, 2 and 3, as the code tells them from the others: not below 2, and not 4.
use Prim.Native.Nat.{ℕ, ◌<◌, ◌≤◌, min}
use mathlib.Core.Path.{◌≡◌, refl, sym, ap, ◌∙◌}
use mathlib.Core.Logic.{◌⊎◌, inl, inr}
use mathlib.Core.Bool.{Bool, true, false}
use native.Mathlib.Decide.{dec_le}
use native.Mathlib.Omega.{arith}
use borrow.Author.Tests.{eq-eqb, ne_eqb, eqb-true, eqb-false}
use lib.Dec.{eqb}
use denote.Enum.Bare.{sameb}
use Rattle.record.specs.contracts.kinds.Kind.{the_type}
use Rattle.paper.specs.Record.{is_node}
use Rattle.record.specs.Kinds.{number_of}
use Rattle.record.specs.declared.kinds.Kind.{Kind}
use Rattle.record.specs.declared.kinds.Kind.TheVariants.{Integer, Symbol, Sum, Product, Power}

pub leaf_no_node : (k : ℕ) → k < 2 → is_node k ≡ false
unfolding is_node
leaf_no_node k h = rw (ne_eqb k 2 (λ e. omega arith), ne_eqb k 3 (λ e. omega arith))

pub power_no_node : (k : ℕ) → k ≡ 4 → is_node k ≡ false
unfolding is_node
power_no_node k h = rw (ne_eqb k 2 (λ e. omega arith), ne_eqb k 3 (λ e. omega arith))

pub between_node : (k : ℕ) → 2 ≤ k → k ≤ 4 → (k ≡ 4 → ⊥) → is_node k ≡ true
unfolding is_node
between_node k h m p = by (dec_le k 2)
  where
    by : Dec (k ≤ 2) → is_node k ≡ true
    by (yes l) = rw (eq-eqb k 2 (omega arith))
    by (no l) = rw (ne_eqb k 2 (λ e. omega arith), eq-eqb k 3 (omega arith))

-- no kind has a number over 4
pub number_below : (k : Kind) → number_of k < 5
number_below Integer = omega arith
number_below Symbol = omega arith
number_below Sum = omega arith
number_below Product = omega arith
number_below Power = omega arith

-- and no two kinds have one number
pub kind_by_number : (j k : Kind) → number_of j ≡ number_of k → j ≡ k
kind_by_number Integer Integer e = refl
kind_by_number Symbol Symbol e = refl
kind_by_number Sum Sum e = refl
kind_by_number Product Product e = refl
kind_by_number Power Power e = refl
kind_by_number Integer Symbol e = absurd (omega (arith, e))
kind_by_number Integer Sum e = absurd (omega (arith, e))
kind_by_number Integer Product e = absurd (omega (arith, e))
kind_by_number Integer Power e = absurd (omega (arith, e))
kind_by_number Symbol Integer e = absurd (omega (arith, e))
kind_by_number Symbol Sum e = absurd (omega (arith, e))
kind_by_number Symbol Product e = absurd (omega (arith, e))
kind_by_number Symbol Power e = absurd (omega (arith, e))
kind_by_number Sum Integer e = absurd (omega (arith, e))
kind_by_number Sum Symbol e = absurd (omega (arith, e))
kind_by_number Sum Product e = absurd (omega (arith, e))
kind_by_number Sum Power e = absurd (omega (arith, e))
kind_by_number Product Integer e = absurd (omega (arith, e))
kind_by_number Product Symbol e = absurd (omega (arith, e))
kind_by_number Product Sum e = absurd (omega (arith, e))
kind_by_number Product Power e = absurd (omega (arith, e))
kind_by_number Power Integer e = absurd (omega (arith, e))
kind_by_number Power Symbol e = absurd (omega (arith, e))
kind_by_number Power Sum e = absurd (omega (arith, e))
kind_by_number Power Product e = absurd (omega (arith, e))

-- kinds are compared by their numbers
pub compared : (j k : Kind) → sameb the_type j k ≡ eqb (number_of j) (number_of k)
compared Integer Integer = refl
compared Integer Symbol = refl
compared Integer Sum = refl
compared Integer Product = refl
compared Integer Power = refl
compared Symbol Integer = refl
compared Symbol Symbol = refl
compared Symbol Sum = refl
compared Symbol Product = refl
compared Symbol Power = refl
compared Sum Integer = refl
compared Sum Symbol = refl
compared Sum Sum = refl
compared Sum Product = refl
compared Sum Power = refl
compared Product Integer = refl
compared Product Symbol = refl
compared Product Sum = refl
compared Product Product = refl
compared Product Power = refl
compared Power Integer = refl
compared Power Symbol = refl
compared Power Sum = refl
compared Power Product = refl
compared Power Power = refl

-- what a comparison of a record's kind tells of its first byte n
pub kind_is : (j k : Kind) (b : Bool) (n : ℕ) → number_of j ≡ min n 4 → b ≡ sameb the_type j k → b ≡ true → number_of k ≡ min n 4
kind_is j k b n q s e = sym (eqb-true (number_of j) (number_of k) (sym (compared j k) ∙ sym s ∙ e)) ∙ q

pub kind_is_not : (j k : Kind) (b : Bool) (n : ℕ) → number_of j ≡ min n 4 → b ≡ sameb the_type j k → b ≡ false → number_of k ≡ min n 4 → ⊥
kind_is_not j k b n q s e p = eqb-false (number_of j) (number_of k) (sym (compared j k) ∙ sym s ∙ e) (q ∙ sym p)

pub kind_apart : (j k : Kind) (n : ℕ) → number_of j ≡ min n 4 → (j ≡ k → ⊥) → number_of k ≡ min n 4 → ⊥
kind_apart j k n q apart p = apart (kind_by_number j k (q ∙ sym p))

-- an integer or a symbol, and another kind
pub leaf_low : (k : Kind) (n : ℕ) → number_of k ≡ min n 4 → (k ≡ Integer) ⊎ (k ≡ Symbol) → n < 2
leaf_low k n q (inl e) = omega (arith, ap number_of (sym e) ∙ q)
leaf_low k n q (inr e) = omega (arith, ap number_of (sym e) ∙ q)

pub node_high : (k : Kind) (n : ℕ) → number_of k ≡ min n 4 → (k ≡ Integer → ⊥) → (k ≡ Symbol → ⊥) → 2 ≤ n
node_high k n q a b = omega (arith, kind_apart k Integer n q a, kind_apart k Symbol n q b)
