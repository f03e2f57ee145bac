-- A refusal is no acceptance, and an answer with a number beside it says the same as the paper's.
use Prim.Native.Nat.{ℕ, ◌<◌}
use mathlib.Core.Path.{◌≡◌, refl, ap, ◌∙◌}
use mathlib.Core.Bool.{false}
use native.Mathlib.Omega.{arith}
use borrow.Author.Tests.{eqb-false}
use Rattle.std.specs.Prelude.{Result, Ok, Err}
use Rattle.paper.specs.Verdict.{Verdict, accepted, refused, told, is_accepted}
use Rattle.paper.specs.Answers as paper
use Rattle.paper.specs.Answers.{measured}
use Rattle.table.specs.declared.refusals.Refusal.{Refusal}
use Rattle.table.specs.declared.refusals.Refusal.TheVariants.{Length, Record, Heavy, Shape, Exponent, Room, Range, Lists, Edition, Newer, Disorder}
use Rattle.table.specs.declared.refusals.Refusal.TheVariants.{Absent, Full, NoText, Definition, Defined, Endless, TooHeavy, Limit}
use Rattle.table.specs.Refusals.{number_of, verdict_of, stands_for, says}

pub not_accepted : (r : Refusal) → is_accepted (verdict_of r) ≡ false
unfolding is_accepted
not_accepted Length = refl
not_accepted (Record p f) = refl
not_accepted Heavy = refl
not_accepted (Shape p) = refl
not_accepted (Exponent p) = refl
not_accepted Room = refl
not_accepted (Range p) = refl
not_accepted Lists = refl
not_accepted Edition = refl
not_accepted Newer = refl
not_accepted Disorder = refl
not_accepted Absent = refl
not_accepted Full = refl
not_accepted NoText = refl
not_accepted Definition = refl
not_accepted Defined = refl
not_accepted Endless = refl
not_accepted TooHeavy = refl
not_accepted Limit = refl

pub some_number : (r : Refusal) → 0 < number_of r
unfolding is_accepted
some_number r = let other = eqb-false (number_of r) 0 (not_accepted r) in omega (arith, other)

-- a number that is there, and a refusal
pub says_number : (v : Verdict) (w n : ℕ) → v ≡ accepted → n ≡ w → says (Ok n) ≡ measured v w
unfolding measured is_accepted
says_number v w n e q = rw (e, q) refl

pub says_refused : (v : Verdict) (w : ℕ) (r : Refusal) → verdict_of r ≡ v → says (Err r) ≡ measured v w
unfolding measured
says_refused v w r e = rw (← e, not_accepted r) refl

-- the verdict that is in an answer with a number
pub says_verdict : (v : Verdict) (w : ℕ) (r : Result ℕ Refusal) → says r ≡ measured v w → stands_for r ≡ v
unfolding measured
says_verdict v w (Ok n) e = ap (λ (m : paper.Measured). told m.number m.place m.flaw) e
says_verdict v w (Err r) e = ap (λ (m : paper.Measured). told m.number m.place m.flaw) e

-- the number of a refusal that has neither a place nor a flaw; or none
pub record Plain (n : ℕ) : Type 0 where
  pub flawed : n ≡ 2 → ⊥
  pub shape : n ≡ 4 → ⊥
  pub exponent : n ≡ 5 → ⊥
  pub range : n ≡ 7 → ⊥

placeless : (r : Refusal) → Plain (number_of r) → verdict_of r ≡ refused (number_of r) 0
placeless Length h = refl
placeless (Record p f) h = absurd (h.flawed refl)
placeless Heavy h = refl
placeless (Shape p) h = absurd (h.shape refl)
placeless (Exponent p) h = absurd (h.exponent refl)
placeless Room h = refl
placeless (Range p) h = absurd (h.range refl)
placeless Lists h = refl
placeless Edition h = refl
placeless Newer h = refl
placeless Disorder h = refl
placeless Absent h = refl
placeless Full h = refl
placeless NoText h = refl
placeless Definition h = refl
placeless Defined h = refl
placeless Endless h = refl
placeless TooHeavy h = refl
placeless Limit h = refl

pub stands_plain : {T : Type 0} (t : Result T Refusal) (n : ℕ) → Plain n → (stands_for t).number ≡ n → stands_for t ≡ refused n 0
stands_plain (Ok x) n h e = ap (λ (k : ℕ). refused k 0) e
stands_plain (Err r) n h e = placeless r (rw e h) ∙ ap (λ (k : ℕ). refused k 0) e
