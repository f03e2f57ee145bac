-- The numbers are those of the measure or of its refusal.
use Rattle.std.proofs.Common.{◌≡◌, ℕ, List, ◌∷◌, [], ◌++◌, drop, refl, ap, ◌∙◌, Option, Result, Ok, Err}
use Rattle.paper.specs.Record.{flaw_numbers}
use Rattle.paper.specs.Calls.{eights, measured_numbers}
use Rattle.record.specs.declared.Flaw.{Flaw}
use Rattle.record.specs.Flaw.{flaw_of}
use Rattle.table.specs.declared.refusals.Refusal.{Refusal}
use Rattle.table.specs.Refusals.{number_of, place_of, flaw_in, says}
use Rattle.simmergate.proofs.answer_measured.Goals as goal

measure_told : (m : Result ℕ Refusal) (n : ℕ) (slice after : List ℕ) → m ≡ Ok n → after ≡ eights (0 ∷ 0 ∷ n ∷ 0 ∷ 0 ∷ []) ++ drop 40 slice
    → (0 ≡ (says m).number) × (after ≡ eights (measured_numbers (says m)) ++ drop 40 slice)
unfolding measured_numbers flaw_numbers
measure_told m n slice after e w = rw e (refl, w)

refusal_told : (m : Result ℕ Refusal) (r : Refusal) (slice after : List ℕ) (n p : ℕ) (f : Option Flaw) (both : List ℕ) → m ≡ Err r → n ≡ number_of r
    → p ≡ place_of r → f ≡ flaw_in r → both ≡ flaw_numbers (flaw_of f) → after ≡ eights (n ∷ p ∷ 0 ∷ both) ++ drop 40 slice
    → (n ≡ (says m).number) × (after ≡ eights (measured_numbers (says m)) ++ drop 40 slice)
unfolding measured_numbers
refusal_told m r slice after n p f both e q y z g w =
    let told : n ∷ p ∷ 0 ∷ both ≡ number_of r ∷ place_of r ∷ 0 ∷ flaw_numbers (flaw_of (flaw_in r)) = rw (q, y, g, z) in
    rw e (q, w ∙ ap (λ (l : List ℕ). eights l ++ drop 40 slice) told)

pub returns-in-Ok : goal.returns-in-Ok
returns-in-Ok c = measure_told c.args.measured c.in-Ok.measure c.args.answer.now c.write_numbers.new.answer c.in-Ok.is c.write_numbers.ensures

pub returns-in-Err : goal.returns-in-Err
returns-in-Err c =
    refusal_told c.args.measured c.in-Err.refusal c.args.answer.now c.write_numbers-in-Err.new.answer c.number-number.result c.place-place.result
    c.flaw.result _ c.in-Err.is c.number-number.ensures c.place-place.ensures c.flaw.ensures c.flaw_numbers-wrong.ensures c.write_numbers-in-Err.ensures
