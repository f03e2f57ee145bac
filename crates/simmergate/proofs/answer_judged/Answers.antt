-- The numbers are those of the verdict.
use Rattle.std.proofs.Common.{◌≡◌, ℕ, List, ◌∷◌, [], ◌++◌, drop, refl, ap, ◌∙◌, Option, Result, Ok, Err}
use Rattle.paper.specs.Record.{flaw_numbers}
use Rattle.paper.specs.Calls.{eights, verdict_numbers}
use Rattle.record.specs.declared.Flaw.{Flaw}
use Rattle.record.specs.Flaw.{flaw_of}
use Rattle.table.specs.declared.refusals.Refusal.{Refusal}
use Rattle.table.specs.Refusals.{number_of, place_of, flaw_in, stands_for}
use Rattle.simmergate.proofs.answer_judged.Goals as goal

accepted_told : (j : Result (Unit {0}) Refusal) (x : Unit {0}) (slice after : List ℕ) → j ≡ Ok x → after ≡ eights (0 ∷ 0 ∷ 0 ∷ 0 ∷ []) ++ drop 32 slice
    → (0 ≡ (stands_for j).number) × (after ≡ eights (verdict_numbers (stands_for j)) ++ drop 32 slice)
unfolding verdict_numbers flaw_numbers
accepted_told j x slice after e w = rw e (refl, w)

refusal_told : (j : Result (Unit {0}) Refusal) (r : Refusal) (slice after : List ℕ) (n p : ℕ) (f : Option Flaw) (both : List ℕ) → j ≡ Err r → n ≡ number_of r
    → p ≡ place_of r → f ≡ flaw_in r → both ≡ flaw_numbers (flaw_of f) → after ≡ eights (n ∷ p ∷ both) ++ drop 32 slice
    → (n ≡ (stands_for j).number) × (after ≡ eights (verdict_numbers (stands_for j)) ++ drop 32 slice)
unfolding verdict_numbers
refusal_told j r slice after n p f both e q y z g w =
    let told : n ∷ p ∷ both ≡ number_of r ∷ place_of r ∷ flaw_numbers (flaw_of (flaw_in r)) = rw (q, y, g, z) in
    rw e (q, w ∙ ap (λ (l : List ℕ). eights l ++ drop 32 slice) told)

pub returns-in-Ok : goal.returns-in-Ok
returns-in-Ok c = accepted_told c.args.judged _ c.args.answer.now c.write_numbers.new.answer c.in-Ok.is c.write_numbers.ensures

pub returns-in-Err : goal.returns-in-Err
returns-in-Err c =
    refusal_told c.args.judged c.in-Err.refusal c.args.answer.now c.write_numbers-in-Err.new.answer c.number-number.result c.place-place.result
    c.flaw.result _ c.in-Err.is c.number-number.ensures c.place-place.ensures c.flaw.ensures c.flaw_numbers-wrong.ensures c.write_numbers-in-Err.ensures
