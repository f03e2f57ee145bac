-- The numbers are those of the answer in the request's terms.
use Rattle.std.proofs.Common.{ℕ, List, ◌∷◌, Option, ap, ◌∙◌}
use Rattle.paper.specs.Record.{flaw_numbers}
use Rattle.paper_shared.specs.Calls.{open_numbers}
use Rattle.record.specs.declared.Flaw.{Flaw}
use Rattle.record.specs.Flaw.{flaw_of}
use Rattle.table.specs.Refusals.{number_of, place_of}
use Rattle.simmergate.proofs.shared_calls.numbers_of.Goals as goal

pub returns-in-Ok : goal.returns-in-Ok
unfolding open_numbers flaw_numbers
returns-in-Ok c = rw c.in-Ok.is

pub returns-in-Err : goal.returns-in-Err
unfolding open_numbers
returns-in-Err c =
    let r = c.in-Err.refusal in
    let wrong = c.flaw_numbers-wrong.ensures ∙ ap (λ (f : Option Flaw). flaw_numbers (flaw_of f)) c.flaw.ensures in
    rw (c.in-Err.is, c.number-number.ensures, c.place-place.ensures) (ap (λ (l : List ℕ). number_of r ∷ place_of r ∷ 0 ∷ 0 ∷ l) wrong)
