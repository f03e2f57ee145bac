-- The numbers are those of the answer in the paper's terms.
use Rattle.std.proofs.Common.{ℕ, List, ◌∷◌, Option, ap, ◌∙◌}
use Rattle.paper.specs.Record.{flaw_numbers}
use Rattle.paper_differ.specs.Calls.{differed_numbers}
use Rattle.record.specs.declared.Flaw.{Flaw}
use Rattle.record.specs.Flaw.{flaw_of}
use Rattle.table.specs.Refusals.{number_of, place_of, which_of}
use Rattle.simmergate.proofs.differ_calls.differ_numbers.Goals as goal

pub returns-in-Ok : goal.returns-in-Ok
unfolding differed_numbers flaw_numbers
returns-in-Ok c = rw c.in-Ok.is

pub returns-in-Err : goal.returns-in-Err
unfolding differed_numbers
returns-in-Err c =
    let r = c.in-Err.refused in
    let wrong = c.flaw_numbers-wrong.ensures ∙ ap (λ (f : Option Flaw). flaw_numbers (flaw_of f)) c.flaw.ensures in
    rw (c.in-Err.is, c.number.ensures, c.place.ensures, c.number-in-Err.ensures)
    (ap (λ (l : List ℕ). number_of r.refusal ∷ place_of r.refusal ∷ which_of r.which ∷ 0 ∷ l) wrong)
