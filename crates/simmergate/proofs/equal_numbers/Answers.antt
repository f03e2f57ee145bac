-- The numbers are those of the answer in the paper's terms.
use Prim.Native.Nat.{ℕ}
use mathlib.Core.Path.{ap, ◌∙◌}
use mathlib.Core.List.{List, ◌∷◌}
use Rattle.std.specs.Prelude.{Option}
use Rattle.paper.specs.Calls.{compared_numbers}
use Rattle.paper.specs.Equal.{one}
use Rattle.paper.specs.Record.{flaw_numbers}
use Rattle.record.specs.declared.Flaw.{Flaw}
use Rattle.record.specs.Flaw.{flaw_of}
use Rattle.table.specs.Refusals.{number_of, place_of, which_of}
use Rattle.simmergate.proofs.equal_numbers.Goals as goal

pub returns-in-Ok : goal.returns-in-Ok
unfolding compared_numbers flaw_numbers
returns-in-Ok c = rw (c.in-Ok.is, c.number_of.ensures)

pub returns-in-Err : goal.returns-in-Err
unfolding compared_numbers one
returns-in-Err c =
    let r = c.in-Err.refused in
    let wrong = c.flaw_numbers-wrong.ensures ∙ ap (λ (f : Option Flaw). flaw_numbers (flaw_of f)) c.flaw.ensures in
    rw (c.in-Err.is, c.number.ensures, c.place.ensures, c.number-in-Err.ensures)
    (ap (λ (l : List ℕ). number_of r.refusal ∷ place_of r.refusal ∷ which_of r.which ∷ 0 ∷ l) wrong)
