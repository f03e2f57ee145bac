-- An answer and the area afterwards, as the paper's.
use Rattle.std.specs.Prelude.{List, ℕ, Result, Ok, Err}
use Rattle.paper.specs.Answers as paper
use Rattle.paper_text.specs.Answers.{Filled, Taken}
use Rattle.table.specs.declared.refusals.Refusal.{Refusal}
use Rattle.table.specs.Refusals.{number_of, place_of, says}

-- the records that are read, or a refusal, which has 0 beside it
abbrev pub taken_as : Result ℕ Refusal → Taken
taken_as (Ok n) = record { number = 0; place = 0; records_written = n }
taken_as (Err r) = record { number = number_of r; place = place_of r; records_written = 0 }

-- what the reader takes
abbrev pub takes : Result ℕ Refusal → List ℕ → Filled Taken
takes r area = record { answer = taken_as r; area = area }

-- what the writer gives
abbrev pub gives : Result ℕ Refusal → List ℕ → Filled paper.Measured
gives r area = record { answer = says r; area = area }
