-- The answers of the two calls in the request's terms.
use Rattle.std.specs.Prelude.{ℕ, ◌*◌, Bool, ◌||◌, List, ltb, Result, Ok, Err}
use Rattle.paper.specs.Record.{sound}
use Rattle.paper.specs.Verdict.{Verdict}
use Rattle.paper_shared.specs.Answers as paper
use Rattle.table.specs.declared.refusals.Refusal.{Refusal}
use Rattle.table.specs.Refusals.{verdict_of}
use Rattle.simplify.specs.declared.Answer.{Answer}
use Rattle.simplify.specs.Answer as simplifier
use Rattle.shared.specs.declared.Opened.{Opened}

-- a refusal: no records, no weight
abbrev pub turned_away_answer : Verdict → paper.OpenAnswer
turned_away_answer v = record { number = v.number; place = v.place; flaw = v.flaw; records_written = 0; opened_weight = 0 }

abbrev pub says : Result Opened Refusal → paper.OpenAnswer
says (Ok o) = record { number = 0; place = 0; flaw = sound; records_written = o.records; opened_weight = o.weight }
says (Err r) = turned_away_answer (verdict_of r)

-- the answer of the call that opens, and its area afterwards
abbrev pub gives_opened : Result Opened Refusal → List ℕ → paper.OpenGiven
gives_opened a area = record { answer = says a; area = area }

-- the answer of the call that opens and simplifies, and the four areas afterwards
abbrev pub gives_shared : Answer → List ℕ → List ℕ → List ℕ → List ℕ → paper.SharedGiven
gives_shared a area out steps work = record { given = simplifier.gives a out steps work; area = area }

-- 6, by the limit and the lengths of the four areas
unfoldable pub tight : ℕ → ℕ → ℕ → ℕ → ℕ → ℕ → Bool
tight lim w area out steps work = ltb area (16 * w) || simplifier.short lim w out steps work
