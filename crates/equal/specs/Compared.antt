-- The answer of the equality test in the paper's terms: yes or no, or a refusal and which table it is of.
use Rattle.std.specs.Prelude.{ℕ, Bool, false, Result, Ok, Err}
use Rattle.paper.specs.Verdict.{Verdict, accepted}
use Rattle.paper.specs.Answers as paper
use Rattle.table.specs.declared.refusals.Refused.{Refused}
use Rattle.table.specs.Refusals.{verdict_of, which_of}

abbrev pub answered : Verdict → ℕ → Bool → paper.Compared
answered v k q = record { number = v.number; place = v.place; flaw = v.flaw; which = k; yes = q }

abbrev pub says : Result Bool Refused → paper.Compared
says (Ok q) = answered accepted 0 q
says (Err r) = answered (verdict_of r.refusal) (which_of r.which) false
