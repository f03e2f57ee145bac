-- The answer in the paper's terms: the number of pairs, or a refusal and which table it is of; and an answer with the list afterwards.
use Rattle.std.specs.Prelude.{ℕ, List, Result, Ok, Err}
use Rattle.paper.specs.Verdict.{Verdict, accepted}
use Rattle.paper_differ.specs.Differ as paper
use Rattle.table.specs.declared.refusals.Refused.{Refused}
use Rattle.table.specs.Refusals.{verdict_of, which_of}

abbrev pub answered : Verdict → ℕ → ℕ → paper.Differed
answered v k n = record { number = v.number; place = v.place; flaw = v.flaw; which = k; pairs = n }

abbrev pub says : Result ℕ Refused → paper.Differed
says (Ok n) = answered accepted 0 n
says (Err r) = answered (verdict_of r.refusal) (which_of r.which) 0

abbrev pub gives : Result ℕ Refused → List ℕ → paper.Differed × List ℕ
gives r list = (says r, list)
