-- What the checker tells of the first flawed record.
use Rattle.std.specs.Prelude.{ℕ, cond, List, ltb}
use Rattle.paper.specs.Record.{flaw}
use Rattle.paper.specs.Verdict.{Verdict, accepted, flawed, first_flawed}

-- refusal 2 of n records
abbrev pub first_flaw : List ℕ → ℕ → Verdict
first_flaw s n = cond (ltb (first_flawed s 0 n) n) (flawed (first_flawed s 0 n) (flaw s (first_flawed s 0 n))) accepted
