-- The answer slice of the calls from C, in figures: "If that slice is too short, the call returns 6 before all else and changes
-- nothing; its bytes past the answer never change."
use Rattle.std.specs.Prelude.{ℕ, ◌≤◌, ◌<◌, ◌≡◌, List, ◌++◌, length, drop}
use Rattle.paper.specs.Verdict.{verdict}
use Rattle.paper.specs.Answers.{Lent, weighed, valued, compared, simplified}
use Rattle.paper.specs.Calls.{verdict_numbers, measured_numbers, compared_numbers, answer_numbers, eights}
use Rattle.paper.specs.Calls.{check_returns, check_answers, weight_returns, weight_answers, value_returns, value_answers}
use Rattle.paper.specs.Calls.{equal_returns, equal_answers, simplify_returns, simplify_answers, simplify_leaves}

-- the bytes of an answer: four numbers, five, six, and ten
abbrev pub check_bytes : ℕ
check_bytes = 32

abbrev pub measure_bytes : ℕ
measure_bytes = 40

abbrev pub equal_bytes : ℕ
equal_bytes = 48

abbrev pub simplify_bytes : ℕ
simplify_bytes = 80

-- of a call that has a number and all numbers ns to tell, what it returns and what its slice is afterwards, n bytes being room enough
abbrev pub TellsIn : ℕ → ℕ → List ℕ → (List ℕ → ℕ) → (List ℕ → List ℕ) → Type 0
TellsIn n number ns returns answers =
    (slice : List ℕ)
    → (length slice < n → (returns slice ≡ 6) × (answers slice ≡ slice))
    × (n ≤ length slice → (returns slice ≡ number) × (answers slice ≡ eights ns ++ drop n slice))

pub record Slices : Type 0 where
  pub check : (lim : ℕ) (s : List ℕ) → TellsIn check_bytes (verdict lim s).number (verdict_numbers (verdict lim s)) (check_returns lim s) (check_answers lim s)
  pub weight : (lim : ℕ) (s : List ℕ)
      → TellsIn measure_bytes (weighed lim s).number (measured_numbers (weighed lim s)) (weight_returns lim s) (weight_answers lim s)
  pub value : (lim : ℕ) (s regs : List ℕ)
      → TellsIn measure_bytes (valued lim s regs).number (measured_numbers (valued lim s regs)) (value_returns lim s regs) (value_answers lim s regs)
  pub equal : (lim : ℕ) (s t : List ℕ)
      → TellsIn equal_bytes (compared lim s t).number (compared_numbers (compared lim s t)) (equal_returns lim s t) (equal_answers lim s t)
  pub simplify : (lim ed : ℕ) (s : List ℕ) (l : Lent)
      → TellsIn simplify_bytes (simplified lim ed s l).answer.number (answer_numbers (simplified lim ed s l).answer)
      (simplify_returns lim ed s l) (simplify_answers lim ed s l)
  -- and the three areas
  pub areas : (lim ed : ℕ) (s : List ℕ) (l : Lent) (slice : List ℕ)
      → (length slice < simplify_bytes → simplify_leaves lim ed s l slice ≡ l)
      × (simplify_bytes ≤ length slice → simplify_leaves lim ed s l slice ≡ (simplified lim ed s l).lent)
