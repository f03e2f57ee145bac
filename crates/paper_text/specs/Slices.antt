-- The answer slices of the two calls from C, in figures: "If that slice is too short, the call returns 6 before all else and changes nothing;
-- its bytes past the answer never change."
use Rattle.std.specs.Prelude.{ℕ, ◌≤◌, ◌<◌, ◌≡◌, List, length}
use Rattle.paper.specs.Calls.{measured_numbers}
use Rattle.paper.specs.Slices.{measure_bytes, TellsIn}
use Rattle.paper_text.specs.Answers.{taken_numbers, read_answer, read_given, read_text_returns, read_text_answers, read_text_leaves}
use Rattle.paper_text.specs.Answers.{write_answer, write_given, write_text_returns, write_text_answers, write_text_leaves}

-- three numbers
abbrev pub read_bytes : ℕ
read_bytes = 24

-- the area afterwards, by the slice: as it was where the slice has under n bytes, else what is given
abbrev pub LeavesIn : ℕ → List ℕ → List ℕ → (List ℕ → List ℕ) → Type 0
LeavesIn n area given leaves = (slice : List ℕ) → (length slice < n → leaves slice ≡ area) × (n ≤ length slice → leaves slice ≡ given)

pub record Slices : Type 0 where
  pub reading : (lim : ℕ) (s area : List ℕ)
      → TellsIn read_bytes (read_answer lim s area).number (taken_numbers (read_answer lim s area)) (read_text_returns lim s area)
      (read_text_answers lim s area)
  pub reading_area : (lim : ℕ) (s area : List ℕ) → LeavesIn read_bytes area (read_given lim s area).area (read_text_leaves lim s area)
  pub writing : (lim : ℕ) (s area : List ℕ)
      → TellsIn measure_bytes (write_answer lim s area).number (measured_numbers (write_answer lim s area))
      (write_text_returns lim s area) (write_text_answers lim s area)
  pub writing_area : (lim : ℕ) (s area : List ℕ) → LeavesIn measure_bytes area (write_given lim s area).area (write_text_leaves lim s area)
