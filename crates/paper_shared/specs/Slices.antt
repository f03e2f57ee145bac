-- The answer slices of the two calls from C, in figures: "If that slice is too short, the call returns 6 before all else and changes nothing;
-- its bytes past the answer never change."
use Rattle.std.specs.Prelude.{ℕ, ◌≤◌, ◌<◌, ◌≡◌, List, length}
use Rattle.paper.specs.Answers.{Lent}
use Rattle.paper.specs.Calls.{answer_numbers}
use Rattle.paper.specs.Slices.{simplify_bytes, TellsIn}
use Rattle.paper_shared.specs.Answers.{Handed, open_given, shared_given}
use Rattle.paper_shared.specs.Calls.{open_numbers, open_returns, open_answers, open_leaves, shared_returns, shared_answers, shared_leaves, shared_area}

-- six numbers
abbrev pub open_bytes : ℕ
open_bytes = 48

pub record Slices : Type 0 where
  pub opening : (lim : ℕ) (h : Handed) (area : List ℕ)
      → TellsIn open_bytes (open_given lim h area).answer.number (open_numbers (open_given lim h area).answer) (open_returns lim h area)
      (open_answers lim h area)
  pub opening_area : (lim : ℕ) (h : Handed) (area slice : List ℕ)
      → (length slice < open_bytes → open_leaves lim h area slice ≡ area) ×
      (open_bytes ≤ length slice → open_leaves lim h area slice ≡ (open_given lim h area).area)
  pub shared : (lim ed : ℕ) (h : Handed) (area : List ℕ) (l : Lent)
      → TellsIn simplify_bytes (shared_given lim ed h area l).given.answer.number (answer_numbers (shared_given lim ed h area l).given.answer)
      (shared_returns lim ed h area l) (shared_answers lim ed h area l)
  pub shared_areas : (lim ed : ℕ) (h : Handed) (area : List ℕ) (l : Lent) (slice : List ℕ)
      → (length slice < simplify_bytes → (shared_area lim ed h area l slice ≡ area) × (shared_leaves lim ed h area l slice ≡ l))
      × (simplify_bytes ≤ length slice
      → (shared_area lim ed h area l slice ≡ (shared_given lim ed h area l).area)
      × (shared_leaves lim ed h area l slice ≡ (shared_given lim ed h area l).given.lent))
