-- What is read of a number, in the paper's terms: the number and what of the text is left.
use Rattle.std.specs.Prelude.{ℕ, ◌+◌, ◌≤◌, ◌<◌, ◌≡◌, List, length, drop, Some, None}
use Rattle.std.proofs.Math.Option.{none, some}
use Rattle.std.specs.declared.option.Option.{Option}
use Rattle.paper_text.specs.Text.{Reading, read_number, digits}
use Rattle.stretch.specs.Put.{put}

abbrev pub means : List ℕ → Option (ℕ × ℕ) → Reading ℕ
means s None = none
means s (Some r) = some (r.0, drop r.1 s)

-- the place after the digits lies past `at`, in the text
abbrev pub Ahead : List ℕ → ℕ → Option (ℕ × ℕ) → Type 0
Ahead s at None = Unit {0}
Ahead s at (Some r) = (at < r.1) × (r.1 ≤ length s)

pub record NumberRead (bound : ℕ) (s : List ℕ) (at : ℕ) (r : Option (ℕ × ℕ)) : Type 0 where
  pub reads : means s r ≡ read_number bound (drop at s)
  pub ahead : Ahead s at r

-- the digits of v stand from `at` on, where they lie in the area; e is the place after them
pub record NumberSpelt (v : ℕ) (o : List ℕ) (at : ℕ) (o' : List ℕ) (e : ℕ) : Type 0 where
  pub end : e ≡ at + length (digits v)
  pub spelt : at + length (digits v) ≤ length o → o' ≡ put o at (digits v)
