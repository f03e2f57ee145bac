-- What the code says is wrong with a record, in the paper's terms: for each of its answers the paper's value.
use Rattle.std.specs.Prelude.{ℕ, cond, ◌&&◌, List, [], ◌∷◌, ltb, Option, Some, None}
use Rattle.paper.specs.Record as paper
use Rattle.record.specs.declared.Flaw.{Flaw}
use Rattle.record.specs.declared.Flaw.TheVariants.{Kind, Byte, Count}
use Rattle.record.specs.declared.FlawNumbers.{FlawNumbers}

abbrev pub flaw_of : Option Flaw → paper.Flaw
flaw_of None = paper.sound
flaw_of (Some Kind) = paper.bad_kind
flaw_of (Some (Byte j)) = paper.bad_byte j
flaw_of (Some Count) = paper.bad_count

-- the two numbers of an answer
abbrev pub both_numbers : FlawNumbers → List ℕ
both_numbers n = n.what ∷ n.byte ∷ []

-- a place that a search found, if it is below where the search ends
abbrev pub found_below : ℕ → ℕ → Option ℕ
found_below end p = cond (ltb p end) (Some p) None

-- what is wrong with the bytes of record i, of kind k, and with its count
unfoldable pub byte_flaw : List ℕ → ℕ → ℕ → paper.Flaw
byte_flaw s i k = cond (ltb (paper.stray s i k 0 16) 16) (paper.bad_byte (paper.stray s i k 0 16)) paper.sound

unfoldable pub count_flaw : List ℕ → ℕ → ℕ → paper.Flaw
count_flaw s i k = cond (paper.is_node k && ltb (paper.count_in s i) 2) paper.bad_count paper.sound
