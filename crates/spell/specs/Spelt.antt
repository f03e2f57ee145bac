-- Text put to an area: where it ends, always, and the area, where it fits.
use Rattle.std.specs.Prelude.{ℕ, ◌+◌, ◌-◌, ◌*◌, ◌^◌, ◌≤◌, ◌≡◌, List, length}
use Rattle.paper.specs.Verdict.{records_in}
use Rattle.paper_text.specs.Text.{Place, in_sum, in_product, as_base}
use Rattle.stretch.specs.Put.{put}
use Rattle.spell.specs.declared.Spelt.{Spelt}
use Rattle.spell.specs.declared.Writer.{Writer}

-- the characters p stand from `at` on, where they lie in the area; e is the place after them
pub record Put (p o : List ℕ) (at : ℕ) (o' : List ℕ) (e : ℕ) : Type 0 where
  pub end : e ≡ at + length p
  pub put_there : at + length p ≤ length o → o' ≡ put o at p

-- the same of the text p of what takes n records from record i on
pub record TextPut (i n : ℕ) (p o : List ℕ) (at : ℕ) (o' : List ℕ) (r : Spelt) : Type 0 where
  pub next : r.next ≡ i + n
  pub text_put : Put p o at o' r.end

-- the rank from which on a member is put in parentheses
unfoldable pub least_rank : Place → ℕ
least_rank in_sum = 3
least_rank in_product = 2
least_rank as_base = 1

-- what follows from record i on ends at a place that is a number of 64 bits: a record has at most 65 characters
pub record Roomy (s : List ℕ) (i at : ℕ) : Type 0 where
  pub fits : at + 65 * (records_in s - i) ≤ 2 ^ 62

-- where a writer stands
abbrev pub place_of : Writer → Spelt
place_of w = record { next = w.next; end = w.end }
