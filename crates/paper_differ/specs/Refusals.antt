-- "Refusals: first table, second table, as in 01; then 6 for a list with under two places a pair", and another limit before all: which verdict
-- the call answers and which table it names, in these words.
use Rattle.std.specs.Prelude.{ℕ, ◌*◌, ◌<◌, ◌≡◌, true, false, List, length}
use Rattle.paper.specs.Limits.{is_limit}
use Rattle.paper.specs.Verdict.{Verdict, accepted, refused, is_accepted, verdict}
use Rattle.paper_differ.specs.Differ.{differences_of}

pub data Refuses (lim : ℕ) (a b list : List ℕ) : Verdict → ℕ → Type 0 where
  no_limit : is_limit lim ≡ false → Refuses lim a b list (refused 19 0) 0
  first_table : is_limit lim ≡ true → is_accepted (verdict lim a) ≡ false → Refuses lim a b list (verdict lim a) 1
  second_table : is_limit lim ≡ true → verdict lim a ≡ accepted → is_accepted (verdict lim b) ≡ false → Refuses lim a b list (verdict lim b) 2
  -- two places of 8 bytes a pair
  short_list : is_limit lim ≡ true → verdict lim a ≡ accepted → verdict lim b ≡ accepted → length list < 16 * length (differences_of a b)
      → Refuses lim a b list (refused 6 0) 0
