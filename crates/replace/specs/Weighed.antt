-- Opened weights, capped, from the records of a table: what a symbol counts is in two arrays.
use Rattle.std.specs.Prelude.{ℕ, zero, suc, ◌+◌, ◌<◌, ◌≤◌, min, cond, List, get_or, eqb, Option, Some, None, IfSome}
use Rattle.std.proofs.Math.Option.{none, some}
use Rattle.std.proofs.Math.Option as math
use Rattle.paper.specs.Record.{kind, symbol_in}
use Rattle.paper.specs.Verdict.{records_in}
use Rattle.paper_shared.specs.Shared.{make}
use Rattle.paper_shared.specs.Records.{weight_at, weigh_from}

-- the code's weight as the definitions', and back
unfoldable pub known : Option ℕ → math.Option ℕ
known None = none
known (Some k) = some k

unfoldable pub told : math.Option ℕ → Option ℕ
told none = None
told (some w) = Some w

-- the lesser of a weight and one over the limit, which stands for all that are too heavy
unfoldable pub capped : ℕ → math.Option ℕ → math.Option ℕ
capped lim o = make (λ (w : ℕ). min w (lim + 1)) o

-- no limit is over 16,384: what no capped weight exceeds, and no table's length
abbrev pub most_counted : ℕ
most_counted = 16385

abbrev pub most_bytes : ℕ
most_bytes = 262144

-- none of the weights of the definitions is over what is counted
abbrev pub AllCounted : List (Option ℕ) → Type 0
AllCounted weights = (j : ℕ) → j < 16 → IfSome (get_or weights j None) (λ w. w ≤ most_counted)

-- what a symbol counts: its own weight, or what is known of definition c - 1
unfoldable pub count_of : List (Option ℕ) → ℕ → ℕ → math.Option ℕ
count_of weights own zero = some own
count_of weights own (suc j) = known (get_or weights j None)

unfoldable pub counts : List ℕ → List (Option ℕ) → ℕ → ℕ → math.Option ℕ
counts which weights x own = count_of weights own (get_or which x 0)

-- what record i counts
unfoldable pub count_at : List ℕ → List (Option ℕ) → List ℕ → ℕ → math.Option ℕ
count_at which weights s i = cond (eqb (kind s i) 1) (counts which weights (symbol_in s i) (weight_at s i)) (some (weight_at s i))

-- the capped weight of a table, opened
unfoldable pub weighs : ℕ → List ℕ → List (Option ℕ) → List ℕ → Option ℕ
weighs lim which weights s = told (capped lim (weigh_from (counts which weights) s 0 (records_in s)))
