-- What is said by each answer of a glance at a record, and of a look at all records of a table.
use Rattle.std.specs.Prelude.{ℕ, ◌<◌, ◌≤◌, ◌≡◌, true, false, List, Option, Some, None}
use Rattle.paper.specs.Record.{kind, count_in, flaw, is_flawed, weight_from}
use Rattle.paper.specs.Verdict.{first_flawed, tree_end}
use Rattle.table.specs.Due.{has_power}
use Rattle.table.specs.declared.Seen.{Seen}
use Rattle.table.specs.declared.Seen.TheVariants.{Integer, Symbol, Members, Power}
use Rattle.table.specs.declared.Whole.{Whole}

-- of record i
abbrev pub Sees : List ℕ → ℕ → Option Seen → Type 0
Sees s i None = is_flawed (flaw s i) ≡ true
Sees s i (Some Integer) = (is_flawed (flaw s i) ≡ false) × (kind s i ≡ 0)
Sees s i (Some Symbol) = (is_flawed (flaw s i) ≡ false) × (kind s i ≡ 1)
Sees s i (Some (Members c)) = (is_flawed (flaw s i) ≡ false) × (2 ≤ kind s i) × (kind s i ≤ 3) × (c ≡ count_in s i) × (c < 65536)
Sees s i (Some Power) = (is_flawed (flaw s i) ≡ false) × (kind s i ≡ 4)

-- of n records
abbrev pub Looks : List ℕ → ℕ → Option Whole → Type 0
Looks s n None = n ≤ first_flawed s 0 n → tree_end s n 0 ≡ n → ⊥
Looks s n (Some w) = (first_flawed s 0 n ≡ n) × (tree_end s n 0 ≡ n) × (w.weight ≡ weight_from s 0 n) × (w.power ≡ has_power s 0 n)
