-- Opening over records: a symbol has no members, so each record of a defined symbol gives way to the records of its definition, and all
-- others stay. One definition for what is written and for what it weighs. Only a tool: proofs/FlatLaws holds it to the opening of trees.
use Rattle.std.specs.Prelude.{ℕ, zero, suc, ◌+◌, ◌*◌, cond, List, [], ◌++◌, take, drop, eqb}
use Rattle.std.proofs.Math.Option.{Option, none, some}
use Rattle.paper.specs.Tree.{Tree, weight}
use Rattle.paper.specs.Record.{kind, symbol_in}
use Rattle.paper.specs.Table.{encode}
use Rattle.paper_shared.specs.Shared.{Definition, defined, make}

module _ {A : Type 0} where
  -- two parts joined, where both are there
  unfoldable pub joined : (A → A → A) → Option A → Option A → Option A
  joined join none p = none
  joined join (some a) none = none
  joined join (some a) (some b) = some (join a b)

  -- of the n records from i on: `own` of each, but a symbol's by `f`, joined; `nought` where there is none
  unfoldable pub over_records : (A → A → A) → A → (List ℕ → ℕ → A) → (ℕ → A → Option A) → List ℕ → ℕ → ℕ → Option A
  over_records join nought own f s i zero = some nought
  over_records join nought own f s i (suc n) =
      joined join (cond (eqb (kind s i) 1) (f (symbol_in s i) (own s i)) (some (own s i))) (over_records join nought own f s (i + 1) n)

  -- a symbol's own where it is not defined, else what its definition gives
  unfoldable pub instead : A → (Tree → Option A) → Option Tree → Option A
  instead own gives none = some own
  instead own gives (some u) = gives u

-- the 16 bytes of record i, and what it weighs
unfoldable pub bytes_at : List ℕ → ℕ → List ℕ
bytes_at s i = take 16 (drop (i * 16) s)

unfoldable pub weight_at : List ℕ → ℕ → ℕ
weight_at s i = cond (eqb (kind s i) 1) 3 1

-- the opened records; the opened weight
unfoldable pub open_from : (ℕ → List ℕ → Option (List ℕ)) → List ℕ → ℕ → ℕ → Option (List ℕ)
open_from f s i n = over_records ◌++◌ [] bytes_at f s i n

unfoldable pub weigh_from : (ℕ → ℕ → Option ℕ) → List ℕ → ℕ → ℕ → Option ℕ
weigh_from f s i n = over_records ◌+◌ 0 weight_at f s i n

-- the records, and the weight, of what replaces a symbol
unfoldable pub records_for : List Definition → (Tree → Option Tree) → ℕ → List ℕ → Option (List ℕ)
records_for ds again x own = instead own (λ u. make encode (again u)) (defined ds x)

unfoldable pub weight_for : List Definition → (Tree → Option Tree) → ℕ → ℕ → Option ℕ
weight_for ds again x own = instead own (λ u. make weight (again u)) (defined ds x)
