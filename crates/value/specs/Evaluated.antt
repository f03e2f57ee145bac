-- The answer of the evaluator at a record, in the paper's terms: the value of what stands there, and the record after it; and what the
-- value of a node is made from.
use Rattle.std.specs.Prelude.{◌≡◌, ℕ, ◌+◌, ◌*◌, cond, List, [], ◌∷◌, ◌==◌, nat_lt, slice_index}
use Rattle.paper.specs.Record.{kind, count_in}

-- what the register of a symbol holds, the registers being numbers
abbrev pub held : List ℕ → ℕ → ℕ
held regs k = slice_index regs k

-- the record that the evaluator's cell names
abbrev pub place : List ℕ → ℕ
place at = slice_index at 0

-- r is the value v, and the cell then names the record after what takes n records from record i on
pub record Evaluated (i n v r : ℕ) (at : List ℕ) : Type 0 where
  pub value : r ≡ v
  pub end : at ≡ (i + n) ∷ []

-- the number of trees that a node's value is made from: the base of a power, or the members
unfoldable pub parts : List ℕ → ℕ → ℕ
parts s i = cond (kind s i == 4) 1 (count_in s i)

-- what the value of a node of kind k begins with, and what becomes of it with one value more: a sum adds, the others multiply
unfoldable pub neutral : ℕ → ℕ
neutral k = cond (nat_lt k 3) 0 1

unfoldable pub joined : ℕ → ℕ → ℕ → ℕ
joined k total v = cond (nat_lt k 3) (total + v) (total * v)
