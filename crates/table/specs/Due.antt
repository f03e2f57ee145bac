-- Which of the trees that are owed are exponents: a bit for each tree, 64 to a word, tree 0 in the lowest bit of the first.
use Rattle.std.specs.Prelude.{ℕ, zero, suc, ◌+◌, ◌/◌, ◌%◌, ◌^◌, Bool, false, cond, ◌||◌, List, eqb, get_or, set}
use Rattle.std.specs.Int.Bits.{bit_xor}
use Rattle.paper.specs.Record.{kind}

-- one of the f records from i on is a power, so that an exponent is owed at some time
unfoldable pub has_power : List ℕ → ℕ → ℕ → Bool
has_power s i zero = false
has_power s i (suc f) = eqb (kind s i) 4 || has_power s (i + 1) f

-- the bit of tree k: 1 where it is an exponent
unfoldable pub due_at : List ℕ → ℕ → ℕ
due_at due k = get_or due (k / 64) 0 / 2 ^ (k % 64) % 2

-- the bits with that of tree k turned
unfoldable pub turned : List ℕ → ℕ → List ℕ
turned due k = set due (k / 64) (bit_xor (get_or due (k / 64) 0) (2 ^ (k % 64)))

-- the bits where the members of record i are owed above the first k trees: a power's exponent stands below its base
unfoldable pub owing : List ℕ → ℕ → List ℕ → ℕ → List ℕ
owing s i due k = cond (eqb (kind s i) 4) (turned due k) due
