-- Keys that are there twice, told in parts of 8,192 keys that come one after the other.
use Rattle.std.specs.Prelude.{ℕ, ◌+◌, ◌/◌, Bool, false, cond, ◌&&◌, ◌||◌, List, [], ◌∷◌, eqb, leb}

unfoldable pub has : ℕ → List ℕ → Bool
has k [] = false
has k (j ∷ js) = eqb k j || has k js

-- some key that p says yes to is there again later
unfoldable pub twice : (ℕ → Bool) → List ℕ → Bool
twice p [] = false
twice p (k ∷ ks) = (p k && has k ks) || twice p ks

-- the key is of this part; of this or a later one
unfoldable pub in_part : ℕ → ℕ → Bool
in_part part k = eqb (k / 8192) part

unfoldable pub part_from : ℕ → ℕ → Bool
part_from part k = leb part (k / 8192)

-- the number of parts up to the last one that has a key of the list, or m where that is more
unfoldable pub parts_of : ℕ → List ℕ → ℕ
parts_of m [] = m
parts_of m (k ∷ ks) = parts_of (cond (leb m (k / 8192)) (k / 8192 + 1) m) ks
