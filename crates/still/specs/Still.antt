-- A test that no rule of an edition applies at a node. It is one-sided: where it says no, the rules are asked.
use Rattle.std.specs.Prelude.{ℕ, ◌*◌, Bool, true, false, cond, ◌&&◌, ◌||◌, not, List, [], ◌∷◌, ◌++◌, pos, eqb, ltb, leb}
use Rattle.paper.specs.Tree.{Tree, integer, symbol, sum, product, power, count, to_list, weight}
use Rattle.paper.specs.Standing.{kind_number}
use Rattle.paper.specs.Rules.{is_the}
use Rattle.note.specs.Part.{part_key}

-- k is one of the numbers
unfoldable pub among : ℕ → List ℕ → Bool
among k [] = false
among k (m ∷ l) = eqb k m || among k l

-- the integers that steps 1, 3 and 4 look for: 0 in a sum, 0 and 1 in a product
unfoldable pub sought : Bool → Tree → Bool
sought true t = is_the (pos 0) t
sought false t = is_the (pos 0) t || is_the (pos 1) t

-- no member is such an integer, and the key of each one's part is neither one of those before nor that of an earlier member; true for the
-- members of a sum, false for those of a product
unfoldable pub apart : Bool → List ℕ → List Tree → Bool
apart terms before [] = true
apart terms before (t ∷ l) =
    not (sought terms t) && (not (among (part_key terms t) before) && apart terms (before ++ (part_key terms t ∷ [])) l)

-- at a power of the base b, by the exponent e: the base is no power, and neither 0 nor 1, and the exponent is not 1
unfoldable pub still_power : Tree → ℕ → Bool
still_power b e = ltb (kind_number b) 4 && (not (sought false b) && not (eqb e 1))

-- edition two alone has rules for powers
unfoldable pub still : ℕ → Tree → Bool
still edition (integer μ z) = true
still edition (symbol μ s) = true
still edition (sum μ f) = apart true [] (to_list f)
still edition (product μ f) = apart false [] (to_list f)
still edition (power μ b ξ e) = cond (eqb edition 2) (still_power b e) true

-- the test as it is made, in scratch of 16 bytes for each unit of the weight w: n members want 40 bytes each
unfoldable pub enough : ℕ → ℕ → Bool
enough n w = leb (5 * n) (2 * w)

unfoldable pub still_by : ℕ → Tree → Bool
still_by edition (integer μ z) = true
still_by edition (symbol μ s) = true
still_by edition (sum μ f) = enough (count f) (weight (sum μ f)) && still edition (sum μ f)
still_by edition (product μ f) = enough (count f) (weight (product μ f)) && still edition (product μ f)
still_by edition (power μ b ξ e) = still edition (power μ b ξ e)
