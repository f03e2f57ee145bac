-- Which members come out of the walk as they stand, where they take up no other: a look at the member alone; of one that it is not said
-- of, nothing is said.
use Rattle.std.specs.Prelude.{ℕ, Bool, true, false, cond, not, ◌&&◌, List, [], ◌∷◌, length, pos, ◌==◌, nat_lt}
use Rattle.paper.specs.Tree.{Tree, integer, symbol, sum, product, power, to_list}
use Rattle.paper.specs.Equal.{eq_z}

-- the integer that is written as the coefficient of a product with the mark μ: it is not 1, and has the same mark
unfoldable pub is_coefficient : ℕ → Tree → Bool
is_coefficient μ (integer ν z) = not (eq_z z (pos 1)) && ν == μ
is_coefficient μ (symbol ν s) = false
is_coefficient μ (sum ν f) = false
is_coefficient μ (product ν f) = false
is_coefficient μ (power ν b ξ e) = false

unfoldable pub is_integer : Tree → Bool
is_integer (integer μ z) = true
is_integer (symbol μ s) = false
is_integer (sum μ f) = false
is_integer (product μ f) = false
is_integer (power μ b ξ e) = false

-- "any other rest R becomes the product (coefficient, R)": neither an integer nor a product
unfoldable pub is_other_rest : Tree → Bool
is_other_rest (integer μ z) = false
is_other_rest (symbol μ s) = true
is_other_rest (sum μ f) = true
is_other_rest (product μ f) = false
is_other_rest (power μ b ξ e) = true

-- the members of a product with the mark μ, the first of them an integer: a coefficient and such a rest
unfoldable pub first_stays : ℕ → Tree → List Tree → Bool
first_stays μ t [] = false
first_stays μ t (u ∷ []) = is_other_rest u && is_coefficient μ t
first_stays μ t (u ∷ v ∷ l) = false

-- the members of such a product: none is an integer, but for a coefficient "appended last" where they are three or more
unfoldable pub last_stays : Bool → ℕ → List Tree → Bool
last_stays three μ [] = true
last_stays three μ (t ∷ []) = cond (is_integer t) (three && is_coefficient μ t) true
last_stays three μ (t ∷ u ∷ l) = cond (is_integer t) false (last_stays three μ (u ∷ l))

unfoldable pub product_stays : ℕ → List Tree → Bool
product_stays μ [] = false
product_stays μ (t ∷ l) = cond (is_integer t) (first_stays μ t l) (last_stays (nat_lt 2 (length (t ∷ l))) μ (t ∷ l))

-- a member of a sum, and of a product: there a power stays whose exponent is not 1 and has the power's mark
unfoldable pub term_stays : Tree → Bool
term_stays (integer μ z) = true
term_stays (symbol μ s) = true
term_stays (sum μ f) = true
term_stays (product μ f) = product_stays μ (to_list f)
term_stays (power μ b ξ e) = true

unfoldable pub factor_stays : Tree → Bool
factor_stays (integer μ z) = true
factor_stays (symbol μ s) = true
factor_stays (sum μ f) = true
factor_stays (product μ f) = true
factor_stays (power μ b ξ e) = not (e == 1) && ξ == μ

abbrev pub stays : Bool → Tree → Bool
stays true t = term_stays t
stays false t = factor_stays t
