-- Sums and products alike: what steps 1 and 4 share, and steps 2 and 6, by one flag: true for a sum and its terms, false for a
-- product and its factors. Each name here stands for the paper's two.
use Rattle.std.specs.Prelude.{ℕ, Bool, true, false, List}
use Rattle.std.proofs.Math.Option.{Option}
use Rattle.paper.specs.Tree.{Tree}
use Rattle.paper.specs.Rules.{sum_of, product_of, Term, term_of, merge_terms, from_term, Factor, factor_of, merge_factors, from_factor}

-- the kind of the node's record
abbrev pub node_kind : Bool → ℕ
node_kind true = 2
node_kind false = 3

-- the integer that adds nothing to a sum, and multiplies nothing in a product: what steps 1 and 4 drop, and what is left of none
abbrev pub neutral : Bool → ℕ
neutral true = 0
neutral false = 1

-- "An emptied sum becomes 0, an emptied product 1, a single member itself."
abbrev pub node_of : Bool → ℕ → List Tree → Tree
node_of true μ l = sum_of μ l
node_of false μ l = product_of μ l

-- a part of a member, and how members are split, merged and put together
abbrev pub Like : Bool → Type 0
Like true = Term
Like false = Factor

abbrev pub split : (b : Bool) → Tree → Like b
split true t = term_of t
split false t = factor_of t

abbrev pub merge : (b : Bool) → Like b → Like b → Option (Like b)
merge true c x = merge_terms c x
merge false c x = merge_factors c x

abbrev pub join : (b : Bool) → Like b → Tree × Bool
join true c = from_term c
join false c = from_factor c
