-- The paper's rules, as the code shares them: steps 1 and 4 by one flag, and steps 2 and 6, true for a sum and false for a product; each
-- by the number of its step; and which of them, in the paper's order, are for which kind of tree, in which edition.
use Rattle.std.specs.Prelude.{ℕ, Bool, true, false, cond, ◌||◌, List, [], ◌∷◌, eqb, pos}
use Rattle.std.proofs.Math.Option.{Option}
use Rattle.paper.specs.Tree.{Tree}
use Rattle.paper.specs.Rules.{Tried, does_not_apply, Rule, edition_two, add_zero, combine_like_terms, multiply_one, combine_like_factors, is_the, any_of}
use Rattle.paper.specs.Driver.{as_sum, as_product}

-- "if a member is integer 0, drop all such", and "drop all members that are integer 1"
abbrev pub drop_neutral : Bool → Tree → Tried
drop_neutral true t = add_zero t
drop_neutral false t = multiply_one t

-- the walk over a sum's terms, and over a product's factors
abbrev pub combine_like : Bool → Tree → Tried
combine_like true t = combine_like_terms t
combine_like false t = combine_like_factors t

-- the number of that step; and "if a member is integer 0", or in a product 1: a rule before it applies
abbrev pub step_of : Bool → ℕ
step_of true = 2
step_of false = 6

abbrev pub any_earlier : Bool → List Tree → Bool
any_earlier true l = any_of (is_the (pos 0)) l
any_earlier false l = any_of (is_the (pos 0)) l || any_of (is_the (pos 1)) l

-- the members of a tree that is opened in a sum, and in a product
abbrev pub inside_of : Bool → Tree → Option (List Tree)
inside_of true t = as_sum t
inside_of false t = as_product t

-- the rule that has the number k; a number that none has never applies
unfoldable pub numbered : List Rule → ℕ → Tree → Tried
numbered [] k t = does_not_apply
numbered (r ∷ rs) k t = cond (eqb k r.number) (r.try t) (numbered rs k t)

-- edition two has all the rules, and those of edition one first
unfoldable pub rule_of : ℕ → Tree → Tried
rule_of k t = numbered edition_two k t

-- where in the paper's order the rules for a tree of kind k begin, and where they end in edition ed: for a sum steps 1 and 2, for a
-- product steps 3, 4 and 6, for a power in edition two steps 7, 8 and 9; for any other tree none
abbrev pub first_for : ℕ → ℕ
first_for k = cond (eqb k 3) 2 (cond (eqb k 4) 5 0)

abbrev pub end_for : ℕ → ℕ → ℕ
end_for k ed = cond (eqb k 2) 2 (cond (eqb k 3) 5 (cond (eqb k 4) (cond (eqb ed 2) 8 5) 0))
