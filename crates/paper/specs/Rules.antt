-- "The rules, each tried on one node": steps 1, 2, 3, 4 and 6 of edition one, and with them 7, 8 and 9 of edition two.
use Rattle.std.specs.Prelude.{ℕ, zero, suc, ◌+◌, ◌*◌, ◌^◌, Bool, true, false, cond, ◌&&◌, ◌||◌, List, [], ◌∷◌, ◌++◌, map, length, ℤ, pos, ◌+ℤ◌, ◌*ℤ◌, eqb, ltb}
use Rattle.std.proofs.Math.Option.{Option, none, some}
use Rattle.std.specs.Int.Signed.{mag}
use Rattle.paper.specs.Tree.{Tree, Forest, integer, symbol, sum, product, power, to_list, of_list, marked}
use Rattle.paper.specs.Equal.{equal, eq_z}
use Rattle.paper.specs.Walk.{walk}

-- what a rule answers at a node
pub data Tried : Type 0 where
  does_not_apply : Tried
  applies : Tree → Tried
  range_exceeded : Tried

pub record Rule : Type 0 where
  pub number : ℕ
  pub try : Tree → Tried

-- "the signed 64-bit range"
unfoldable pub fits : ℤ → Bool
fits z = ltb (mag z) (2 ^ 63)

-- ---- "An emptied sum becomes 0, an emptied product 1, a single member itself." "A 0 or 1 that stands for an emptied node .. takes that
-- node's mark. A single member that is left keeps its own"; and a node that keeps two members or more keeps its mark.
unfoldable pub collapse : Tree → (Forest → Tree) → List Tree → Tree
collapse emptied node [] = emptied
collapse emptied node (t ∷ []) = t
collapse emptied node (t ∷ u ∷ l) = node (of_list (t ∷ u ∷ l))

unfoldable pub sum_of : ℕ → List Tree → Tree
sum_of μ l = collapse (integer μ (pos 0)) (sum μ) l

unfoldable pub product_of : ℕ → List Tree → Tree
product_of μ l = collapse (integer μ (pos 1)) (product μ) l

-- ---- a rule on a sum, a rule on a product: on the node's mark and its members
unfoldable pub on_sum_members : (ℕ → List Tree → Tried) → Tree → Tried
on_sum_members k (integer μ z) = does_not_apply
on_sum_members k (symbol μ s) = does_not_apply
on_sum_members k (sum μ f) = k μ (to_list f)
on_sum_members k (product μ f) = does_not_apply
on_sum_members k (power μ b ξ e) = does_not_apply

unfoldable pub on_product_members : (ℕ → List Tree → Tried) → Tree → Tried
on_product_members k (integer μ z) = does_not_apply
on_product_members k (symbol μ s) = does_not_apply
on_product_members k (sum μ f) = does_not_apply
on_product_members k (product μ f) = k μ (to_list f)
on_product_members k (power μ b ξ e) = does_not_apply

-- ---- members that are a certain integer
unfoldable pub as_integer : Tree → Option ℤ
as_integer (integer μ z) = some z
as_integer (symbol μ s) = none
as_integer (sum μ f) = none
as_integer (product μ f) = none
as_integer (power μ b ξ e) = none

unfoldable pub is_the : ℤ → Tree → Bool
is_the z t = elim (as_integer t) [ none ↦ false | some y ↦ eq_z y z ]

unfoldable pub unless : Bool → Tree → List Tree → List Tree
unless true t l = l
unless false t l = t ∷ l

unfoldable pub drop_all : (Tree → Bool) → List Tree → List Tree
drop_all p [] = []
drop_all p (t ∷ l) = unless (p t) t (drop_all p l)

unfoldable pub any_of : (Tree → Bool) → List Tree → Bool
any_of p [] = false
any_of p (t ∷ l) = p t || any_of p l

unfoldable pub applies_if : Bool → Tree → Tried
applies_if true t = applies t
applies_if false t = does_not_apply

-- step 1: "if a member is integer 0, drop all such"
unfoldable pub add_zero : Tree → Tried
add_zero = on_sum_members (λ μ l. applies_if (any_of (is_the (pos 0)) l) (sum_of μ (drop_all (is_the (pos 0)) l)))

-- step 3: "a member is integer 0: the whole is 0", which "takes that node's mark"
unfoldable pub multiply_zero : Tree → Tried
multiply_zero = on_product_members (λ μ l. applies_if (any_of (is_the (pos 0)) l) (integer μ (pos 0)))

-- step 4: "drop all members that are integer 1"
unfoldable pub multiply_one : Tree → Tried
multiply_one = on_product_members (λ μ l. applies_if (any_of (is_the (pos 1)) l) (product_of μ (drop_all (is_the (pos 1)) l)))

-- ---- what a walk gives. "If nothing was removed, the rule does not apply, the sum stays as it was, and no range is judged."
-- "In a step that applies, every partial sum and product, in the order named, must be in range": each part, and each member
-- rebuilt from one, carries whether all its partial results were in range; numbers go on unbounded meanwhile.
unfoldable pub all_in_range : List (Tree × Bool) → Bool
all_in_range [] = true
all_in_range (r ∷ l) = r.1 && all_in_range l

unfoldable pub rebuilt : (List Tree → Tree) → List (Tree × Bool) → Bool → Tried
rebuilt node l true = applies (node (map (λ r. r.0) l))
rebuilt node l false = range_exceeded

unfoldable pub outcome : (List Tree → Tree) → List (Tree × Bool) → ℕ → Tried
outcome node l zero = does_not_apply
outcome node l (suc n) = rebuilt node l (all_in_range l)

module _ {P : Type 0} where
  unfoldable pub combine : (List Tree → Tree) → (Tree → P) → (P → P → Option P) → (P → Tree × Bool) → List Tree → Tried
  combine node split merge join l =
      let w = walk merge (length l) (map split l) in
      outcome node (map join w.parts) w.removed

-- ---- step 2: "Each member has a coefficient and a rest"; and the mark at its root, "the mark that the current member had when its turn
-- began"
pub record Term : Type 0 where
  pub mark : ℕ
  pub coefficient : ℤ
  pub rest : Tree
  pub in_range : Bool

unfoldable pub term : ℕ → ℤ → Tree → Term
term μ z t = record { mark = μ; coefficient = z; rest = t; in_range = true }

-- "the product of all integer members, in order", and "the product of the others": the integers, and the others
unfoldable pub with_integer : Option ℤ → List ℤ → List ℤ
with_integer none l = l
with_integer (some z) l = z ∷ l

unfoldable pub integers_of : List Tree → List ℤ
integers_of [] = []
integers_of (t ∷ l) = with_integer (as_integer t) (integers_of l)

unfoldable pub with_other : Option ℤ → Tree → List Tree → List Tree
with_other none t l = t ∷ l
with_other (some z) t l = l

unfoldable pub others_of : List Tree → List Tree
others_of [] = []
others_of (t ∷ l) = with_other (as_integer t) t (others_of l)

-- a product of integers, and whether every partial product was in range
pub record Multiplied : Type 0 where
  pub number : ℤ
  pub in_range : Bool

unfoldable pub times_one : Multiplied → ℤ → Multiplied
times_one c z = record { number = c.number *ℤ z; in_range = c.in_range && fits (c.number *ℤ z) }

unfoldable pub times_each : Multiplied → List ℤ → Multiplied
times_each c [] = c
times_each c (z ∷ l) = times_each (times_one c z) l

unfoldable pub unit : Multiplied
unit = record { number = pos 1; in_range = true }

-- "the rest is the product of the others, or 1 if none is left"
unfoldable pub product_term : ℕ → List Tree → Term
product_term μ l =
    let c = times_each unit (integers_of l) in
    record { mark = μ; coefficient = c.number; rest = product_of μ (others_of l); in_range = c.in_range }

-- "an integer n has (n, 1); a product has ..; everything else has 1 and itself"
unfoldable pub term_of : Tree → Term
term_of (integer μ z) = term μ z (integer 0 (pos 1))
term_of (symbol μ s) = term μ (pos 1) (symbol μ s)
term_of (sum μ f) = term μ (pos 1) (sum μ f)
term_of (product μ f) = product_term μ (to_list f)
term_of (power μ b ξ e) = term μ (pos 1) (power μ b ξ e)

-- "Where equal, add the coefficient to the current one"
unfoldable pub added : Term → Term → Term
added c x =
    record {
      mark = c.mark;
      coefficient = c.coefficient +ℤ x.coefficient;
      rest = c.rest;
      in_range = c.in_range && x.in_range && fits (c.coefficient +ℤ x.coefficient);
    }

unfoldable pub add_if : Bool → Term → Term → Option Term
add_if true c x = some (added c x)
add_if false c x = none

unfoldable pub merge_terms : Term → Term → Option Term
merge_terms c x = add_if (equal c.rest x.rest) c x

-- "coefficient times rest: two integers multiply; a product rest gets the coefficient appended last; any other rest R becomes
-- the product (coefficient, R)", and whether that is in range; what comes out and the coefficient have the mark μ, "and bases and
-- rests keep theirs below the root"
unfoldable pub coefficient_times : ℕ → ℤ → Tree → Tree × Bool
coefficient_times μ z (integer ν y) = (integer μ (z *ℤ y), fits (z *ℤ y))
coefficient_times μ z (symbol ν s) = (product μ (of_list (integer μ z ∷ symbol ν s ∷ [])), true)
coefficient_times μ z (sum ν f) = (product μ (of_list (integer μ z ∷ sum ν f ∷ [])), true)
coefficient_times μ z (product ν f) = (product μ (of_list (to_list f ++ (integer μ z ∷ []))), true)
coefficient_times μ z (power ν b ξ e) = (product μ (of_list (integer μ z ∷ power ν b ξ e ∷ [])), true)

-- "the current member becomes its rest if the coefficient is 1, else coefficient times rest"
unfoldable pub times_unless : Bool → Term → Tree × Bool
times_unless true c = (marked c.mark c.rest, c.in_range)
times_unless false c =
    let x = coefficient_times c.mark c.coefficient c.rest in
    (x.0, c.in_range && x.1)

unfoldable pub from_term : Term → Tree × Bool
from_term c = times_unless (eq_z c.coefficient (pos 1)) c

unfoldable pub combine_like_terms : Tree → Tried
combine_like_terms = on_sum_members (λ μ. combine (sum_of μ) term_of merge_terms from_term)

-- ---- step 6: "Each member has a base and an exponent: a power its own, else itself and 1."; and the mark at its root
pub record Factor : Type 0 where
  pub mark : ℕ
  pub base : Tree
  pub exponent : ℕ
  pub in_range : Bool

unfoldable pub factor : ℕ → Tree → ℕ → Factor
factor μ b e = record { mark = μ; base = b; exponent = e; in_range = true }

unfoldable pub factor_of : Tree → Factor
factor_of (integer μ z) = factor μ (integer μ z) 1
factor_of (symbol μ s) = factor μ (symbol μ s) 1
factor_of (sum μ f) = factor μ (sum μ f) 1
factor_of (product μ f) = factor μ (product μ f) 1
factor_of (power μ b ξ e) = factor μ b e

-- "if the bases are equal, add the exponents"
unfoldable pub raise_if : Bool → Factor → Factor → Option Factor
raise_if true c x =
    some
    (record {
      mark = c.mark;
      base = c.base;
      exponent = c.exponent + x.exponent;
      in_range = c.in_range && x.in_range && ltb (c.exponent + x.exponent) (2 ^ 63);
    })
raise_if false c x = none

unfoldable pub both_integers : Option ℤ → Option ℤ → Option ℤ
both_integers none y = none
both_integers (some a) none = none
both_integers (some a) (some b) = some (a *ℤ b)

-- "If the exponents are equal and both bases are integers, multiply the bases; else ..": z is the product of two integer bases, which
-- takes the same mark
unfoldable pub multiply_if : Bool → Option ℤ → Factor → Factor → Option Factor
multiply_if true (some z) c x =
    some (record { mark = c.mark; base = integer c.mark z; exponent = c.exponent; in_range = c.in_range && x.in_range && fits z })
multiply_if true none c x = raise_if (equal c.base x.base) c x
multiply_if false z c x = raise_if (equal c.base x.base) c x

unfoldable pub merge_factors : Factor → Factor → Option Factor
merge_factors c x =
    multiply_if (eqb c.exponent x.exponent) (both_integers (as_integer c.base) (as_integer x.base)) c x

-- "An exponent 1 leaves the base alone", but for the mark at its root; an "exponent, changed or not," has the same mark
unfoldable pub power_unless : Bool → Factor → Tree × Bool
power_unless true c = (marked c.mark c.base, c.in_range)
power_unless false c = (power c.mark c.base c.mark c.exponent, c.in_range)

unfoldable pub from_factor : Factor → Tree × Bool
from_factor c = power_unless (eqb c.exponent 1) c

unfoldable pub combine_like_factors : Tree → Tried
combine_like_factors = on_product_members (λ μ. combine (product_of μ) factor_of merge_factors from_factor)

-- ---- edition one, in the paper's order. "Step 5 .. is never given here."
unfoldable pub edition_one : List Rule
edition_one =
    record { number = 1; try = add_zero }
    ∷ record { number = 2; try = combine_like_terms }
    ∷ record { number = 3; try = multiply_zero }
    ∷ record { number = 4; try = multiply_one }
    ∷ record { number = 6; try = combine_like_factors }
    ∷ []

-- ---- edition two: "adds at a power, in this order": a rule on a power
unfoldable pub on_power_parts : (ℕ → Tree → ℕ → ℕ → Tried) → Tree → Tried
on_power_parts k (integer μ z) = does_not_apply
on_power_parts k (symbol μ s) = does_not_apply
on_power_parts k (sum μ f) = does_not_apply
on_power_parts k (product μ f) = does_not_apply
on_power_parts k (power μ b ξ e) = k μ b ξ e

-- step 7: "exponent 1 gives the base", which keeps its own mark
unfoldable pub power_one : Tree → Tried
power_one = on_power_parts (λ μ b ξ e. applies_if (eqb e 1) b)

-- step 8: "base 0 gives 0 and base 1 gives 1": the integers, not trees that would become them; with
-- the power's mark
unfoldable pub power_constant : Tree → Tried
power_constant = on_power_parts (λ μ b ξ e. applies_if (is_the (pos 0) b || is_the (pos 1) b) (marked μ b))

-- step 9: "a power of a power gets the product of the exponents", which must be in range; "step 9 keeps the outer
-- power's mark and its exponent's"
unfoldable pub raised_if : Bool → ℕ → Tree → ℕ → ℕ → Tried
raised_if true μ b ξ e = applies (power μ b ξ e)
raised_if false μ b ξ e = range_exceeded

unfoldable pub power_power : Tree → Tried
power_power = on_power_parts (λ μ b ξ f. on_power_parts (λ ν c ζ e. raised_if (ltb (e * f) (2 ^ 63)) μ c ξ (e * f)) b)

-- edition one's rules, which are on no power, and these three
unfoldable pub edition_two : List Rule
edition_two =
    edition_one
    ++ (record { number = 7; try = power_one }
    ∷ record { number = 8; try = power_constant }
    ∷ record { number = 9; try = power_power }
    ∷ [])

-- ---- "chosen by the caller": the editions that there are, and the rules of one (no rule of an unknown edition is ever tried)
unfoldable pub is_edition : ℕ → Bool
is_edition ed = eqb ed 1 || eqb ed 2

unfoldable pub rules_of : ℕ → List Rule
rules_of ed = cond (eqb ed 2) edition_two edition_one
