-- No rule looks at a mark: on a tree without its marks each rule answers as on the tree, without marks. Steps 2 and 6 by the law of the walk
-- (ErasedWalk), the others by their tests.
use Prim.Native.Nat.{ℕ, ◌*◌, ◌^◌}
use mathlib.Core.Path.{◌≡◌, refl, sym, ap, ◌∙◌}
use mathlib.Core.Bool.{Bool, true, false, ◌&&◌, ◌||◌}
use mathlib.Core.List.{List, [], ◌∷◌, ◌++◌, map, map-append}
use mathlib.Core.Option
use mathlib.Core.Option.{Option, none, some}
use lib.IntN.{ℤ, pos}
use lib.Dec.{eqb, ltb}
use Rattle.paper.specs.Tree.{Tree, integer, symbol, sum, product, power, to_list, of_list, marked}
use Rattle.paper.specs.Equal.{equal, eq_z}
use Rattle.paper.specs.Rules.{Tried, Rule, sum_of, product_of, on_sum_members, on_product_members, as_integer, is_the, drop_all, applies_if, add_zero}
use Rattle.paper.specs.Rules.{multiply_zero}
use Rattle.paper.specs.Rules.{multiply_one, Term, term, integers_of, with_other, others_of, product_term, term_of, added, add_if, merge_terms}
use Rattle.paper.specs.Rules.{coefficient_times}
use Rattle.paper.specs.Rules.{times_unless, from_term, combine_like_terms, Factor, factor, factor_of, raise_if, both_integers, multiply_if, merge_factors}
use Rattle.paper.specs.Rules.{power_unless, from_factor, combine_like_factors, edition_one, on_power_parts, power_one, power_constant, raised_if, power_power}
use Rattle.paper.specs.Rules.{edition_two}
use Rattle.paper.specs.Erased.{erase}
use Rattle.paper.proofs.ErasedTrees.{erases_list, list_erases, marked_erased, equal_erased, integer_erased, the_erased, any_erased, drop_erased}
use Rattle.paper.proofs.ErasedTrees.{sum_erased, product_erased, erased_tried, applies_erased}
use Rattle.paper.proofs.ErasedWalk.{combine_erased}

-- what is asked of a rule
abbrev pub Blind : (Tree → Tried) → Type 0
Blind try = (t : Tree) → try (erase t) ≡ erased_tried (try t)

on_sums : (k : ℕ → List Tree → Tried) → ((μ : ℕ) (l : List Tree) → k 0 (map erase l) ≡ erased_tried (k μ l)) → Blind (on_sum_members k)
unfolding on_sum_members erase erased_tried
on_sums k h (integer μ z) = refl
on_sums k h (symbol μ s) = refl
on_sums k h (sum μ f) = ap (k 0) (erases_list f) ∙ h μ (to_list f)
on_sums k h (product μ f) = refl
on_sums k h (power μ b ξ e) = refl

on_products : (k : ℕ → List Tree → Tried) → ((μ : ℕ) (l : List Tree) → k 0 (map erase l) ≡ erased_tried (k μ l)) → Blind (on_product_members k)
unfolding on_product_members erase erased_tried
on_products k h (integer μ z) = refl
on_products k h (symbol μ s) = refl
on_products k h (sum μ f) = refl
on_products k h (product μ f) = ap (k 0) (erases_list f) ∙ h μ (to_list f)
on_products k h (power μ b ξ e) = refl

-- ---- steps 1, 3 and 4
add_zero_blind : Blind add_zero
unfolding add_zero
add_zero_blind =
    on_sums _ (λ μ l.
    ap (λ b. applies_if b (sum_of 0 (drop_all (is_the (pos 0)) (map erase l)))) (any_erased (is_the (pos 0)) (the_erased (pos 0)) l)
    ∙ applies_erased _ (sum_of μ (drop_all (is_the (pos 0)) l)) _ (ap (sum_of 0) (drop_erased (is_the (pos 0)) (the_erased (pos 0)) l) ∙ sum_erased μ _))

multiply_zero_blind : Blind multiply_zero
unfolding multiply_zero
multiply_zero_blind =
    on_products _ (λ μ l.
    ap (λ b. applies_if b (integer 0 (pos 0))) (any_erased (is_the (pos 0)) (the_erased (pos 0)) l)
    ∙ applies_erased _ (integer μ (pos 0)) _ (unfold erase in refl))

multiply_one_blind : Blind multiply_one
unfolding multiply_one
multiply_one_blind =
    on_products _ (λ μ l.
    ap (λ b. applies_if b (product_of 0 (drop_all (is_the (pos 1)) (map erase l)))) (any_erased (is_the (pos 1)) (the_erased (pos 1)) l)
    ∙ applies_erased _ (product_of μ (drop_all (is_the (pos 1)) l)) _
    (ap (product_of 0) (drop_erased (is_the (pos 1)) (the_erased (pos 1)) l) ∙ product_erased μ _))

-- ---- step 2
unfoldable bare : Term → Term
bare c = record { mark = 0; coefficient = c.coefficient; rest = erase c.rest; in_range = c.in_range }

integers_erased : (l : List Tree) → integers_of (map erase l) ≡ integers_of l
unfolding integers_of
integers_erased [] = refl
integers_erased (t ∷ l) = rw (integer_erased t, integers_erased l) refl

other_erased : (o : Option ℤ) (t : Tree) (l : List Tree) → with_other o (erase t) (map erase l) ≡ map erase (with_other o t l)
unfolding with_other
other_erased none t l = refl
other_erased (some z) t l = refl

others_erased : (l : List Tree) → others_of (map erase l) ≡ map erase (others_of l)
unfolding others_of
others_erased [] = refl
others_erased (t ∷ l) = rw (integer_erased t, others_erased l) (other_erased (as_integer t) t (others_of l))

product_term_erased : (μ : ℕ) (l : List Tree) → product_term 0 (map erase l) ≡ bare (product_term μ l)
unfolding product_term bare
product_term_erased μ l = rw (integers_erased l, others_erased l, product_erased μ (others_of l)) refl

term_erased : (t : Tree) → term_of (erase t) ≡ bare (term_of t)
unfolding term_of term bare erase
term_erased (integer μ z) = refl
term_erased (symbol μ s) = refl
term_erased (sum μ f) = refl
term_erased (product μ f) = ap (product_term 0) (erases_list f) ∙ product_term_erased μ (to_list f)
term_erased (power μ b ξ e) = refl

add_erased : (b : Bool) (c x : Term) → add_if b (bare c) (bare x) ≡ Option.map bare (add_if b c x)
unfolding add_if added bare
add_erased true c x = refl
add_erased false c x = refl

merge_terms_erased : (c x : Term) → merge_terms (bare c) (bare x) ≡ Option.map bare (merge_terms c x)
unfolding merge_terms bare
merge_terms_erased c x = ap (λ b. add_if b (bare c) (bare x)) (equal_erased c.rest x.rest) ∙ add_erased (equal c.rest x.rest) c x

times_erased : (μ : ℕ) (z : ℤ) (t : Tree) → coefficient_times 0 z (erase t) ≡ (erase (coefficient_times μ z t).0, (coefficient_times μ z t).1)
unfolding coefficient_times erase of_list
times_erased μ z (integer ν y) = refl
times_erased μ z (symbol ν s) = refl
times_erased μ z (sum ν f) = refl
times_erased μ z (product ν f) =
    ap (λ l. (product 0 l, true))
    (ap (λ l. of_list (l ++ (integer 0 z ∷ []))) (erases_list f) ∙ ap of_list (sym (map-append erase (to_list f) (integer μ z ∷ [])))
    ∙ list_erases (to_list f ++ (integer μ z ∷ [])))
times_erased μ z (power ν b ξ e) = refl

from_term_erased : (c : Term) → from_term (bare c) ≡ (erase (from_term c).0, (from_term c).1)
unfolding from_term bare
from_term_erased c = go (eq_z c.coefficient (pos 1))
  where
    go : (b : Bool) → times_unless b (bare c) ≡ (erase (times_unless b c).0, (times_unless b c).1)
    go true = unfold times_unless bare in ap (λ t. (t, c.in_range)) (marked_erased c.mark c.rest)
    go false = unfold times_unless bare in ap (λ r. (r.0, c.in_range && r.1)) (times_erased c.mark c.coefficient c.rest)

like_terms_blind : Blind combine_like_terms
unfolding combine_like_terms
like_terms_blind =
    on_sums _ (λ μ l. combine_erased (sum_of μ) (sum_of 0) (sum_erased μ) bare term_of merge_terms from_term term_erased merge_terms_erased from_term_erased l)

-- ---- step 6
unfoldable plain : Factor → Factor
plain c = record { mark = 0; base = erase c.base; exponent = c.exponent; in_range = c.in_range }

factor_erased : (t : Tree) → factor_of (erase t) ≡ plain (factor_of t)
unfolding factor_of factor plain erase
factor_erased (integer μ z) = refl
factor_erased (symbol μ s) = refl
factor_erased (sum μ f) = refl
factor_erased (product μ f) = refl
factor_erased (power μ b ξ e) = refl

raise_erased : (b : Bool) (c x : Factor) → raise_if b (plain c) (plain x) ≡ Option.map plain (raise_if b c x)
unfolding raise_if plain
raise_erased true c x = refl
raise_erased false c x = refl

raise_same : (c x : Factor) → raise_if (equal (plain c).base (plain x).base) (plain c) (plain x) ≡ Option.map plain (raise_if (equal c.base x.base) c x)
unfolding plain
raise_same c x =
    ap (λ b. raise_if b (plain c) (plain x)) (equal_erased c.base x.base) ∙ raise_erased (equal c.base x.base) c x

multiply_erased : (b : Bool) (o : Option ℤ) (c x : Factor) → multiply_if b o (plain c) (plain x) ≡ Option.map plain (multiply_if b o c x)
unfolding multiply_if
multiply_erased true (some z) c x = unfold plain erase in refl
multiply_erased true none c x = raise_same c x
multiply_erased false o c x = raise_same c x

merge_factors_erased : (c x : Factor) → merge_factors (plain c) (plain x) ≡ Option.map plain (merge_factors c x)
unfolding merge_factors plain
merge_factors_erased c x =
    ap (λ o. multiply_if (eqb c.exponent x.exponent) o (plain c) (plain x))
    (ap (λ a. both_integers a (as_integer (erase x.base))) (integer_erased c.base) ∙ ap (both_integers (as_integer c.base)) (integer_erased x.base))
    ∙ multiply_erased (eqb c.exponent x.exponent) (both_integers (as_integer c.base) (as_integer x.base)) c x

from_factor_erased : (c : Factor) → from_factor (plain c) ≡ (erase (from_factor c).0, (from_factor c).1)
unfolding from_factor plain
from_factor_erased c = go (eqb c.exponent 1)
  where
    go : (b : Bool) → power_unless b (plain c) ≡ (erase (power_unless b c).0, (power_unless b c).1)
    go true = unfold power_unless plain in ap (λ t. (t, c.in_range)) (marked_erased c.mark c.base)
    go false = unfold power_unless plain erase in refl

like_factors_blind : Blind combine_like_factors
unfolding combine_like_factors
like_factors_blind =
    on_products _
    (λ μ l. combine_erased (product_of μ) (product_of 0)
    (product_erased μ) plain factor_of merge_factors from_factor factor_erased merge_factors_erased from_factor_erased l)

-- ---- steps 7, 8 and 9
on_powers : (k : ℕ → Tree → ℕ → ℕ → Tried) → ((μ : ℕ) (b : Tree) (ξ e : ℕ) → k 0 (erase b) 0 e ≡ erased_tried (k μ b ξ e)) → Blind (on_power_parts k)
unfolding on_power_parts erase erased_tried
on_powers k h (integer μ z) = refl
on_powers k h (symbol μ s) = refl
on_powers k h (sum μ f) = refl
on_powers k h (product μ f) = refl
on_powers k h (power μ b ξ e) = h μ b ξ e

power_one_blind : Blind power_one
unfolding power_one
power_one_blind = on_powers _ (λ μ b ξ e. applies_erased (eqb e 1) b (erase b) refl)

power_constant_blind : Blind power_constant
unfolding power_constant
power_constant_blind =
    on_powers _ (λ μ b ξ e.
    ap (λ x. applies_if (x || is_the (pos 1) (erase b)) (marked 0 (erase b))) (the_erased (pos 0) b)
    ∙ ap (λ x. applies_if (is_the (pos 0) b || x) (marked 0 (erase b))) (the_erased (pos 1) b)
    ∙ applies_erased _ (marked μ b) _ (marked_erased μ b))

raised_erased : (x : Bool) (μ : ℕ) (c : Tree) (ξ e : ℕ) → raised_if x 0 (erase c) 0 e ≡ erased_tried (raised_if x μ c ξ e)
unfolding raised_if erased_tried erase
raised_erased true μ c ξ e = refl
raised_erased false μ c ξ e = refl

power_power_blind : Blind power_power
unfolding power_power
power_power_blind = on_powers _ (λ μ b ξ f. inner μ ξ f b)
  where
    inner : (μ ξ f : ℕ) (b : Tree)
        → on_power_parts (λ ν c ζ e. raised_if (ltb (e * f) (2 ^ 63)) 0 c 0 (e * f)) (erase b)
        ≡ erased_tried (on_power_parts (λ ν c ζ e. raised_if (ltb (e * f) (2 ^ 63)) μ c ξ (e * f)) b)
    inner μ ξ f (integer ν z) = unfold on_power_parts erase erased_tried in refl
    inner μ ξ f (symbol ν s) = unfold on_power_parts erase erased_tried in refl
    inner μ ξ f (sum ν g) = unfold on_power_parts erase erased_tried in refl
    inner μ ξ f (product ν g) = unfold on_power_parts erase erased_tried in refl
    inner μ ξ f (power ν c ζ e) = unfold on_power_parts erase in raised_erased (ltb (e * f) (2 ^ 63)) μ c ξ (e * f)

-- ---- the editions
pub data Blinds : List Rule → Type 0 where
  no_rules : Blinds []
  a_rule : {r : Rule} {rs : List Rule} → Blind r.try → Blinds rs → Blinds (r ∷ rs)

both_blind : {rs qs : List Rule} → Blinds rs → Blinds qs → Blinds (rs ++ qs)
both_blind no_rules h = h
both_blind (a_rule g gs) h = a_rule g (both_blind gs h)

pub edition_one_blind : Blinds edition_one
unfolding edition_one
edition_one_blind =
    a_rule add_zero_blind (a_rule like_terms_blind (a_rule multiply_zero_blind (a_rule multiply_one_blind (a_rule like_factors_blind no_rules))))

pub edition_two_blind : Blinds edition_two
unfolding edition_two
edition_two_blind = both_blind edition_one_blind (a_rule power_one_blind (a_rule power_constant_blind (a_rule power_power_blind no_rules)))
