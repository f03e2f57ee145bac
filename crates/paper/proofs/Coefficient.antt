-- The coefficient and the rest of a member. A product with no integer member has 1 and itself, as in document 01. A rest is never an integer
-- but 1, since the members that it is made of are none: where "two integers multiply", one of them is 1.
use Prim.Native.Nat.{ℕ}
use mathlib.Core.Path.{◌≡◌, refl, sym, ap, ◌∙◌}
use mathlib.Core.List.{List, [], ◌∷◌}
use mathlib.Core.Option.{none, some, some-injective, none-ne-some}
use native.Mathlib.Omega.{arith}
use lib.IntN.{ℤ, pos}
use Rattle.paper.specs.Tree.{Tree, Forest, integer, symbol, sum, product, power, to_list}
use Rattle.paper.specs.WellFormed.{WF}
use Rattle.paper.specs.Rules.{as_integer, collapse, product_of, term, with_integer, integers_of, with_other, others_of, times_each, unit, product_term, term_of}
use Rattle.paper.proofs.WFLaws.{count_list, of_to_list}
use Rattle.paper.proofs.GatherLaws.{collapse_none}

some_nil : {A : Type 0} {z : ℤ} {l : List ℤ} → z ∷ l ≡ [] → A
some_nil e = absurd (let h : ◌≡◌ {A = ℕ} 0 1 = cc in omega arith)

-- where no member is an integer, all are others
all_others : (l : List Tree) → integers_of l ≡ [] → others_of l ≡ l
unfolding integers_of others_of with_integer with_other as_integer
all_others [] e = refl
all_others (integer μ z ∷ l) e = some_nil e
all_others (symbol μ s ∷ l) e = ap (λ m. symbol μ s ∷ m) (all_others l e)
all_others (sum μ f ∷ l) e = ap (λ m. sum μ f ∷ m) (all_others l e)
all_others (product μ f ∷ l) e = ap (λ m. product μ f ∷ m) (all_others l e)
all_others (power μ b ξ n ∷ l) e = ap (λ m. power μ b ξ n ∷ m) (all_others l e)

-- "or 1 and itself if it has no integer member"
pub no_integer_itself : (μ : ℕ) (f : Forest) → WF (product μ f) → integers_of (to_list f) ≡ [] → term_of (product μ f) ≡ term μ (pos 1) (product μ f)
unfolding term_of product_term term times_each unit product_of
no_integer_itself μ f w e =
    let itself : product_of μ (others_of (to_list f)) ≡ product μ f =
    ap (product_of μ) (all_others (to_list f) e)
    ∙ collapse_none (integer μ (pos 1)) (product μ) (to_list f) (omega (arith, count_list f, w.0))
    ∙ ap (product μ) (of_to_list f) in
    rw (e, itself) refl

-- ---- no tree of the list is an integer
abbrev NoIntegers : List Tree → Type 0
NoIntegers [] = Unit {0}
NoIntegers (t ∷ l) = (as_integer t ≡ none) × NoIntegers l

others_none : (l : List Tree) → NoIntegers (others_of l)
unfolding others_of with_other as_integer
others_none [] = tt
others_none (integer μ z ∷ l) = others_none l
others_none (symbol μ s ∷ l) = (refl, others_none l)
others_none (sum μ f ∷ l) = (refl, others_none l)
others_none (product μ f ∷ l) = (refl, others_none l)
others_none (power μ b ξ n ∷ l) = (refl, others_none l)

product_of_integer : (μ : ℕ) (l : List Tree) → NoIntegers l → (z : ℤ) → as_integer (product_of μ l) ≡ some z → z ≡ pos 1
unfolding product_of collapse as_integer
product_of_integer μ [] h z e = sym (some-injective (pos 1) z e)
product_of_integer μ (t ∷ []) h z e = absurd (none-ne-some z (sym h.0 ∙ e))
product_of_integer μ (t ∷ u ∷ l) h z e = absurd (none-ne-some z e)

-- a rest is never an integer but 1
pub rest_integer : (t : Tree) (z : ℤ) → as_integer (term_of t).rest ≡ some z → z ≡ pos 1
unfolding term_of term product_term as_integer
rest_integer (integer μ y) z e = sym (some-injective (pos 1) z e)
rest_integer (symbol μ s) z e = absurd (none-ne-some z e)
rest_integer (sum μ f) z e = absurd (none-ne-some z e)
rest_integer (product μ f) z e = product_of_integer μ (others_of (to_list f)) (others_none (to_list f)) z e
rest_integer (power μ b ξ n) z e = absurd (none-ne-some z e)
