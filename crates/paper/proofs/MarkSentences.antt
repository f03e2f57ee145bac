-- Q-14's sentence about the walk, for every tree and every part: "every member that comes out of the walk, merged or not, has at its root the mark that the
-- current member had when its turn began; its coefficient and exponent, changed or not, and a multiplied base take the same mark, and bases and rests keep
-- theirs below the root". A part has its member's mark from the beginning, merging keeps it, and what is built of the part has it at the root, at the
-- coefficient and at the exponent; the rest and the base are put below the root as they are. Each is read off the kinds of trees.
use Prim.Native.Nat.{ℕ}
use mathlib.Core.Path.{◌≡◌, refl, sym, ap}
use mathlib.Core.Bool.{Bool, true, false}
use mathlib.Core.List.{List, [], ◌∷◌, ◌++◌, append-nil}
use mathlib.Core.Option.{Option, none, some, none-ne-some}
use mathlib.Core.Logic.{◌⊎◌, inl, inr}
use lib.IntN.{ℤ, pos, ◌*ℤ◌}
use lib.Dec.{eqb}
use Rattle.paper.specs.Tree.{Tree, Forest, integer, symbol, sum, product, power, to_list, of_list, mark_of, marked}
use Rattle.paper.specs.Equal.{eq_z}
use Rattle.paper.specs.Rules.{as_integer, Term, term, term_of, product_term, added, merge_terms, coefficient_times, times_unless, from_term}
use Rattle.paper.specs.Rules.{unless, drop_all, product_of, with_other, others_of}
use Rattle.paper.specs.Rules.{Factor, factor, factor_of, merge_factors, power_unless, from_factor}
use Rattle.paper.specs.Driver.{members}
use Rattle.paper.proofs.WFLaws.{to_of_list}
use Rattle.paper.proofs.LikeTerms.{merge_terms_some}
use Rattle.paper.proofs.MergeFactors.{times_bases, add_exponents, Merged, by_bases, by_exponents, merge_factors_some}

-- another mark at the root is that mark, and nothing below the root changes, a power's exponent included
pub marked_root : (ν : ℕ) (t : Tree) → (mark_of (marked ν t) ≡ ν) × (members (marked ν t) ≡ members t)
unfolding marked mark_of members
marked_root ν (integer μ z) = (refl, refl)
marked_root ν (symbol μ s) = (refl, refl)
marked_root ν (sum μ f) = (refl, refl)
marked_root ν (product μ f) = (refl, refl)
marked_root ν (power μ b ξ e) = (refl, refl)

-- "the mark that the current member had when its turn began"
pub term_begins : (t : Tree) → (term_of t).mark ≡ mark_of t
unfolding term_of term product_term mark_of
term_begins (integer μ z) = refl
term_begins (symbol μ s) = refl
term_begins (sum μ f) = refl
term_begins (product μ f) = refl
term_begins (power μ b ξ e) = refl

pub factor_begins : (t : Tree) → (factor_of t).mark ≡ mark_of t
unfolding factor_of factor mark_of
factor_begins (integer μ z) = refl
factor_begins (symbol μ s) = refl
factor_begins (sum μ f) = refl
factor_begins (product μ f) = refl
factor_begins (power μ b ξ e) = refl

-- "merged": the mark stays, and so does the rest; a base stays too, or "a multiplied base" takes the mark
pub term_keeps : (c x d : Term) → merge_terms c x ≡ some d → (d.mark ≡ c.mark) × (d.rest ≡ c.rest)
unfolding added
term_keeps c x d h = let e = sym (merge_terms_some c x d h).1 in (ap (λ (y : Term). y.mark) e, ap (λ (y : Term). y.rest) e)

pub factor_keeps : (c x d : Factor) → merge_factors c x ≡ some d
    → (d.mark ≡ c.mark) × ((d.base ≡ c.base) ⊎ ((z : ℤ) × (d.base ≡ integer c.mark z)))
unfolding times_bases add_exponents
factor_keeps c x d h = go (merge_factors_some c x d h)
  where
    go : {d : Factor} → Merged c x d → (d.mark ≡ c.mark) × ((d.base ≡ c.base) ⊎ ((z : ℤ) × (d.base ≡ integer c.mark z)))
    go (by_bases {y = y} {z = z} a b e) = (refl, inr (y *ℤ z, refl))
    go (by_exponents e a) = (refl, inl refl)

-- "has at its root"
times_root : (μ : ℕ) (z : ℤ) (t : Tree) → mark_of (coefficient_times μ z t).0 ≡ μ
unfolding coefficient_times mark_of
times_root μ z (integer ν y) = refl
times_root μ z (symbol ν s) = refl
times_root μ z (sum ν f) = refl
times_root μ z (product ν f) = refl
times_root μ z (power ν b ξ e) = refl

pub term_root : (c : Term) → mark_of (from_term c).0 ≡ c.mark
unfolding from_term times_unless
term_root c = go (eq_z c.coefficient (pos 1))
  where
    go : (b : Bool) → mark_of (times_unless b c).0 ≡ c.mark
    go true = (marked_root c.mark c.rest).0
    go false = times_root c.mark c.coefficient c.rest

pub factor_root : (c : Factor) → mark_of (from_factor c).0 ≡ c.mark
unfolding from_factor power_unless mark_of
factor_root c = go (eqb c.exponent 1)
  where
    go : (b : Bool) → mark_of (power_unless b c).0 ≡ c.mark
    go true = (marked_root c.mark c.base).0
    go false = refl

-- "its coefficient .. take the same mark", at one place among what the rest puts below the root: its members where it is a product, itself where it is anything
-- else but an integer
unfoldable pub rest_members : Tree → List Tree
rest_members (integer μ z) = []
rest_members (symbol μ s) = symbol μ s ∷ []
rest_members (sum μ f) = sum μ f ∷ []
rest_members (product μ f) = to_list f
rest_members (power μ b ξ e) = power μ b ξ e ∷ []

pub coefficient_takes : (μ : ℕ) (z : ℤ) (t : Tree) → as_integer t ≡ none
    → (l : List Tree) × (m : List Tree) × (members (coefficient_times μ z t).0 ≡ l ++ (integer μ z ∷ m)) × (l ++ m ≡ rest_members t)
unfolding coefficient_times members rest_members as_integer to_list of_list
coefficient_takes μ z (integer ν y) h = absurd (none-ne-some y (sym h))
coefficient_takes μ z (symbol ν s) h = ([], symbol ν s ∷ [], refl, refl)
coefficient_takes μ z (sum ν f) h = ([], sum ν f ∷ [], refl, refl)
coefficient_takes μ z (product ν f) h = (to_list f, [], to_of_list (to_list f ++ (integer μ z ∷ [])), append-nil (to_list f))
coefficient_takes μ z (power ν b ξ e) h = ([], power ν b ξ e ∷ [], refl, refl)

-- "its .. exponent, changed or not", and the base as it is
pub exponent_takes : (c : Factor) → eqb c.exponent 1 ≡ false → members (from_factor c).0 ≡ c.base ∷ integer c.mark (pos c.exponent) ∷ []
unfolding from_factor power_unless members
exponent_takes c h = rw h refl

-- "bases and rests keep theirs": what is its own rest, and what is its own base, is that to the last mark
pub rest_itself : (μ s : ℕ) (f : Forest) (b : Tree) (ξ e : ℕ)
    → ((term_of (symbol μ s)).rest ≡ symbol μ s) × ((term_of (sum μ f)).rest ≡ sum μ f) × ((term_of (power μ b ξ e)).rest ≡ power μ b ξ e)
unfolding term_of term
rest_itself μ s f b ξ e = (refl, refl, refl)

-- a product's rest: "the product of the others in order", each of them as it stands, to the last mark
unfoldable pub is_there : Option ℤ → Bool
is_there none = false
is_there (some z) = true

others_stand : (l : List Tree) → others_of l ≡ drop_all (λ t. is_there (as_integer t)) l
unfolding others_of with_other drop_all unless is_there
others_stand [] = refl
others_stand (t ∷ l) = go (as_integer t) (others_stand l)
  where
    go : (o : Option ℤ) {k m : List Tree} → k ≡ m → with_other o t k ≡ unless (is_there o) t m
    go none e = ap (λ n. t ∷ n) e
    go (some z) e = e

pub rest_others : (μ : ℕ) (f : Forest) → (term_of (product μ f)).rest ≡ product_of μ (drop_all (λ t. is_there (as_integer t)) (to_list f))
unfolding term_of product_term
rest_others μ f = ap (product_of μ) (others_stand (to_list f))

pub base_itself : (μ s : ℕ) (z : ℤ) (f : Forest) (b : Tree) (ξ e : ℕ)
    → ((factor_of (integer μ z)).base ≡ integer μ z) × ((factor_of (symbol μ s)).base ≡ symbol μ s) × ((factor_of (sum μ f)).base ≡ sum μ f)
    × ((factor_of (product μ f)).base ≡ product μ f) × ((factor_of (power μ b ξ e)).base ≡ b)
unfolding factor_of factor
base_itself μ s z f b ξ e = (refl, refl, refl, refl, refl)
