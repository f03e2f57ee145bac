-- What the parts of the walk come to: a part that left the range stays out of it, and so does the member it becomes; and the member
-- that a part becomes weighs no more than the members that it was made of. A coefficient or an exponent adds two at most, and what it was
-- taken up from weighs two or more unless it is an integer, when both are.
use Rattle.std.proofs.Common.{◌≡◌, ℕ, ◌+◌, ◌≤◌, Bool, true, false, ◌&&◌, eqb, List, [], ◌∷◌, ◌++◌, length, ℤ, pos, ◌+ℤ◌, ◌*ℤ◌, sym, refl, ap, ◌∙◌}
use Rattle.std.proofs.Common.{subst, arith, eqb-true}
use mathlib.Core.Option.{Option, none, some}
use Rattle.paper.specs.Tree.{Tree, Forest, integer, symbol, sum, product, power, marked, to_list, of_list, weight}
use Rattle.paper.specs.WellFormed.{WF}
use Rattle.paper.specs.Equal.{equal, eq_z}
use Rattle.paper.specs.Rules.{as_integer, collapse, product_of, Term, term, integers_of, others_of, Multiplied, times_each, unit, product_term, term_of}
use Rattle.paper.specs.Rules.{added, coefficient_times, times_unless, from_term}
use Rattle.paper.specs.Rules.{Factor, factor, factor_of, both_integers, power_unless, from_factor}
use Rattle.paper.proofs.MarkLaws.{marked_weight}
use Rattle.paper.proofs.Value.{total, total_append, weights_list, list_weights, weight_pos}
use Rattle.paper.proofs.Bulk.{two_members, same_integer}
use Rattle.paper.proofs.EqualView.{same_view}
use Rattle.paper.proofs.LikeTerms.{merge_terms_some}
use Rattle.paper.proofs.LikeTermsWeight.{parted_weight}
use Rattle.paper.proofs.MergeFactors.{times_bases, add_exponents, Merged, by_bases, by_exponents, merge_factors_some}
use Rattle.part.specs.Like.{Like, split, merge, join}
use Rattle.part.specs.Part.{in_range}
use Rattle.part.proofs.PartLaws.{and_bad}

-- ---- each member weighs something
pub each_weighs : (l : List Tree) → length l ≤ total weight l
unfolding total
each_weighs [] = omega arith
each_weighs (t ∷ l) = omega (arith, weight_pos t, each_weighs l)

-- ---- out of range
added_bad : (c x : Term) → c.in_range ≡ false → (added c x).in_range ≡ false
unfolding added
added_bad c x e = and_bad (c.in_range && x.in_range) _ (and_bad c.in_range x.in_range e)

merged_bad : (c x : Factor) {d : Factor} → c.in_range ≡ false → Merged c x d → d.in_range ≡ false
unfolding times_bases add_exponents
merged_bad c x e (by_bases p q r) = and_bad (c.in_range && x.in_range) _ (and_bad c.in_range x.in_range e)
merged_bad c x e (by_exponents p q) = and_bad (c.in_range && x.in_range) _ (and_bad c.in_range x.in_range e)

pub stays_bad : (b : Bool) (c x d : Like b) → in_range b c ≡ false → merge b c x ≡ some d → in_range b d ≡ false
stays_bad true c x d e m = subst (λ (d : Term). d.in_range ≡ false) (merge_terms_some c x d m).1 (added_bad c x e)
stays_bad false c x d e m = merged_bad c x e (merge_factors_some c x d m)

-- ---- what a coefficient adds to the weight
abbrev Extra : Option ℤ → ℕ → ℕ → Type 0
Extra (some z) n m = m ≡ 1
Extra none n m = (n ≤ m) × (m ≤ n + 2)

-- the product with an integer after its members
longer_weight : (μ ν : ℕ) (f : Forest) (z : ℤ) → weight (product μ (of_list (to_list f ++ (integer μ z ∷ [])))) ≡ weight (product ν f) + 1
unfolding weight total
longer_weight μ ν f z =
    omega (arith, list_weights (to_list f ++ (integer μ z ∷ [])), total_append weight (to_list f) (integer μ z ∷ []), weights_list f)

times_weight : (μ : ℕ) (z : ℤ) (t : Tree) → Extra (as_integer t) (weight t) (weight (coefficient_times μ z t).0)
unfolding coefficient_times as_integer weight of_list
times_weight μ z (integer ν y) = refl
times_weight μ z (symbol ν s) = (omega arith, omega arith)
times_weight μ z (sum ν f) = (omega arith, omega arith)
times_weight μ z (product ν f) = let r = longer_weight μ ν f z in (omega arith, omega arith)
times_weight μ z (power ν b ξ e) = (omega arith, omega arith)

same_weight : (μ : ℕ) (t : Tree) → Extra (as_integer t) (weight t) (weight (marked μ t))
unfolding as_integer weight marked
same_weight μ (integer ν y) = refl
same_weight μ (symbol ν s) = (omega arith, omega arith)
same_weight μ (sum ν f) = (omega arith, omega arith)
same_weight μ (product ν f) = (omega arith, omega arith)
same_weight μ (power ν b ξ e) = (omega arith, omega arith)

-- with a coefficient of 1, or any other
timed_weight : (b : Bool) (c : Term) → Extra (as_integer c.rest) (weight c.rest) (weight (times_unless b c).0)
unfolding times_unless
timed_weight true c = same_weight c.mark c.rest
timed_weight false c = times_weight c.mark c.coefficient c.rest

extra_most : (a : Option ℤ) (n m : ℕ) → 1 ≤ n → Extra a n m → m ≤ n + 2
extra_most (some z) n m l h = omega arith
extra_most none n m l h = h.1

-- a well-formed tree that is no integer weighs 2 or more
heavy : (t : Tree) → WF t → as_integer t ≡ none → 2 ≤ weight t
unfolding as_integer weight
heavy (integer μ z) w e = absurd (let o : ◌≡◌ {A = ℕ} 0 1 = cc in omega arith)
heavy (symbol μ s) w e = omega arith
heavy (sum μ f) w e = omega (arith, two_members f w.0)
heavy (product μ f) w e = omega (arith, two_members f w.0)
heavy (power μ b ξ x) w e = omega arith

-- where the rest is no integer, neither is the member
rest_integer : (t : Tree) → as_integer (term_of t).rest ≡ none → as_integer t ≡ none
unfolding as_integer term_of term
rest_integer (integer μ z) e = absurd (let o : ◌≡◌ {A = ℕ} 0 1 = cc in omega arith)
rest_integer (symbol μ s) e = refl
rest_integer (sum μ f) e = refl
rest_integer (product μ f) e = refl
rest_integer (power μ b ξ x) e = refl

-- ---- a member by itself
-- the product of l, and a coefficient times it
whole_weight_lem : (μ : ℕ) (l : List Tree) → weight (product_of μ l) ≤ 1 + total weight l
unfolding product_of collapse total weight of_list
whole_weight_lem μ [] = omega arith
whole_weight_lem μ (t ∷ []) = omega arith
whole_weight_lem μ (t ∷ u ∷ l) = omega (arith, list_weights l)

others_weight : (b : Bool) (c : Term) (μ : ℕ) (l : List Tree) → c.rest ≡ product_of μ l → weight (times_unless b c).0 ≤ 2 + total weight l
unfolding times_unless product_of collapse total coefficient_times weight of_list
others_weight true c μ l e = omega (arith, marked_weight c.mark c.rest, ap weight e, whole_weight_lem μ l)
others_weight false c μ l e = omega (arith, ap (λ t. weight (coefficient_times c.mark c.coefficient t).0) e, timed l)
  where
    timed : (l : List Tree) → weight (coefficient_times c.mark c.coefficient (product_of μ l)).0 ≤ 2 + total weight l
    timed [] = omega arith
    timed (t ∷ []) =
        let e = extra_most (as_integer t) (weight t) (weight (coefficient_times c.mark c.coefficient t).0) (weight_pos t)
        (times_weight c.mark c.coefficient t) in
        omega arith
    timed (t ∷ u ∷ l) =
        let e = longer_weight c.mark μ (of_list (t ∷ u ∷ l)) c.coefficient in
        omega (arith, list_weights l)

-- with no integer the coefficient is 1 and adds nothing; else an integer pays for it
product_weight : (μ : ℕ) (l : List Tree) → weight (from_term (product_term μ l)).0 ≤ 1 + total weight l
unfolding product_term from_term times_each unit eq_z times_unless
product_weight μ l = go (integers_of l) (parted_weight l)
  where
    term_with : Multiplied → Term
    term_with c = record { mark = μ; coefficient = c.number; rest = product_of μ (others_of l); in_range = c.in_range }

    go : (is : List ℤ) → length is + total weight (others_of l) ≡ total weight l
        → weight (times_unless (eq_z (times_each unit is).number (pos 1)) (term_with (times_each unit is))).0 ≤ 1 + total weight l
    go [] h = omega (arith, marked_weight μ (product_of μ (others_of l)), whole_weight_lem μ (others_of l))
    go (z ∷ is) h =
        let c = times_each unit (z ∷ is) in
        omega (arith, others_weight (eq_z c.number (pos 1)) (term_with c) μ (others_of l) refl)

integer_term : (b : Bool) (μ : ℕ) (z : ℤ) → weight (times_unless b (term μ z (integer 0 (pos 1)))).0 ≤ weight (integer μ z)
unfolding times_unless term coefficient_times weight marked
integer_term true μ z = omega arith
integer_term false μ z = omega arith

term_weight : (t : Tree) → weight (from_term (term_of t)).0 ≤ weight t
unfolding term_of from_term term times_unless eq_z weight marked
term_weight (integer μ z) = integer_term (eq_z z (pos 1)) μ z
term_weight (symbol μ s) = omega arith
term_weight (sum μ f) = omega arith
term_weight (product μ f) = omega (arith, product_weight μ (to_list f), weights_list f)
term_weight (power μ b ξ e) = omega arith

raised_weight : (b : Bool) (c : Factor) → weight (power_unless b c).0 ≤ weight c.base + 2
unfolding power_unless weight
raised_weight true c = omega (arith, marked_weight c.mark c.base)
raised_weight false c = omega arith

factor_weight : (t : Tree) → weight (from_factor (factor_of t)).0 ≤ weight t
unfolding factor_of factor from_factor power_unless weight marked
factor_weight (integer μ z) = omega arith
factor_weight (symbol μ s) = omega arith
factor_weight (sum μ f) = omega arith
factor_weight (product μ f) = omega arith
factor_weight (power μ b ξ e) = omega (arith, raised_weight (eqb e 1) (factor μ b e))

pub join_first : (b : Bool) (t : Tree) → weight (join b (split b t)).0 ≤ weight t
join_first true t = term_weight t
join_first false t = factor_weight t

-- ---- a member that is taken up
term_grows : (c : Term) (t : Tree) → WF t → equal c.rest (term_of t).rest ≡ true
    → weight (from_term (added c (term_of t))).0 ≤ weight (from_term c).0 + weight t
unfolding from_term added
term_grows c t w e =
    go (as_integer c.rest) refl _ _
    (timed_weight (eq_z (c.coefficient +ℤ (term_of t).coefficient) (pos 1)) (added c (term_of t)))
    (timed_weight (eq_z c.coefficient (pos 1)) c)
  where
    go : (a : Option ℤ) → as_integer c.rest ≡ a → (m n : ℕ) → Extra a (weight c.rest) m → Extra a (weight c.rest) n → m ≤ n + weight t
    go (some z) q m n h k = omega (arith, weight_pos t)
    go none q m n h k =
        let s = same_view c.rest (term_of t).rest e in
        omega (arith, h.1, k.0, heavy t w (rest_integer t (sym (same_integer s) ∙ q)))

-- an exponent other than 1 stands there already, and 1 is not added to an integer
no_integer : (c : Factor) (t : Tree) → c.exponent ≡ 1 → equal c.base (factor_of t).base ≡ true
    → (c.exponent ≡ (factor_of t).exponent → both_integers (as_integer c.base) (as_integer (factor_of t).base) ≡ none) → as_integer t ≡ none
unfolding as_integer factor_of factor both_integers
no_integer c (integer μ z) x e h =
    let s = same_integer (same_view c.base (integer μ z) e) in
    absurd (let n = rw s at (h x) in let o : ◌≡◌ {A = ℕ} 0 1 = cc in omega arith)
no_integer c (symbol μ s) x e h = refl
no_integer c (sum μ f) x e h = refl
no_integer c (product μ f) x e h = refl
no_integer c (power μ b ξ y) x e h = refl

exponents_grow : (b b' : Bool) (c d : Factor) (w : ℕ) → d.base ≡ c.base → (b ≡ true → 2 ≤ w)
    → weight (power_unless b' d).0 ≤ weight (power_unless b c).0 + w
unfolding power_unless weight
exponents_grow true b' c d w q h = omega (arith, raised_weight b' d, h refl, ap weight q, marked_weight c.mark c.base)
exponents_grow false b' c d w q h = omega (arith, raised_weight b' d, ap weight q)

bases_grow : (b : Bool) (c d : Factor) → weight d.base ≡ weight c.base → weight (power_unless b d).0 ≡ weight (power_unless b c).0
unfolding power_unless weight
bases_grow true c d q = marked_weight d.mark d.base ∙ q ∙ sym (marked_weight c.mark c.base)
bases_grow false c d q = omega arith

factor_grows : (c : Factor) (t : Tree) {d : Factor} → WF t → Merged c (factor_of t) d
    → weight (from_factor d).0 ≤ weight (from_factor c).0 + weight t
unfolding from_factor times_bases add_exponents weight
factor_grows c t w (by_bases {y = y} {z = z} p q e) = omega (arith, bases_grow (eqb c.exponent 1) c (times_bases c (factor_of t) (y *ℤ z)) (sym (ap weight p)))
factor_grows c t w (by_exponents e h) =
    exponents_grow (eqb c.exponent 1) _ c _ (weight t) refl (λ o. heavy t w (no_integer c t (eqb-true c.exponent 1 o) e h))

pub join_grows : (b : Bool) (c d : Like b) (t : Tree) → WF t → merge b c (split b t) ≡ some d
    → weight (join b d).0 ≤ weight (join b c).0 + weight t
join_grows true c d t w m =
    let s = merge_terms_some c (term_of t) d m in
    subst (λ (d : Term). weight (from_term d).0 ≤ weight (from_term c).0 + weight t) s.1 (term_grows c t w s.0)
join_grows false c d t w m = factor_grows c t w (merge_factors_some c (factor_of t) d m)
