-- A member that stays is what its own part becomes, and is in range. A product with no integer is its own rest, and 1 times it is
-- itself; one with a coefficient where the rules write it is the coefficient times the product of its other members, and is written the
-- same; a power whose exponent has its mark is its base with that exponent. By cases on the member, and by induction on a product's members.
use Rattle.std.proofs.Common.{◌≡◌, ℕ, ◌≤◌, Bool, true, false, cond, not, ◌&&◌, eqb, ltb, ◌⊎◌, List, [], ◌∷◌, ◌++◌, length, ℤ, pos, ◌*ℤ◌, sym, refl}
use Rattle.std.proofs.Common.{ap, ◌∙◌, subst, inl, inr, arith, length-append, ltb-true, eqb-true}
use mathlib.Core.Option.{none}
use lib.IntN.{one, *ℤ_comm, *ℤ-one}
use borrow.Author.Tests.{not-true}
use Rattle.paper.specs.Tree.{Tree, Forest, integer, symbol, sum, product, power, marked, to_list, of_list}
use Rattle.paper.specs.WellFormed.{WF, WFl, InRange}
use Rattle.paper.specs.Equal.{eq_z}
use Rattle.paper.specs.Rules.{as_integer, collapse, product_of, with_integer, integers_of, with_other, others_of, times_one, times_each, unit, term}
use Rattle.paper.specs.Rules.{product_term, term_of, coefficient_times, times_unless, from_term, factor, factor_of, power_unless, from_factor}
use Rattle.paper.proofs.Coefficient.{no_integer_itself}
use Rattle.paper.proofs.GatherLaws.{collapse_none}
use Rattle.paper.proofs.RangeLaws.{fits_exactly}
use Rattle.paper.proofs.Tests.{never, and_both, true_not_false, eq_z_true}
use Rattle.paper.proofs.WFLaws.{of_to_list, to_of_list, wf_list}
use Rattle.part.specs.Like.{split, join}
use Rattle.walk.specs.Stays.{is_coefficient, is_integer, is_other_rest, first_stays, last_stays, product_stays, term_stays, factor_stays, stays}

abbrev Itself : Tree × Bool → Tree → Type 0
Itself x t = x ≡ (t, true)

times_one_lem : (z : ℤ) → z *ℤ pos 1 ≡ z
unfolding one
times_one_lem z = *ℤ-one z

one_times : (z : ℤ) → pos 1 *ℤ z ≡ z
one_times z = *ℤ_comm (pos 1) z ∙ times_one_lem z

-- ---- the coefficient z times the rest of a product with that one integer
with_one : (μ : ℕ) (l m : List Tree) (z : ℤ) → integers_of l ≡ z ∷ [] → others_of l ≡ m → InRange z
    → product_term μ l ≡ term μ z (product_of μ m)
unfolding product_term times_each times_one unit term
with_one μ l m z is others r =
    rw (is, others, one_times z, (fits_exactly z).1 r) refl

timed : (μ : ℕ) (l m : List Tree) (z : ℤ) {u : Tree} → integers_of l ≡ z ∷ [] → others_of l ≡ m → InRange z → eq_z z (pos 1) ≡ false
    → coefficient_times μ z (product_of μ m) ≡ (u, true) → Itself (from_term (product_term μ l)) u
unfolding from_term times_unless term
timed μ l m z {u} is others r more e =
    ap from_term (with_one μ l m z is others r) ∙ rw (more, e) refl

-- ---- a coefficient ahead of a rest u, which is neither an integer nor a product
other_rest : (u : Tree) → is_other_rest u ≡ true
    → (as_integer u ≡ none) × ((μ : ℕ) (z : ℤ) → coefficient_times μ z u ≡ (product μ (of_list (integer μ z ∷ u ∷ [])), true))
unfolding is_other_rest as_integer coefficient_times
other_rest (integer μ z) h = never h
other_rest (symbol μ s) h = (refl, λ ν y. refl)
other_rest (sum μ f) h = (refl, λ ν y. refl)
other_rest (product μ f) h = never h
other_rest (power μ b ξ e) h = (refl, λ ν y. refl)

ahead : (μ ν : ℕ) (z : ℤ) (u : Tree) → InRange z → (is_other_rest u && is_coefficient μ (integer ν z)) ≡ true
    → Itself (from_term (product_term μ (integer ν z ∷ u ∷ []))) (product μ (of_list (integer ν z ∷ u ∷ [])))
unfolding is_coefficient integers_of others_of with_integer with_other as_integer product_of collapse
ahead μ ν z u r h =
    let both = and_both (is_other_rest u) (not (eq_z z (pos 1)) && eqb ν μ) h in
    let c = and_both (not (eq_z z (pos 1))) (eqb ν μ) both.1 in
    let rest = other_rest u both.0 in
    timed μ (integer ν z ∷ u ∷ []) (u ∷ []) z (ap (λ o. z ∷ with_integer o []) rest.0) (ap (λ o. with_other o u []) rest.0) r
    (not-true (eq_z z (pos 1)) c.0) (rest.1 μ z)
    ∙ ap (λ x. (product μ (of_list (integer x z ∷ u ∷ [])), true)) (sym (eqb-true ν μ c.1))

first_term : (μ : ℕ) (t : Tree) (l : List Tree) → WFl (t ∷ l) → is_integer t ≡ true → first_stays μ t l ≡ true
    → Itself (from_term (product_term μ (t ∷ l))) (product μ (of_list (t ∷ l)))
unfolding is_integer first_stays
first_term μ (integer ν z) [] w i h = never h
first_term μ (integer ν z) (u ∷ []) w i h = ahead μ ν z u w.0.0 h
first_term μ (integer ν z) (u ∷ v ∷ l) w i h = never h
first_term μ (symbol ν s) l w i h = never i
first_term μ (sum ν f) l w i h = never i
first_term μ (product ν f) l w i h = never i
first_term μ (power ν b ξ e) l w i h = never i

-- ---- a coefficient after the others m
record Appended (three : Bool) (μ : ℕ) (l : List Tree) : Type 0 where
  others : List Tree
  number : ℤ
  are : l ≡ others ++ (integer μ number ∷ [])
  integers : integers_of l ≡ number ∷ []
  rest : others_of l ≡ others
  more : eq_z number (pos 1) ≡ false
  good : InRange number
  many : three ≡ true

abbrev Ends : Bool → ℕ → List Tree → Type 0
Ends three μ l = (integers_of l ≡ []) ⊎ Appended three μ l

ends_more : (three : Bool) (μ : ℕ) (t : Tree) (l : List Tree) → as_integer t ≡ none → Ends three μ l → Ends three μ (t ∷ l)
unfolding integers_of others_of with_integer with_other
ends_more three μ t l n (inl e) = inl (ap (λ o. with_integer o (integers_of l)) n ∙ e)
ends_more three μ t l n (inr a) =
    inr
    (record {
      others = t ∷ a.others;
      number = a.number;
      are = ap (λ m. t ∷ m) a.are;
      integers = ap (λ o. with_integer o (integers_of l)) n ∙ a.integers;
      rest = ap (λ o. with_other o t (others_of l)) n ∙ ap (λ m. t ∷ m) a.rest;
      more = a.more;
      good = a.good;
      many = a.many;
    })

no_integer : (t : Tree) → is_integer t ≡ false → as_integer t ≡ none
unfolding is_integer as_integer
no_integer (integer μ z) h = absurd (true_not_false refl h)
no_integer (symbol μ s) h = refl
no_integer (sum μ f) h = refl
no_integer (product μ f) h = refl
no_integer (power μ b ξ e) h = refl

ends_one : (three : Bool) (μ : ℕ) (t : Tree) → WF t → cond (is_integer t) (three && is_coefficient μ t) true ≡ true → Ends three μ (t ∷ [])
unfolding is_integer is_coefficient integers_of others_of with_integer with_other as_integer
ends_one three μ (integer ν z) w h =
    let both = and_both three (not (eq_z z (pos 1)) && eqb ν μ) h in
    let c = and_both (not (eq_z z (pos 1))) (eqb ν μ) both.1 in
    inr
    (record {
      others = [];
      number = z;
      are = ap (λ x. integer x z ∷ []) (eqb-true ν μ c.1);
      integers = refl;
      rest = refl;
      more = not-true (eq_z z (pos 1)) c.0;
      good = w.0;
      many = both.0;
    })
ends_one three μ (symbol ν s) w h = inl refl
ends_one three μ (sum ν f) w h = inl refl
ends_one three μ (product ν f) w h = inl refl
ends_one three μ (power ν b ξ e) w h = inl refl

last_ends : (three : Bool) (μ : ℕ) (l : List Tree) → WFl l → last_stays three μ l ≡ true → Ends three μ l
unfolding last_stays integers_of
last_ends three μ [] w h = inl refl
last_ends three μ (t ∷ []) w h = ends_one three μ t w.0 h
last_ends three μ (t ∷ u ∷ l) w h = go (is_integer t) refl h (last_ends three μ (u ∷ l) w.1)
  where
    go : (i : Bool) → is_integer t ≡ i → cond i false (last_stays three μ (u ∷ l)) ≡ true
        → (last_stays three μ (u ∷ l) ≡ true → Ends three μ (u ∷ l)) → Ends three μ (t ∷ u ∷ l)
    go true e h f = never h
    go false e h f = ends_more three μ t (u ∷ l) (no_integer t e) (f h)

-- ---- a product
module _ (μ : ℕ) (f : Forest) (w : WF (product μ f)) where
  abbrev product_itself : Type 0
  product_itself = Itself (from_term (term_of (product μ f))) (product μ f)

  last_term : last_stays (ltb 2 (length (to_list f))) μ (to_list f) ≡ true → product_itself
  unfolding term_of from_term times_unless term marked eq_z product_of coefficient_times
  last_term h = by (last_ends (ltb 2 (length (to_list f))) μ (to_list f) (wf_list f w.1) h)
    where
      by : Ends (ltb 2 (length (to_list f))) μ (to_list f) → product_itself
      by (inl e) = ap from_term (no_integer_itself μ f w e)
      by (inr a) =
          let long : 2 ≤ length a.others =
          omega (arith, ltb-true 2 (length (to_list f)) a.many, ap length a.are, length-append a.others (integer μ a.number ∷ [])) in
          let whole : product_of μ a.others ≡ product μ (of_list a.others) = collapse_none (integer μ (pos 1)) (product μ) a.others long in
          timed μ (to_list f) a.others a.number a.integers a.rest a.good a.more
          (ap (coefficient_times μ a.number) whole
          ∙ ap (λ m. (product μ (of_list (m ++ (integer μ a.number ∷ []))), true)) (to_of_list a.others))
          ∙ ap (λ m. (product μ (of_list m), true)) (sym a.are)
          ∙ ap (λ g. (product μ g, true)) (of_to_list f)

  product_term_lem : product_stays μ (to_list f) ≡ true → product_itself
  unfolding product_stays term_of
  product_term_lem h = by (to_list f) refl h
    where
      by : (l : List Tree) → to_list f ≡ l → product_stays μ l ≡ true → product_itself
      by [] e h = never h
      by (t ∷ l) e h = go (is_integer t) refl h
        where
          go : (i : Bool) → is_integer t ≡ i → cond i (first_stays μ t l) (last_stays (ltb 2 (length (t ∷ l))) μ (t ∷ l)) ≡ true → product_itself
          go true i h =
              ap (λ m. from_term (product_term μ m)) e
              ∙ first_term μ t l (subst WFl e (wf_list f w.1)) i h
              ∙ ap (λ m. (product μ (of_list m), true)) (sym e)
              ∙ ap (λ g. (product μ g, true)) (of_to_list f)
          go false i h = last_term (ap (λ m. last_stays (ltb 2 (length m)) μ m) e ∙ h)

-- ---- a member of a sum, and of a product
integer_term : (μ : ℕ) (z : ℤ) → InRange z → Itself (from_term (term_of (integer μ z))) (integer μ z)
unfolding term_of from_term times_unless term marked coefficient_times
integer_term μ z r = go (eq_z z (pos 1)) refl
  where
    go : (i : Bool) → eq_z z (pos 1) ≡ i → Itself (times_unless i (term μ z (integer 0 (pos 1)))) (integer μ z)
    go true e = ap (λ y. (integer μ y, true)) (sym (eq_z_true z (pos 1) e))
    go false e = rw (times_one_lem z, (fits_exactly z).1 r) refl

term_itself : (t : Tree) → WF t → term_stays t ≡ true → Itself (from_term (term_of t)) t
unfolding term_stays term_of from_term times_unless term marked eq_z
term_itself (integer μ z) w h = integer_term μ z w.0
term_itself (symbol μ s) w h = refl
term_itself (sum μ f) w h = refl
term_itself (product μ f) w h = product_term_lem μ f w h
term_itself (power μ b ξ e) w h = refl

factor_itself : (t : Tree) → factor_stays t ≡ true → Itself (from_factor (factor_of t)) t
unfolding factor_stays factor_of factor from_factor power_unless marked
factor_itself (integer μ z) h = refl
factor_itself (symbol μ s) h = refl
factor_itself (sum μ f) h = refl
factor_itself (product μ f) h = refl
factor_itself (power μ b ξ e) h =
    let both = and_both (not (eqb e 1)) (eqb ξ μ) h in
    rw (not-true (eqb e 1) both.0) (ap (λ x. (power μ b x e, true)) (sym (eqb-true ξ μ both.1)))

pub stays_itself : (b : Bool) (t : Tree) → WF t → stays b t ≡ true → join b (split b t) ≡ (t, true)
stays_itself true t w h = term_itself t w h
stays_itself false t w h = factor_itself t h
