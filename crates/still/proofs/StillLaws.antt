-- Where `still` says yes, no rule applies: no member is one that steps 1, 3 and 4 look for, and no two parts have one key, so the walk
-- of step 2 or 6 removes nothing; a power is none that steps 7, 8 and 9 are for. The rules for the other kinds of node, and all of them at
-- a leaf, do not apply by computing.
use Prim.Native.Nat.{ℕ, ◌<◌}
use mathlib.Core.Path.{◌≡◌, refl, sym, ap, ◌∙◌}
use mathlib.Core.Bool.{Bool, true, false, cond, ◌&&◌, ◌||◌, not}
use mathlib.Core.List.{List, [], ◌∷◌, ◌++◌, map}
use mathlib.Core.Option.{Option, some}
use native.Mathlib.Omega.{arith}
use lib.IntN.{pos}
use lib.ListN.{length}
use lib.Dec.{eqb, ltb}
use borrow.Author.Tests.{not-true, eq-eqb, eqb-true, ltb-true}
use Rattle.paper.specs.Tree.{Tree, Forest, integer, symbol, sum, product, power, count, to_list, weight}
use Rattle.paper.specs.Standing.{kind_number}
use Rattle.paper.specs.Rules.{Rule, does_not_apply, is_the, any_of, applies_if, on_sum_members, on_product_members, on_power_parts}
use Rattle.paper.specs.Rules.{sum_of, product_of, outcome, combine, term_of, merge_terms, from_term, factor_of, merge_factors, from_factor}
use Rattle.paper.specs.Rules.{add_zero, combine_like_terms, multiply_zero, multiply_one, combine_like_factors, power_one, power_constant, power_power}
use Rattle.paper.specs.Rules.{edition_one, edition_two, rules_of}
use Rattle.paper.specs.Driver.{ask, no_rule}
use Rattle.paper.proofs.Tests.{never, and_left, and_right, or_left, or_right, or_neither, true_not_false}
use Rattle.note.specs.Part.{term_key, factor_key, part_key}
use Rattle.still.specs.Still.{among, sought, apart, still_power, still, enough, still_by}
use Rattle.note.proofs.PartLaws.{term_key_lem, factor_key_lem}
use Rattle.note.proofs.ApartLaws.{Free, Apart, walk_apart}

among_self : (k : ℕ) (p l : List ℕ) → among k (p ++ (k ∷ l)) ≡ true
unfolding among
among_self k [] l = or_left (eqb k k) (among k l) (eq-eqb k k refl)
among_self k (m ∷ p) l = or_right (eqb k m) (among k (p ++ (k ∷ l))) (among_self k p l)

among_grows : (k : ℕ) (p q : List ℕ) → among k p ≡ true → among k (p ++ q) ≡ true
unfolding among
among_grows k [] q e = never e
among_grows k (m ∷ p) q e = go (eqb k m) (among k p) (among k (p ++ q)) (among_grows k p q) e
  where
    go : (b c d : Bool) → (c ≡ true → d ≡ true) → b || c ≡ true → b || d ≡ true
    go true c d h e = refl
    go false c d h e = h e

-- what the first member of members that are apart is
module _ (terms : Bool) where
  abbrev k : Tree → ℕ
  k t = part_key terms t

  first_apart : (before : List ℕ) (t : Tree) (l : List Tree) → apart terms before (t ∷ l) ≡ true
      → (sought terms t ≡ false) × (among (k t) before ≡ false) × (apart terms (before ++ (k t ∷ [])) l ≡ true)
  unfolding apart
  first_apart before t l e =
      let p = not (sought terms t) in
      let b = not (among (k t) before) in
      let c = apart terms (before ++ (k t ∷ [])) l in
      let h = and_right p (b && c) e in (
        not-true (sought terms t) (and_left p (b && c) e),
        not-true (among (k t) before) (and_left b c h),
        and_right b c h,
      )

  -- no member is sought
  none_sought : (before : List ℕ) (l : List Tree) → apart terms before l ≡ true → any_of (sought terms) l ≡ false
  unfolding any_of
  none_sought before [] e = refl
  none_sought before (t ∷ l) e =
      let h = first_apart before t l e in rw h.0 (none_sought (before ++ (k t ∷ [])) l h.2)

  -- the parts of members, by any split whose parts have these keys
  module _ {P : Type 0} (split : Tree → P) (key : P → ℕ) (keyed : (t : Tree) → k t ≡ key (split t)) where
    -- a number that stands before is none of the keys
    before_free : (before : List ℕ) (l : List Tree) (n : ℕ) → among n before ≡ true → apart terms before l ≡ true → Free key n (map split l)
    before_free before [] n a e = tt
    before_free before (t ∷ l) n a e =
        let h = first_apart before t l e in (
          (λ q. true_not_false a (ap (λ m. among m before) (q ∙ sym (keyed t)) ∙ h.1)),
          before_free (before ++ (k t ∷ [])) l n (among_grows n before (k t ∷ []) a) h.2,
        )

    parts_apart : (before : List ℕ) (l : List Tree) → apart terms before l ≡ true → Apart key (map split l)
    parts_apart before [] e = tt
    parts_apart before (t ∷ l) e =
        let h = first_apart before t l e in
        let more = before ++ (k t ∷ []) in
        let own : among (key (split t)) more ≡ true = ap (λ n. among n more) (sym (keyed t)) ∙ among_self (k t) before [] in
        (before_free more l (key (split t)) own h.2, parts_apart more l h.2)

-- a rule that walks does not apply where no two parts have one key
module _ {P : Type 0} (node : List Tree → Tree) (split : Tree → P) (merge : P → P → Option P) (join : P → Tree × Bool) (key : P → ℕ)
    (one_key : (c x d : P) → merge c x ≡ some d → key c ≡ key x) where
  combine_apart : (l : List Tree) → Apart key (map split l) → combine node split merge join l ≡ does_not_apply
  unfolding combine outcome
  combine_apart l h = ap (λ w. outcome node (map join w.parts) w.removed) (walk_apart merge key one_key (length l) (map split l) h)

terms_apart : (μ : ℕ) (l : List Tree) → apart true [] l ≡ true → combine (sum_of μ) term_of merge_terms from_term l ≡ does_not_apply
unfolding part_key
terms_apart μ l e =
    combine_apart (sum_of μ) term_of merge_terms from_term term_key (λ c x d m. (term_key_lem c x d m).same) l
    (parts_apart true term_of term_key (λ t. refl) [] l e)

factors_apart : (μ : ℕ) (l : List Tree) → apart false [] l ≡ true → combine (product_of μ) factor_of merge_factors from_factor l ≡ does_not_apply
unfolding part_key
factors_apart μ l e =
    combine_apart (product_of μ) factor_of merge_factors from_factor factor_key (λ c x d m. (factor_key_lem c x d m).same) l
    (parts_apart false factor_of factor_key (λ t. refl) [] l e)

-- a rule that drops does not apply where none is there to drop
not_if : (b : Bool) (t : Tree) → b ≡ false → applies_if b t ≡ does_not_apply
unfolding applies_if
not_if b t e = ap (λ c. applies_if c t) e

none_either : (p q : Tree → Bool) (l : List Tree) → any_of (λ t. p t || q t) l ≡ false → (any_of p l ≡ false) × (any_of q l ≡ false)
unfolding any_of
none_either p q [] e = (refl, refl)
none_either p q (t ∷ l) e =
    let h = or_neither (p t || q t) (any_of (λ u. p u || q u) l) e in
    let here = or_neither (p t) (q t) h.0 in
    let later = none_either p q l h.1 in
    (rw here.0 later.0, rw here.1 later.1)

-- none of the rules applies
abbrev Idle : List Rule → Tree → Type 0
Idle [] t = Unit {0}
Idle (r ∷ rs) t = (r.try t ≡ does_not_apply) × Idle rs t

idle_asked : (rs : List Rule) (t : Tree) → Idle rs t → ask rs t ≡ no_rule
unfolding ask
idle_asked [] t h = refl
idle_asked (r ∷ rs) t h = rw h.0 (idle_asked rs t h.1)

-- edition one at a sum and at a product
sum_idle : (μ : ℕ) (f : Forest) → apart true [] (to_list f) ≡ true → Idle edition_one (sum μ f)
unfolding edition_one add_zero combine_like_terms multiply_zero multiply_one combine_like_factors on_sum_members on_product_members sought
sum_idle μ f e = (not_if _ _ (none_sought true [] (to_list f) e), (terms_apart μ (to_list f) e, (refl, (refl, (refl, tt)))))

product_idle : (μ : ℕ) (f : Forest) → apart false [] (to_list f) ≡ true → Idle edition_one (product μ f)
unfolding edition_one add_zero combine_like_terms multiply_zero multiply_one combine_like_factors on_sum_members on_product_members sought
product_idle μ f e =
    let h = none_either (is_the (pos 0)) (is_the (pos 1)) (to_list f) (none_sought false [] (to_list f) e) in
    (refl, (refl, (not_if _ _ h.0, (not_if _ _ h.1, (factors_apart μ (to_list f) e, tt)))))

-- steps 7, 8 and 9 at a power
abbrev powers : List Rule
powers =
    record { number = 7; try = power_one }
    ∷ record { number = 8; try = power_constant }
    ∷ record { number = 9; try = power_power }
    ∷ []

no_power : (μ : ℕ) (b : Tree) (ξ e : ℕ) → kind_number b < 4 → power_power (power μ b ξ e) ≡ does_not_apply
unfolding power_power on_power_parts kind_number
no_power μ (integer ν z) ξ e l = refl
no_power μ (symbol ν s) ξ e l = refl
no_power μ (sum ν f) ξ e l = refl
no_power μ (product ν f) ξ e l = refl
no_power μ (power ν b ζ d) ξ e l = absurd (omega arith)

power_idle : (μ : ℕ) (b : Tree) (ξ e : ℕ) → still_power b e ≡ true → Idle powers (power μ b ξ e)
unfolding still_power power_one power_constant on_power_parts sought
power_idle μ b ξ e h =
    let k = ltb (kind_number b) 4 in
    let s = not (is_the (pos 0) b || is_the (pos 1) b) in
    let o = not (eqb e 1) in
    let r = and_right k (s && o) h in (
      not_if (eqb e 1) b (not-true (eqb e 1) (and_right s o r)),
      (
        not_if (is_the (pos 0) b || is_the (pos 1) b) _ (not-true _ (and_left s o r)),
        (no_power μ b ξ e (ltb-true (kind_number b) 4 (and_left k (s && o) h)), tt),
      ),
    )

-- edition one, and what edition two adds
idle_both : (rs qs : List Rule) (t : Tree) → Idle rs t → Idle qs t → Idle (rs ++ qs) t
idle_both [] qs t h k = k
idle_both (r ∷ rs) qs t h k = (h.0, idle_both rs qs t h.1 k)

still_one : (edition : ℕ) (t : Tree) → still edition t ≡ true → Idle edition_one t
unfolding still edition_one add_zero combine_like_terms multiply_zero multiply_one combine_like_factors on_sum_members on_product_members
still_one edition (integer μ z) e = (refl, (refl, (refl, (refl, (refl, tt)))))
still_one edition (symbol μ s) e = (refl, (refl, (refl, (refl, (refl, tt)))))
still_one edition (sum μ f) e = sum_idle μ f e
still_one edition (product μ f) e = product_idle μ f e
still_one edition (power μ b ξ x) e = (refl, (refl, (refl, (refl, (refl, tt)))))

still_two : (t : Tree) → still 2 t ≡ true → Idle powers t
unfolding still power_one power_constant power_power on_power_parts
still_two (integer μ z) e = (refl, (refl, (refl, tt)))
still_two (symbol μ s) e = (refl, (refl, (refl, tt)))
still_two (sum μ f) e = (refl, (refl, (refl, tt)))
still_two (product μ f) e = (refl, (refl, (refl, tt)))
still_two (power μ b ξ x) e = power_idle μ b ξ x e

still_idle : (edition : ℕ) (t : Tree) → still edition t ≡ true → Idle (rules_of edition) t
unfolding rules_of edition_two
still_idle edition t e = go (eqb edition 2) refl
  where
    go : (b : Bool) → eqb edition 2 ≡ b → Idle (cond b edition_two edition_one) t
    go true q = idle_both edition_one powers t (still_one edition t e) (still_two t (ap (λ n. still n t) (sym (eqb-true edition 2 q)) ∙ e))
    go false q = still_one edition t e

-- where the test says yes, no rule of the edition applies
pub still_no_rule : (edition : ℕ) (t : Tree) → still edition t ≡ true → ask (rules_of edition) t ≡ no_rule
still_no_rule edition t e = idle_asked (rules_of edition) t (still_idle edition t e)

-- the test as it is made says no more
pub still_by_lem : (edition : ℕ) (t : Tree) → still_by edition t ≡ true → still edition t ≡ true
unfolding still_by still
still_by_lem edition (integer μ z) e = refl
still_by_lem edition (symbol μ s) e = refl
still_by_lem edition (sum μ f) e = and_right (enough (count f) (weight (sum μ f))) (still edition (sum μ f)) e
still_by_lem edition (product μ f) e = and_right (enough (count f) (weight (product μ f))) (still edition (product μ f)) e
still_by_lem edition (power μ b ξ x) e = e
