-- Every rule of either edition is shallow (what that is: specs/Shallow). Steps 1 and 4 leave members as they were, step 3 gives an integer, and
-- steps 7, 8 and 9 give the base, or a power of the base's base. Steps 2 and 6 put members together again: such a member is a rest or a base that
-- was a member of the node or stood below one, with another mark at its root, or has that as its own member with a new integer beside it. Assumes
-- nothing.
use Prim.Native.Nat.{ℕ, zero, suc, ◌*◌, ◌^◌}
use mathlib.Core.Path.{◌≡◌, refl, subst}
use mathlib.Core.Bool.{Bool, true, false, cond}
use mathlib.Core.List.{List, [], ◌∷◌, ◌++◌, map}
use mathlib.Core.Option.{Option, some}
use lib.ListN.{length}
use lib.IntN.{ℤ, pos}
use lib.Dec.{eqb, ltb}
use Rattle.paper.specs.Tree.{Tree, integer, symbol, sum, product, power, to_list, of_list, marked}
use Rattle.paper.specs.Equal.{eq_z}
use Rattle.paper.specs.Walk.{walk}
use Rattle.paper.specs.Rules.{Rule, collapse, sum_of, product_of, applies_if, any_of, as_integer, is_the, unless, drop_all, on_sum_members}
use Rattle.paper.specs.Rules.{on_product_members, on_power_parts, add_zero}
use Rattle.paper.specs.Rules.{multiply_zero, multiply_one, power_one, power_constant, raised_if, power_power, all_in_range, rebuilt, outcome, combine}
use Rattle.paper.specs.Rules.{Term, term}
use Rattle.paper.specs.Rules.{with_other, others_of, product_term, term_of, added, merge_terms, coefficient_times, times_unless, from_term, combine_like_terms}
use Rattle.paper.specs.Rules.{Factor, factor, factor_of, merge_factors, power_unless, from_factor, combine_like_factors, edition_one, edition_two, rules_of}
use Rattle.paper.specs.Driver.{members}
use Rattle.paper.specs.Shallow.{Each, Under, GoesDown, ShallowAnswer, Shallow, Shallows, no_rules, a_rule}
use Rattle.paper.proofs.WFLaws.{to_of_list}
use Rattle.paper.proofs.WalkLaws.{All, walk_all}
use Rattle.paper.proofs.LikeTerms.{merge_terms_some}
use Rattle.paper.proofs.MergeFactors.{times_bases, add_exponents, Merged, by_bases, by_exponents, merge_factors_some}
use Rattle.paper.proofs.ShallowLaws.{each_map, each_append, marked_members, deeper, sum_shallow, product_shallow, applies_shallow}
use Rattle.paper.proofs.ShallowLaws.{on_sum_shallow, on_product_shallow, on_power_shallow}

-- ---- steps 1, 3 and 4
drop_all_each : (P : Tree → Type 0) (p : Tree → Bool) (l : List Tree) → Each P l → Each P (drop_all p l)
unfolding drop_all unless
drop_all_each P p [] h = tt
drop_all_each P p (t ∷ l) h = go (p t) (drop_all_each P p l h.1)
  where
    go : (b : Bool) → Each P (drop_all p l) → Each P (unless b t (drop_all p l))
    go true r = r
    go false r = (h.0, r)

pub add_zero_shallow : Shallow (record { number = 1; try = add_zero })
unfolding add_zero on_sum_members
add_zero_shallow =
    record {
      on_no_integer = λ μ z. refl;
      shallow = λ P d. on_sum_shallow P (λ μ l. applies_if (any_of (is_the (pos 0)) l) (sum_of μ (drop_all (is_the (pos 0)) l)))
          (λ μ l p. applies_shallow P _ (any_of (is_the (pos 0)) l) (sum_shallow d μ _ (drop_all_each (Under P) (is_the (pos 0)) l (each_map d.down l p))));
    }

pub multiply_zero_shallow : Shallow (record { number = 3; try = multiply_zero })
unfolding multiply_zero on_product_members
multiply_zero_shallow =
    record {
      on_no_integer = λ μ z. refl;
      shallow = λ P d. on_product_shallow P (λ μ l. applies_if (any_of (is_the (pos 0)) l) (integer μ (pos 0)))
          (λ μ l p. applies_shallow P _ (any_of (is_the (pos 0)) l) (deeper d (integer μ (pos 0)) (unfold members in tt)));
    }

pub multiply_one_shallow : Shallow (record { number = 4; try = multiply_one })
unfolding multiply_one on_product_members
multiply_one_shallow =
    record {
      on_no_integer = λ μ z. refl;
      shallow = λ P d. on_product_shallow P (λ μ l. applies_if (any_of (is_the (pos 1)) l) (product_of μ (drop_all (is_the (pos 1)) l)))
          (λ μ l p. applies_shallow P _ (any_of (is_the (pos 1)) l) (product_shallow d μ _ (drop_all_each (Under P) (is_the (pos 1)) l (each_map d.down l p))));
    }

-- ---- steps 7, 8 and 9
pub power_one_shallow : Shallow (record { number = 7; try = power_one })
unfolding power_one on_power_parts
power_one_shallow =
    record {
      on_no_integer = λ μ z. refl;
      shallow = λ P d. on_power_shallow P _ (λ μ b ξ e p. applies_shallow P b _ (deeper d b (d.down b p)));
    }

pub power_constant_shallow : Shallow (record { number = 8; try = power_constant })
unfolding power_constant on_power_parts
power_constant_shallow =
    record {
      on_no_integer = λ μ z. refl;
      shallow = λ P d. on_power_shallow P _
          (λ μ b ξ e p. applies_shallow P (marked μ b) _ (deeper d (marked μ b) (rw marked_members (d.down b p))));
    }

raised_shallow : {P : Tree → Type 0} → GoesDown P → (μ : ℕ) (b : Tree) (ξ f : ℕ) (x : Bool) → P b → ShallowAnswer P (raised_if x μ b ξ f)
unfolding raised_if members
raised_shallow d μ b ξ f true p = (d.down b p, (tt, tt))
raised_shallow d μ b ξ f false p = tt

pub power_power_shallow : Shallow (record { number = 9; try = power_power })
unfolding power_power on_power_parts
power_power_shallow =
    record {
      on_no_integer = λ μ z. refl;
      shallow = λ P d. on_power_shallow P _
          (λ μ b ξ f p. on_power_shallow P _ (λ ν c ζ e q. raised_shallow d μ c ξ (e * f) (ltb (e * f) (2 ^ 63)) q) b (d.down b p));
    }

-- ---- steps 2 and 6 alike: a property of parts that splitting gives and merging keeps, and that gives P of the members of what is put together
module _ {A : Type 0} (split : Tree → A) (merge : A → A → Option A) (join : A → Tree × Bool) (P : Tree → Type 0) (Q : A → Type 0)
    (split-has : (t : Tree) → P t → Q (split t)) (merge-has : (c x d : A) → Q c → Q x → merge c x ≡ some d → Q d)
    (join-has : (c : A) → Q c → Under P (join c).0) where
  splits_have : (l : List Tree) → Each P l → All Q (map split l)
  splits_have [] p = tt
  splits_have (t ∷ l) p = (split-has t p.0, splits_have l p.1)

  joins_have : (l : List A) → All Q l → Each (Under P) (map (λ r. r.0) (map join l))
  joins_have [] q = tt
  joins_have (c ∷ l) q = (join-has c q.0, joins_have l q.1)

  outcome_shallow : (node : List Tree → Tree) (l : List (Tree × Bool)) (n : ℕ) → Under (Under P) (node (map (λ r. r.0) l))
      → ShallowAnswer P (outcome node l n)
  unfolding outcome rebuilt
  outcome_shallow node l zero h = tt
  outcome_shallow node l (suc n) h = go (all_in_range l)
    where
      go : (b : Bool) → ShallowAnswer P (rebuilt node l b)
      go true = h
      go false = tt

  pub combine_shallow : (node : List Tree → Tree) → ((l : List Tree) → Each (Under P) l → Under (Under P) (node l))
      → (l : List Tree) → Each P l → ShallowAnswer P (combine node split merge join l)
  unfolding combine
  combine_shallow node h l p =
      let out = walk merge (length l) (map split l) in
      outcome_shallow node (map join out.parts) out.removed
      (h (map (λ r. r.0) (map join out.parts)) (joins_have out.parts (walk_all merge Q merge-has (length l) (map split l) (splits_have l p))))

-- ---- step 2
module _ {P : Tree → Type 0} (d : GoesDown P) where
  -- of a rest: P of its members, where it is a product, since these are what a coefficient joins; else P of itself
  abbrev Rest : Tree → Type 0
  Rest (integer μ z) = P (integer μ z)
  Rest (symbol μ s) = P (symbol μ s)
  Rest (sum μ f) = P (sum μ f)
  Rest (product μ f) = Each P (to_list f)
  Rest (power μ b ξ e) = P (power μ b ξ e)

  rest : (t : Tree) → P t → Rest t
  unfolding members
  rest (integer μ z) p = p
  rest (symbol μ s) p = p
  rest (sum μ f) p = p
  rest (product μ f) p = d.down (product μ f) p
  rest (power μ b ξ e) p = p

  others : (l : List Tree) → Each P l → Each P (others_of l)
  unfolding others_of with_other as_integer
  others [] p = tt
  others (integer μ z ∷ l) p = others l p.1
  others (symbol μ s ∷ l) p = (p.0, others l p.1)
  others (sum μ f ∷ l) p = (p.0, others l p.1)
  others (product μ f ∷ l) p = (p.0, others l p.1)
  others (power μ b ξ e ∷ l) p = (p.0, others l p.1)

  product_rest_lem : (μ : ℕ) (l : List Tree) → Each P l → Rest (product_of μ l)
  unfolding product_of collapse
  product_rest_lem μ [] p = d.integers μ (pos 1)
  product_rest_lem μ (t ∷ []) p = rest t p.0
  product_rest_lem μ (t ∷ u ∷ l) p = rw (to_of_list (t ∷ u ∷ l)) p

  term_rest : (t : Tree) → P t → Rest (term_of t).rest
  unfolding term_of term product_term members
  term_rest (integer μ z) p = d.integers 0 (pos 1)
  term_rest (symbol μ s) p = p
  term_rest (sum μ f) p = p
  term_rest (product μ f) p = product_rest_lem μ (others_of (to_list f)) (others (to_list f) (d.down (product μ f) p))
  term_rest (power μ b ξ e) p = p

  merged_rest : (c x y : Term) → Rest c.rest → Rest x.rest → merge_terms c x ≡ some y → Rest y.rest
  unfolding added
  merged_rest c x y p q h = subst (λ i. Rest i.rest) (merge_terms_some c x y h).1 p

  rest_under : (t : Tree) → Rest t → Under P t
  unfolding members
  rest_under (integer μ z) p = tt
  rest_under (symbol μ s) p = tt
  rest_under (sum μ f) p = d.down (sum μ f) p
  rest_under (product μ f) p = p
  rest_under (power μ b ξ e) p = d.down (power μ b ξ e) p

  times_under : (μ : ℕ) (z : ℤ) (t : Tree) → Rest t → Under P (coefficient_times μ z t).0
  unfolding coefficient_times members of_list to_list
  times_under μ z (integer ν y) p = tt
  times_under μ z (symbol ν s) p = (d.integers μ z, (p, tt))
  times_under μ z (sum ν f) p = (d.integers μ z, (p, tt))
  times_under μ z (product ν f) p = rw to_of_list (each_append P (to_list f) (integer μ z ∷ []) p (d.integers μ z, tt))
  times_under μ z (power ν b ξ e) p = (d.integers μ z, (p, tt))

  term_under : (c : Term) → Rest c.rest → Under P (from_term c).0
  unfolding from_term times_unless
  term_under c p = go (eq_z c.coefficient (pos 1))
    where
      go : (b : Bool) → Under P (times_unless b c).0
      go true = rw marked_members (rest_under c.rest p)
      go false = times_under c.mark c.coefficient c.rest p

pub like_terms_shallow : Shallow (record { number = 2; try = combine_like_terms })
unfolding combine_like_terms on_sum_members
like_terms_shallow =
    record {
      on_no_integer = λ μ z. refl;
      shallow = λ P d. on_sum_shallow P _
          (λ μ. combine_shallow term_of merge_terms from_term P (λ c. Rest d c.rest) (term_rest d) (merged_rest d) (term_under d) (sum_of μ) (sum_shallow d μ));
    }

-- ---- step 6
module _ {P : Tree → Type 0} (d : GoesDown P) where
  factor_base : (t : Tree) → P t → P (factor_of t).base
  unfolding factor_of factor members
  factor_base (integer μ z) p = p
  factor_base (symbol μ s) p = p
  factor_base (sum μ f) p = p
  factor_base (product μ f) p = p
  factor_base (power μ b ξ e) p = (d.down (power μ b ξ e) p).0

  merged_base : (c x y : Factor) → P c.base → P x.base → merge_factors c x ≡ some y → P y.base
  unfolding times_bases add_exponents
  merged_base c x y p q h = go (merge_factors_some c x y h)
    where
      go : {y : Factor} → Merged c x y → P y.base
      go (by_bases a b e) = d.integers c.mark _
      go (by_exponents e a) = p

  factor_under : (c : Factor) → P c.base → Under P (from_factor c).0
  unfolding from_factor power_unless members
  factor_under c p = go (eqb c.exponent 1)
    where
      go : (b : Bool) → Under P (power_unless b c).0
      go true = rw marked_members (d.down c.base p)
      go false = (p, (d.integers c.mark (pos c.exponent), tt))

pub like_factors_shallow : Shallow (record { number = 6; try = combine_like_factors })
unfolding combine_like_factors on_product_members
like_factors_shallow =
    record {
      on_no_integer = λ μ z. refl;
      shallow = λ P d. on_product_shallow P _
          (λ μ. combine_shallow factor_of merge_factors from_factor P (λ c. P c.base) (factor_base d) (merged_base d)
          (factor_under d) (product_of μ) (product_shallow d μ));
    }

-- ---- the editions
pub edition_one_shallow : Shallows edition_one
unfolding edition_one
edition_one_shallow =
    a_rule add_zero_shallow
    (a_rule like_terms_shallow (a_rule multiply_zero_shallow (a_rule multiply_one_shallow (a_rule like_factors_shallow no_rules))))

both_shallow : {rs qs : List Rule} → Shallows rs → Shallows qs → Shallows (rs ++ qs)
both_shallow no_rules h = h
both_shallow (a_rule g gs) h = a_rule g (both_shallow gs h)

pub edition_two_shallow : Shallows edition_two
unfolding edition_two
edition_two_shallow =
    both_shallow edition_one_shallow (a_rule power_one_shallow (a_rule power_constant_shallow (a_rule power_power_shallow no_rules)))

pub edition_shallow : (ed : ℕ) → Shallows (rules_of ed)
unfolding rules_of
edition_shallow ed = go (eqb ed 2)
  where
    go : (b : Bool) → Shallows (cond b edition_two edition_one)
    go true = edition_two_shallow
    go false = edition_one_shallow
