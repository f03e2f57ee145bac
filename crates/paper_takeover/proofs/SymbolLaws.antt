-- No rule and no opening brings in a symbol: whatever stands in the result of a run stands in the tree that it began with. Shown over any
-- property P of symbols: where every symbol of a tree has P, so has every symbol of what is dropped from it, split off, merged, put together
-- again and gathered, and so of what a run ends with.
use Prim.Native.Nat.{ℕ, zero, suc, ◌*◌, ◌^◌}
use mathlib.Core.Path.{◌≡◌, refl, subst}
use mathlib.Core.Bool.{Bool, true, false, cond, ◌||◌}
use mathlib.Core.List.{List, [], ◌∷◌, ◌++◌, map}
use mathlib.Core.Logic.{inl, inr}
use mathlib.Core.Option.{Option, none, some, some-injective, none-ne-some}
use lib.ListN.{length}
use lib.IntN.{ℤ, pos}
use lib.Dec.{eqb, ltb}
use Rattle.paper.specs.Tree.{Tree, Forest, integer, symbol, sum, product, power, nil, cons, to_list, of_list, marked, weight}
use Rattle.paper.specs.Equal.{eq_z}
use Rattle.paper.specs.Walk.{walk}
use Rattle.paper.specs.Rules.{Tried, does_not_apply, applies, range_exceeded, Rule, collapse, sum_of, product_of, on_sum_members, on_product_members}
use Rattle.paper.specs.Rules.{as_integer}
use Rattle.paper.specs.Rules.{is_the, unless, drop_all, any_of, applies_if, add_zero, multiply_zero, multiply_one, all_in_range, rebuilt, outcome}
use Rattle.paper.specs.Rules.{combine, Term, term}
use Rattle.paper.specs.Rules.{with_other, others_of, product_term, term_of, added, merge_terms, coefficient_times, times_unless, from_term}
use Rattle.paper.specs.Rules.{combine_like_terms, Factor}
use Rattle.paper.specs.Rules.{factor, factor_of, merge_factors, power_unless, from_factor, combine_like_factors, edition_one, on_power_parts}
use Rattle.paper.specs.Rules.{power_one, power_constant}
use Rattle.paper.specs.Rules.{raised_if, power_power, edition_two, rules_of}
use Rattle.paper.specs.Driver.{Asked, no_rule, step, out_of_range, ask, Ran, done, over, Rans, dones, overs, after, tried, and_then, each, members}
use Rattle.paper.specs.Driver.{as_sum, as_product, open_one, opened, base_from, gather, settle, gathered, visit, run, simplify}
use Rattle.paper.proofs.WalkLaws.{All, all_append, walk_all}
use Rattle.paper.proofs.LikeTerms.{merge_terms_some}
use Rattle.paper.proofs.MergeFactors.{times_bases, add_exponents, Merged, by_bases, by_exponents, merge_factors_some}
use Rattle.paper_shared.specs.Shared.{Stands, Among}

module _ (P : ℕ → Type 0) where
  -- every symbol of a tree has P, of each of its members
  abbrev mutual
    pub Only : Tree → Type 0
    Only (integer μ z) = Unit {0}
    Only (symbol μ s) = P s
    Only (sum μ f) = Onlys f
    Only (product μ f) = Onlys f
    Only (power μ b ξ e) = Only b

    pub Onlys : Forest → Type 0
    Onlys nil = Unit {0}
    Onlys (cons t f) = Only t × Onlys f

  -- a symbol that stands there has it, and if each that stands there has it, all have
  mutual
    pub only_stands : (t : Tree) → Only t → (s : ℕ) → Stands s t → P s
    only_stands (integer μ z) h s i = absurd i
    only_stands (symbol μ r) h s i = subst P i h
    only_stands (sum μ f) h s i = onlys_among f h s i
    only_stands (product μ f) h s i = onlys_among f h s i
    only_stands (power μ b ξ e) h s i = only_stands b h s i

    onlys_among : (f : Forest) → Onlys f → (s : ℕ) → Among s f → P s
    onlys_among nil h s i = absurd i
    onlys_among (cons t f) h s (inl i) = only_stands t h.0 s i
    onlys_among (cons t f) h s (inr i) = onlys_among f h.1 s i

  mutual
    pub stands_only : (t : Tree) → ((s : ℕ) → Stands s t → P s) → Only t
    stands_only (integer μ z) h = tt
    stands_only (symbol μ r) h = h r refl
    stands_only (sum μ f) h = among_onlys f h
    stands_only (product μ f) h = among_onlys f h
    stands_only (power μ b ξ e) h = stands_only b h

    among_onlys : (f : Forest) → ((s : ℕ) → Among s f → P s) → Onlys f
    among_onlys nil h = tt
    among_onlys (cons t f) h = (stands_only t (λ s i. h s (inl i)), among_onlys f (λ s i. h s (inr i)))

  -- ---- members as a list, and back; a node of them; another mark
  list_only : (f : Forest) → Onlys f → All Only (to_list f)
  unfolding to_list
  list_only nil h = tt
  list_only (cons t f) h = (h.0, list_only f h.1)

  only_list : (l : List Tree) → All Only l → Onlys (of_list l)
  unfolding of_list
  only_list [] h = tt
  only_list (t ∷ l) h = (h.0, only_list l h.1)

  sum_of_only : (μ : ℕ) (l : List Tree) → All Only l → Only (sum_of μ l)
  unfolding sum_of collapse
  sum_of_only μ [] h = tt
  sum_of_only μ (t ∷ []) h = h.0
  sum_of_only μ (t ∷ u ∷ l) h = only_list (t ∷ u ∷ l) h

  product_of_only : (μ : ℕ) (l : List Tree) → All Only l → Only (product_of μ l)
  unfolding product_of collapse
  product_of_only μ [] h = tt
  product_of_only μ (t ∷ []) h = h.0
  product_of_only μ (t ∷ u ∷ l) h = only_list (t ∷ u ∷ l) h

  marked_only : (ν : ℕ) (t : Tree) → Only t → Only (marked ν t)
  unfolding marked
  marked_only ν (integer μ z) h = tt
  marked_only ν (symbol μ s) h = h
  marked_only ν (sum μ f) h = h
  marked_only ν (product μ f) h = h
  marked_only ν (power μ b ξ e) h = h

  -- ---- what a rule answers
  abbrev TriedOnly : Tried → Type 0
  TriedOnly does_not_apply = Unit {0}
  TriedOnly (applies u) = Only u
  TriedOnly range_exceeded = Unit {0}

  abbrev Brings : Rule → Type 0
  Brings r = (t : Tree) → Only t → TriedOnly (r.try t)

  on_sum_only : (k : ℕ → List Tree → Tried) → ((μ : ℕ) (l : List Tree) → All Only l → TriedOnly (k μ l)) → (t : Tree) → Only t → TriedOnly (on_sum_members k t)
  unfolding on_sum_members
  on_sum_only k h (integer μ z) w = tt
  on_sum_only k h (symbol μ s) w = tt
  on_sum_only k h (sum μ f) w = h μ (to_list f) (list_only f w)
  on_sum_only k h (product μ f) w = tt
  on_sum_only k h (power μ b ξ e) w = tt

  on_product_only : (k : ℕ → List Tree → Tried) → ((μ : ℕ) (l : List Tree) → All Only l → TriedOnly (k μ l)) → (t : Tree) → Only t
      → TriedOnly (on_product_members k t)
  unfolding on_product_members
  on_product_only k h (integer μ z) w = tt
  on_product_only k h (symbol μ s) w = tt
  on_product_only k h (sum μ f) w = tt
  on_product_only k h (product μ f) w = h μ (to_list f) (list_only f w)
  on_product_only k h (power μ b ξ e) w = tt

  on_power_only : (k : ℕ → Tree → ℕ → ℕ → Tried) → ((μ : ℕ) (b : Tree) (ξ e : ℕ) → Only b → TriedOnly (k μ b ξ e)) → (t : Tree)
      → Only t → TriedOnly (on_power_parts k t)
  unfolding on_power_parts
  on_power_only k h (integer μ z) w = tt
  on_power_only k h (symbol μ s) w = tt
  on_power_only k h (sum μ f) w = tt
  on_power_only k h (product μ f) w = tt
  on_power_only k h (power μ b ξ e) w = h μ b ξ e w

  applies_only : (b : Bool) (u : Tree) → Only u → TriedOnly (applies_if b u)
  unfolding applies_if
  applies_only true u h = h
  applies_only false u h = tt

  -- ---- steps 1, 3 and 4
  drop_only : (p : Tree → Bool) (l : List Tree) → All Only l → All Only (drop_all p l)
  unfolding drop_all unless
  drop_only p [] h = tt
  drop_only p (t ∷ l) h = go (p t) (drop_only p l h.1)
    where
      go : (b : Bool) → All Only (drop_all p l) → All Only (unless b t (drop_all p l))
      go true k = k
      go false k = (h.0, k)

  add_zero_only : (t : Tree) → Only t → TriedOnly (add_zero t)
  unfolding add_zero
  add_zero_only = on_sum_only _ (λ μ l h. applies_only (any_of (is_the (pos 0)) l) _ (sum_of_only μ _ (drop_only (is_the (pos 0)) l h)))

  multiply_zero_only : (t : Tree) → Only t → TriedOnly (multiply_zero t)
  unfolding multiply_zero
  multiply_zero_only = on_product_only _ (λ μ l h. applies_only (any_of (is_the (pos 0)) l) (integer μ (pos 0)) tt)

  multiply_one_only : (t : Tree) → Only t → TriedOnly (multiply_one t)
  unfolding multiply_one
  multiply_one_only = on_product_only _ (λ μ l h. applies_only (any_of (is_the (pos 1)) l) _ (product_of_only μ _ (drop_only (is_the (pos 1)) l h)))

  -- ---- a rule that walks: Q of its parts
  module _ {A : Type 0} (node : List Tree → Tree) (split : Tree → A) (merge : A → A → Option A) (join : A → Tree × Bool) (Q : A → Type 0)
      (node-only : (l : List Tree) → All Only l → Only (node l))
      (split-has : (t : Tree) → Only t → Q (split t))
      (merge-has : (c x d : A) → Q c → Q x → merge c x ≡ some d → Q d)
      (join-has : (c : A) → Q c → Only (join c).0) where
    split_all : (l : List Tree) → All Only l → All Q (map split l)
    split_all [] h = tt
    split_all (t ∷ l) h = (split-has t h.0, split_all l h.1)

    join_all : (ps : List A) → All Q ps → All Only (map (λ r. r.0) (map join ps))
    join_all [] h = tt
    join_all (c ∷ ps) h = (join-has c h.0, join_all ps h.1)

    outcome_only : (l : List (Tree × Bool)) (n : ℕ) → All Only (map (λ r. r.0) l) → TriedOnly (outcome node l n)
    unfolding outcome rebuilt
    outcome_only l zero h = tt
    outcome_only l (suc n) h = go (all_in_range l)
      where
        go : (b : Bool) → TriedOnly (rebuilt node l b)
        go true = node-only (map (λ r. r.0) l) h
        go false = tt

    combine_only : (l : List Tree) → All Only l → TriedOnly (combine node split merge join l)
    unfolding combine
    combine_only l h =
        let w = walk merge (length l) (map split l) in
        outcome_only (map join w.parts) w.removed (join_all w.parts (walk_all merge Q merge-has (length l) (map split l) (split_all l h)))

  -- ---- step 2: the rest of a term
  others_only : (l : List Tree) → All Only l → All Only (others_of l)
  unfolding others_of with_other as_integer
  others_only [] h = tt
  others_only (integer μ z ∷ l) h = others_only l h.1
  others_only (symbol μ s ∷ l) h = (h.0, others_only l h.1)
  others_only (sum μ f ∷ l) h = (h.0, others_only l h.1)
  others_only (product μ f ∷ l) h = (h.0, others_only l h.1)
  others_only (power μ b ξ e ∷ l) h = (h.0, others_only l h.1)

  abbrev RestOnly : Term → Type 0
  RestOnly c = Only c.rest

  term_only : (t : Tree) → Only t → RestOnly (term_of t)
  unfolding term_of term product_term
  term_only (integer μ z) h = tt
  term_only (symbol μ s) h = h
  term_only (sum μ f) h = h
  term_only (product μ f) h = product_of_only μ (others_of (to_list f)) (others_only (to_list f) (list_only f h))
  term_only (power μ b ξ e) h = h

  merge_terms_only : (c x d : Term) → RestOnly c → RestOnly x → merge_terms c x ≡ some d → RestOnly d
  unfolding added
  merge_terms_only c x d h k m = subst RestOnly (merge_terms_some c x d m).1 h

  times_only : (μ : ℕ) (z : ℤ) (t : Tree) → Only t → Only (coefficient_times μ z t).0
  unfolding coefficient_times of_list
  times_only μ z (integer ν y) h = tt
  times_only μ z (symbol ν s) h = (tt, (h, tt))
  times_only μ z (sum ν f) h = (tt, (h, tt))
  times_only μ z (product ν f) h = only_list (to_list f ++ (integer μ z ∷ [])) (all_append Only (to_list f) (integer μ z ∷ []) (list_only f h) (tt, tt))
  times_only μ z (power ν b ξ e) h = (tt, (h, tt))

  from_term_only : (c : Term) → RestOnly c → Only (from_term c).0
  unfolding from_term times_unless
  from_term_only c h = go (eq_z c.coefficient (pos 1))
    where
      go : (b : Bool) → Only (times_unless b c).0
      go true = marked_only c.mark c.rest h
      go false = times_only c.mark c.coefficient c.rest h

  like_terms_only : (t : Tree) → Only t → TriedOnly (combine_like_terms t)
  unfolding combine_like_terms
  like_terms_only = on_sum_only _
      (λ μ. combine_only (sum_of μ) term_of merge_terms from_term RestOnly (sum_of_only μ) term_only merge_terms_only from_term_only)

  -- ---- step 6: the base of a factor
  abbrev BaseOnly : Factor → Type 0
  BaseOnly c = Only c.base

  factor_only : (t : Tree) → Only t → BaseOnly (factor_of t)
  unfolding factor_of factor
  factor_only (integer μ z) h = tt
  factor_only (symbol μ s) h = h
  factor_only (sum μ f) h = h
  factor_only (product μ f) h = h
  factor_only (power μ b ξ e) h = h

  merge_factors_only : (c x d : Factor) → BaseOnly c → BaseOnly x → merge_factors c x ≡ some d → BaseOnly d
  unfolding times_bases add_exponents
  merge_factors_only c x d h k m = go (merge_factors_some c x d m)
    where
      go : {d : Factor} → Merged c x d → BaseOnly d
      go (by_bases a b e) = tt
      go (by_exponents e a) = h

  from_factor_only : (c : Factor) → BaseOnly c → Only (from_factor c).0
  unfolding from_factor power_unless
  from_factor_only c h = go (eqb c.exponent 1)
    where
      go : (b : Bool) → Only (power_unless b c).0
      go true = marked_only c.mark c.base h
      go false = h

  like_factors_only : (t : Tree) → Only t → TriedOnly (combine_like_factors t)
  unfolding combine_like_factors
  like_factors_only =
      on_product_only _
      (λ μ. combine_only (product_of μ) factor_of merge_factors from_factor BaseOnly (product_of_only μ) factor_only merge_factors_only from_factor_only)

  -- ---- steps 7, 8 and 9
  power_one_only : (t : Tree) → Only t → TriedOnly (power_one t)
  unfolding power_one
  power_one_only = on_power_only _ (λ μ b ξ e h. applies_only (eqb e 1) b h)

  power_constant_only : (t : Tree) → Only t → TriedOnly (power_constant t)
  unfolding power_constant
  power_constant_only = on_power_only _ (λ μ b ξ e h. applies_only (is_the (pos 0) b || is_the (pos 1) b) (marked μ b) (marked_only μ b h))

  power_power_only : (t : Tree) → Only t → TriedOnly (power_power t)
  unfolding power_power raised_if
  power_power_only = on_power_only _ (λ μ b ξ f h. on_power_only _ (λ ν c ζ e k. raised (ltb (e * f) (2 ^ 63)) μ c ξ (e * f) k) b h)
    where
      raised : (x : Bool) (μ : ℕ) (c : Tree) (ξ n : ℕ) → Only c → TriedOnly (raised_if x μ c ξ n)
      raised true μ c ξ n k = k
      raised false μ c ξ n k = tt

  one_brings : All Brings edition_one
  unfolding edition_one
  one_brings = (add_zero_only, (like_terms_only, (multiply_zero_only, (multiply_one_only, (like_factors_only, tt)))))

  two_brings : All Brings edition_two
  unfolding edition_two
  two_brings = all_append Brings edition_one _ one_brings (power_one_only, (power_constant_only, (power_power_only, tt)))

  edition_brings : (ed : ℕ) → All Brings (rules_of ed)
  unfolding rules_of
  edition_brings ed = go (eqb ed 2)
    where
      go : (b : Bool) → All Brings (cond b edition_two edition_one)
      go true = two_brings
      go false = one_brings

  -- ---- the driver
  abbrev AskedOnly : Asked → Type 0
  AskedOnly no_rule = Unit {0}
  AskedOnly (step k u) = Only u
  AskedOnly out_of_range = Unit {0}

  ask_only : (rs : List Rule) → All Brings rs → (t : Tree) → Only t → AskedOnly (ask rs t)
  unfolding ask
  ask_only [] b t h = tt
  ask_only (r ∷ rs) b t h = go (r.try t) (b.0 t h) (ask_only rs b.1 t h)
    where
      go : (a : Tried) → TriedOnly a → AskedOnly (ask rs t)
          → AskedOnly (elim a [ does_not_apply ↦ ask rs t | applies u ↦ step r.number u | range_exceeded ↦ out_of_range ])
      go does_not_apply p k = k
      go (applies u) p k = p
      go range_exceeded p k = tt

  abbrev RanOnly : Ran → Type 0
  RanOnly (done u s o n) = Only u
  RanOnly (over k) = Unit {0}

  abbrev RansOnly : Rans → Type 0
  RansOnly (dones l s o n) = All Only l
  RansOnly (overs k) = Unit {0}

  after_only : (s : List ℕ) (o n : ℕ) (r : Ran) → RanOnly r → RanOnly (after s o n r)
  unfolding after
  after_only s o n (done u s' o' n') h = h
  after_only s o n (over k) h = tt

  then_only : (r : Ran) (rs : Rans) → RanOnly r → RansOnly rs → RansOnly (and_then r rs)
  unfolding and_then
  then_only (over k) rs h i = tt
  then_only (done t s o n) (overs k) h i = tt
  then_only (done t s o n) (dones l s' o' n') h i = (h, i)

  members_only : (t : Tree) → Only t → All Only (members t)
  unfolding members
  members_only (integer μ z) h = tt
  members_only (symbol μ s) h = tt
  members_only (sum μ f) h = list_only f h
  members_only (product μ f) h = list_only f h
  members_only (power μ b ξ e) h = (h, (tt, tt))

  -- gathering: what is opened are members
  module _ (inside : Tree → Option (List Tree)) (within : (t : Tree) (l : List Tree) → inside t ≡ some l → Only t → All Only l) where
    opened_only : (l : List Tree) → All Only l → All Only (opened inside l).0
    unfolding opened open_one
    opened_only [] h = tt
    opened_only (t ∷ l) h = go (inside t) refl (opened_only l h.1)
      where
        go : (i : Option (List Tree)) → inside t ≡ i → All Only (opened inside l).0 → All Only (open_one i t (opened inside l)).0
        go none e k = (h.0, k)
        go (some m) e k = all_append Only m (opened inside l).0 (within t m e h.0) k

  within_sum : (t : Tree) (l : List Tree) → as_sum t ≡ some l → Only t → All Only l
  unfolding as_sum
  within_sum (integer μ z) l e h = absurd (none-ne-some l e)
  within_sum (symbol μ s) l e h = absurd (none-ne-some l e)
  within_sum (sum μ f) l e h = subst (All Only) (some-injective (to_list f) l e) (list_only f h)
  within_sum (product μ f) l e h = absurd (none-ne-some l e)
  within_sum (power μ b ξ n) l e h = absurd (none-ne-some l e)

  within_product : (t : Tree) (l : List Tree) → as_product t ≡ some l → Only t → All Only l
  unfolding as_product
  within_product (integer μ z) l e h = absurd (none-ne-some l e)
  within_product (symbol μ s) l e h = absurd (none-ne-some l e)
  within_product (sum μ f) l e h = absurd (none-ne-some l e)
  within_product (product μ f) l e h = subst (All Only) (some-injective (to_list f) l e) (list_only f h)
  within_product (power μ b ξ n) l e h = absurd (none-ne-some l e)

  gather_only : (t : Tree) (l : List Tree) → Only t → All Only l → Only (gather t l).0
  unfolding gather base_from
  gather_only (integer μ z) l h k = tt
  gather_only (symbol μ s) l h k = h
  gather_only (sum μ f) l h k = only_list (opened as_sum l).0 (opened_only as_sum within_sum l k)
  gather_only (product μ f) l h k = only_list (opened as_product l).0 (opened_only as_product within_product l k)
  gather_only (power μ b ξ e) [] h k = h
  gather_only (power μ b ξ e) (u ∷ l) h k = k.0

  module _ (again : Tree → Ran) (so : (t : Tree) → Only t → RanOnly (again t)) where
    each_only : (l : List Tree) → All Only l → RansOnly (each again l)
    unfolding each
    each_only [] h = tt
    each_only (t ∷ l) h = then_only (again t) (each again l) (so t h.0) (each_only l h.1)

    settle_only : (s : List ℕ) (o n : ℕ) (t : Tree) (b : Bool) → Only t → RanOnly (settle again s o n t b)
    unfolding settle
    settle_only s o n t true h = h
    settle_only s o n t false h = after_only s o n (again t) (so t h)

    gathered_only : (t : Tree) → Only t → (r : Rans) → RansOnly r → RanOnly (gathered again t r)
    unfolding gathered
    gathered_only t h (overs k) q = tt
    gathered_only t h (dones l s o n) q = settle_only s _ n (gather t l).0 _ (gather_only t l h q)

    visit_only : (t : Tree) → Only t → (a : Asked) → AskedOnly a → RanOnly (visit again t a)
    unfolding visit
    visit_only t h (step k u) q = after_only (k ∷ []) 0 0 (again u) (so u q)
    visit_only t h out_of_range q = tt
    visit_only t h no_rule q = gathered_only t h (each again (members t)) (each_only (members t) (members_only t h))

  run_only : (rs : List Rule) → All Brings rs → (n : ℕ) (t : Tree) → Only t → RanOnly (run rs n t)
  unfolding run tried
  run_only rs b zero t h = h
  run_only rs b (suc n) t h = after_only [] 0 1 _ (visit_only (λ u. run rs n u) (λ u k. run_only rs b n u k) t h (ask rs t) (ask_only rs b t h))

-- a symbol that stands in the result of a run stands in the tree that was simplified
pub result_symbols : (ed : ℕ) (t u : Tree) (ks : List ℕ) (o n : ℕ) → simplify (rules_of ed) t ≡ done u ks o n → (s : ℕ) → Stands s u → Stands s t
unfolding simplify
result_symbols ed t u ks o n e =
    let P : ℕ → Type 0 = λ s. Stands s t in
    only_stands P u (subst (RanOnly P) e (run_only P (rules_of ed) (edition_brings P ed) (weight t) t (stands_only P t (λ s i. i))))
