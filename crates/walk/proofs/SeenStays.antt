-- What tells in a table that a member stays: a coefficient by its record; a product by its members one after the other, where the first
-- is an integer or none but the last may be; a power by the record of its exponent. By cases on the trees, which their first records tell.
use Rattle.std.proofs.Common.{◌≡◌, ℕ, ◌+◌, ◌-◌, ◌*◌, ◌<◌, ◌≤◌, Bool, true, false, cond, not, ◌&&◌, eqb, ltb, List, length, ℤ, pos, sym, refl, ap, ◌∙◌}
use Rattle.std.proofs.Common.{subst, arith, eq-eqb, eqb-true}
use Rattle.paper.specs.Bytes.{signed, word}
use Rattle.paper.specs.Record.{kind, count_in, mark_in, bits}
use Rattle.paper.specs.Standing.{kind_number}
use Rattle.paper.specs.Tree.{Tree, Forest, integer, symbol, sum, product, power, nil, cons, count, mark_of, records, to_list}
use Rattle.paper.specs.WellFormed.{InRange}
use Rattle.paper.specs.Equal.{eq_z}
use Rattle.paper.proofs.EncodeLaws.{signed_word}
use Rattle.paper.proofs.Tests.{both_ways, eq_z_true, eq_z_self}
use Rattle.note.specs.Noted.{bits_by}
use Rattle.note.proofs.ToldLaws.{kind_number_lem, mark_number, bits_number, record_within, FirstOf, first_of, none_of}
use Rattle.note.proofs.ToldLaws.{product_trees, power_parts, power_tree, exponent_tree, exponent_mark}
use Rattle.split.specs.Standing.{Told, ToldTrees}
use Rattle.walk.specs.Stays.{is_coefficient, is_integer, is_other_rest, first_stays, last_stays, product_stays, term_stays, factor_stays}

-- ---- by the kind of the first record
module _ {how : Tree → ℕ} {s : List ℕ} {i : ℕ} where
  pub integer_at : (t : Tree) → Told how s i t → kind s i < 1 → (is_integer t ≡ true) × (records t ≡ 1) × (is_other_rest t ≡ false)
  unfolding kind_number is_integer records is_other_rest
  integer_at (integer μ z) h k = (refl, refl, refl)
  integer_at (symbol μ v) h k = absurd (omega (arith, kind_number_lem h))
  integer_at (sum μ f) h k = absurd (omega (arith, kind_number_lem h))
  integer_at (product μ f) h k = absurd (omega (arith, kind_number_lem h))
  integer_at (power μ b ξ e) h k = absurd (omega (arith, kind_number_lem h))

  pub other_at : (t : Tree) → Told how s i t → 0 < kind s i → (is_integer t ≡ false) × ((μ : ℕ) → is_coefficient μ t ≡ false)
  unfolding kind_number is_integer is_coefficient
  other_at (integer μ z) h k = absurd (omega (arith, kind_number_lem h))
  other_at (symbol μ v) h k = (refl, λ ν. refl)
  other_at (sum μ f) h k = (refl, λ ν. refl)
  other_at (product μ f) h k = (refl, λ ν. refl)
  other_at (power μ b ξ e) h k = (refl, λ ν. refl)

  pub product_at : (t : Tree) → Told how s i t → kind s i ≡ 3 → is_other_rest t ≡ false
  unfolding kind_number is_other_rest
  product_at (integer μ z) h k = refl
  product_at (symbol μ v) h k = absurd (omega (arith, kind_number_lem h))
  product_at (sum μ f) h k = absurd (omega (arith, kind_number_lem h))
  product_at (product μ f) h k = refl
  product_at (power μ b ξ e) h k = absurd (omega (arith, kind_number_lem h))

  pub rest_at : (t : Tree) → Told how s i t → 0 < kind s i → (kind s i ≡ 3 → ⊥) → is_other_rest t ≡ true
  unfolding kind_number is_other_rest
  rest_at (integer μ z) h k o = absurd (omega (arith, kind_number_lem h))
  rest_at (symbol μ v) h k o = refl
  rest_at (sum μ f) h k o = refl
  rest_at (product μ f) h k o = absurd (o (kind_number_lem h))
  rest_at (power μ b ξ e) h k o = refl

-- ---- a coefficient
one_word : (z : ℤ) → InRange z → eq_z z (pos 1) ≡ eqb (word z) 1
unfolding word
one_word z r =
    both_ways (eq_z z (pos 1)) (eqb (word z) 1)
    (λ e. eq-eqb (word z) 1 (ap word (eq_z_true z (pos 1) e)))
    (λ e. ap (λ y. eq_z y (pos 1)) (sym (signed_word z r) ∙ ap signed (eqb-true (word z) 1 e)) ∙ eq_z_self (pos 1))

pub coefficient_at : {how : Tree → ℕ} {s : List ℕ} {i : ℕ} (μ : ℕ) (t : Tree) → Told how s i t → kind s i < 1
    → is_coefficient μ t ≡ (not (eqb (bits s i) 1) && eqb (mark_in s i) μ)
unfolding kind_number is_coefficient bits_by mark_of
coefficient_at μ (integer ν z) h k = rw (one_word z h.wf.0, bits_number h, mark_number h) refl
coefficient_at μ (symbol ν v) h k = absurd (omega (arith, kind_number_lem h))
coefficient_at μ (sum ν f) h k = absurd (omega (arith, kind_number_lem h))
coefficient_at μ (product ν f) h k = absurd (omega (arith, kind_number_lem h))
coefficient_at μ (power ν b ξ e) h k = absurd (omega (arith, kind_number_lem h))

-- ---- no integer but the last: what is told of the members f is told of those that are left
pub record Seeking (how : Tree → ℕ) (s : List ℕ) (three : Bool) (μ : ℕ) (f : Forest) (at left : ℕ) : Type 0 where
  pub others : Forest
  pub same : last_stays three μ (to_list f) ≡ last_stays three μ (to_list others)
  pub stand : ToldTrees how s at left others

pub seeking_begins : {how : Tree → ℕ} {s : List ℕ} {i : ℕ} {μ : ℕ} {f : Forest} (three : Bool) → Told how s i (product μ f)
    → Seeking how s three μ f (i + 1) (count_in s i)
seeking_begins {f = f} three h = record { others = f; same = refl; stand = product_trees h }

last_cons : (three : Bool) (μ : ℕ) (t : Tree) (g : Forest) → 1 ≤ count g
    → last_stays three μ (to_list (cons t g)) ≡ cond (is_integer t) false (last_stays three μ (to_list g))
unfolding last_stays to_list count
last_cons three μ t nil l = absurd (omega arith)
last_cons three μ t (cons u g) l = refl

module _ {how : Tree → ℕ} {s : List ℕ} {three : Bool} {μ : ℕ} {f : Forest} {at left : ℕ} (v : Seeking how s three μ f at left) where
  abbrev pub member : 1 ≤ left → FirstOf how s at left v.others
  member l = first_of v.others v.stand l

  module _ (l : 1 < left) where
    next : last_stays three μ (to_list f)
        ≡ cond (is_integer (member (omega arith)).tree) false (last_stays three μ (to_list (member (omega arith)).others))
    next =
        let m = member (omega arith) in
        v.same ∙ ap (λ g. last_stays three μ (to_list g)) m.whole ∙ last_cons three μ m.tree m.others (omega (arith, m.after.counted))

    pub seeking_stops : kind s at < 1 → last_stays three μ (to_list f) ≡ false
    seeking_stops k =
        let m = member (omega arith) in
        next ∙ ap (λ i. cond i false (last_stays three μ (to_list m.others))) (integer_at m.tree m.there k).0

    pub seeking_more : 0 < kind s at → (next : ℕ) → ((t : Tree) → Told how s at t → next ≡ at + records t) → Seeking how s three μ f next (left - 1)
    seeking_more k n e =
        let m = member (omega arith) in
        record {
          others = m.others;
          same = next ∙ ap (λ i. cond i false (last_stays three μ (to_list m.others))) (other_at m.tree m.there k).0;
          stand = subst (λ a. ToldTrees how s a (left - 1) m.others) (sym (e m.tree m.there)) m.after;
        }

  module _ (l : left ≡ 1) where
    abbrev pub last : FirstOf how s at left v.others
    last = member (omega arith)

    pub seeking_ends : last_stays three μ (to_list f) ≡ cond (is_integer last.tree) (three && is_coefficient μ last.tree) true
    unfolding last_stays to_list
    seeking_ends =
        v.same
        ∙ ap (λ g. last_stays three μ (to_list g)) (last.whole ∙ ap (cons last.tree) (none_of last.others last.after (omega arith)))

-- ---- a product, by its first member
by_cons : (μ : ℕ) (f : Forest) (t : Tree) (g : Forest) → f ≡ cons t g
    → product_stays μ (to_list f) ≡ cond (is_integer t) (first_stays μ t (to_list g)) (last_stays (ltb 2 (length (to_list f))) μ (to_list f))
unfolding product_stays to_list
by_cons μ f t g e =
    ap (λ k. product_stays μ (to_list k)) e
    ∙ ap (λ k. cond (is_integer t) (first_stays μ t (to_list g)) (last_stays (ltb 2 (length (to_list k))) μ (to_list k))) (sym e)

module _ {how : Tree → ℕ} {s : List ℕ} {i : ℕ} {μ : ℕ} {f : Forest} (h : Told how s i (product μ f)) where
  abbrev pub head : FirstOf how s (i + 1) (count_in s i) f
  head = let m = product_trees h in first_of f m (omega (arith, m.counted, h.wf.0))

  pub second : FirstOf how s (i + 1 + records head.tree) (count_in s i - 1) head.others
  second = let m = product_trees h in first_of head.others head.after (omega (arith, m.counted, h.wf.0))

  by_first : {b : Bool} → is_integer head.tree ≡ b
      → product_stays μ (to_list f) ≡ cond b (first_stays μ head.tree (to_list head.others)) (last_stays (ltb 2 (length (to_list f))) μ (to_list f))
  by_first e =
      by_cons μ f head.tree head.others head.whole
      ∙ ap (λ b. cond b (first_stays μ head.tree (to_list head.others)) (last_stays (ltb 2 (length (to_list f))) μ (to_list f))) e

  pub no_first : 0 < kind s (i + 1) → product_stays μ (to_list f) ≡ last_stays (ltb 2 (length (to_list f))) μ (to_list f)
  no_first k = by_first (other_at head.tree head.there k).0

  module _ (k : kind s (i + 1) < 1) where
    with_first_lem : product_stays μ (to_list f) ≡ first_stays μ head.tree (to_list head.others)
    with_first_lem = by_first (integer_at head.tree head.there k).0

    -- the second member stands two records after the product's
    pub second_there : Told how s (i + 2) second.tree
    second_there =
        subst (λ a. Told how s a second.tree) (omega (arith, (integer_at head.tree head.there k).1)) second.there

    pub too_many : 2 < count_in s i → product_stays μ (to_list f) ≡ false
    unfolding first_stays to_list
    too_many n =
        let third = first_of second.others second.after (omega (arith)) in
        with_first_lem ∙ ap (λ g. first_stays μ head.tree (to_list g)) (second.whole ∙ ap (cons second.tree) third.whole)

    pub two_stay : count_in s i ≤ 2 → product_stays μ (to_list f) ≡ (is_other_rest second.tree && is_coefficient μ head.tree)
    unfolding first_stays to_list
    two_stay n =
        let m = product_trees h in
        with_first_lem
        ∙ ap (λ g. first_stays μ head.tree (to_list g))
        (second.whole ∙ ap (cons second.tree) (none_of second.others second.after (omega (arith, m.counted, h.wf.0))))

-- ---- a member of a sum, and of a product
module _ {how : Tree → ℕ} {s : List ℕ} {i : ℕ} where
  pub term_stays_lem : (t : Tree) → Told how s i t → (kind s i ≡ 3 → ⊥) → term_stays t ≡ true
  unfolding kind_number term_stays
  term_stays_lem (integer μ z) h o = refl
  term_stays_lem (symbol μ v) h o = refl
  term_stays_lem (sum μ f) h o = refl
  term_stays_lem (product μ f) h o = absurd (o (kind_number_lem h))
  term_stays_lem (power μ b ξ e) h o = refl

  pub factor_stays_lem : (t : Tree) → Told how s i t → (kind s i ≡ 4 → ⊥) → factor_stays t ≡ true
  unfolding kind_number factor_stays
  factor_stays_lem (integer μ z) h o = refl
  factor_stays_lem (symbol μ v) h o = refl
  factor_stays_lem (sum μ f) h o = refl
  factor_stays_lem (product μ f) h o = refl
  factor_stays_lem (power μ b ξ e) h o = absurd (o (kind_number_lem h))

-- the exponent of a power, in the record j after its base
pub record ExponentIn (s : List ℕ) (i j : ℕ) (t : Tree) : Type 0 where
  pub within : j * 16 + 16 ≤ length s
  pub tells : factor_stays t ≡ (not (eqb (bits s j) 1) && eqb (mark_in s j) (mark_in s i))

pub power_stays : {how : Tree → ℕ} {s : List ℕ} {i : ℕ} (t : Tree) → Told how s i t → kind s i ≡ 4 → (j : ℕ)
    → ((b : Tree) → Told how s (i + 1) b → j ≡ i + 1 + records b) → ExponentIn s i j t
unfolding kind_number factor_stays mark_of
power_stays (integer μ z) h k j e = absurd (omega (arith, kind_number_lem h))
power_stays (symbol μ v) h k j e = absurd (omega (arith, kind_number_lem h))
power_stays (sum μ f) h k j e = absurd (omega (arith, kind_number_lem h))
power_stays (product μ f) h k j e = absurd (omega (arith, kind_number_lem h))
power_stays {s = s} {i = i} (power μ b ξ n) h k j e =
    let here = e b (power_tree h) in
    let number : bits s j ≡ n = ap (bits s) here ∙ (power_parts h).exponent_bits in
    let mark : mark_in s j ≡ ξ = ap (mark_in s) here ∙ exponent_mark h in
    record {
      within = omega (arith, record_within (exponent_tree h));
      tells = rw (number, mark, mark_number h) refl;
    }
