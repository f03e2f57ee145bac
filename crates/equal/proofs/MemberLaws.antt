-- The members that are matched stand behind a tree's record: those of a sum or a product, the base of a power, none of a leaf. Two trees that
-- begin alike are equal where these are the same multiset and, of powers, the exponents agree, which stand behind them. By cases on the
-- kind of the trees.
use Prim.Native.Nat.{ℕ, ◌+◌, ◌-◌, ◌*◌, ◌≤◌, ◌<◌}
use mathlib.Core.Path.{◌≡◌, refl, sym, ap, ◌∙◌, subst}
use mathlib.Core.Bool.{Bool, true, false, cond}
use mathlib.Core.List.{List, [], ◌∷◌, append-nil}
use native.Mathlib.Decide.{dec_le}
use native.Mathlib.Omega.{arith}
use borrow.Author.Tests.{eqb-true, eqb-false, lt-ltb, le-ltb}
use lib.ListN.{drop}
use lib.Dec.{eqb, lit<}
use Rattle.paper.specs.Record.{kind, count_in, bits}
use Rattle.paper.specs.Tree.{Tree, integer, symbol, sum, product, power, nil, cons, count, records, recordses, to_list}
use Rattle.paper.specs.Equal.{remove_first, take_if, keeping, go_on, is_empty, same_bag, equal, on_sum, on_product}
use Rattle.paper.specs.Standing.{Stands, kind_number}
use Rattle.paper.proofs.Tests.{not_so}
use Rattle.paper.proofs.Equality.{matched_bag}
use Rattle.paper.proofs.WFLaws.{count_list}
use Rattle.note.specs.Noted.{encode_by, count_of}
use Rattle.note.specs.Plain.{parts_of, parts_in}
use Rattle.note.proofs.NotedLaws.{kind_lt}
use Rattle.note.proofs.ToldLaws.{seen, seen_sum, seen_product, kind_number_lem, count_number, record_within, sum_trees, product_trees, power_tree}
use Rattle.split.specs.Standing.{Told, ToldTrees}
use Rattle.std.specs.Prelude.{Some, None}
use Rattle.equal.specs.Head.{begin_alike, members_in, past_exponent}
use Rattle.equal.specs.Matching.{match_of, Passable, Comparable, Takeable}
use Rattle.equal.proofs.SameLaws.{Powers, PowersEnd, powers, bases_differ, bases_equal, bag_lengths}
use Rattle.equal.proofs.HeadLaws.{begin_kinds, leaves_alike}

-- ---- where they stand
-- one tree is a row of one
pub alone : {how : Tree → ℕ} {s : List ℕ} {i : ℕ} {t : Tree} → Told how s i t → ToldTrees how s i 1 (cons t nil)
unfolding count records encode_by
alone {how} {s} {i} {t} h =
    record {
      tells = h.tells;
      counted = refl;
      wf = (h.wf, tt);
      few = omega (arith, h.few);
      stand = subst (Stands s i) (sym (append-nil (encode_by how t))) h.stands;
    }

-- and so one can be looked for in another
pub alone_takeable : {a : List ℕ} {i : ℕ} {b : List ℕ} {j room : ℕ} → Comparable a i b j room → (long : ℕ) → long ≡ room → Takeable a i b j 1 long
unfolding records
alone_takeable c long e =
    record {
      how = c.how;
      one = c.one;
      others = cons c.other nil;
      one_there = c.one_there;
      others_there = alone c.other_there;
      enough = omega (arith, c.enough);
    }

module _ {how : Tree → ℕ} {s : List ℕ} {i : ℕ} where
  -- and none is a row anywhere
  no_trees : {t : Tree} → Told how s i t → (n : ℕ) → n ≡ 0 → ToldTrees how s (i + 1) n nil
  unfolding count records encode_by
  no_trees h n e =
      record { tells = h.tells; counted = sym e; wf = tt; few = lit< tt; stand = record { after = drop ((i + 1) * 16) s; there = refl } }

  stand_behind : (t : Tree) → Told how s i t → ToldTrees how s (i + 1) (parts_in s i (kind_number t)) (parts_of t)
  unfolding kind_number parts_of parts_in count_of
  stand_behind (integer μ z) h = no_trees h (count_in s i) (count_number h)
  stand_behind (symbol μ v) h = no_trees h (count_in s i) (count_number h)
  stand_behind (sum μ f) h = sum_trees h
  stand_behind (product μ f) h = product_trees h
  stand_behind (power μ b ξ e) h = alone (power_tree h)

  pub members_there : {t : Tree} → Told how s i t → (n : ℕ) → n ≡ members_in s i → ToldTrees how s (i + 1) n (parts_of t)
  unfolding members_in
  members_there {t} h n e = rw (e, kind_number_lem h) (stand_behind t h)

-- behind them nothing, or the exponent of a power
members_size : (t : Tree) → kind_number t < 4 → records t ≡ 1 + recordses (parts_of t)
unfolding kind_number parts_of records
members_size (integer μ z) l = refl
members_size (symbol μ v) l = refl
members_size (sum μ f) l = refl
members_size (product μ f) l = refl
members_size (power μ b ξ e) l = absurd (omega arith)

pub members_few : (t : Tree) → 1 + recordses (parts_of t) ≤ records t
unfolding parts_of records
members_few (integer μ z) = omega arith
members_few (symbol μ v) = omega arith
members_few (sum μ f) = omega arith
members_few (product μ f) = omega arith
members_few (power μ b ξ e) = omega arith

-- ---- matched
-- the members of two trees are the same multiset
abbrev pub same_members : Tree → Tree → Bool
same_members t u = same_bag equal (to_list (parts_of t)) (to_list (parts_of u))

leaf_members : (t : Tree) → kind_number t < 2 → parts_of t ≡ nil
unfolding kind_number parts_of
leaf_members (integer μ z) l = refl
leaf_members (symbol μ v) l = refl
leaf_members (sum μ f) l = absurd (omega arith)
leaf_members (product μ f) l = absurd (omega arith)
leaf_members (power μ b ξ e) l = absurd (omega arith)

leaves_match : (t u : Tree) → kind_number t < 2 → kind_number u < 2 → same_members t u ≡ true
unfolding same_bag is_empty to_list
leaves_match t u l m = rw (leaf_members t l, leaf_members u m)

-- two members, one of each tree
one_match : (t u : Tree) → same_bag equal (t ∷ []) (u ∷ []) ≡ equal t u
unfolding same_bag go_on remove_first take_if keeping is_empty
one_match t u = by (equal t u) refl
  where
    by : (q : Bool) → equal t u ≡ q → same_bag equal (t ∷ []) (u ∷ []) ≡ equal t u
    by true e = rw e
    by false e = rw e

module _ {how : Tree → ℕ} {a : List ℕ} {i : ℕ} {b : List ℕ} {j : ℕ} {t u : Tree} (h : Told how a i t) (g : Told how b j u)
    (alike : begin_alike a i b j ≡ true) where
  kinds : kind a i ≡ kind b j
  kinds = begin_kinds a i b j alike

  -- ---- no powers: they are equal where their members are
  nodes_match : 2 ≤ kind a i → kind a i < 4 → equal t u ≡ same_members t u
  unfolding kind_number equal on_sum on_product parts_of
  nodes_match l m = by t (kind_number_lem h)
    where
      by : (t : Tree) → kind a i ≡ kind_number t → equal t u ≡ same_members t u
      by (integer μ z) e = absurd (omega arith)
      by (symbol μ v) e = absurd (omega arith)
      by (sum μ f) e = let q = seen_sum (seen g) (sym kinds ∙ e) in rw q.2 (matched_bag f (to_list q.1))
      by (product μ f) e = let q = seen_product (seen g) (sym kinds ∙ e) in rw q.2 (matched_bag f (to_list q.1))
      by (power μ z ξ x) e = absurd (omega arith)

  pub all_match : kind a i < 4 → equal t u ≡ same_members t u
  all_match m = by (dec_le 2 (kind a i))
    where
      by : Dec (2 ≤ kind a i) → equal t u ≡ same_members t u
      by (yes l) = nodes_match l m
      by (no l) =
          (leaves_alike h g alike (omega arith)).0
          ∙ sym (leaves_match t u (omega (arith, kind_number_lem h)) (omega (arith, kind_number_lem g, kinds)))

  -- ---- powers: their bases are matched
  bases : 4 ≤ kind a i → Powers how a i b j t u
  bases l = powers h g kinds (omega (arith, kind_number_lem h, kind_lt t))

  module _ (l : 4 ≤ kind a i) where
    bases_match : same_members t u ≡ equal (bases l).base (bases l).other_base
    unfolding parts_of to_list
    bases_match =
        let p = bases l in
        ap (λ v. same_members v u) p.whole
        ∙ ap (same_members (power p.mark p.base p.exponent_mark p.exponent)) p.other_whole
        ∙ one_match p.base p.other_base

    bases_size : recordses (parts_of t) ≡ records (bases l).base
    unfolding parts_of records
    bases_size = ap (λ v. recordses (parts_of v)) (bases l).whole ∙ omega arith

    bases_end : (e : ℕ) → same_members t u ≡ true → e ≡ i + 1 + recordses (parts_of t) → PowersEnd a i b j t u e
    bases_end e q x = bases_equal h g (bases l) e (sym bases_match ∙ q) (omega (arith, bases_size))

    past_power : (e : ℕ) → PowersEnd a i b j t u e → past_exponent a i b j e ≡ match_of (equal t u) (i + records t)
    unfolding past_exponent
    past_power e p = rw (le-ltb (kind b j) 4 (omega (arith, kinds))) (by (eqb (bits a e) (bits b (j + (e - i)))) refl)
      where
        by : (q : Bool) → eqb (bits a e) (bits b (j + (e - i))) ≡ q → cond q (Some (e + 1)) None ≡ match_of (equal t u) (i + records t)
        by true d = rw (p.yes_if (eqb-true _ _ d)) (ap Some p.size)
        by false d = rw (p.no_if (eqb-false _ _ d)) refl

  -- ---- trees of which the members differ, or are not as many
  pub members_differ : same_members t u ≡ false → equal t u ≡ false
  members_differ q = by (dec_le 4 (kind a i))
    where
      by : Dec (4 ≤ kind a i) → equal t u ≡ false
      by (yes l) = bases_differ h g (bases l) (sym (bases_match l) ∙ q)
      by (no l) = all_match (omega arith) ∙ q

  pub members_fewer : (members_in a i ≡ members_in b j → ⊥) → equal t u ≡ false
  members_fewer n =
      members_differ
      (not_so (same_members t u)
      (λ e. n
      (sym (members_there h (members_in a i) refl).counted
      ∙ bag_lengths (parts_of t) (to_list (parts_of u)) e
      ∙ count_list (parts_of u)
      ∙ (members_there g (members_in b j) refl).counted)))

  -- ---- and where they are the same, ending before record e: what follows is read, and tells where the first tree ends
  module _ (e : ℕ) (q : same_members t u ≡ true) (x : e ≡ i + 1 + recordses (parts_of t)) where
    pub members_passable : Passable a i b j e
    members_passable =
        record {
          within = record_within g;
          ahead = omega arith;
          exponent_within = λ l. (bases_end (omega (arith, kinds)) e q x).one_within;
          other_within = λ l. (bases_end (omega (arith, kinds)) e q x).other_within;
        }

    pub members_end : past_exponent a i b j e ≡ match_of (equal t u) (i + records t)
    unfolding past_exponent
    members_end = by (dec_le 4 (kind a i))
      where
        by : Dec (4 ≤ kind a i) → past_exponent a i b j e ≡ match_of (equal t u) (i + records t)
        by (yes l) = past_power l e (bases_end l e q x)
        by (no l) =
            let y : e ≡ i + records t = omega (arith, members_size t (omega (arith, kind_number_lem h))) in
            rw (lt-ltb (kind b j) 4 (omega (arith, kinds)), all_match (omega arith), q) (ap Some y)
