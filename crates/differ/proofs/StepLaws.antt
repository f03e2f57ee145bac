-- The walk without recursion. What is ahead of it is as many trees in one table as in the other, from a record of each on, and their pairs in
-- step. Where the first two agree they give way to their members; where they do not they are a pair, and are passed by. Where no record of
-- the first table is left no tree is, and so no pair.
use Prim.Native.Nat.{ℕ, ◌+◌, ◌*◌, ◌/◌, ◌<◌, ◌≤◌}
use mathlib.Core.Path.{◌≡◌, refl, sym, ap, ap₂, ◌∙◌}
use mathlib.Core.Bool.{true, false}
use mathlib.Core.List.{List, [], ◌∷◌, ◌++◌, append-nil, append_assoc}
use native.Mathlib.Nat.{add_assoc}
use native.Mathlib.Omega.{arith}
use lib.ListN.{length, drop, length-append}
use lib.IntN.{pos}
use Rattle.paper.specs.Tree.{Tree, Forest, integer, symbol, sum, product, power, count, records, to_list, of_list}
use Rattle.paper.specs.WellFormed.{WFs}
use Rattle.paper.specs.Table.{encode, encodes}
use Rattle.paper.specs.Standing.{TreeIn, TreesIn}
use Rattle.paper.specs.Driver.{members}
use Rattle.paper_differ.specs.Differ.{alike, or_pair, differences, differences_of}
use Rattle.paper.proofs.WFLaws.{list_count, of_to_list}
use Rattle.paper.proofs.EncodeLaws.{encodes_length, records_pos, recordses_append}
use Rattle.paper.proofs.Stands.{stands_both}
use Rattle.paper.proofs.StandingLaws.{sum_trees, product_trees, power_parts, power_tree, first_tree, other_trees}
use Rattle.paper_differ.proofs.DifferLaws.{steps, records_all, records_first, differ_node, alike_view, as_many}
use Rattle.differ.specs.Together.{Together}

-- ---- trees one after the other, as a list
wf_both : (l m : List Tree) → WFs (of_list l) → WFs (of_list m) → WFs (of_list (l ++ m))
unfolding of_list
wf_both [] m v w = w
wf_both (t ∷ l) m v w = (v.0, wf_both l m v.1 w)

encodes_both : (l m : List Tree) → encodes (of_list (l ++ m)) ≡ encodes (of_list l) ++ encodes (of_list m)
unfolding encode of_list
encodes_both [] m = refl
encodes_both (t ∷ l) m =
    ap (λ (x : List ℕ). encode t ++ x) (encodes_both l m) ∙ sym (append_assoc (encode t) (encodes (of_list l)) (encodes (of_list m)))

-- the trees l stand one after the other from record i of the table s on
abbrev ListIn : List ℕ → ℕ → List Tree → Type 0
ListIn s i l = TreesIn s i (length l) (of_list l)

module _ {s : List ℕ} {i : ℕ} where
  both_in : (l m : List Tree) → ListIn s i l → ListIn s (i + records_all l) m → records_all l + records_all m < 65536 → ListIn s i (l ++ m)
  both_in l m h g few =
      record {
        counted = list_count (l ++ m);
        wf = wf_both l m h.wf g.wf;
        few = omega (arith, recordses_append l m, few);
        stand =
            let e = encodes_both l m in
            rw e
            (stands_both (encodes (of_list l)) (encodes (of_list m)) (records_all l) (encodes_length (of_list l))
            h.stand g.stand);
      }

  none_in : ListIn s i []
  unfolding of_list encode records count
  none_in = record { counted = refl; wf = tt; few = omega arith; stand = record { after = drop (i * 16) s; there = refl } }

  forest_in : {n : ℕ} (f : Forest) → TreesIn s i n f → ListIn s i (to_list f)
  forest_in f h =
      let e = of_to_list f in
      record { counted = list_count (to_list f); wf = rw e h.wf; few = rw e h.few; stand = rw e h.stand }

  first_in_lem : (t : Tree) (l : List Tree) → ListIn s i (t ∷ l) → TreeIn s i t
  unfolding of_list
  first_in_lem t l h = first_tree h

  others_in : (t : Tree) (l : List Tree) → ListIn s i (t ∷ l) → ListIn s (i + records t) l
  unfolding of_list
  others_in t l h = let o = other_trees h in record { counted = list_count l; wf = o.wf; few = o.few; stand = o.stand }

  one_in : {t : Tree} → TreeIn s i t → ListIn s i (t ∷ [])
  unfolding of_list encode records count
  one_in {t} h =
      record {
        counted = refl;
        wf = (h.wf, tt);
        few = omega (arith, h.few);
        stand = rw (append-nil (encode t)) h.stands;
      }

-- where a tree stands its members do
exponent_tree : {s : List ℕ} {i μ : ℕ} (b : Tree) (ξ e : ℕ) → TreeIn s i (power μ b ξ e) → TreeIn s (i + 1 + records b) (integer ξ (pos e))
unfolding records
exponent_tree b ξ e h = let p = power_parts h in record { wf = (p.most, h.wf.4); few = omega arith; stands = p.exponent }

members_in_lem : {s : List ℕ} {i : ℕ} (t : Tree) → TreeIn s i t → ListIn s (i + 1) (members t)
unfolding members records of_list
members_in_lem (integer μ z) h = none_in
members_in_lem (symbol μ v) h = none_in
members_in_lem (sum μ f) h = forest_in f (sum_trees h)
members_in_lem (product μ f) h = forest_in f (product_trees h)
members_in_lem {s} {i} (power μ b ξ e) h = base_exponent (power_tree h) (exponent_tree b ξ e h) h.few
  where
    base_exponent : TreeIn s (i + 1) b → TreeIn s (i + 1 + records b) (integer ξ (pos e)) → records (power μ b ξ e) < 65536
        → ListIn s (i + 1) (b ∷ integer ξ (pos e) ∷ [])
    base_exponent g x few =
        let place : i + 1 + records b ≡ i + 1 + (records b + 0) = omega arith in
        both_in (b ∷ []) (integer ξ (pos e) ∷ []) (one_in g) (rw place at (one_in x)) (omega (arith, few))

-- ---- pairs of trees in step, before and after
steps_both : (l m p q : List Tree) (i j : ℕ) → length l ≡ length m
    → steps (l ++ p) (m ++ q) i j ≡ steps l m i j ++ steps p q (i + records_all l) (j + records_all m)
unfolding steps records of_list
steps_both [] [] p q i j n = ap₂ (steps p q) (omega arith) (omega arith)
steps_both [] (u ∷ m) p q i j n = absurd (omega arith)
steps_both (t ∷ l) [] p q i j n = absurd (omega arith)
steps_both (t ∷ l) (u ∷ m) p q i j same =
    let k = i + records t in
    let n = j + records u in
    let ds = steps l m k n in
    ap (λ (x : List (ℕ × ℕ)). differences t u i j ++ x)
    (steps_both l m p q k n (omega arith)
    ∙ ap₂ (λ x y. ds ++ steps p q x y) (add_assoc i (records t) (records_all l)) (add_assoc j (records u) (records_all m)))
    ∙ sym (append_assoc (differences t u i j) ds _)

-- ---- what is ahead, at record i of a and record j of b: the pairs ds
pub record Ahead (a b : List ℕ) (i j : ℕ) (ds : List (ℕ × ℕ)) : Type 0 where
  pub fs : List Tree
  pub gs : List Tree
  pub as_long : length fs ≡ length gs
  pub one : ListIn a i fs
  pub other : ListIn b j gs
  pub ends : 16 * (i + records_all fs) ≡ length a
  pub todo : ds ≡ steps fs gs i j

module _ {a b : List ℕ} where
  pub ahead_start : Together a b → Ahead a b 0 0 (differences_of a b)
  unfolding steps records of_list
  ahead_start h =
      record {
        fs = h.one ∷ [];
        gs = h.other ∷ [];
        as_long = refl;
        one = one_in h.one_there;
        other = one_in h.other_there;
        ends = omega (arith, h.whole);
        todo = h.theirs ∙ sym (append-nil (differences h.one h.other 0 0));
      }

-- the first two trees, and what is ahead of the walk behind them
pub record Next (a b : List ℕ) (i j : ℕ) (ds : List (ℕ × ℕ)) : Type 0 where
  pub t : Tree
  pub u : Tree
  pub one : TreeIn a i t
  pub other : TreeIn b j u
  pub past : List (ℕ × ℕ)
  pub both : ds ≡ differences t u i j ++ past
  pub after : Ahead a b (i + records t) (j + records u) past
  pub one_few : records t + records_all after.fs < 65536
  pub other_few : records u + records_all after.gs < 65536

module _ {a b : List ℕ} {i j : ℕ} {ds : List (ℕ × ℕ)} where
  -- where a record is left, two trees are
  pub ahead_next : Ahead a b i j ds → i < length a / 16 → Next a b i j ds
  unfolding steps records of_list
  ahead_next h l = go h.fs h.gs h.as_long h.one h.other h.ends h.todo
    where
      go : (fs gs : List Tree) → length fs ≡ length gs → ListIn a i fs → ListIn b j gs → 16 * (i + records_all fs) ≡ length a
          → ds ≡ steps fs gs i j → Next a b i j ds
      go [] gs n f g e d = absurd (omega arith)
      go (t ∷ fs) [] n f g e d = absurd (omega arith)
      go (t ∷ fs) (u ∷ gs) n f g e d =
          record {
            t = t;
            u = u;
            one = first_in_lem t fs f;
            other = first_in_lem u gs g;
            past = steps fs gs (i + records t) (j + records u);
            both = d;
            after =
                record {
                  fs = fs;
                  gs = gs;
                  as_long = omega arith;
                  one = others_in t fs f;
                  other = others_in u gs g;
                  ends = omega arith;
                  todo = refl;
                };
            one_few = omega (arith, f.few);
            other_few = omega (arith, g.few);
          }

  -- where none is, no pair is
  pub ahead_done : Ahead a b i j ds → length a / 16 ≤ i → ds ≡ []
  unfolding steps records of_list
  ahead_done h l = go h.fs h.ends h.todo
    where
      go : (fs : List Tree) → 16 * (i + records_all fs) ≡ length a → ds ≡ steps fs h.gs i j → ds ≡ []
      go [] e d = d
      go (t ∷ fs) e d = absurd (omega (arith, records_pos t))

  -- "Where kind, count and number agree it goes on to the members"
  pub turn_alike : (n : Next a b i j ds) → alike n.t n.u ≡ true → Ahead a b (i + 1) (j + 1) ds
  unfolding or_pair
  turn_alike n e =
      let k = n.after in
      let r = records_first n.t in
      let q = records_first n.u in
      let x : i + records n.t ≡ i + 1 + records_all (members n.t) = omega arith in
      let y : j + records n.u ≡ j + 1 + records_all (members n.u) = omega arith in
      let many = as_many (alike_view n.t n.u e) in
      let inside = rw e at (differ_node n.t n.u i j) in
      record {
        fs = members n.t ++ k.fs;
        gs = members n.u ++ k.gs;
        as_long = simp length-append (omega (arith, many, k.as_long));
        one = both_in (members n.t) k.fs (members_in_lem n.t n.one) (rw x at k.one) (omega (arith, n.one_few));
        other = both_in (members n.u) k.gs (members_in_lem n.u n.other) (rw y at k.other) (omega (arith, n.other_few));
        ends = omega (arith, recordses_append (members n.t) k.fs, k.ends);
        todo =
            n.both ∙ ap₂ (λ (p q : List (ℕ × ℕ)). p ++ q) inside (k.todo ∙ ap₂ (steps k.fs k.gs) x y)
            ∙ sym (steps_both (members n.t) (members n.u) k.fs k.gs (i + 1) (j + 1) many);
      }

  -- "where they do not it reports the pair of record numbers and goes no deeper"
  pub turn_unlike : (n : Next a b i j ds) → alike n.t n.u ≡ false → ds ≡ (i, j) ∷ n.past
  unfolding or_pair
  turn_unlike n e = n.both ∙ ap (λ (p : List (ℕ × ℕ)). p ++ n.past) (rw e at (differ_node n.t n.u i j))
