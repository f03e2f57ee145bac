-- The node of the members that came out of a walk, made in `out`: where it stands, and where the new member stands in it; what a look at both leaves of
-- `work`; and what is said of the node where it is put back, and where it stays. Each is read off what was made.
use Prim.Native.Nat.{ℕ, ◌+◌, ◌-◌, ◌*◌, ◌<◌, ◌≤◌}
use mathlib.Core.Path.{◌≡◌, refl, sym, ap, ◌∙◌, subst}
use mathlib.Core.Bool.{Bool, true, false, ◌&&◌, not}
use mathlib.Core.List.{List, [], ◌∷◌, ◌++◌}
use native.Mathlib.Omega.{arith}
use borrow.Author.Tests.{eq-eqb, ne_eqb, le-leb, lt-leb}
use lib.Dec.{eqb}
use lib.ListN.{length, take, drop}
use lib.Seq.{drop-drop, take-add, take_at}
use Rattle.paper.specs.Tree.{Tree, Forest, integer, symbol, sum, product, power, records, recordses, weight, weights, to_list, of_list}
use Rattle.paper.specs.Standing.{Stands, kind_number}
use Rattle.paper.specs.Record.{kind, count_in, arity}
use Rattle.paper.specs.Driver.{members, opened, gather}
use Rattle.paper.specs.Admits.{openings_at}
use Rattle.paper.proofs.EncodeLaws.{records_weight}
use Rattle.paper.proofs.WFLaws.{count_list}
use Rattle.note.specs.Note.{note}
use Rattle.note.specs.Noted.{encode_by, count_of}
use Rattle.still.specs.Keys.{Scratched}
use Rattle.still.specs.Still.{still_by}
use Rattle.note.proofs.NotedLaws.{encode_by_length}
use Rattle.note.proofs.ToldLaws.{note_tells, told_noted, first_tree, other_trees, sum_trees, product_trees, kind_number_lem, count_number}
use Rattle.split.specs.Standing.{Told, ToldTrees}
use Rattle.stretch.specs.Put.{put, part}
use Rattle.part.specs.Like.{node_of}
use Rattle.std.specs.Prelude.{Option, Some}
use Rattle.walk.specs.Walked.{OneNew, NewAt}
use Rattle.rules.specs.Alike.{step_of, inside_of}
use Rattle.rules.specs.Quiet.{calm, quiet, Looked, Emerged, EmergedIs}
use Rattle.rules.specs.Tried.{Collapsed}
use Rattle.rules.specs.declared.Combined.TheVariants.{Pending, Quiet}
use Rattle.rules.proofs.RuleLaws.{node}
use Rattle.rules.proofs.Puts.{put_back, put_follows}
use Rattle.rules.proofs.Finished.{more_is, quiet_none}

-- ---- a node and its members
module _ (μ : ℕ) (f : Forest) where
  pub node_records : (b : Bool) → records (node b μ f) ≡ 1 + recordses f
  unfolding records
  node_records true = refl
  node_records false = refl

  node_weights : (b : Bool) → weight (node b μ f) ≡ 1 + weights f
  unfolding weight
  node_weights true = refl
  node_weights false = refl

  pub node_members : (b : Bool) → members (node b μ f) ≡ to_list f
  unfolding members
  node_members true = refl
  node_members false = refl

  pub node_openings : (b : Bool) → openings_at (node b μ f) ≡ (opened (inside_of b) (to_list f)).1
  unfolding openings_at gather members
  node_openings true = refl
  node_openings false = refl

  node_trees : (b : Bool) {s : List ℕ} {i : ℕ} → Told note s i (node b μ f) → ToldTrees note s (i + 1) (count_in s i) f
  node_trees true h = sum_trees h
  node_trees false h = product_trees h

-- the number of members that the first record gives
pub arity_told : {s : List ℕ} {i : ℕ} {t : Tree} → Told note s i t → arity s i ≡ length (members t)
unfolding arity kind_number count_of members
arity_told {s} {i} {t} h = by t (kind_number_lem h) (count_number h)
  where
    by : (t : Tree) → kind s i ≡ kind_number t → count_in s i ≡ count_of t → arity s i ≡ length (members t)
    by (integer μ z) k c = rw k refl
    by (symbol μ v) k c = rw k refl
    by (sum μ f) k c = rw k (c ∙ sym (count_list f))
    by (product μ f) k c = rw k (c ∙ sym (count_list f))
    by (power μ b ξ e) k c = rw k refl

-- the tree behind those before it
tree_among : (s : List ℕ) (i n : ℕ) (before : List Tree) (x : Tree) (after : List Tree) → ToldTrees note s i n (of_list (before ++ (x ∷ after)))
    → Told note s (i + recordses (of_list before)) x
unfolding of_list records
tree_among s i n [] x after h = let place : i ≡ i + 0 = omega arith in subst (λ k. Told note s k x) place (first_tree h)
tree_among s i n (t ∷ before) x after h =
    let place : i + records t + recordses (of_list before) ≡ i + (records t + recordses (of_list before)) = omega arith in
    subst (λ k. Told note s k x) place (tree_among s (i + records t) (n - 1) before x after (other_trees h))

weight_among : (before : List Tree) (x : Tree) (after : List Tree) → weight x ≤ weights (of_list (before ++ (x ∷ after)))
unfolding of_list weight
weight_among [] x after = omega arith
weight_among (t ∷ before) x after = omega (arith, weight_among before x after)

-- ---- the looks: what each test leaves of them
module _ (ed : ℕ) where
  pub calm_not : (t : Tree) → length (members t) + 1 < records t → false ≡ calm ed t
  unfolding calm
  calm_not t l = sym (ap (λ c. c && still_by ed t) (lt-leb (records t) (length (members t) + 1) l))

  pub calm_still : (t : Tree) → records t ≤ length (members t) + 1 → still_by ed t ≡ calm ed t
  unfolding calm
  calm_still t l = sym (ap (λ c. c && still_by ed t) (le-leb (records t) (length (members t) + 1) l))

  pub quiet_alike : (u x : Tree) → kind_number x ≡ kind_number u → false ≡ quiet ed u x
  unfolding quiet
  quiet_alike u x e = sym (ap (λ c. not c && (calm ed x && still_by ed u)) (eq-eqb (kind_number x) (kind_number u) e))

  pub quiet_not : (u x : Tree) → calm ed x ≡ false → false ≡ quiet ed u x
  unfolding quiet
  quiet_not u x e = sym (ap (λ c. not (eqb (kind_number x) (kind_number u)) && (c && still_by ed u)) e ∙ nothing (not (eqb (kind_number x) (kind_number u))))
    where
      nothing : (c : Bool) → c && false ≡ false
      nothing true = refl
      nothing false = refl

  pub quiet_still : (u x : Tree) → (kind_number x ≡ kind_number u → ⊥) → calm ed x ≡ true → still_by ed u ≡ quiet ed u x
  unfolding quiet
  quiet_still u x n e =
      sym
      (ap (λ c. not c && (calm ed x && still_by ed u)) (ne_eqb (kind_number x) (kind_number u) n) ∙ ap (λ c. c && still_by ed u) e)

-- ---- scratch before a record leaves what stands from there on
pub past_scratch : {w w' : List ℕ} {n : ℕ} → Scratched w w' 0 (16 * n) → (end : ℕ) → n ≤ end → drop (end * 16) w' ≡ drop (end * 16) w
past_scratch {w} {w'} {n} c end l =
    let more : ℕ = (end - n) * 16 in
    let fits : end * 16 ≡ 0 + 16 * n + more = omega arith in
    ap (λ i. drop i w') fits ∙ sym (drop-drop more (0 + 16 * n) w') ∙ ap (drop more) c.past ∙ drop-drop more (0 + 16 * n) w
    ∙ ap (λ i. drop i w) (sym fits)

-- ---- the node that is made of the members m
module _ {b : Bool} {μ : ℕ} {l m : List Tree} {rest o w : List ℕ} {d e : ℕ} {f : Option ℕ} {end n : ℕ}
    (h : Emerged b μ l m rest o w d e f end n) {o' : List ℕ} {r : ℕ} (c : Collapsed b μ m o o' d e r) where
  abbrev made : Tree
  made = node_of b μ m

  -- it can be put back
  pub back_fits : (r ≤ e) × (e ≤ r + end) × (e * 16 ≤ length o) × (end * 16 ≤ length w)
  back_fits = (omega (arith, c.end), omega (arith, c.end, records_weight made, h.low), h.built.within, h.within)

  pub goes_back : (ed k q : ℕ) (w₁ w' : List ℕ) → drop (end * 16) w₁ ≡ drop (end * 16) w → length w₁ ≡ length w → q ≡ end - (e - r)
      → w' ≡ put w₁ (q * 16) (part o' (r * 16) ((e - r) * 16)) → k ≡ step_of b → EmergedIs b μ ed l m rest o o' w' d end (Pending k q)
  goes_back ed k q w₁ w' s long a p j =
      let fits = back_fits in
      let e₁ = fits.1 in
      let e₃ = fits.3 in
      (j, put_follows (put_back b μ m o o' w₁ w' d e end r q c a (omega arith) (omega arith) p) refl (s ∙ h.pending) refl)

  -- two members or more: it stands where the members were built behind
  module _ (two : 2 ≤ length m) where
    is : made ≡ node b μ (of_list m)
    is = more_is b μ m two

    at_front_lem : r ≡ d
    at_front_lem = omega (arith, c.end, h.built.end, ap records is, node_records μ (of_list m) b)

    there : Told note o' d made
    there =
        record {
          tells = note_tells;
          wf = h.light.0;
          few = omega (arith, records_weight made, h.light.1);
          stands = subst (λ i. Stands o' i (encode_by note made)) at_front_lem c.stands;
        }

    module _ (g : ℕ) (named : f ≡ Some g) where
      abbrev new : OneNew l m d g
      new = subst (NewAt l m d) named h.named

      new_there : Told note o' g new.new
      new_there =
          let all = node_trees μ (of_list m) b (subst (Told note o' d) is there) in
          let same = subst (λ (k : List Tree). ToldTrees note o' (d + 1) (count_in o' d) (of_list k)) new.are all in
          subst (λ i. Told note o' i new.new) (sym new.place) (tree_among o' (d + 1) (count_in o' d) new.before new.new new.after same)

      new_weight : weight new.new ≤ weight made
      new_weight =
          omega
          (arith, weight_among new.before new.new new.after, ap (λ k. weights (of_list k)) new.are, ap weight is, node_weights μ (of_list m) b)

      pub looked : Looked o' w d g end made new.new
      looked =
          record {
            node = told_noted there h.light.1;
            new = told_noted new_there (omega (arith, new_weight, h.light.1));
            node_small = h.low;
            new_small = omega (arith, new_weight, h.low);
            within = h.within;
          }

      -- it stays where it is
      taken : take (e * 16) o' ≡ take (d * 16) o ++ encode_by note made
      taken =
          let x = encode_by note made in
          let long = encode_by_length note made in
          let size : e * 16 ≡ d * 16 + length x = omega (arith, c.end, at_front_lem) in
          ap (λ k. take k o') size ∙ take-add (d * 16) (length x) o'
          ∙ ap (λ (y : List ℕ). y ++ take (length x) (drop (d * 16) o')) c.done
          ∙ ap (λ (y : List ℕ). take (d * 16) o ++ take (length x) y) there.stands.there
          ∙ ap (λ (y : List ℕ). take (d * 16) o ++ y) (take_at x there.stands.after (length x) refl)

      pub stays : (ed k : ℕ) (w' : List ℕ) → quiet ed made new.new ≡ true → drop (end * 16) w' ≡ drop (end * 16) w → k ≡ step_of b
          → EmergedIs b μ ed l m rest o o' w' d end (Quiet k e)
      stays ed k w' q s j =
          (j, omega (arith, c.end, at_front_lem), taken, s ∙ h.pending, λ nones shut. quiet_none ed b μ new two new_there.wf q nones shut)
