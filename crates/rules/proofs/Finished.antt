-- Trees that admit no rule and no opening. A leaf is one, and so is a node of leaves at which the test by keys says yes. Where like members of a node
-- were combined, those that came out and were there before admit none, if all that were there do, and none of them is opened, if none was;
-- so where the only new one is calm and not of the node's kind, and the test says yes at the node, it admits none.
use Prim.Native.Nat.{ℕ, ◌+◌, ◌<◌, ◌≤◌}
use mathlib.Core.Path.{◌≡◌, refl, sym, ap, ◌∙◌, subst}
use mathlib.Core.Bool.{Bool, true, false, ◌&&◌, not}
use mathlib.Core.List.{List, [], ◌∷◌, ◌++◌}
use mathlib.Core.Option.{Option, none, some}
use native.Mathlib.Omega.{arith}
use borrow.Author.Tests.{not-true, eq-eqb, leb-true}
use lib.Dec.{eqb, leb}
use lib.IntN.{pos}
use lib.ListN.{length}
use Rattle.paper.specs.Tree.{Tree, Forest, integer, symbol, sum, product, power, nil, cons, count, records, recordses, to_list, of_list}
use Rattle.paper.specs.WellFormed.{WF, WFs}
use Rattle.paper.specs.Standing.{kind_number}
use Rattle.paper.specs.Rules as paper
use Rattle.paper.specs.Rules.{Rule, rules_of}
use Rattle.paper.specs.Driver.{no_rule, ask, members, as_sum, as_product, open_one, opened, gather}
use Rattle.paper.specs.Admits.{openings_at, AdmitsNone, admits_none, AllAdmitNone, no_more, and_more}
use Rattle.paper.proofs.Tests.{and_left, and_right, true_not_false}
use Rattle.paper.proofs.EncodeLaws.{records_pos, count_records}
use Rattle.paper.proofs.WFLaws.{count_list, to_of_list}
use Rattle.still.specs.Still.{still, still_by}
use Rattle.still.proofs.StillLaws.{still_no_rule, still_by_lem}
use Rattle.part.specs.Like.{node_kind, node_of}
use Rattle.walk.specs.Walked.{OneOf, here, there, AllOf, OneNew}
use Rattle.rules.specs.Alike.{inside_of}
use Rattle.rules.specs.Quiet.{calm, quiet}
use Rattle.rules.proofs.RuleLaws.{node}

-- ---- members none of which is opened in a sum (true), or in a product
abbrev Shut : Bool → List Tree → Type 0
Shut b [] = Unit {0}
Shut b (t ∷ l) = (inside_of b t ≡ none) × Shut b l

other_shut : (b : Bool) (t : Tree) → (kind_number t ≡ node_kind b → ⊥) → inside_of b t ≡ none
unfolding as_sum as_product kind_number
other_shut true (integer μ z) n = refl
other_shut true (symbol μ s) n = refl
other_shut true (sum μ f) n = absurd (n refl)
other_shut true (product μ f) n = refl
other_shut true (power μ b ξ e) n = refl
other_shut false (integer μ z) n = refl
other_shut false (symbol μ s) n = refl
other_shut false (sum μ f) n = refl
other_shut false (product μ f) n = absurd (n refl)
other_shut false (power μ b ξ e) n = refl

module _ (b : Bool) where
  shut_opens : (l : List Tree) → Shut b l → (opened (inside_of b) l).1 ≡ 0
  unfolding opened open_one
  shut_opens [] h = refl
  shut_opens (t ∷ l) h = ap (λ o. (open_one o t (opened (inside_of b) l)).1) h.0 ∙ shut_opens l h.1

  opens_shut : (l : List Tree) → (opened (inside_of b) l).1 ≡ 0 → Shut b l
  unfolding opened open_one
  opens_shut [] e = tt
  opens_shut (t ∷ l) e = go (inside_of b t) refl e (opens_shut l)
    where
      go : (o : Option (List Tree)) → inside_of b t ≡ o → (open_one o t (opened (inside_of b) l)).1 ≡ 0 → ((opened (inside_of b) l).1 ≡ 0 → Shut b l)
          → (inside_of b t ≡ none) × Shut b l
      go none q e ih = (q, ih e)
      go (some k) q e ih = absurd (omega arith)

  shut_both : (l m : List Tree) → Shut b l → Shut b m → Shut b (l ++ m)
  shut_both [] m h k = k
  shut_both (t ∷ l) m h k = (h.0, shut_both l m h.1 k)

  shut_one : {t : Tree} {l : List Tree} → OneOf t l → Shut b l → inside_of b t ≡ none
  shut_one here h = h.0
  shut_one (there q) h = shut_one q h.1

  shut_all : (l m : List Tree) → AllOf l m → Shut b l → Shut b m
  shut_all l [] a h = tt
  shut_all l (t ∷ m) a h = (shut_one a.0 h, shut_all l m a.1 h)

-- ---- members that all admit none
module _ {rs : List Rule} where
  pub both_none : (l m : List Tree) → AllAdmitNone rs l → AllAdmitNone rs m → AllAdmitNone rs (l ++ m)
  both_none [] m h k = k
  both_none (t ∷ l) m (and_more x h) k = and_more x (both_none l m h k)

  one_none : {t : Tree} {l : List Tree} → OneOf t l → AllAdmitNone rs l → AdmitsNone rs t
  one_none here (and_more x h) = x
  one_none (there q) (and_more x h) = one_none q h

  all_none : (l m : List Tree) → AllOf l m → AllAdmitNone rs l → AllAdmitNone rs m
  all_none l [] a h = no_more
  all_none l (t ∷ m) a h = and_more (one_none a.0 h) (all_none l m a.1 h)

  -- ---- a node whose members admit none and are not opened, and to which no rule applies
  pub node_finished : (b : Bool) (μ : ℕ) (m : List Tree) → AllAdmitNone rs m → (opened (inside_of b) m).1 ≡ 0 → ask rs (node b μ (of_list m)) ≡ no_rule
      → AdmitsNone rs (node b μ (of_list m))
  unfolding members openings_at gather
  node_finished true μ m n o a =
      let e : to_list (of_list m) ≡ m = to_of_list m in
      admits_none a (subst (λ l. (opened as_sum l).1 ≡ 0) (sym e) o) (subst (AllAdmitNone rs) (sym e) n)
  node_finished false μ m n o a =
      let e : to_list (of_list m) ≡ m = to_of_list m in
      admits_none a (subst (λ l. (opened as_product l).1 ≡ 0) (sym e) o) (subst (AllAdmitNone rs) (sym e) n)

-- ---- leaves
abbrev Leaves : List Tree → Type 0
Leaves [] = Unit {0}
Leaves (t ∷ l) = (kind_number t < 2) × Leaves l

small_leaf : (t : Tree) → WF t → records t ≤ 1 → kind_number t < 2
unfolding records kind_number
small_leaf (integer μ z) w l = omega arith
small_leaf (symbol μ s) w l = omega arith
small_leaf (sum μ f) w l = absurd (omega (arith, count_records f, w.0))
small_leaf (product μ f) w l = absurd (omega (arith, count_records f, w.0))
small_leaf (power μ b ξ e) w l = absurd (omega arith)

leaves_of : (f : Forest) → WFs f → recordses f ≤ count f → Leaves (to_list f)
unfolding to_list records count
leaves_of nil w l = tt
leaves_of (cons t f) w l = (small_leaf t w.0 (omega (arith, count_records f)), leaves_of f w.1 (omega (arith, records_pos t)))

leaves_shut : (b : Bool) (l : List Tree) → Leaves l → Shut b l
leaves_shut b [] h = tt
leaves_shut b (t ∷ l) h = (other_shut b t (λ e. leaf_kind b (kind_number t) h.0 e), leaves_shut b l h.1)
  where
    leaf_kind : (b : Bool) (k : ℕ) → k < 2 → k ≡ node_kind b → ⊥
    leaf_kind true k l e = omega arith
    leaf_kind false k l e = omega arith

-- ---- the node of two members or more
pub more_is : (b : Bool) (μ : ℕ) (m : List Tree) → 2 ≤ length m → node_of b μ m ≡ node b μ (of_list m)
unfolding paper.sum_of paper.product_of paper.collapse
more_is b μ [] h = absurd (omega arith)
more_is b μ (t ∷ []) h = absurd (omega arith)
more_is true μ (t ∷ u ∷ l) h = refl
more_is false μ (t ∷ u ∷ l) h = refl

node_kind_lem : (b : Bool) (μ : ℕ) (f : Forest) → kind_number (node b μ f) ≡ node_kind b
unfolding kind_number
node_kind_lem true μ f = refl
node_kind_lem false μ f = refl

module _ (ed : ℕ) where
  leaf_none : (t : Tree) → kind_number t < 2 → AdmitsNone (rules_of ed) t
  unfolding kind_number still members openings_at gather
  leaf_none (integer μ z) l = admits_none (still_no_rule ed (integer μ z) refl) refl no_more
  leaf_none (symbol μ s) l = admits_none (still_no_rule ed (symbol μ s) refl) refl no_more
  leaf_none (sum μ f) l = absurd (omega arith)
  leaf_none (product μ f) l = absurd (omega arith)
  leaf_none (power μ b ξ e) l = absurd (omega arith)

  pub integer_none : (μ : ℕ) (z : _) → AdmitsNone (rules_of ed) (integer μ z)
  unfolding kind_number
  integer_none μ z = leaf_none (integer μ z) (omega arith)

  leaves_none : (l : List Tree) → Leaves l → AllAdmitNone (rules_of ed) l
  leaves_none [] h = no_more
  leaves_none (t ∷ l) h = and_more (leaf_none t h.0) (leaves_none l h.1)

  -- ---- a calm tree
  pub few_none : (t : Tree) → WF t → ask (rules_of ed) t ≡ no_rule → records t ≤ length (members t) + 1 → AdmitsNone (rules_of ed) t
  unfolding records members openings_at gather
  few_none (integer μ z) w a l = admits_none a refl no_more
  few_none (symbol μ s) w a l = admits_none a refl no_more
  few_none (sum μ f) w a l =
      let k = leaves_of f w.1 (omega (arith, count_list f)) in
      admits_none a (shut_opens true (to_list f) (leaves_shut true (to_list f) k)) (leaves_none (to_list f) k)
  few_none (product μ f) w a l =
      let k = leaves_of f w.1 (omega (arith, count_list f)) in
      admits_none a (shut_opens false (to_list f) (leaves_shut false (to_list f) k)) (leaves_none (to_list f) k)
  few_none (power μ b ξ e) w a l = admits_none a refl (and_more (leaf_none b (small_leaf b w.0 (omega arith))) (and_more (integer_none ξ (pos e)) no_more))

  still_none : (t : Tree) → still_by ed t ≡ true → ask (rules_of ed) t ≡ no_rule
  still_none t e = still_no_rule ed t (still_by_lem ed t e)

  calm_none : (t : Tree) → WF t → calm ed t ≡ true → AdmitsNone (rules_of ed) t
  unfolding calm
  calm_none t w e =
      let few = leb (records t) (length (members t) + 1) in
      few_none t w (still_none t (and_right few (still_by ed t) e)) (leb-true (records t) (length (members t) + 1) (and_left few (still_by ed t) e))

  -- ---- the node of the members that came out
  pub quiet_none : (b : Bool) (μ : ℕ) {l m : List Tree} {d f : ℕ} (h : OneNew l m d f) → 2 ≤ length m → WF h.new → quiet ed (node_of b μ m) h.new ≡ true
      → AllAdmitNone (rules_of ed) l → (opened (inside_of b) l).1 ≡ 0 → AdmitsNone (rules_of ed) (node_of b μ m)
  unfolding quiet
  quiet_none b μ {l} {m} h two w q n o =
      let x = h.new in
      let u = node_of b μ m in
      let is = more_is b μ m two in
      let other = not (eqb (kind_number x) (kind_number u)) in
      let both = and_right other (calm ed x && still_by ed u) q in
      let a : ask (rules_of ed) u ≡ no_rule = still_none u (and_right (calm ed x) (still_by ed u) both) in
      let k : kind_number u ≡ node_kind b = ap kind_number is ∙ node_kind_lem b μ (of_list m) in
      let differs : kind_number x ≡ node_kind b → ⊥ =
      λ e.
      true_not_false (eq-eqb (kind_number x) (kind_number u) (e ∙ sym k))
      (not-true (eqb (kind_number x) (kind_number u)) (and_left other (calm ed x && still_by ed u) q)) in
      let s = opens_shut b l o in
      let shut = shut_both b h.before (x ∷ h.after) (shut_all b l h.before h.kept.0 s)
      (other_shut b x differs, shut_all b l h.after h.kept.1 s) in
      let nones = both_none h.before (x ∷ h.after) (all_none l h.before h.kept.0 n)
      (and_more (calm_none x w (and_left (calm ed x) (still_by ed u) both)) (all_none l h.after h.kept.1 n)) in
      subst (AdmitsNone (rules_of ed)) (sym is)
      (node_finished b μ m (subst (AllAdmitNone (rules_of ed)) (sym h.are) nones)
      (subst (λ m. (opened (inside_of b) m).1 ≡ 0) (sym h.are) (shut_opens b _ shut))
      (ap (ask (rules_of ed)) (sym is) ∙ a))
