-- The rules at the tree that is pending, sums and products by one flag, true for a sum. The kind of its record tells what it is: of
-- another kind, a rule does not apply; of the rule's kind, the tree is a node whose members stand behind its record, and the rule is what
-- it does to those. And where a rule does not apply, all is ready for the next.
use Prim.Native.Nat.{ℕ, ◌+◌, ◌-◌, ◌*◌, ◌<◌, ◌≤◌, min}
use mathlib.Core.Path.{◌≡◌, refl, sym, ap, ◌∙◌, subst}
use mathlib.Core.Bool.{Bool, true, false, not}
use mathlib.Core.List.{List, ◌++◌, append_assoc}
use native.Mathlib.Omega.{arith}
use borrow.Author.Tests.{not-true, not-false}
use denote.Enum.Bare.{sameb}
use Rattle.record.specs.Kinds.{number_of}
use Rattle.record.specs.contracts.kinds.Kind.{the_type}
use Rattle.record.specs.declared.kinds.Kind.{Kind}
use Rattle.record.proofs.KindLaws.{kind_is, kind_is_not, number_below}
use lib.ListN.{length, drop, length-append, length-drop}
use lib.Seq.{drop-drop, drop_at}
use lib.IntN.{pos}
use Rattle.paper.specs.Tree.{Tree, Forest, integer, sum, product, to_list, count, mark_of, weight, weights, records}
use Rattle.paper.specs.Record.{kind, mark_in}
use Rattle.paper.specs.Bytes.{word}
use Rattle.paper.specs.Table.{record_of}
use Rattle.paper.specs.Rules as paper
use Rattle.paper.specs.Rules.{on_sum_members, on_product_members, applies_if, any_of, is_the, drop_all}
use Rattle.paper.specs.Rules.{add_zero, combine_like_terms, multiply_zero, multiply_one, combine_like_factors}
use Rattle.paper.specs.Rules.{Rule}
use Rattle.paper.specs.Good.{Good, GoodAnswer}
use Rattle.paper.proofs.LikeTermsGood.{like_terms_good}
use Rattle.paper.proofs.LikeFactorsGood.{like_factors_good}
use Rattle.paper.proofs.EncodeLaws.{records_pos, records_weight, record_length}
use Rattle.note.proofs.NotedLaws.{encode_by_length, kind_lt}
use Rattle.note.proofs.ToldLaws.{Seen, an_integer, a_symbol, a_sum, a_product, a_power, seen, seen_sum, seen_product}
use Rattle.note.proofs.ToldLaws.{note_tells, mark_number, kind_number_lem}
use Rattle.note.specs.Note.{note}
use Rattle.note.specs.Noted.{encode_by, encodes_by}
use Rattle.note.specs.Told.{ToldMembers}
use Rattle.split.specs.Standing.{Told}
use Rattle.split.proofs.SplitLaws.{kind_five}
use Rattle.stretch.specs.Put.{put}
use Rattle.stretch.proofs.Laws.{drop_put_at}
use Rattle.part.specs.Like.{node_kind, neutral, node_of}
use Rattle.rebuilt.specs.Written.{Light}
use Rattle.walk.specs.Walked.{combined}
use Rattle.rules.specs.Alike.{drop_neutral, combine_like}
use Rattle.rules.specs.Asked.{Ready}
use Rattle.rules.specs.Tried.{Held}

-- ---- a sum or a product, and a rule on its members
abbrev pub node : Bool → ℕ → Forest → Tree
node true μ f = sum μ f
node false μ f = product μ f

abbrev pub on_members : Bool → (ℕ → List Tree → paper.Tried) → Tree → paper.Tried
on_members true k t = on_sum_members k t
on_members false k t = on_product_members k t

-- what such a rule does to the mark μ and the members l, if it applies where one of them is the integer z, and makes u of them
abbrev pub if_any : ℕ → (ℕ → List Tree → Tree) → ℕ → List Tree → paper.Tried
if_any z u μ l = applies_if (any_of (is_the (pos z)) l) (u μ l)

if_any_lem : (z : ℕ) (u : ℕ → List Tree → Tree) (μ : ℕ) (l : List Tree) → any_of (is_the (pos z)) l ≡ true → if_any z u μ l ≡ paper.applies (u μ l)
unfolding applies_if
if_any_lem z u μ l e = ap (λ c. applies_if c (u μ l)) e

if_none : (z : ℕ) (u : ℕ → List Tree → Tree) (μ : ℕ) (l : List Tree) → any_of (is_the (pos z)) l ≡ false → if_any z u μ l ≡ paper.does_not_apply
unfolding applies_if
if_none z u μ l e = ap (λ c. applies_if c (u μ l)) e

-- the paper's rules are such rules: r looks for a member that is z
pub record LooksFor (b : Bool) (z : ℕ) (u : ℕ → List Tree → Tree) (r : Tree → paper.Tried) : Type 0 where
  pub is : (t : Tree) → r t ≡ on_members b (if_any z u) t

pub drops : (b : Bool) → LooksFor b (neutral b) (λ μ l. node_of b μ (drop_all (is_the (pos (neutral b))) l)) (drop_neutral b)
unfolding add_zero multiply_one
drops true = record { is = λ t. refl }
drops false = record { is = λ t. refl }

pub zeroes : LooksFor false 0 (λ μ l. integer μ (pos 0)) multiply_zero
unfolding multiply_zero
zeroes = record { is = λ t. refl }

combine_is : (b : Bool) (t : Tree) → combine_like b t ≡ on_members b (combined b) t
unfolding combine_like_terms combine_like_factors
combine_is true t = refl
combine_is false t = refl

-- a kind that is read of a record, told from another
pub told_is : {n : ℕ} → n < 5 → (j k : Kind) {b : Bool} → number_of j ≡ min n 4 → b ≡ not (sameb the_type j k) → b ≡ false → n ≡ number_of k
told_is {n} l j k r e f = omega (arith, kind_is j k _ n r refl (not-false _ (sym e ∙ f)), number_below k)

pub told_is_not : {n : ℕ} (j k : Kind) {b : Bool} → number_of j ≡ min n 4 → b ≡ not (sameb the_type j k) → b ≡ true → n ≡ number_of k → ⊥
told_is_not {n} j k r e f same = kind_is_not j k _ n r refl (not-true _ (sym e ∙ f)) (omega (arith, number_below k))

-- ---- the tree that is pending
module _ {o w : List ℕ} {d p : ℕ} {t : Tree} {rest : List ℕ} (h : Ready o w d p t rest) where
  pub ready_tree : Told note w p t
  ready_tree = record { tells = note_tells; wf = h.wf; few = omega (arith, h.light, records_weight t); stands = record { after = rest; there = h.stands } }

  pub ready_seen : Seen note w p t
  ready_seen = seen ready_tree

  -- the kind that is read is the number of the record's first byte
  pub kind_told : {k : ℕ} → (kind w p < 5 → k ≡ kind w p) → k ≡ kind w p
  kind_told named = named (omega (arith, kind_number_lem ready_tree, kind_lt t))

  -- the records of the tree, and of what follows, are all that is left of the table
  pub ready_length : length w ≡ (p + records t) * 16 + length rest
  ready_length =
      let e : length w - p * 16 ≡ length (encode_by note t) + length rest =
      sym (length-drop (p * 16) w) ∙ ap length h.stands ∙ length-append (encode_by note t) rest in
      omega (arith, encode_by_length note t, records_pos t)

  pub ready_after : drop ((p + records t) * 16) w ≡ rest
  ready_after =
      let m = records t * 16 in
      let places : (p + records t) * 16 ≡ p * 16 + m = omega arith in
      ap (λ k. drop k w) places
      ∙ sym (drop-drop m (p * 16) w)
      ∙ ap (drop m) h.stands
      ∙ drop_at (encode_by note t) rest m (encode_by_length note t ∙ omega arith)

  -- what a rule makes of it is well-formed, and weighs less
  pub rule_light : (r : Rule) → Good r → (u : Tree) → r.try t ≡ paper.applies u → Light u
  rule_light r g u e = let a = subst (GoodAnswer t) e (g.good t h.wf) in (a.0, omega (arith, a.1.lighter, h.light))

  pub combine_lighter : (b : Bool) (u : Tree) → combine_like b t ≡ paper.applies u → weight u < weight t
  combine_lighter true u e = let a = subst (GoodAnswer t) e (like_terms_good.good t h.wf) in omega (arith, a.1.lighter)
  combine_lighter false u e = let a = subst (GoodAnswer t) e (like_factors_good.good t h.wf) in omega (arith, a.1.lighter)

  pub combine_light : (b : Bool) (u : Tree) → combine_like b t ≡ paper.applies u → Light u
  combine_light true = rule_light _ like_terms_good
  combine_light false = rule_light _ like_factors_good

  -- ready for the next rule, where what is pending stays
  pub ready_again : (o' w' : List ℕ) → length o' ≡ length o → length w' ≡ length w → drop (p * 16) w' ≡ drop (p * 16) w → Ready o' w' d p t rest
  ready_again o' w' a b s =
      record {
        wf = h.wf;
        light = h.light;
        stands = s ∙ h.stands;
        out_room = omega (arith, h.out_room);
        work_room = omega (arith, h.work_room);
      }

  -- a rule for another kind
  on_other : (b : Bool) (k : ℕ → List Tree → paper.Tried) → (kind w p ≡ node_kind b → ⊥) → on_members b k t ≡ paper.does_not_apply
  unfolding on_sum_members on_product_members
  on_other b k = go b ready_seen
    where
      go : (b : Bool) {t : Tree} → Seen note w p t → (kind w p ≡ node_kind b → ⊥) → on_members b k t ≡ paper.does_not_apply
      go true (an_integer e b w) n = refl
      go true (a_symbol e v w) n = refl
      go true (a_sum e m c w s) n = absurd (n e)
      go true (a_product e m c w s) n = refl
      go true (a_power e w b p q x y z) n = refl
      go false (an_integer e b w) n = refl
      go false (a_symbol e v w) n = refl
      go false (a_sum e m c w s) n = refl
      go false (a_product e m c w s) n = absurd (n e)
      go false (a_power e w b p q x y z) n = refl

  pub looks_elsewhere : {b : Bool} {z : ℕ} {u : ℕ → List Tree → Tree} {r : Tree → paper.Tried} → LooksFor b z u r → (kind w p ≡ node_kind b → ⊥)
      → r t ≡ paper.does_not_apply
  looks_elsewhere {b} {z} {u} q n = q.is t ∙ on_other b (if_any z u) n

  pub combine_other : (b : Bool) → (kind w p ≡ node_kind b → ⊥) → combine_like b t ≡ paper.does_not_apply
  combine_other b n = combine_is b t ∙ on_other b (combined b) n

-- ---- the tree is a node of the rule's kind: its members are held, and a rule on them is what it does to them
pub record IsNode (b : Bool) (o w : List ℕ) (d p : ℕ) (t : Tree) (rest : List ℕ) : Type 0 where
  pub members : Forest
  pub mark : ℕ
  pub is : t ≡ node b mark members
  pub held : Held o w d p members rest
  pub on : (k : ℕ → List Tree → paper.Tried) → on_members b k t ≡ k (mark_in w p) (to_list members)

behind_record : (w : List ℕ) (p k c μ v : ℕ) (x rest : List ℕ) → drop (p * 16) w ≡ (record_of k c μ v ++ x) ++ rest → drop ((p + 1) * 16) w ≡ x ++ rest
behind_record w p k c μ v x rest e =
    let places : (p + 1) * 16 ≡ p * 16 + 16 = omega arith in
    ap (λ n. drop n w) places
    ∙ sym (drop-drop 16 (p * 16) w)
    ∙ ap (drop 16) (e ∙ append_assoc (record_of k c μ v) x rest)
    ∙ drop_at (record_of k c μ v) (x ++ rest) 16 (record_length k c μ v)

module _ (b : Bool) (μ : ℕ) (f : Forest) where
  node_weight : weight (node b μ f) ≡ 1 + weights f
  unfolding weight
  node_weight = go b
    where
      go : (b : Bool) → weight (node b μ f) ≡ 1 + weights f
      go true = refl
      go false = refl

  node_encode : encode_by note (node b μ f) ≡ record_of (node_kind b) (count f) μ (note (node b μ f)) ++ encodes_by note f
  unfolding encode_by
  node_encode = go b
    where
      go : (b : Bool) → encode_by note (node b μ f) ≡ record_of (node_kind b) (count f) μ (note (node b μ f)) ++ encodes_by note f
      go true = refl
      go false = refl

  node_mark : mark_of (node b μ f) ≡ μ
  unfolding mark_of
  node_mark = go b
    where
      go : (b : Bool) → mark_of (node b μ f) ≡ μ
      go true = refl
      go false = refl

  on_node : (k : ℕ → List Tree → paper.Tried) → on_members b k (node b μ f) ≡ k μ (to_list f)
  unfolding on_sum_members on_product_members
  on_node k = go b
    where
      go : (b : Bool) → on_members b k (node b μ f) ≡ k μ (to_list f)
      go true = refl
      go false = refl

module _ {o w : List ℕ} {d p : ℕ} {t : Tree} {rest : List ℕ} (h : Ready o w d p t rest) where
  seen_node : (b : Bool) → kind w p ≡ node_kind b → (μ : ℕ) × (f : Forest) × (t ≡ node b μ f) × ToldMembers note w p f
  seen_node true k = seen_sum (ready_seen h) k
  seen_node false k = seen_product (ready_seen h) k

  pub is_node_lem : (b : Bool) → kind w p ≡ node_kind b → IsNode b o w d p t rest
  is_node_lem b k =
      let q = seen_node b k in
      let μ = q.0 in
      let f = q.1 in
      let s = q.3 in
      let heavy = ap weight q.2 ∙ node_weight b μ f in
      let marked : mark_in w p ≡ μ = mark_number (ready_tree h) ∙ ap mark_of q.2 ∙ node_mark b μ f in
      let stands = h.stands ∙ ap (λ x. x ++ rest) (ap (encode_by note) q.2 ∙ node_encode b μ f) in
      record {
        members = f;
        mark = μ;
        is = q.2;
        held = record {
          wf = s.wf;
          two = s.two;
          light = omega (arith, heavy, h.light);
          counted = s.counted;
          stand = behind_record w p (node_kind b) (count f) μ (note (node b μ f)) (encodes_by note f) rest stands;
          out_room = omega (arith, heavy, h.out_room);
          work_room = omega (arith, heavy, h.work_room);
        };
        on = λ k. ap (on_members b k) q.2 ∙ on_node b μ f k ∙ ap (λ m. k m (to_list f)) (sym marked);
      }

  -- by what two kinds tell, of which one is read there
  pub of_kind : (j k : Kind) {differ b : Bool} → number_of j ≡ min (kind w p) 4 → differ ≡ not (sameb the_type j k) → differ ≡ false
      → number_of k ≡ node_kind b → IsNode b o w d p t rest
  of_kind j k r e f g = is_node_lem _ (told_is (kind_five t (ready_tree h)) j k r e f ∙ g)

-- the rules at such a node
module _ {b : Bool} {o w : List ℕ} {d p : ℕ} {t : Tree} {rest : List ℕ} (s : IsNode b o w d p t rest) where
  module _ {z : ℕ} {u : ℕ → List Tree → Tree} {r : Tree → paper.Tried} (q : LooksFor b z u r) where
    pub finds : any_of (is_the (pos z)) (to_list s.members) ≡ true → r t ≡ paper.applies (u (mark_in w p) (to_list s.members))
    finds e = q.is t ∙ s.on (if_any z u) ∙ if_any_lem z u (mark_in w p) (to_list s.members) e

    pub finds_none : any_of (is_the (pos z)) (to_list s.members) ≡ false → r t ≡ paper.does_not_apply
    finds_none e = q.is t ∙ s.on (if_any z u) ∙ if_none z u (mark_in w p) (to_list s.members) e

  pub combine_at : combine_like b t ≡ combined b (mark_in w p) (to_list s.members)
  combine_at = combine_is b t ∙ s.on (combined b)

-- ---- 0 in place of the whole product
pub zero_put : (w w' : List ℕ) (q μ : ℕ) (rest : List ℕ) → (q + 1) * 16 ≤ length w → drop ((q + 1) * 16) w ≡ rest
    → w' ≡ put w (q * 16) (record_of 0 0 μ 0) → drop (q * 16) w' ≡ encode_by note (integer μ (pos 0)) ++ rest
unfolding encode_by word
zero_put w w' q μ rest r e s =
    let long = record_length 0 0 μ 0 in
    let place : q * 16 + length (record_of 0 0 μ 0) ≡ (q + 1) * 16 = omega arith in
    ap (drop (q * 16)) s
    ∙ drop_put_at w (q * 16) (record_of 0 0 μ 0) (omega arith)
    ∙ ap (λ n. record_of 0 0 μ 0 ++ drop n w) place
    ∙ ap (λ (x : List ℕ). record_of 0 0 μ 0 ++ x) e
