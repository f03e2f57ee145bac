-- The note of a product's rest, as code finds it in one pass over the members: the integers' notes added up, the others counted, and the
-- record of the last of them kept. One being left, it is the rest; none, the rest is 1; else its note is the product's less the sum. Assumes
-- nothing.
use Rattle.std.proofs.Common.{◌≡◌, ℕ, ◌+◌, ◌-◌, ◌%◌, ◌<◌, ◌≤◌, List, [], ◌∷◌, ◌++◌, length, pos, sym, refl, ap, ◌∙◌, subst, append_assoc, append-nil}
use Rattle.std.proofs.Common.{arith, length-append}
use Rattle.paper.specs.Limits.{modulus}
use Rattle.paper.specs.Bytes.{word}
use Rattle.paper.specs.Tree.{Tree, Forest, integer, symbol, sum, product, power, to_list, of_list, count, records}
use Rattle.paper.specs.Record.{kind}
use Rattle.paper.specs.Standing.{kind_number}
use Rattle.paper.specs.Rules.{as_integer, with_integer, integers_of, with_other, others_of, product_of, term, product_term, term_of}
use Rattle.paper.proofs.Congruence.{agree_refl, agree_of, agree_trans, agree_mod, agree_add}
use Rattle.paper.proofs.WFLaws.{of_to_list}
use Rattle.note.specs.Note.{note, leaf_note}
use Rattle.note.specs.Part.{term_key}
use Rattle.note.specs.Noted.{count_of, inner, TreeBy, TreesBy, Known}
use Rattle.note.proofs.KeyLaws.{integer_note, note_lt}
use Rattle.note.proofs.ToldLaws.{note_tells, noted_told, kind_number_lem, count_number, none_of}
use Rattle.note.proofs.LightLaws.{told_all, FirstBy, first_by, members_by}
use Rattle.note.proofs.RestLaws.{summed, rest_note, rest_two, rest_single, rest_none}

-- one member more
integer_added : (l : List Tree) (t : Tree) → kind_number t < 1
    → (others_of (l ++ (t ∷ [])) ≡ others_of l) × (summed note (integers_of (l ++ (t ∷ []))) ≡ summed note (integers_of l) + note t)
unfolding others_of integers_of with_integer with_other as_integer summed kind_number
integer_added [] (integer μ z) k = (refl, omega (arith, integer_note 0 z, integer_note μ z))
integer_added [] (symbol μ s) k = absurd (omega arith)
integer_added [] (sum μ f) k = absurd (omega arith)
integer_added [] (product μ f) k = absurd (omega arith)
integer_added [] (power μ b ξ e) k = absurd (omega arith)
integer_added (integer μ z ∷ l) t k = let r = integer_added l t k in (r.0, omega (arith, r.1))
integer_added (symbol μ s ∷ l) t k = let r = integer_added l t k in (ap (λ m. symbol μ s ∷ m) r.0, r.1)
integer_added (sum μ f ∷ l) t k = let r = integer_added l t k in (ap (λ m. sum μ f ∷ m) r.0, r.1)
integer_added (product μ f ∷ l) t k = let r = integer_added l t k in (ap (λ m. product μ f ∷ m) r.0, r.1)
integer_added (power μ b ξ e ∷ l) t k = let r = integer_added l t k in (ap (λ m. power μ b ξ e ∷ m) r.0, r.1)

other_added : (l : List Tree) (t : Tree) → 1 ≤ kind_number t
    → (others_of (l ++ (t ∷ [])) ≡ others_of l ++ (t ∷ [])) × (integers_of (l ++ (t ∷ [])) ≡ integers_of l)
unfolding others_of integers_of with_integer with_other as_integer kind_number
other_added [] (integer μ z) k = absurd (omega arith)
other_added [] (symbol μ s) k = (refl, refl)
other_added [] (sum μ f) k = (refl, refl)
other_added [] (product μ f) k = (refl, refl)
other_added [] (power μ b ξ e) k = (refl, refl)
other_added (integer μ z ∷ l) t k = let r = other_added l t k in (r.0, ap (λ m. z ∷ m) r.1)
other_added (symbol μ s ∷ l) t k = let r = other_added l t k in (ap (λ m. symbol μ s ∷ m) r.0, r.1)
other_added (sum μ f ∷ l) t k = let r = other_added l t k in (ap (λ m. sum μ f ∷ m) r.0, r.1)
other_added (product μ f ∷ l) t k = let r = other_added l t k in (ap (λ m. product μ f ∷ m) r.0, r.1)
other_added (power μ b ξ e ∷ l) t k = let r = other_added l t k in (ap (λ m. power μ b ξ e ∷ m) r.0, r.1)

-- the tree at record i of the table s is the only one of some members that is no integer
pub record Single (s : List ℕ) (i μ : ℕ) (l : List Tree) : Type 0 where
  pub tree : Tree
  pub there : TreeBy note s i tree
  pub only : note tree ≡ note (product_of μ (others_of l))

-- of the members f of a product with the mark μ those of l are passed: `kept` of them are no integers, and where one is, it stands at record
-- `last`; `out` is what the integers add
pub record Resting (s : List ℕ) (μ : ℕ) (f : Forest) (at left kept last out : ℕ) : Type 0 where
  pub l : List Tree
  pub rest : Forest
  pub there : TreesBy note s at left rest
  pub whole : to_list f ≡ l ++ to_list rest
  pub counted : kept ≡ length (others_of l)
  pub single : kept ≡ 1 → Single s last μ l
  pub added : out % modulus ≡ summed note (integers_of l) % modulus

pub resting_start : {s : List ℕ} {μ : ℕ} {f : Forest} (at left last : ℕ) → TreesBy note s at left f → Resting s μ f at left 0 last 0
unfolding others_of integers_of summed
resting_start {s} {μ} {f} at left last h =
    record { l = []; rest = f; there = h; whole = refl; counted = refl; single = λ k. absurd (omega (arith, k)); added = refl }

module _ {s : List ℕ} {μ : ℕ} {f : Forest} {at left kept last out : ℕ} (a : Resting s μ f at left kept last out) where
  pub resting_first : 0 < left → FirstBy note s at left a.rest
  resting_first p = first_by a.rest note_tells a.there p

  -- the member at record `at`, of kind k and of z records
  module _ (p : 0 < left) (k z : ℕ) (e : k ≡ kind s at) (h : z ≡ records (resting_first p).tree) where
    abbrev here : FirstBy note s at left a.rest
    here = resting_first p

    after : TreesBy note s (at + z) (left - 1) here.others
    after = subst (λ c. TreesBy note s (at + c) (left - 1) here.others) (sym h) here.after

    longer : to_list f ≡ (a.l ++ (here.tree ∷ [])) ++ to_list here.others
    unfolding to_list
    longer = a.whole ∙ ap (λ g. a.l ++ to_list g) here.whole ∙ sym (append_assoc a.l (here.tree ∷ []) (to_list here.others))

    resting_integer : k < 1 → (n next : ℕ) → n ≡ note here.tree → next ≡ (out + n) % modulus
        → Resting s μ f (at + z) (left - 1) kept last next
    resting_integer w n next x m =
        let u = here.tree in
        let r = integer_added a.l u (omega (arith, e, kind_number_lem (noted_told here.there), w)) in
        record {
          l = a.l ++ (u ∷ []);
          rest = here.others;
          there = after;
          whole = longer;
          counted = a.counted ∙ sym (ap length r.0);
          single = λ q.
              let o = a.single q in
              record { tree = o.tree; there = o.there; only = o.only ∙ ap (λ m. note (product_of μ m)) (sym r.0) };
          added = added_more out n next (summed note (integers_of a.l)) m a.added
              ∙ ap (λ c. c % modulus) (sym (r.1 ∙ ap (λ c. summed note (integers_of a.l) + c) (sym x)));
        }
      where
        added_more : (o v x y : ℕ) → x ≡ (o + v) % modulus → o % modulus ≡ y % modulus → x % modulus ≡ (y + v) % modulus
        added_more o v x y m q =
            (agree_trans (agree_of m) (agree_trans (agree_mod (o + v)) (agree_add (record { agree = q }) (agree_refl {a = v})))).agree

    resting_other : 1 ≤ k → (c : ℕ) → c ≡ kept + 1 → Resting s μ f (at + z) (left - 1) c at out
    resting_other w c m =
        let u = here.tree in
        let r = other_added a.l u (omega (arith, e, kind_number_lem (noted_told here.there), w)) in
        record {
          l = a.l ++ (u ∷ []);
          rest = here.others;
          there = after;
          whole = longer;
          counted = m ∙ omega (arith, a.counted, ap length r.0, length-append (others_of a.l) (u ∷ []));
          single = λ q.
              let alone = only (others_of a.l) u (omega (arith, a.counted, m, q)) in
              record { tree = u; there = here.there; only = alone ∙ ap (λ o. note (product_of μ o)) (sym r.0) };
          added = a.added ∙ ap (λ ns. summed note ns % modulus) (sym r.1);
        }
      where
        only : (o : List Tree) (u : Tree) → length o ≡ 0 → note u ≡ note (product_of μ (o ++ (u ∷ [])))
        only [] u q = sym (rest_single μ u)
        only (t ∷ o) u q = absurd (omega arith)

    -- by the arm that a turn took
    pub turn_integer : k < 1 → (n out' kept' last' : ℕ) → n ≡ note here.tree → out' ≡ (out + n) % modulus
        → kept' ≡ kept → last' ≡ last → Resting s μ f (at + z) (left - 1) kept' last' out'
    turn_integer w n out' kept' last' g x y q = rw (y, q) (resting_integer w n out' g x)

    pub turn_other : 1 ≤ k → (out' kept' last' : ℕ) → out' ≡ out → kept' ≡ kept + 1 → last' ≡ at
        → Resting s μ f (at + z) (left - 1) kept' last' out'
    turn_other w out' kept' last' x y q = rw (x, q) (resting_other w kept' y)

  -- all members are passed
  module _ (z : left ≡ 0) where
    all_passed : to_list f ≡ a.l
    unfolding to_list
    all_passed = a.whole ∙ ap (λ g. a.l ++ to_list g) (none_of a.rest (told_all note_tells a.there) z) ∙ append-nil a.l

    the_rest : term_key (term_of (product μ f)) ≡ note (product_of μ (others_of a.l))
    unfolding term_key term_of product_term
    the_rest = ap (λ m. note (product_of μ (others_of m))) all_passed

    pub resting_none : kept < 1 → leaf_note 0 1 ≡ term_key (term_of (product μ f))
    resting_none k = nothing (others_of a.l) (omega (arith, a.counted)) ∙ sym the_rest
      where
        nothing : (o : List Tree) → length o ≡ 0 → leaf_note 0 1 ≡ note (product_of μ o)
        nothing [] q = sym (rest_none μ)
        nothing (t ∷ o) q = absurd (omega arith)

    pub resting_one : (k : kept ≡ 1) → note (a.single k).tree ≡ term_key (term_of (product μ f))
    resting_one k = (a.single k).only ∙ sym the_rest

    pub resting_many : 2 ≤ kept → (v : ℕ) → v < modulus → (v + out) % modulus ≡ note (product μ f) → v ≡ term_key (term_of (product μ f))
    resting_many k v b e =
        let m : of_list a.l ≡ f = ap of_list (sym all_passed) ∙ of_to_list f in
        rest_note μ a.l v out b a.added (e ∙ ap (λ g. note (product μ g)) (sym m))
        ∙ sym (rest_two μ (others_of a.l) (omega (arith, a.counted)))
        ∙ sym the_rest

-- ---- a product of two members: the first is of kind k and of z records, the second, at record i + 1 + z, of kind j
module _ {s : List ℕ} {i n μ : ℕ} {f : Forest} (q : Known s i 3 n (product μ f)) (two : count f ≡ 2) where
  pub pair_start : Resting s μ f (i + 1) 2 0 i 0
  unfolding inner kind_number count_of
  pair_start =
      let counted = sym two ∙ sym (count_number (noted_told q.there)) in
      resting_start (i + 1) 2 i (members_by (product μ f) note_tells q.there (omega arith) (omega arith) 2 counted)

  pub two_left : 0 < 2
  two_left = omega arith

  abbrev pub pair_first : FirstBy note s (i + 1) 2 pair_start.rest
  pair_first = resting_first pair_start two_left

  module _ (k z : ℕ) (e : k ≡ kind s (i + 1)) (h : z ≡ records pair_first.tree) where
    one_left : 0 < 1
    one_left = omega arith

    integer_first : k < 1 → Resting s μ f (i + 1 + z) 1 0 i ((0 + note pair_first.tree) % modulus)
    integer_first w = turn_integer pair_start two_left k z e h w _ _ _ _ refl refl refl refl

    other_first : 1 ≤ k → Resting s μ f (i + 1 + z) 1 1 (i + 1) 0
    other_first w = turn_other pair_start two_left k z e h w _ _ _ refl refl refl

    pub pair_second : FirstBy note s (i + 1 + z) 1 pair_first.others
    pair_second =
        first_by pair_first.others note_tells (subst (λ c. TreesBy note s (i + 1 + c) 1 pair_first.others) (sym h) pair_first.after) one_left

    module _ (j : ℕ) (g : j ≡ kind s (i + 1 + z)) where
      pub both_integers_lem : k < 1 → j < 1 → leaf_note 0 1 ≡ term_key (term_of (product μ f))
      both_integers_lem w v =
          resting_none (turn_integer (integer_first w) (omega arith) j _ g refl v _ _ _ _ refl refl refl refl) refl (omega arith)

      pub second_alone : k < 1 → 1 ≤ j → (v : ℕ) → ((u : Tree) → TreeBy note s (i + 1 + z) u → v ≡ note u) → v ≡ term_key (term_of (product μ f))
      second_alone w x v found =
          let r = turn_other (integer_first w) one_left j _ g refl x _ 1 _ refl refl refl in
          let o = r.single refl in
          found o.tree o.there ∙ resting_one r refl refl

      pub first_alone : 1 ≤ k → j < 1 → (v : ℕ) → ((u : Tree) → TreeBy note s (i + 1) u → v ≡ note u) → v ≡ term_key (term_of (product μ f))
      first_alone w x v found =
          let r = turn_integer (other_first w) one_left j _ g refl x _ _ 1 _ refl refl refl refl in
          let o = r.single refl in
          found o.tree o.there ∙ resting_one r refl refl

      pub neither_integer : 1 ≤ k → 1 ≤ j → n ≡ term_key (term_of (product μ f))
      neither_integer w v =
          let below : n < modulus = subst (λ m. m < modulus) (sym q.note_known) (note_lt (product μ f)) in
          resting_many (turn_other (other_first w) (omega arith) j _ g refl v _ _ _ refl refl refl) refl (omega arith) n below
          (ap (λ m. m % modulus) (omega arith) ∙ small n below ∙ q.note_known)
        where
          small : (m : ℕ) → m < modulus → m % modulus ≡ m
          small m b = omega (arith, b)

-- ---- which rest it is, by the kind
pub integer_rest : (t : Tree) → kind_number t < 1 → leaf_note 0 1 ≡ term_key (term_of t)
unfolding kind_number term_key term_of term word
integer_rest (integer μ z) l = sym (integer_note 0 (pos 1))
integer_rest (symbol μ s) l = absurd (omega arith)
integer_rest (sum μ f) l = absurd (omega arith)
integer_rest (product μ f) l = absurd (omega arith)
integer_rest (power μ b ξ e) l = absurd (omega arith)

pub other_rest : (t : Tree) → 1 ≤ kind_number t → (kind_number t ≡ 3 → ⊥) → note t ≡ term_key (term_of t)
unfolding kind_number term_key term_of term
other_rest (integer μ z) l n = absurd (omega arith)
other_rest (symbol μ s) l n = refl
other_rest (sum μ f) l n = refl
other_rest (product μ f) l n = absurd (n refl)
other_rest (power μ b ξ e) l n = refl

-- a product
pub record IsProduct (t : Tree) : Type 0 where
  pub mark : ℕ
  pub members : Forest
  pub whole : t ≡ product mark members

pub product_kind : (t : Tree) → kind_number t ≡ 3 → IsProduct t
unfolding kind_number
product_kind (integer μ z) l = absurd (omega arith)
product_kind (symbol μ s) l = absurd (omega arith)
product_kind (sum μ f) l = absurd (omega arith)
product_kind (product μ f) l = record { mark = μ; members = f; whole = refl }
product_kind (power μ b ξ e) l = absurd (omega arith)

pub known_product : {s : List ℕ} {i k n : ℕ} {t : Tree} (p : IsProduct t) → Known s i k n t → Known s i 3 n (product p.mark p.members)
unfolding kind_number
known_product {s} {i} {k} {n} p h =
    let q = subst (Known s i k n) p.whole h in record { there = q.there; kind_known = refl; note_known = q.note_known }
