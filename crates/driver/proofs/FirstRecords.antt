-- The first record of a tree tells its kind, its mark and its number of members, and with them which trees are opened among the members of a
-- node. By cases on the tree.
use Prim.Native.Nat.{ℕ, ◌*◌, ◌<◌}
use mathlib.Core.Path.{◌≡◌, refl, sym, ◌∙◌, subst}
use mathlib.Core.Bool.{Bool, true, false, cond, ◌&&◌}
use mathlib.Core.List.{List, ◌++◌, append_assoc}
use mathlib.Core.Option.{Option, none, some}
use native.Mathlib.Omega.{arith}
use borrow.Author.Tests.{eqb-true}
use lib.Dec.{eqb}
use lib.ListN.{length, drop}
use Rattle.paper.specs.Bytes.{word}
use Rattle.paper.specs.Tree.{Tree, Forest, integer, symbol, sum, product, power, to_list, count, mark_of, records}
use Rattle.paper.specs.WellFormed.{Mark}
use Rattle.paper.specs.Record.{kind, count_in, mark_in, arity, is_node}
use Rattle.paper.specs.Table.{record_of}
use Rattle.paper.specs.Driver.{members, as_sum, as_product}
use Rattle.paper.proofs.Tests.{and_left, and_right}
use Rattle.paper.proofs.EncodeLaws.{kind_there, count_there, mark_there, count_records}
use Rattle.paper.proofs.WFLaws.{count_list}
use Rattle.paper.proofs.GatherLaws.{Opens, sums_open, products_open}
use Rattle.note.specs.Note.{note}
use Rattle.note.specs.Noted.{encode_by, encodes_by}
use Rattle.driver.specs.Driven.{with_notes, kind_number, first_record, inside}

module _ (s : List ℕ) (i : ℕ) where
  pub kind_first : (t : Tree) (r : List ℕ) → drop (i * 16) s ≡ with_notes t ++ r → kind s i ≡ kind_number t
  unfolding encode_by kind_number
  kind_first (integer μ z) r e = kind_there s i 0 0 μ (word z) r e
  kind_first (symbol μ v) r e = kind_there s i 1 0 μ v r e
  kind_first (sum μ f) r e =
      kind_there s i 2 (count f) μ (note (sum μ f)) (encodes_by note f ++ r) (e ∙ append_assoc (record_of 2 (count f) μ (note (sum μ f))) (encodes_by note f) r)
  kind_first (product μ f) r e =
      kind_there s i 3 (count f) μ (note (product μ f)) (encodes_by note f ++ r)
      (e ∙ append_assoc (record_of 3 (count f) μ (note (product μ f))) (encodes_by note f) r)
  kind_first (power μ b ξ x) r e =
      kind_there s i 4 0 μ (note (power μ b ξ x)) ((with_notes b ++ record_of 0 0 ξ x) ++ r)
      (e ∙ append_assoc (record_of 4 0 μ (note (power μ b ξ x))) (with_notes b ++ record_of 0 0 ξ x) r)

  -- the kind in the first record, whatever stands after it
  pub kind_there_first : (t : Tree) (r : List ℕ) → drop (i * 16) s ≡ first_record t ++ r → kind s i ≡ kind_number t
  unfolding first_record kind_number
  kind_there_first (integer μ z) r e = kind_there s i 0 0 μ (word z) r e
  kind_there_first (symbol μ v) r e = kind_there s i 1 0 μ v r e
  kind_there_first (sum μ f) r e = kind_there s i 2 (count f) μ (note (sum μ f)) r e
  kind_there_first (product μ f) r e = kind_there s i 3 (count f) μ (note (product μ f)) r e
  kind_there_first (power μ b ξ x) r e = kind_there s i 4 0 μ (note (power μ b ξ x)) r e

  -- the mark in the first record
  pub mark_first : (t : Tree) (r : List ℕ) → drop (i * 16) s ≡ first_record t ++ r → Mark (mark_of t) → mark_in s i ≡ mark_of t
  unfolding first_record mark_of
  mark_first (integer μ z) r e m = mark_there s i 0 0 μ (word z) r e m
  mark_first (symbol μ v) r e m = mark_there s i 1 0 μ v r e m
  mark_first (sum μ f) r e m = mark_there s i 2 (count f) μ (note (sum μ f)) r e m
  mark_first (product μ f) r e m = mark_there s i 3 (count f) μ (note (product μ f)) r e m
  mark_first (power μ b ξ x) r e m = mark_there s i 4 0 μ (note (power μ b ξ x)) r e m

  sum_count : (μ : ℕ) (f : Forest) (r : List ℕ) → drop (i * 16) s ≡ with_notes (sum μ f) ++ r → records (sum μ f) < 65536 → count_in s i ≡ count f
  unfolding encode_by records
  sum_count μ f r e h =
      count_there s i 2 (count f) μ (note (sum μ f)) (encodes_by note f ++ r)
      (e ∙ append_assoc (record_of 2 (count f) μ (note (sum μ f))) (encodes_by note f) r) (omega (arith, count_records f))

  product_count : (μ : ℕ) (f : Forest) (r : List ℕ) → drop (i * 16) s ≡ with_notes (product μ f) ++ r → records (product μ f) < 65536 → count_in s i ≡ count f
  unfolding encode_by records
  product_count μ f r e h =
      count_there s i 3 (count f) μ (note (product μ f)) (encodes_by note f ++ r)
      (e ∙ append_assoc (record_of 3 (count f) μ (note (product μ f))) (encodes_by note f) r) (omega (arith, count_records f))

  -- the number of members that the first record gives
  pub arity_first : (t : Tree) (r : List ℕ) → drop (i * 16) s ≡ with_notes t ++ r → records t < 65536 → arity s i ≡ length (members t)
  unfolding arity kind_number members
  arity_first (integer μ z) r e h = rw (kind_first (integer μ z) r e)
  arity_first (symbol μ v) r e h = rw (kind_first (symbol μ v) r e)
  arity_first (sum μ f) r e h = rw (kind_first (sum μ f) r e) (sum_count μ f r e h ∙ sym (count_list f))
  arity_first (product μ f) r e h = rw (kind_first (product μ f) r e) (product_count μ f r e h ∙ sym (count_list f))
  arity_first (power μ b ξ x) r e h = rw (kind_first (power μ b ξ x) r e)

-- ---- which trees are opened
-- a tree that is opened: its members take its place
pub record Open (k : ℕ) (u : Tree) : Type 0 where
  pub opens_to : inside k u ≡ some (members u)
  pub counted : (s : List ℕ) (i : ℕ) (r : List ℕ) → drop (i * 16) s ≡ with_notes u ++ r → records u < 65536 → count_in s i ≡ length (members u)

wrong : {A : Type 0} (k j : ℕ) → (eqb j k && is_node k) ≡ true → is_node j ≡ false → A
wrong k j e n =
    let q : j ≡ k = eqb-true j k (and_left (eqb j k) (is_node k) e) in
    let a : is_node j ≡ true = subst (λ x. is_node x ≡ true) (sym q) (and_right (eqb j k) (is_node k) e) in
    absurd (let z : ◌≡◌ {A = ℕ} 0 1 = cc in omega arith)

pub is_opened : (k : ℕ) (u : Tree) → (eqb (kind_number u) k && is_node k) ≡ true → Open k u
unfolding kind_number is_node members inside as_sum as_product
is_opened k (integer μ z) e = wrong k 0 e refl
is_opened k (symbol μ v) e = wrong k 1 e refl
is_opened k (sum μ f) e =
    subst (λ x. Open x (sum μ f)) (eqb-true 2 k (and_left (eqb 2 k) (is_node k) e))
    (record { opens_to = refl; counted = λ s i r q h. sum_count s i μ f r q h ∙ sym (count_list f) })
is_opened k (product μ f) e =
    subst (λ x. Open x (product μ f)) (eqb-true 3 k (and_left (eqb 3 k) (is_node k) e))
    (record { opens_to = refl; counted = λ s i r q h. product_count s i μ f r q h ∙ sym (count_list f) })
is_opened k (power μ b ξ x) e = wrong k 4 e refl

neither : (b : Bool) → ◌≡◌ {A = Option (List Tree)} (cond b none none) none
neither true = refl
neither false = refl

nowhere : (a b : Bool) → ◌≡◌ {A = Option (List Tree)} (cond a none (cond b none none)) none
nowhere true b = refl
nowhere false b = neither b

pub is_kept : (k : ℕ) (u : Tree) → (eqb (kind_number u) k && is_node k) ≡ false → inside k u ≡ none
unfolding kind_number is_node inside as_sum as_product
is_kept k (integer μ z) e = nowhere (eqb k 2) (eqb k 3)
is_kept k (symbol μ v) e = nowhere (eqb k 2) (eqb k 3)
is_kept k (sum μ f) e = go (eqb k 2) refl
  where
    go : (a : Bool) → eqb k 2 ≡ a → cond a (some (to_list f)) (cond (eqb k 3) none none) ≡ none
    go true q =
        let s : 2 ≡ k = sym (eqb-true k 2 q) in
        let x : (eqb 2 2 && is_node 2) ≡ false = subst (λ j. (eqb 2 j && is_node j) ≡ false) (sym s) e in
        absurd (let z : ◌≡◌ {A = ℕ} 0 1 = cc in omega arith)
    go false q = neither (eqb k 3)
is_kept k (product μ f) e = go (eqb k 2) (eqb k 3) refl
  where
    go : (a b : Bool) → eqb k 3 ≡ b → cond a none (cond b (some (to_list f)) none) ≡ none
    go true b q = refl
    go false true q =
        let s : 3 ≡ k = sym (eqb-true k 3 q) in
        let x : (eqb 3 3 && is_node 3) ≡ false = subst (λ j. (eqb 3 j && is_node j) ≡ false) (sym s) e in
        absurd (let z : ◌≡◌ {A = ℕ} 0 1 = cc in omega arith)
    go false false q = refl
is_kept k (power μ b ξ x) e = nowhere (eqb k 2) (eqb k 3)

-- opening takes one off the weight, whatever the kind
pub inside_opens : (k : ℕ) → Opens (inside k)
unfolding inside
inside_opens k = go (eqb k 2) (eqb k 3)
  where
    go : (a b : Bool) → Opens (λ t. cond a (as_sum t) (cond b (as_product t) none))
    go true b = sums_open
    go false true = products_open
    go false false =
        record {
          heavier = λ t l e. absurd (let z : ◌≡◌ {A = ℕ} 0 1 = cc in omega arith);
          wf_members = λ t l e. absurd (let z : ◌≡◌ {A = ℕ} 0 1 = cc in omega arith);
        }
