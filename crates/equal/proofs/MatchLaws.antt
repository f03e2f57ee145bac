-- Members matched one after the other: each takes an equal one away from those that are unticked, so what is left to match says what
-- the whole does; equally many on both sides, none is left in the end.
use Prim.Native.Nat.{ℕ, ◌+◌, ◌-◌, ◌≤◌, ◌<◌}
use mathlib.Core.Path.{◌≡◌, refl, sym, ap, ◌∙◌, subst}
use mathlib.Core.Bool.{Bool, true, false}
use mathlib.Core.List.{List, [], ◌∷◌}
use mathlib.Core.Option.{none, some}
use native.Mathlib.Omega.{arith}
use borrow.Author.Tests.{ltb-true, ltb-false}
use lib.ListN.{length, get_or}
use Rattle.paper.specs.Record.{kind}
use Rattle.paper.specs.Tree.{Tree, Forest, nil, cons, records, recordses, to_list}
use Rattle.paper.specs.Equal.{remove_first, go_on, is_empty, same_bag, equal}
use Rattle.paper.proofs.Bags.{First, remove_first_first}
use Rattle.paper.specs.Rules.{as_integer, with_other, others_of}
use Rattle.paper.proofs.Tests.{true_not_false}
use Rattle.note.proofs.ToldLaws.{seen_integer}
use Rattle.paper.proofs.EncodeLaws.{count_records}
use Rattle.paper.proofs.WFLaws.{count_list}
use Rattle.split.specs.Standing.{Told, ToldTrees}
use Rattle.split.proofs.SplitLaws.{no_integer}
use Rattle.note.proofs.ToldLaws.{seen, FirstOf, first_of, none_of}
use Rattle.note.specs.Plain.{parts_of}
use Rattle.equal.specs.Head.{members_in}
use Rattle.std.specs.Prelude.{Option, Some, None}
use Rattle.equal.specs.Matching.{is_passed, without, unticked, match_of, Takeable, Took}
use Rattle.equal.proofs.SameLaws.{taken_length, is_equal_lem, is_different}
use Rattle.equal.proofs.MemberLaws.{members_there, members_few, same_members}
use Rattle.equal.proofs.TickLaws.{unticked_all, alone_differs, alone_equal}

-- ---- the trees of a row, one by one: an integer that is passed over, and any other
module _ (skip : Bool) {how : Tree → ℕ} {s : List ℕ} {i : ℕ} {t : Tree} (h : Told how s i t) (f : Forest) where
  pub without_integer : is_passed skip s i ≡ true → (without skip (cons t f) ≡ without skip f) × (records t ≡ 1)
  unfolding is_passed without others_of with_other as_integer to_list records
  without_integer e = by skip e
    where
      by : (b : Bool) → is_passed b s i ≡ true → (without b (cons t f) ≡ without b f) × (records t ≡ 1)
      by true e = let q = seen_integer (seen h) (omega (arith, ltb-true (kind s i) 1 e)) in rw q.2 (refl, refl)
      by false e = absurd (true_not_false e refl)

  pub without_other : is_passed skip s i ≡ false → without skip (cons t f) ≡ t ∷ without skip f
  unfolding is_passed without others_of with_other to_list
  without_other e = by skip e
    where
      by : (b : Bool) → is_passed b s i ≡ false → without b (cons t f) ≡ t ∷ without b f
      by true e = rw (no_integer h (omega (arith, ltb-false (kind s i) 1 e))) refl
      by false e = refl

-- where none is passed over, this one is not
pub none_passed : (s : List ℕ) (i : ℕ) → is_passed false s i ≡ false
unfolding is_passed
none_passed s i = refl

without_none : (skip : Bool) → without skip nil ≡ []
unfolding without others_of to_list
without_none true = refl
without_none false = refl

-- ---- one tree matched
bag_none : (t : Tree) (l k : List Tree) → remove_first (equal t) k ≡ none → same_bag equal (t ∷ l) k ≡ false
unfolding same_bag go_on
bag_none t l k e = rw e

bag_more : (t : Tree) (l k m : List Tree) → remove_first (equal t) k ≡ some m → same_bag equal (t ∷ l) k ≡ same_bag equal l m
unfolding same_bag go_on
bag_more t l k m e = rw e refl

bag_end : (k : List Tree) → length k ≡ 0 → same_bag equal [] k ≡ true
unfolding same_bag is_empty
bag_end [] e = refl
bag_end (t ∷ k) e = absurd (omega arith)

removed_length : (p : Tree → Bool) (l m : List Tree) → remove_first p l ≡ some m → length l ≡ 1 + length m
removed_length p l m e = taken_length (subst (First p l) e (remove_first_first p l)).2

-- the trees of f matched so far: those from record `at` on are left, equally many as are unticked, the ticks of g being those from tick u on, and
-- say what the whole does
pub record Matched (how : Tree → ℕ) (a : List ℕ) (i : ℕ) (skip : Bool) (u : ℕ) (us₀ us : List ℕ) (f g : Forest) (at left : ℕ) : Type 0 where
  pub rest : Forest
  pub stand : ToldTrees how a at left rest
  pub ends : at + recordses rest ≡ i + recordses f
  pub as_many : length (without skip rest) ≡ length (unticked us u g)
  pub same : same_bag equal (without skip rest) (unticked us u g) ≡ same_bag equal (without skip f) (unticked us₀ u g)

module _ {how : Tree → ℕ} {a : List ℕ} {i : ℕ} {skip : Bool} {u : ℕ} {f g : Forest} where
  pub matched_start : {n : ℕ} (us : List ℕ) → ToldTrees how a i n f → length (without skip f) ≡ length (unticked us u g) → Matched how a i skip u us us f g i n
  matched_start us h l = record { rest = f; stand = h; ends = refl; as_many = l; same = refl }

  module _ {us₀ us : List ℕ} {at left : ℕ} (h : Matched how a i skip u us₀ us f g at left) where
    pub matched_done : left ≡ 0 → (same_bag equal (without skip f) (unticked us₀ u g) ≡ true) × (at ≡ i + recordses f)
    unfolding records
    matched_done e =
        let z : h.rest ≡ nil = none_of h.rest h.stand e in
        let w : without skip h.rest ≡ [] = ap (without skip) z ∙ without_none skip in
        let r : recordses h.rest ≡ 0 = ap recordses z in
        let l : length (without skip h.rest) ≡ 0 = ap length w in
        let all = bag_end (unticked us u g) (omega (arith, h.as_many)) in
        (sym h.same ∙ ap (λ k. same_bag equal k (unticked us u g)) w ∙ all, omega (arith, h.ends))

    module _ (l : 0 < left) where
      next : FirstOf how a at left h.rest
      next = first_of h.rest h.stand l

      pub matched_tree : (t : Tree) × Told how a at t
      matched_tree = (next.tree, next.there)

      pub matched_takeable : {b : List ℕ} {j m : ℕ} (room : ℕ) → ToldTrees how b j m g → recordses g ≤ room → Takeable a at b j m room
      matched_takeable room o r =
          record { how = how; one = next.tree; others = g; one_there = next.there; others_there = o; enough = r }

      after : at + records next.tree + recordses next.others ≡ i + recordses f
      unfolding records
      after = omega (arith, h.ends, ap recordses next.whole)

      -- one that is passed over
      pub matched_out : is_passed skip a at ≡ true → Matched how a i skip u us₀ us f g (at + 1) (left - 1)
      matched_out e =
          let q = without_integer skip next.there next.others e in
          let w : without skip h.rest ≡ without skip next.others = ap (without skip) next.whole ∙ q.0 in
          let past : at + 1 ≡ at + records next.tree = omega (arith, q.1) in
          rw past
          (record {
            rest = next.others;
            stand = next.after;
            ends = after;
            as_many = ap length (sym w) ∙ h.as_many;
            same = ap (λ k. same_bag equal k (unticked us u g)) (sym w) ∙ h.same;
          })

      module _ (n : is_passed skip a at ≡ false) where
        first : without skip h.rest ≡ next.tree ∷ without skip next.others
        first = ap (without skip) next.whole ∙ without_other skip next.there next.others n

        -- one that equals no unticked one
        pub matched_none : ((t : Tree) → Told how a at t → remove_first (equal t) (unticked us u g) ≡ none)
            → same_bag equal (without skip f) (unticked us₀ u g) ≡ false
        matched_none r =
            sym h.same
            ∙ ap (λ k. same_bag equal k (unticked us u g)) first
            ∙ bag_none next.tree (without skip next.others) (unticked us u g) (r next.tree next.there)

        -- one that took an equal one
        pub matched_more : (vs : List ℕ) (y : ℕ)
            → ((t : Tree) → Told how a at t → (y ≡ at + records t) × (remove_first (equal t) (unticked us u g) ≡ some (unticked vs u g)))
            → Matched how a i skip u us₀ vs f g y (left - 1)
        matched_more vs y r =
            let t = next.tree in
            let k : List Tree = without skip next.others in
            let q = r t next.there in
            rw q.0
            (record {
              rest = next.others;
              stand = next.after;
              ends = after;
              as_many = omega (arith, ap length first, h.as_many, removed_length (equal t) (unticked us u g) (unticked vs u g) q.1);
              same =
                  sym (bag_more t k (unticked us u g) (unticked vs u g) q.1)
                  ∙ ap (λ z. same_bag equal z (unticked us u g)) (sym first)
                  ∙ h.same;
            })

-- ---- the members of two trees, none of them left out and none ticked
module _ {how : Tree → ℕ} {a : List ℕ} {i : ℕ} {b : List ℕ} {j : ℕ} {t u : Tree} (h : Told how a i t) (g : Told how b j u)
    (n : ℕ) (one : n ≡ members_in a i) (other : n ≡ members_in b j) where
  ones_there : ToldTrees how a (i + 1) n (parts_of t)
  ones_there = members_there h n one

  others_there : ToldTrees how b (j + 1) n (parts_of u)
  others_there = members_there g n other

  -- there is room for the ticks
  pub members_room : (room : ℕ) → records u ≤ 1 + room → n ≤ room
  members_room room l = omega (arith, members_few u, others_there.counted, count_records (parts_of u))

  module _ (v : ℕ) (us : List ℕ) (zero-ticks : (k : ℕ) → v ≤ k → k < v + n → get_or us k 0 ≡ 0) where
    all_others : unticked us v (parts_of u) ≡ to_list (parts_of u)
    all_others = unticked_all us v (v + n) (parts_of u) zero-ticks (omega (arith, others_there.counted))

    pub all_members : same_bag equal (without false (parts_of t)) (unticked us v (parts_of u)) ≡ same_members t u
    unfolding without
    all_members = ap (same_bag equal (to_list (parts_of t))) all_others

    pub members_start : Matched how a (i + 1) false v us us (parts_of t) (parts_of u) (i + 1) n
    unfolding without
    members_start =
        matched_start us ones_there
        (omega (arith, ap length all_others, count_list (parts_of t), count_list (parts_of u), ones_there.counted, others_there.counted))

-- ---- a row of one tree that has no tick: the search in it says whether the two are equal
pub took_alone : (t u : Tree) (us vs : List ℕ) (e : ℕ) (r : Option ℕ) → get_or us 0 0 ≡ 0 → Took t (cons u nil) 0 us vs e r
    → r ≡ match_of (equal t u) e
took_alone t u us vs e r free q = by r q
  where
    by : (r : Option ℕ) → Took t (cons u nil) 0 us vs e r → r ≡ match_of (equal t u) e
    by None q = is_different e (alone_differs t u us free q)
    by (Some x) q = is_equal_lem (alone_equal t u us free vs q.1) q.0
