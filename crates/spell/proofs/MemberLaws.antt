-- Members put one after the other with a sign between two, as a loop does: what is put so far, with the signs and members left, stays the
-- text of all of them.
use Prim.Native.Nat.{ℕ, ◌+◌, ◌-◌, ◌≤◌, ◌<◌}
use mathlib.Core.Path.{◌≡◌, refl, sym, ap, ◌∙◌, subst}
use mathlib.Core.List.{List, [], ◌∷◌, ◌++◌, append_assoc, append-nil}
use native.Mathlib.Omega.{arith}
use lib.ListN.{length}
use Rattle.paper.specs.Tree.{Tree, Forest, records, recordses}
use Rattle.paper_text.specs.Text.{Place, needs, enclosed, text, joined, others}
use Rattle.paper.specs.Standing.{TreeIn, TreesIn, SomeTree, SomeTrees}
use Rattle.paper.proofs.StandingLaws.{first_of, none_of}
use Rattle.stretch.proofs.Laws.{put_none}
use Rattle.spell.specs.declared.Spelt.{Spelt}
use Rattle.spell.specs.Spelt.{Put, TextPut, least_rank, Roomy}
use Rattle.spell.proofs.PutLaws.{then_put}
use Rattle.spell.proofs.LongLaws.{room_after}

-- of the members f from record i on, `left` are left from record j on, and the others are put, a sign before each
pub record MembersLeft (p : Place) (sign : ℕ) (s : List ℕ) (i j left : ℕ) (o : List ℕ) (at : ℕ) (o' : List ℕ) (e : ℕ) (f : Forest) : Type 0 where
  pub rest : Forest
  pub there : TreesIn s j left rest
  pub sized : j + recordses rest ≡ i + recordses f
  pub done : List ℕ
  pub whole : done ++ others p sign rest ≡ others p sign f
  pub put_so_far : Put done o at o' e

-- a place that `least` stands for
abbrev pub SomePlace : ℕ → Type 0
SomePlace least = (p : Place) × (least ≡ least_rank p)

-- what is promised of a member
abbrev pub MemberPut : ℕ → List ℕ → ℕ → List ℕ → ℕ → List ℕ → Spelt → Type 0
MemberPut least s i o at o' r = (p : Place) (t : Tree) → least ≡ least_rank p → TreeIn s i t
    → TextPut i (records t) (enclosed (needs p t) (text t)) o at o' r

-- what a loop over the n members from record i on keeps, whichever they are
pub record Joining (least sign : ℕ) (s : List ℕ) (i n : ℕ) (o : List ℕ) (at j left : ℕ) (o' : List ℕ) (e : ℕ) : Type 0 where
  pub ahead : i ≤ j
  pub long : length o' ≡ length o
  pub roomy : Roomy s j (e + 1)
  pub each : (p : Place) (f : Forest) → least ≡ least_rank p → TreesIn s i n f → MembersLeft p sign s i j left o at o' e f

-- what is promised of the members from record i on, a sign before each
abbrev pub OthersPut : ℕ → ℕ → List ℕ → ℕ → ℕ → List ℕ → ℕ → List ℕ → Spelt → Type 0
OthersPut least sign s i n o at o' r = (p : Place) (f : Forest) → least ≡ least_rank p → TreesIn s i n f
    → TextPut i (recordses f) (others p sign f) o at o' r

nothing_put : {o : List ℕ} {at : ℕ} → Put [] o at o at
nothing_put {o} {at} = record { end = omega arith; put_there = λ f. sym (put_none o at) }

pub first_there : {s : List ℕ} {i n : ℕ} → 0 < n → SomeTrees s i n → SomeTree s i
first_there h k = let m = first_of k.trees k.there h in record { tree = m.tree; there = m.there }

-- ---- the first member, and what is left after it
module _ {least : ℕ} {s : List ℕ} {i n : ℕ} {o o' : List ℕ} {at : ℕ} {r : Spelt} (h : 0 < n) (g : MemberPut least s i o at o' r) where
  pub others_there : SomeTrees s i n → SomePlace least → SomeTrees s r.next (n - 1)
  others_there k q =
      let m = first_of k.trees k.there h in
      record { trees = m.others; there = rw (g q.0 m.tree q.1 m.there).next m.after }

  pub first_ahead : SomeTrees s i n → SomePlace least → i ≤ r.next
  first_ahead k q =
      let m = first_of k.trees k.there h in
      let x = (g q.0 m.tree q.1 m.there).next in
      omega (arith, x)

  pub first_room : SomeTrees s i n → SomePlace least → Roomy s i at → Roomy s r.next (r.end + 1)
  first_room k q l =
      let m = first_of k.trees k.there h in
      let v = g q.0 m.tree q.1 m.there in
      room_after (needs q.0 m.tree) m.tree m.there l v.next v.text_put.end

  pub joined_put : (sign : ℕ) {o'' : List ℕ} {u : Spelt} → OthersPut least sign s r.next (n - 1) o' r.end o'' u
      → (p : Place) (f : Forest) → least ≡ least_rank p → TreesIn s i n f → TextPut i (recordses f) (joined p sign f) o at o'' u
  unfolding records joined
  joined_put sign {o''} {u} w p f q k =
      let m = first_of f k h in
      let v = g p m.tree q m.there in
      let b = w p m.others q (rw v.next m.after) in
      let x = v.next in
      let y = b.next in
      rw m.whole (record { next = omega (arith, x, y); text_put = then_put v.text_put b.text_put })

-- ---- the loop's turns
module _ {least sign : ℕ} {s : List ℕ} {i n : ℕ} {o : List ℕ} {at : ℕ} where
  pub begins : Roomy s i (at + 1) → Joining least sign s i n o at i n o at
  begins l = record {
    ahead = omega arith;
    long = refl;
    roomy = l;
    each = λ p f q k. record { rest = f; there = k; sized = refl; done = []; whole = refl; put_so_far = nothing_put };
  }

  module _ {j left : ℕ} {o' : List ℕ} {e : ℕ} (l : Joining least sign s i n o at j left o' e) where
    pub member_there : SomeTrees s i n → SomePlace least → 0 < left → SomeTree s j
    member_there k q h =
        let m = l.each q.0 k.trees q.1 k.there in
        let f = first_of m.rest m.there h in
        record { tree = f.tree; there = f.there }

    -- a sign, and a member after it
    module _ (h : 0 < left) {b : ℕ} {o1 o2 : List ℕ} (c : Put (sign ∷ []) o' e o1 b) (r : Spelt) (g : MemberPut least s j o1 b o2 r) where
      one_more_lem : (p : Place) (f : Forest) → least ≡ least_rank p → MembersLeft p sign s i j left o at o' e f
          → MembersLeft p sign s i r.next (left - 1) o at o2 r.end f
      unfolding records others
      one_more_lem p f q k =
          let m = first_of k.rest k.there h in
          let v = g p m.tree q m.there in
          let x = v.next in
          let y = k.sized in
          let z = ap recordses m.whole in
          let w = enclosed (needs p m.tree) (text m.tree) in
          record {
            rest = m.others;
            there = rw x m.after;
            sized = omega (arith, x, y, z);
            done = (k.done ++ (sign ∷ [])) ++ w;
            whole =
                append_assoc (k.done ++ (sign ∷ [])) w (others p sign m.others)
                ∙ append_assoc k.done (sign ∷ []) (w ++ others p sign m.others)
                ∙ ap (λ u. k.done ++ others p sign u) (sym m.whole) ∙ k.whole;
            put_so_far = then_put (then_put k.put_so_far c) v.text_put;
          }

      pub goes_on : SomeTrees s i n → SomePlace least → length o2 ≡ length o' → Joining least sign s i n o at r.next (left - 1) o2 r.end
      goes_on k q z =
          let t = member_there k q h in
          let v = g q.0 t.tree q.1 t.there in
          let x = v.next in
          let y = l.ahead in
          record {
            ahead = omega (arith, x, y);
            long = z ∙ l.long;
            roomy = room_after (needs q.0 t.tree) t.tree t.there (subst (Roomy s j) (sym c.end) l.roomy) x v.text_put.end;
            each = λ p f d m. one_more_lem p f d (l.each p f d m);
          }

    pub ends : left ≤ 0 → OthersPut least sign s i n o at o' (record { next = j; end = e })
    unfolding records others
    ends h p f q k =
        let m = l.each p f q k in
        let z : left ≡ 0 = omega (arith, h) in
        let d = none_of m.rest m.there z in
        let x = m.sized in
        let y = ap recordses d in
        let w : m.done ≡ others p sign f = sym (append-nil m.done) ∙ ap (λ u. m.done ++ others p sign u) (sym d) ∙ m.whole in
        record { next = omega (arith, x, y); text_put = subst (λ u. Put u o at o' e) w m.put_so_far }
