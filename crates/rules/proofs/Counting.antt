-- The members that steps 1 and 4 keep, counted one after the other: how many were met and how many are among those left, and which of them is
-- the last, kept or dropped. Where one alone is kept, it stands where the last one does, and the node of it is itself, moved so that it
-- ends where the node ended. By induction on the members.
use Prim.Native.Nat.{ℕ, ◌+◌, ◌-◌, ◌*◌, ◌<◌, ◌≤◌}
use mathlib.Core.Path.{◌≡◌, refl, sym, ap, ◌∙◌, subst}
use mathlib.Core.Bool.{Bool, true, false, cond}
use mathlib.Core.List.{List, [], ◌∷◌, ◌++◌}
use native.Mathlib.Omega.{arith}
use lib.ListN.{length, drop}
use lib.Seq.{drop-drop, drop_at}
use lib.IntN.{pos}
use Rattle.paper.specs.Tree.{Tree, Forest, nil, cons, records, recordses, to_list}
use Rattle.paper.specs.Record.{count_in}
use Rattle.paper.specs.Rules as paper
use Rattle.paper.specs.Rules.{is_the, drop_all, unless}
use Rattle.note.specs.Note.{note}
use Rattle.note.specs.Noted.{encode_by}
use Rattle.note.proofs.NotedLaws.{encode_by_length}
use Rattle.note.proofs.ToldLaws.{FirstOf, first_of, first_tree, other_trees, none_of, some_told}
use Rattle.split.specs.Standing.{Told, ToldTrees, SomeTold}
use Rattle.stretch.specs.Put.{put, part}
use Rattle.stretch.proofs.Laws.{drop_put_at}
use Rattle.part.specs.Like.{node_of}
use Rattle.rebuilt.proofs.Encoded.{stands_part}
use Rattle.walk.proofs.Steps.{none_left}
use Rattle.rules.specs.Tried.{Held, MembersIn, last_kept, last_dropped, PutBack}
use Rattle.rules.proofs.Nodes.{after_first, members_in_lem}
use Rattle.rules.proofs.Dropping.{kept}
use Rattle.rules.proofs.CombineLaws.{held_after}

-- ---- some members are left: with those met so far, they are all
pub record Counting (s : List ℕ) (p z : ℕ) (f : Forest) (at left many last gone : ℕ) : Type 0 where
  pub others : Forest
  pub stand : ToldTrees note s at left others
  pub number : length (kept z (to_list f)) ≡ many + length (kept z (to_list others))
  pub latest : last_kept z (p + 1) p f ≡ last_kept z at last others
  pub latest_gone : last_dropped z (p + 1) p f ≡ last_dropped z at gone others
  pub place : at + recordses others ≡ p + 1 + recordses f

pub counting_starts : {s : List ℕ} {p z : ℕ} {f : Forest} {n : ℕ} → MembersIn s p f → n ≡ count_in s p → Counting s p z f (p + 1) n 0 p p
counting_starts {s} {p} {z} {f} h e =
    record {
      others = f;
      stand = subst (λ n. ToldTrees note s (p + 1) n f) (sym e) (members_in_lem s p f h);
      number = omega arith;
      latest = refl;
      latest_gone = refl;
      place = refl;
    }

module _ {s : List ℕ} {p z : ℕ} {f : Forest} {at left many last gone : ℕ} (v : Counting s p z f at left many last gone) where
  module _ (l : 0 < left) where
    -- the first of those that are left
    abbrev pub next_one : FirstOf note s at left v.others
    next_one = first_of v.others v.stand l

    pub some_next : SomeTold s at
    some_next = some_told next_one.there

    -- it is met: b tells whether it is the integer, m and n are how many are kept then and the last of them
    module _ (next : ℕ) (q : next ≡ at + records next_one.tree) where
      met : (b : Bool) → is_the (pos z) next_one.tree ≡ b
          → let l = kept z (to_list next_one.others) in
          (length (kept z (to_list f)) ≡ many + length (unless b next_one.tree l))
          × (last_kept z (p + 1) p f ≡ last_kept z next (cond b last at) next_one.others)
          × (last_dropped z (p + 1) p f ≡ last_dropped z next (cond b at gone) next_one.others)
          × (next + recordses next_one.others ≡ p + 1 + recordses f)
      unfolding to_list drop_all last_kept last_dropped records
      met b e =
          let t = next_one.tree in
          let o = next_one.others in
          let size = ap recordses next_one.whole in (
            v.number ∙ ap (λ g. many + length (kept z (to_list g))) next_one.whole ∙ ap (λ c. many + length (unless c t (kept z (to_list o)))) e,
            v.latest ∙ ap (last_kept z at last) next_one.whole ∙ ap (λ c. last_kept z (at + records t) (cond c last at) o) e
                ∙ ap (λ i. last_kept z i (cond b last at) o) (sym q),
            v.latest_gone ∙ ap (last_dropped z at gone) next_one.whole ∙ ap (λ c. last_dropped z (at + records t) (cond c at gone) o) e
                ∙ ap (λ i. last_dropped z i (cond b at gone) o) (sym q),
            omega (arith, v.place),
          )

      pub counts : is_the (pos z) next_one.tree ≡ false → Counting s p z f next (left - 1) (many + 1) at gone
      unfolding unless
      counts e =
          let m = met false e in
          record {
            others = next_one.others;
            stand = after_first next_one next q;
            number = omega (arith, m.0);
            latest = m.1;
            latest_gone = m.2;
            place = m.3;
          }

      pub skips : is_the (pos z) next_one.tree ≡ true → Counting s p z f next (left - 1) many last at
      unfolding unless
      skips e =
          let m = met true e in
          record { others = next_one.others; stand = after_first next_one next q; number = m.0; latest = m.1; latest_gone = m.2; place = m.3 }

  -- none is left
  pub counted : left ≤ 0
      → (many ≡ length (kept z (to_list f))) × (last ≡ last_kept z (p + 1) p f) × (gone ≡ last_dropped z (p + 1) p f)
      × (at ≡ p + 1 + recordses f)
  unfolding to_list drop_all last_kept last_dropped records
  counted l =
      let none : v.others ≡ nil = none_of v.others v.stand (omega arith) in
      let number = v.number ∙ ap (λ g. many + length (kept z (to_list g))) none in
      let size = ap recordses none in (
        omega arith,
        sym (v.latest ∙ ap (last_kept z at last) none),
        sym (v.latest_gone ∙ ap (last_dropped z at gone) none),
        omega (arith, v.place),
      )

-- ---- one alone is kept: it stands at the record of the last one, and ends where the members end or before
pub record Lone (s : List ℕ) (z at end : ℕ) (f : Forest) : Type 0 where
  pub tree : Tree
  pub only : kept z (to_list f) ≡ tree ∷ []
  pub there : Told note s at tree
  pub before : at + records tree ≤ end

none_later : (z i last : ℕ) (f : Forest) → length (kept z (to_list f)) ≡ 0 → last_kept z i last f ≡ last
unfolding to_list drop_all unless last_kept
none_later z i last nil e = refl
none_later z i last (cons t f) e = go (is_the (pos z) t) e (none_later z (i + records t) last f)
  where
    go : (b : Bool) → length (unless b t (kept z (to_list f))) ≡ 0
        → (length (kept z (to_list f)) ≡ 0 → last_kept z (i + records t) last f ≡ last) → last_kept z (i + records t) (cond b last i) f ≡ last
    go true e ih = ih e
    go false e ih = absurd (omega arith)

lone_of : (s : List ℕ) (z i n last : ℕ) (f : Forest) → ToldTrees note s i n f → length (kept z (to_list f)) ≡ 1
    → Lone s z (last_kept z i last f) (i + recordses f) f
unfolding to_list drop_all unless last_kept records
lone_of s z i n last nil h e = absurd (omega arith)
lone_of s z i n last (cons t f) h e = go (is_the (pos z) t) refl e (lone_of s z (i + records t) (n - 1) last f (other_trees h))
  where
    go : (b : Bool) → is_the (pos z) t ≡ b → length (unless b t (kept z (to_list f))) ≡ 1
        → (length (kept z (to_list f)) ≡ 1 → Lone s z (last_kept z (i + records t) last f) (i + records t + recordses f) f)
        → Lone s z (last_kept z (i + records t) (cond (is_the (pos z) t) last i) f) (i + (records t + recordses f)) (cons t f)
    go true k e ih =
        let r = ih e in
        let same = ap (λ c. last_kept z (i + records t) (cond c last i) f) k in
        record {
          tree = r.tree;
          only = ap (λ c. unless c t (kept z (to_list f))) k ∙ r.only;
          there = subst (λ a. Told note s a r.tree) (sym same) r.there;
          before = omega (arith, r.before);
        }
    go false k e ih =
        let others : length (kept z (to_list f)) ≡ 0 = omega arith in
        let same : last_kept z (i + records t) (cond (is_the (pos z) t) last i) f ≡ i =
        ap (λ c. last_kept z (i + records t) (cond c last i) f) k ∙ none_later z (i + records t) i f others in
        record {
          tree = t;
          only = ap (λ c. unless c t (kept z (to_list f))) k ∙ ap (λ (l : List Tree). t ∷ l) (none_left (kept z (to_list f)) others);
          there = subst (λ a. Told note s a t) (sym same) (first_tree h);
          before = omega arith;
        }

pub lone : {s : List ℕ} {p z : ℕ} {f : Forest} {at end : ℕ} → MembersIn s p f → length (kept z (to_list f)) ≡ 1 → at ≡ last_kept z (p + 1) p f
    → end ≡ p + 1 + recordses f → Lone s z at end f
lone {s} {p} {z} {f} {at} h e a b =
    let r = lone_of s z (p + 1) (count_in s p) p f (members_in_lem s p f h) e in
    record { tree = r.tree; only = r.only; there = subst (λ i. Told note s i r.tree) (sym a) r.there; before = omega (arith, r.before) }

-- ---- a tree moved so that it ends at a record
module _ {w : List ℕ} {i : ℕ} {t : Tree} (h : Told note w i t) (end : ℕ) where
  -- where it ends there, it stays
  pub ends_there : i + records t ≡ end → drop (i * 16) w ≡ encode_by note t ++ drop (end * 16) w
  ends_there e =
      let x = encode_by note t in
      let m = records t * 16 in
      let place : end * 16 ≡ i * 16 + m = omega arith in
      let after : drop (end * 16) w ≡ h.stands.after =
      ap (λ k. drop k w) place ∙ sym (drop-drop m (i * 16) w) ∙ ap (drop m) h.stands.there
      ∙ drop_at x h.stands.after m (encode_by_length note t ∙ omega arith) in
      h.stands.there ∙ ap (λ (y : List ℕ). x ++ y) (sym after)

  pub moved : (next q : ℕ) (w' : List ℕ) → next ≡ i + records t → i + records t ≤ end → q ≡ end - (next - i)
      → end * 16 ≤ length w → w' ≡ put w (q * 16) (part w (i * 16) ((next - i) * 16)) → drop (q * 16) w' ≡ encode_by note t ++ drop (end * 16) w
  moved next q w' n l a r e =
      let x = encode_by note t in
      let size = encode_by_length note t in
      let place : q * 16 + length x ≡ end * 16 = omega arith in
      ap (drop (q * 16)) (e ∙ ap (put w (q * 16)) (stands_part w i ((next - i) * 16) t h.stands (omega arith)))
      ∙ drop_put_at w (q * 16) x (omega arith)
      ∙ ap (λ m. x ++ drop m w) place

-- ---- the node of it is itself
one_member : (b : Bool) (μ : ℕ) (t : Tree) → node_of b μ (t ∷ []) ≡ t
unfolding paper.sum_of paper.product_of paper.collapse
one_member true μ t = refl
one_member false μ t = refl

pub lone_put : {o w : List ℕ} {d p z : ℕ} {f : Forest} {rest : List ℕ} → Held o w d p f rest → (b : Bool) (μ : ℕ) {w' : List ℕ} {at end q : ℕ}
    → (s : Lone w z at end f) → end ≡ p + 1 + recordses f → drop (q * 16) w' ≡ encode_by note s.tree ++ drop (end * 16) w
    → PutBack b μ (kept z (to_list f)) rest o o w' d q
lone_put {w = w} {rest = rest} h b μ s e there =
    let x = encode_by note s.tree in
    record {
      stands =
          there ∙ ap (λ n. x ++ drop (n * 16) w) e ∙ ap (λ (y : List ℕ). x ++ y) (held_after h)
          ∙ ap (λ t. encode_by note t ++ rest) (sym (ap (node_of b μ) s.only ∙ one_member b μ s.tree));
      done = refl;
    }
