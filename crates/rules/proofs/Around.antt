-- One member alone is dropped: the members are those before it, itself and those behind it, and what is kept is all but itself. It has one
-- record, so with those before it moved by one record, and the node's record written before them, the node of what is kept stands. By
-- induction on the members, and read off what puts leave.
use Prim.Native.Nat.{ℕ, zero, suc, ◌+◌, ◌-◌, ◌*◌, ◌≤◌}
use mathlib.Core.Path.{◌≡◌, refl, sym, ap, ◌∙◌, subst}
use mathlib.Core.Bool.{Bool, true, false, cond}
use mathlib.Core.List.{List, [], ◌∷◌, ◌++◌, append_assoc}
use native.Mathlib.Omega.{arith}
use lib.ListN.{length, drop, length-append, length-drop}
use lib.Seq.{drop-drop, drop_at}
use lib.IntN.{pos}
use Rattle.paper.specs.Tree.{Tree, Forest, nil, cons, integer, symbol, sum, product, power, count, records, recordses, weight, to_list, of_list}
use Rattle.paper.specs.WellFormed.{Mark, WFl}
use Rattle.paper.specs.Table.{record_of}
use Rattle.paper.specs.Rules as paper
use Rattle.paper.specs.Rules.{is_the, drop_all, unless}
use Rattle.paper.proofs.EncodeLaws.{record_length}
use Rattle.paper.proofs.WFLaws.{of_to_list, wf_list}
use Rattle.paper.proofs.Value.{total, list_weights, weights_list}
use Rattle.paper.proofs.DropRules.{drop_all_wf}
use Rattle.note.specs.Note.{note}
use Rattle.note.specs.Noted.{encode_by, encodes_by}
use Rattle.note.proofs.NotedLaws.{encode_by_length, encodes_by_length}
use Rattle.note.proofs.CloseLaws.{unclosed}
use Rattle.stretch.specs.Put.{put, part}
use Rattle.stretch.proofs.Laws.{drop_put_at, length_put}
use Rattle.part.specs.Like.{node_kind, node_of}
use Rattle.rebuilt.specs.Written.{Light}
use Rattle.rebuilt.proofs.Encoded.{encodes_append, stands_bytes}
use Rattle.rules.specs.Tried.{Held, last_dropped, Around, PutBack}
use Rattle.rules.proofs.Nodes.{of_more}
use Rattle.rules.proofs.Dropping.{kept, dropped_weight, node_light}

-- ---- which member it is
one_record : (z : ℕ) (t : Tree) → is_the (pos z) t ≡ true → records t ≡ 1
unfolding is_the paper.as_integer records
one_record z (integer μ y) e = refl
one_record z (symbol μ v) e = absurd (let n : ◌≡◌ {A = ℕ} 0 1 = ap (λ b. cond b 1 0) e in omega arith)
one_record z (sum μ f) e = absurd (let n : ◌≡◌ {A = ℕ} 0 1 = ap (λ b. cond b 1 0) e in omega arith)
one_record z (product μ f) e = absurd (let n : ◌≡◌ {A = ℕ} 0 1 = ap (λ b. cond b 1 0) e in omega arith)
one_record z (power μ b ξ x) e = absurd (let n : ◌≡◌ {A = ℕ} 0 1 = ap (λ b. cond b 1 0) e in omega arith)

pub kept_most : (z : ℕ) (f : Forest) → length (kept z (to_list f)) ≤ count f
unfolding to_list drop_all unless count
kept_most z nil = omega arith
kept_most z (cons t f) = go (is_the (pos z) t) (kept_most z f)
  where
    go : (b : Bool) → length (kept z (to_list f)) ≤ count f → length (unless b t (kept z (to_list f))) ≤ count (cons t f)
    go true h = omega arith
    go false h = omega arith

-- all of them are kept
all_kept : (z i last : ℕ) (f : Forest) → length (kept z (to_list f)) ≡ count f → (kept z (to_list f) ≡ to_list f) × (last_dropped z i last f ≡ last)
unfolding to_list drop_all unless count last_dropped
all_kept z i last nil e = (refl, refl)
all_kept z i last (cons t f) e = go (is_the (pos z) t) e (all_kept z (i + records t) last f)
  where
    go : (b : Bool) → length (unless b t (kept z (to_list f))) ≡ count (cons t f)
        → (length (kept z (to_list f)) ≡ count f → (kept z (to_list f) ≡ to_list f) × (last_dropped z (i + records t) last f ≡ last))
        → (unless b t (kept z (to_list f)) ≡ t ∷ to_list f) × (last_dropped z (i + records t) (cond b i last) f ≡ last)
    go true e ih = absurd (omega (arith, kept_most z f))
    go false e ih = let r = ih (omega arith) in (ap (λ (l : List Tree). t ∷ l) r.0, r.1)

-- of the trees f, the first of them standing at record i, the one at record x alone is dropped
pub record OneDropped (z i x : ℕ) (f : Forest) : Type 0 where
  pub before : List Tree
  pub it : Tree
  pub behind : List Tree
  pub one : records it ≡ 1
  pub only : kept z (to_list f) ≡ before ++ behind
  pub whole : encodes_by note f ≡ encodes_by note (of_list before) ++ (encode_by note it ++ encodes_by note (of_list behind))
  pub place : x ≡ i + recordses (of_list before)

one_of : (z i last : ℕ) (f : Forest) → length (kept z (to_list f)) + 1 ≡ count f → OneDropped z i (last_dropped z i last f) f
unfolding to_list of_list drop_all unless count last_dropped records encode_by
one_of z i last nil e = absurd (omega arith)
one_of z i last (cons t f) e = go (is_the (pos z) t) refl e (one_of z (i + records t) last f)
  where
    go : (b : Bool) → is_the (pos z) t ≡ b → length (unless b t (kept z (to_list f))) + 1 ≡ count (cons t f)
        → (length (kept z (to_list f)) + 1 ≡ count f → OneDropped z (i + records t) (last_dropped z (i + records t) last f) f)
        → OneDropped z i (last_dropped z (i + records t) (cond (is_the (pos z) t) i last) f) (cons t f)
    go true k e ih =
        let all = all_kept z (i + records t) i f (omega arith) in
        record {
          before = [];
          it = t;
          behind = to_list f;
          one = one_record z t k;
          only = ap (λ c. unless c t (kept z (to_list f))) k ∙ all.0;
          whole = ap (λ g. encode_by note t ++ encodes_by note g) (sym (of_to_list f));
          place = ap (λ c. last_dropped z (i + records t) (cond c i last) f) k ∙ all.1 ∙ omega arith;
        }
    go false k e ih =
        let r = ih (omega arith) in
        let x = encode_by note t in
        let y = encodes_by note (of_list r.before) in
        record {
          before = t ∷ r.before;
          it = r.it;
          behind = r.behind;
          one = r.one;
          only = ap (λ c. unless c t (kept z (to_list f))) k ∙ ap (λ (l : List Tree). t ∷ l) r.only;
          whole = ap (λ (l : List ℕ). x ++ l) r.whole ∙ sym (append_assoc x y _);
          place = ap (λ c. last_dropped z (i + records t) (cond c i last) f) k ∙ r.place ∙ omega arith;
        }

-- of a node's members
pub one_dropped : {o w : List ℕ} {d p z : ℕ} {f : Forest} {rest : List ℕ} {x : ℕ} → Held o w d p f rest → length (kept z (to_list f)) + 1 ≡ count f
    → x ≡ last_dropped z (p + 1) p f → OneDropped z (p + 1) x f
one_dropped {p = p} {z = z} {f = f} h e q =
    let r = one_of z (p + 1) p f e in
    record { before = r.before; it = r.it; behind = r.behind; one = r.one; only = r.only; whole = r.whole; place = q ∙ r.place }

-- not one alone is kept, so two or more are
two_or_more : (n m : ℕ) → (n ≡ 1 → ⊥) → n + 1 ≡ m → 2 ≤ m → 2 ≤ n
two_or_more zero m e q l = absurd (omega arith)
two_or_more (suc zero) m e q l = absurd (e refl)
two_or_more (suc (suc n)) m e q l = omega arith

pub around : {o w : List ℕ} {d p z : ℕ} {f : Forest} {rest : List ℕ} {x : ℕ} → Held o w d p f rest → length (kept z (to_list f)) + 1 ≡ count f
    → (length (kept z (to_list f)) ≡ 1 → ⊥) → (r : OneDropped z (p + 1) x f) → Around w p x r.before r.behind rest
around {z = z} {f = f} {rest = rest} h e m r =
    let two = two_or_more (length (kept z (to_list f))) (count f) m e h.two in
    let same = ap length r.only in
    let drops = is_the (pos z) in
    let l = r.before ++ r.behind in
    let less = dropped_weight drops (to_list f) in
    let a = encodes_by note (of_list r.before) in
    let i = encode_by note r.it in
    let b = encodes_by note (of_list r.behind) in
    record {
      it = r.it;
      one = r.one;
      wf = subst WFl r.only (drop_all_wf drops (to_list f) (wf_list f h.wf));
      more = omega arith;
      light = omega (arith, h.light, list_weights l, ap (total weight) r.only, weights_list f);
      counted = omega (arith, h.counted);
      stand =
          h.stand ∙ ap (λ (l : List ℕ). l ++ rest) r.whole ∙ append_assoc a (i ++ b) rest
          ∙ ap (λ (l : List ℕ). a ++ l) (append_assoc i b rest);
      place = r.place;
    }

-- ---- the bytes
module _ {w : List ℕ} {p x : ℕ} {a b : List Tree} {rest : List ℕ} (h : Around w p x a b rest) where
  abbrev first : List ℕ
  first = encodes_by note (of_list a)

  abbrev middle : List ℕ
  middle = encode_by note h.it

  abbrev last : List ℕ
  last = encodes_by note (of_list b)

  pub around_light : (s : Bool) (μ : ℕ) → Mark μ → Light (node_of s μ (a ++ b))
  around_light s μ m = node_light s μ (a ++ b) m h.wf (omega (arith, h.light, list_weights (a ++ b)))

  pub around_long : length w ≡ (x + 1 + recordses (of_list b)) * 16 + length rest
  around_long =
      let all : length w - (p + 1) * 16 ≡ length first + (length middle + (length last + length rest)) =
      sym (length-drop ((p + 1) * 16) w) ∙ ap length h.stand ∙ length-append first (middle ++ (last ++ rest))
      ∙ ap (λ n. length first + n) (length-append middle (last ++ rest) ∙ ap (λ n. length middle + n) (length-append last rest)) in
      omega (arith, encodes_by_length note (of_list a), encode_by_length note h.it, encodes_by_length note (of_list b), h.one, h.place)

  behind_it : drop ((x + 1) * 16) w ≡ last ++ rest
  behind_it =
      let m = recordses (of_list a) * 16 + 16 in
      let size : length (first ++ middle) ≡ m =
      omega (arith, length-append first middle, encodes_by_length note (of_list a), encode_by_length note h.it, h.one) in
      let place : (x + 1) * 16 ≡ (p + 1) * 16 + m = omega (arith, h.place) in
      ap (λ k. drop k w) place ∙ sym (drop-drop m ((p + 1) * 16) w)
      ∙ ap (drop m) (h.stand ∙ sym (append_assoc first middle (last ++ rest)))
      ∙ drop_at (first ++ middle) (last ++ rest) m size

  -- the node before it is closed
  pub around_put : (s : Bool) (k n μ : ℕ) (w₁ w₂ : List ℕ) → k ≡ node_kind s → n ≡ length (a ++ b)
      → w₁ ≡ put w ((p + 2) * 16) (part w ((p + 1) * 16) ((x - (p + 1)) * 16)) → w₂ ≡ put w₁ ((p + 1) * 16) (record_of k n μ 0)
      → (drop ((p + 1) * 16) w₂ ≡ unclosed (node_of s μ (a ++ b)) ++ rest) × ((p + 1) * 16 ≤ length w₂)
  around_put s k n μ w₁ w₂ q c e₁ e₂ =
      let r = record_of k n μ 0 in
      let lr = record_length k n μ 0 in
      let la = encodes_by_length note (of_list a) in
      let long = around_long in
      let moved =
      e₁ ∙ ap (put w ((p + 2) * 16))
      (stands_bytes w (p + 1) ((x - (p + 1)) * 16) first (record { after = middle ++ (last ++ rest); there = h.stand }) (omega (arith, h.place))) in
      let wide = ap length moved ∙ length_put w ((p + 2) * 16) first (omega (arith, h.place)) in
      let wide₂ = ap length e₂ ∙ length_put w₁ ((p + 1) * 16) r (omega (arith, h.place)) in
      let next : (p + 1) * 16 + length r ≡ (p + 2) * 16 = omega arith in
      let end : (p + 2) * 16 + length first ≡ (x + 1) * 16 = omega (arith, h.place) in
      let members : drop ((p + 2) * 16) w₁ ≡ encodes_by note (of_list (a ++ b)) ++ rest =
      ap (drop ((p + 2) * 16)) moved ∙ drop_put_at w ((p + 2) * 16) first (omega (arith, h.place))
      ∙ ap (λ m. first ++ drop m w) end ∙ ap (λ (l : List ℕ). first ++ l) behind_it
      ∙ sym (append_assoc first last rest) ∙ ap (λ (l : List ℕ). l ++ rest) (sym (encodes_append a b)) in
      let node : record_of k n μ 0 ++ encodes_by note (of_list (a ++ b)) ≡ unclosed (node_of s μ (a ++ b)) =
      ap (λ k. record_of k n μ 0 ++ encodes_by note (of_list (a ++ b))) q
      ∙ ap (λ n. record_of (node_kind s) n μ 0 ++ encodes_by note (of_list (a ++ b))) c ∙ sym (of_more s μ (a ++ b) h.more) in (
        ap (drop ((p + 1) * 16)) e₂ ∙ drop_put_at w₁ ((p + 1) * 16) r (omega (arith, h.place))
            ∙ ap (λ m. r ++ drop m w₁) next ∙ ap (λ (l : List ℕ). r ++ l) members
            ∙ sym (append_assoc r (encodes_by note (of_list (a ++ b))) rest) ∙ ap (λ (l : List ℕ). l ++ rest) node,
        omega (arith, h.place),
      )

-- the node of what is left is that of what is kept
pub one_put : {o w' : List ℕ} {d q z i x : ℕ} {f : Forest} {rest : List ℕ} (b : Bool) (μ : ℕ) (r : OneDropped z i x f)
    → drop (q * 16) w' ≡ encode_by note (node_of b μ (r.before ++ r.behind)) ++ rest → PutBack b μ (kept z (to_list f)) rest o o w' d q
one_put {rest = rest} b μ r e = record { stands = e ∙ ap (λ l. encode_by note (node_of b μ l) ++ rest) (sym r.only); done = refl }
