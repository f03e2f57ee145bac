-- The gathered node is closed up: the record of a leaf stays; that of a sum or a product gets the number of its members, and keeps its
-- mark; and a node's note is made from its members' notes. Before that its record is its own but for the number in bytes 8-15, and
-- its members' records stand behind it. By cases on the node.
use Prim.Native.Nat.{ℕ, ◌+◌, ◌*◌, ◌<◌, ◌≤◌}
use mathlib.Core.Path.{◌≡◌, refl, sym, ap, ◌∙◌, subst}
use mathlib.Core.List.{List, ◌++◌, append-nil, append_assoc}
use native.Mathlib.Omega.{arith}
use lib.ListN.{length, take, drop, length-append, take-append-drop}
use lib.Seq.{length-take-le, drop_at, take_at, take-take, drop-drop}
use Rattle.paper.specs.Bytes.{bytes, word}
use Rattle.paper.specs.Tree.{Tree, integer, symbol, sum, product, power, of_list, mark_of, records}
use Rattle.paper.specs.Record.{mark_in}
use Rattle.paper.specs.Table.{record_of}
use Rattle.paper.specs.Driver.{base_from}
use Rattle.paper.proofs.EncodeLaws.{record_length}
use Rattle.paper.proofs.WFLaws.{list_count}
use Rattle.stretch.specs.Put.{put}
use Rattle.note.specs.Note.{note}
use Rattle.note.specs.Noted.{encode_by, encodes_by, count_of, inner, Unnoted}
use Rattle.note.proofs.NotedLaws.{own, encode_by_length}
use Rattle.note.proofs.CloseLaws.{closed_among}
use Rattle.driver.specs.Driven.{with_notes, encode_all, records_all, kind_number, first_record, closed_over, Shape, Gathers, Closed}
use Rattle.driver.proofs.Forests.{first_length}
use Rattle.driver.proofs.FirstRecords.{mark_first}

-- another first record before what stands after it
new_front : (o x f y r : List ℕ) (a m : ℕ) → take m o ≡ x ++ (f ++ y) → length x ≡ a → length f ≡ length r → m ≤ length o
    → take m (put o a r) ≡ x ++ (r ++ y)
unfolding put
new_front o x f y r a m e l k h =
    let z : List ℕ = drop m o in
    let whole : o ≡ x ++ (f ++ (y ++ z)) =
    sym (take-append-drop m o) ∙ ap (λ (i : List ℕ). i ++ z) e ∙ append_assoc x (f ++ y) z ∙ ap (λ (i : List ℕ). x ++ i) (append_assoc f y z) in
    let fr : take a o ≡ x = ap (take a) whole ∙ take_at x (f ++ (y ++ z)) a l in
    let bk : drop (a + length r) o ≡ y ++ z =
    sym (drop-drop (length r) a o) ∙ ap (λ (i : List ℕ). drop (length r) (drop a i)) whole
    ∙ ap (drop (length r)) (drop_at x (f ++ (y ++ z)) a l) ∙ drop_at f (y ++ z) (length r) k in
    let long : length (x ++ (r ++ y)) ≡ m =
    length-append x (r ++ y) ∙ omega (arith, length-append r y, ap length e, length-append x (f ++ y), length-append f y, length-take-le m o h) in
    ap (λ (i : List ℕ). take m (i ++ (r ++ drop (a + length r) o))) fr
    ∙ ap (λ (i : List ℕ). take m (x ++ (r ++ i))) bk
    ∙ ap (take m) (ap (λ (i : List ℕ). x ++ i) (sym (append_assoc r y z)) ∙ sym (append_assoc x (r ++ y) z))
    ∙ take_at (x ++ (r ++ y)) z m long

-- ---- a leaf: what stands there is the tree
abbrev Same : Tree → List Tree → Type 0
Same t l = (first_record t ++ encode_all l ≡ with_notes (closed_over t l)) × (1 + records_all l ≡ records (closed_over t l))

same_leaf : (t : Tree) (l : List Tree) → Shape t l → kind_number t < 2 → Same t l
unfolding kind_number first_record closed_over encode_by records of_list
same_leaf (integer μ z) l s h = (ap (λ i. record_of 0 0 μ (word z) ++ encode_all i) s ∙ append-nil (record_of 0 0 μ (word z)), ap (λ i. 1 + records_all i) s)
same_leaf (symbol μ v) l s h = (ap (λ i. record_of 1 0 μ v ++ encode_all i) s ∙ append-nil (record_of 1 0 μ v), ap (λ i. 1 + records_all i) s)
same_leaf (sum μ f) l s h = absurd (omega arith)
same_leaf (product μ f) l s h = absurd (omega arith)
same_leaf (power μ b ξ x) l s h = absurd (omega arith)

-- ---- the node with other members: its kind, its mark, its number of members and what stands behind its record
kind_over : (t : Tree) (l : List Tree) → kind_number (closed_over t l) ≡ kind_number t
unfolding kind_number closed_over
kind_over (integer μ z) l = refl
kind_over (symbol μ v) l = refl
kind_over (sum μ f) l = refl
kind_over (product μ f) l = refl
kind_over (power μ b ξ n) l = refl

-- the record that a node has after its members are counted: what is asked of it is that it is the gathered node's own but for its number
pub record Over (t : Tree) (l : List Tree) (k m : ℕ) : Type 0 where
  pub own_is : (v : ℕ) → own (closed_over t l) v ≡ record_of k m (mark_of t) v
  pub behind : inner (closed_over t l) ≡ of_list l
  pub recorded : records (closed_over t l) ≡ 1 + records_all l

counted_over : (t : Tree) (l : List Tree) → 2 ≤ kind_number t → kind_number t ≤ 3 → Over t l (kind_number t) (length l)
unfolding kind_number closed_over mark_of count_of inner records
counted_over (integer μ z) l a b = absurd (omega arith)
counted_over (symbol μ v) l a b = absurd (omega arith)
counted_over (sum μ f) l a b = record { own_is = λ v. ap (λ n. record_of 2 n μ v) (list_count l); behind = refl; recorded = refl }
counted_over (product μ f) l a b = record { own_is = λ v. ap (λ n. record_of 3 n μ v) (list_count l); behind = refl; recorded = refl }
counted_over (power μ b ξ n) l a c = absurd (omega arith)

-- a power keeps its record
raised_over : (t : Tree) (l : List Tree) → Shape t l → 3 < kind_number t → Over t l 4 0 × (first_record t ≡ record_of 4 0 (mark_of t) (note t))
unfolding kind_number closed_over mark_of count_of inner records base_from first_record of_list
raised_over (integer μ z) l s h = absurd (omega arith)
raised_over (symbol μ v) l s h = absurd (omega arith)
raised_over (sum μ f) l s h = absurd (omega arith)
raised_over (product μ f) l s h = absurd (omega arith)
raised_over (power μ b ξ n) l s h =
    (subst (λ i. Over (power μ b ξ n) i 4 0) (sym s.1.1) (record { own_is = λ v. refl; behind = refl; recorded = omega arith }), refl)

module _ {t : Tree} {l : List Tree} {out : List ℕ} {d e k m : ℕ} (g : Gathers t l out d e k m) where
  abbrev pub x : List ℕ
  x = take (d * 16) out

  pub first_within : d * 16 + 16 ≤ length out
  first_within = omega (arith, g.end, g.within)

  x_long : length x ≡ d * 16
  x_long = length-take-le (d * 16) out (omega (arith, g.end, g.within))

  there : take (e * 16) out ≡ x ++ (first_record t ++ encode_all l)
  there =
      sym (take-append-drop (d * 16) (take (e * 16) out))
      ∙ ap (λ (i : List ℕ). i ++ drop (d * 16) (take (e * 16) out)) (take-take (d * 16) (e * 16) out (omega (arith, g.end)))
      ∙ ap (λ (i : List ℕ). take (d * 16) out ++ i) g.there

  -- ---- a leaf: what stands there is the tree
  pub leaf_stays : k < 2 → Closed (closed_over t l) out out d e
  leaf_stays h =
      let s = same_leaf t l g.shape (omega (arith, g.kind_is)) in
      record { end = g.end ∙ let r = s.1 in omega arith; wrote = there ∙ ap (λ (i : List ℕ). take (d * 16) out ++ i) s.0 }

  -- ---- a node whose record is its own but for the number v in it
  pub record Unclosed (out' : List ℕ) : Type 0 where
    pub number : ℕ
    pub over_kind : ℕ
    pub over_count : ℕ
    pub over : Over t l over_kind over_count
    pub node : 2 ≤ k
    pub wrote : take (e * 16) out' ≡ x ++ (own (closed_over t l) number ++ encodes_by note (inner (closed_over t l)))
    pub long : length out' ≡ length out

  pub raised : 3 < k → Unclosed out
  raised h =
      let r = raised_over t l g.shape (omega (arith, g.kind_is)) in
      record {
        number = note t;
        over_kind = 4;
        over_count = 0;
        over = r.0;
        node = omega arith;
        wrote =
            there ∙ ap (λ (i : List ℕ). x ++ (i ++ encode_all l)) (r.1 ∙ sym (r.0.own_is (note t)))
            ∙ ap (λ f. x ++ (own (closed_over t l) (note t) ++ encodes_by note f)) (sym r.0.behind);
        long = refl;
      }

  module _ (lo : 2 ≤ k) (hi : k < 4) where
    -- the mark that stands in the node's record
    its_mark : mark_in out d ≡ mark_of t
    its_mark =
        let before = take (d * 16) out in
        let after = drop (e * 16) out in
        let first = first_record t in
        let whole : out ≡ before ++ (first ++ (encode_all l ++ after)) =
        sym (take-append-drop (e * 16) out) ∙ ap (λ (i : List ℕ). i ++ after) there ∙ append_assoc before (first ++ encode_all l) after
        ∙ ap (λ (i : List ℕ). before ++ i) (append_assoc first (encode_all l) after) in
        mark_first out d t (encode_all l ++ after)
        (ap (drop (d * 16)) whole ∙ drop_at before (first ++ (encode_all l ++ after)) (d * 16) x_long) g.mark_wf

    pub counted : (out' : List ℕ) (ν : ℕ) → ν ≡ mark_in out d → out' ≡ put out (d * 16) (record_of k m ν 0) → length out' ≡ length out → Unclosed out'
    counted out' ν v w z =
        let f : length (first_record t) ≡ length (record_of k m ν 0) = first_length t ∙ sym (record_length k m ν 0) in
        let c = counted_over t l (omega (arith, g.kind_is)) (omega (arith, g.kind_is)) in
        let same : record_of k m ν 0 ≡ own (closed_over t l) 0
        = ap (λ i. record_of i m ν 0) g.kind_is ∙ ap (λ i. record_of (kind_number t) i ν 0) g.many
        ∙ ap (λ i. record_of (kind_number t) (length l) i 0) (v ∙ its_mark) ∙ sym (c.own_is 0) in
        record {
          number = 0;
          over_kind = kind_number t;
          over_count = length l;
          over = c;
          node = lo;
          wrote =
              ap (take (e * 16)) w
              ∙ new_front out x (first_record t) (encode_all l) (record_of k m ν 0) (d * 16) (e * 16) there x_long f g.within
              ∙ ap (λ (i : List ℕ). x ++ (i ++ encode_all l)) same
              ∙ ap (λ h. x ++ (own (closed_over t l) 0 ++ encodes_by note h)) (sym c.behind);
          long = z;
        }

  -- its note is made
  module _ {out' : List ℕ} (c : Unclosed out') where
    abbrev u : Tree
    u = closed_over t l

    behind : List ℕ
    behind = encodes_by note (inner u)

    is_node_lem : 2 ≤ kind_number u
    is_node_lem = let n = c.node in omega (arith, kind_over t l, g.kind_is)

    whole : out' ≡ x ++ (own u c.number ++ (behind ++ drop (e * 16) out'))
    unfolding behind
    whole =
        let after = drop (e * 16) out' in
        let own-record = own u c.number in
        sym (take-append-drop (e * 16) out') ∙ ap (λ (i : List ℕ). i ++ after) c.wrote ∙ append_assoc x (own-record ++ encodes_by note (inner u)) after
        ∙ ap (λ (i : List ℕ). x ++ i) (append_assoc own-record (encodes_by note (inner u)) after)

    pub unnoted : Unnoted out' d u
    unfolding behind
    unnoted =
        let after = drop (e * 16) out' in
        let own-record = own u c.number in
        record {
          wf = g.wf;
          light = g.light;
          node = is_node_lem;
          old = c.number;
          stands =
              record {
                after = after;
                there =
                    ap (drop (d * 16)) whole ∙ drop_at x (own-record ++ (encodes_by note (inner u) ++ after)) (d * 16) x_long
                    ∙ sym (append_assoc own-record (encodes_by note (inner u)) after);
              };
        }

    pub closed : (out'' : List ℕ) → out'' ≡ put out' (d * 16 + 8) (bytes 8 (note u)) → Closed u out out'' d e
    unfolding behind
    closed out'' w =
        let after = drop (e * 16) out' in
        let r = c.over.recorded in
        let ends : e ≡ d + records u = g.end ∙ omega arith in
        let long : length (x ++ with_notes u) ≡ e * 16 = length-append x (with_notes u) ∙ omega (arith, x_long, encode_by_length note u) in
        record {
          end = ends;
          wrote =
              ap (take (e * 16))
              (w ∙ ap (λ (i : List ℕ). put i (d * 16 + 8) (bytes 8 (note u))) whole ∙ closed_among x after (d * 16) c.number u g.wf is_node_lem x_long
              ∙ sym (append_assoc x (with_notes u) after))
              ∙ take_at (x ++ with_notes u) after (e * 16) long;
        }
