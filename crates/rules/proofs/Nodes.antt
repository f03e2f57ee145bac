-- The members of one node, as they are read one after the other and as they are written: the first of them stands first, the others
-- after its records; a member is a certain small integer where its first record says so; and the tree of some members is a node's
-- record before theirs, unless there are fewer than two. By cases.
use Prim.Native.Nat.{ℕ, suc, ◌+◌, ◌-◌, ◌*◌, ◌%◌, ◌<◌, ◌≤◌}
use mathlib.Core.Path.{◌≡◌, refl, sym, ap, ◌∙◌, subst}
use mathlib.Core.Bool.{Bool, true, false}
use mathlib.Core.List.{List, [], ◌∷◌, ◌++◌, append-nil}
use native.Mathlib.Omega.{arith}
use borrow.Author.Tests.{ne_eqb}
use lib.Dec.{eqb, lit≤}
use lib.ListN.{length}
use lib.IntN.{ℤ, pos, negsuc}
use Rattle.paper.specs.Limits.{modulus}
use Rattle.paper.specs.Bytes.{word}
use Rattle.paper.specs.Tree.{Tree, Forest, records, of_list, mark_of}
use Rattle.paper.specs.Standing.{kind_number}
use Rattle.paper.specs.WellFormed.{InRange}
use Rattle.paper.specs.Record.{kind, bits, count_in}
use Rattle.paper.specs.Table.{record_of}
use Rattle.paper.specs.Equal.{eq_z}
use Rattle.paper.specs.Rules as paper
use Rattle.paper.specs.Rules.{is_the}
use Rattle.paper.proofs.WFLaws.{list_count}
use Rattle.note.proofs.ToldLaws.{Seen, an_integer, a_symbol, a_sum, a_product, a_power}
use Rattle.note.specs.Note.{note}
use Rattle.note.specs.Noted.{encode_by, encodes_by, count_of, inner}
use Rattle.note.proofs.CloseLaws.{unclosed}
use Rattle.split.specs.Standing.{Told, ToldTrees}
use Rattle.note.proofs.ToldLaws.{FirstOf, first_of, seen, record_within, note_tells}
use Rattle.part.specs.Like.{node_kind, neutral, node_of}
use Rattle.rules.specs.Tried.{MembersIn}

-- ---- members that are read one after the other
pub after_first : {s : List ℕ} {i n : ℕ} {g : Forest} (h : FirstOf note s i n g) (next : ℕ) → next ≡ i + records h.tree
    → ToldTrees note s next (n - 1) h.others
after_first {s} {i} {n} h next e = subst (λ k. ToldTrees note s k (n - 1) h.others) (sym e) h.after

pub members_in_lem : (s : List ℕ) (p : ℕ) (f : Forest) → MembersIn s p f → ToldTrees note s (p + 1) (count_in s p) f
members_in_lem s p f h = record { tells = note_tells; counted = sym h.seen.counted; wf = h.seen.wf; few = h.few; stand = h.seen.stand }

-- the node's own record lies inside the table
pub node_within : (s : List ℕ) (p : ℕ) (f : Forest) → MembersIn s p f → p * 16 + 32 ≤ length s
node_within s p f h =
    let c : 0 < count_in s p = omega (arith, h.seen.two, h.seen.counted) in
    let q = first_of f (members_in_lem s p f h) c in
    omega (arith, record_within q.there)

-- ---- a member that is the integer z
word_is : (y : ℤ) (z : ℕ) → InRange y → z < 2 → eqb (word y) z ≡ eq_z y (pos z)
unfolding word eq_z
word_is (pos n) z r h = let e : n % modulus ≡ n = omega arith in ap (λ m. eqb m z) e
word_is (negsuc n) z r h = ne_eqb (modulus - suc (n % modulus)) z (λ e. omega arith)

pub other_kind : (s : List ℕ) (i z : ℕ) (t : Tree) → Told note s i t → 0 < kind s i → false ≡ is_the (pos z) t
unfolding is_the paper.as_integer
other_kind s i z t h k = go (seen h)
  where
    go : {t : Tree} → Seen note s i t → false ≡ is_the (pos z) t
    go (an_integer e b w) = absurd (omega arith)
    go (a_symbol e v w) = refl
    go (a_sum e n c w m) = refl
    go (a_product e n c w m) = refl
    go (a_power e w b p q x y v) = refl

pub integer_kind : (s : List ℕ) (i z : ℕ) (t : Tree) → Told note s i t → kind s i ≤ 0 → z < 2 → eqb (bits s i) z ≡ is_the (pos z) t
unfolding is_the paper.as_integer
integer_kind s i z t h k l = go (seen h)
  where
    go : {t : Tree} → Seen note s i t → eqb (bits s i) z ≡ is_the (pos z) t
    go (an_integer {z = y} e b w) = ap (λ m. eqb m z) b ∙ word_is y z w l
    go (a_symbol e v w) = absurd (omega arith)
    go (a_sum e n c w m) = absurd (omega arith)
    go (a_product e n c w m) = absurd (omega arith)
    go (a_power e w b p q x y v) = absurd (omega arith)

-- ---- the tree of some members
pub of_none : (b : Bool) (μ : ℕ) (l : List Tree) → length l < 1 → encode_by note (node_of b μ l) ≡ record_of 0 0 μ (neutral b)
unfolding encode_by word paper.sum_of paper.product_of paper.collapse
of_none true μ [] h = refl
of_none false μ [] h = refl
of_none b μ (t ∷ l) h = absurd (omega arith)

pub of_one : (b : Bool) (μ : ℕ) (l : List Tree) → 1 ≤ length l → length l < 2 → encode_by note (node_of b μ l) ≡ encodes_by note (of_list l)
unfolding encode_by of_list paper.sum_of paper.product_of paper.collapse
of_one b μ [] g h = absurd (omega arith)
of_one true μ (t ∷ []) g h = sym (append-nil (encode_by note t))
of_one false μ (t ∷ []) g h = sym (append-nil (encode_by note t))
of_one b μ (t ∷ u ∷ l) g h = absurd (omega arith)

-- before it is closed
pub of_more : (b : Bool) (μ : ℕ) (l : List Tree) → 2 ≤ length l
    → unclosed (node_of b μ l) ≡ record_of (node_kind b) (length l) μ 0 ++ encodes_by note (of_list l)
unfolding kind_number count_of mark_of inner paper.sum_of paper.product_of paper.collapse
of_more b μ [] h = absurd (omega arith)
of_more b μ (t ∷ []) h = absurd (omega arith)
of_more true μ (t ∷ u ∷ l) h = ap (λ n. record_of 2 n μ 0 ++ encodes_by note (of_list (t ∷ u ∷ l))) (list_count (t ∷ u ∷ l))
of_more false μ (t ∷ u ∷ l) h = ap (λ n. record_of 3 n μ 0 ++ encodes_by note (of_list (t ∷ u ∷ l))) (list_count (t ∷ u ∷ l))

pub more_node : (b : Bool) (μ : ℕ) (l : List Tree) → 2 ≤ length l → 2 ≤ kind_number (node_of b μ l)
unfolding kind_number paper.sum_of paper.product_of paper.collapse
more_node b μ [] h = absurd (omega arith)
more_node b μ (t ∷ []) h = absurd (omega arith)
more_node true μ (t ∷ u ∷ l) h = lit≤ tt
more_node false μ (t ∷ u ∷ l) h = lit≤ tt
