-- The records of members in a row, of two rows and of one member more, and bytes as the part of the table where they stand. By
-- induction on the members.
use Prim.Native.Nat.{ℕ, ◌+◌, ◌*◌, ◌^◌, ◌≤◌, ◌<◌}
use mathlib.Core.Path.{◌≡◌, refl, sym, ap, ◌∙◌}
use mathlib.Core.List.{List, [], ◌∷◌, ◌++◌, append_assoc, append-nil}
use native.Mathlib.Omega.{arith}
use lib.ListN.{length, take, drop, length-append}
use lib.Seq.{take_at, drop-drop, drop_at}
use lib.IntN.{ℤ, pos}
use Rattle.paper.specs.Bytes.{bytes, word}
use Rattle.paper.specs.Tree.{Tree, Forest, integer, symbol, sum, product, power, marked, to_list, of_list, count, mark_of, records, recordses, weight}
use Rattle.paper.specs.Table.{record_of}
use Rattle.paper.specs.Standing.{kind_number}
use Rattle.paper.proofs.WFLaws.{count_list, list_count, of_to_list}
use Rattle.paper.proofs.Stands.{Stands}
pub use Rattle.paper.proofs.EncodeLaws.{recordses_append, recordses_snoc}
use Rattle.note.specs.Note.{note, key}
use Rattle.note.specs.Noted.{encode_by, encodes_by, count_of, inner}
use Rattle.note.proofs.NotedLaws.{encode_by_length, exponent_word}
use Rattle.note.proofs.CloseLaws.{unclosed}
use Rattle.stretch.specs.Put.{put, part}
use Rattle.stretch.proofs.Laws.{take_put, take_put_end, drop_put_at, length_put, put_put}

-- ---- rows of members
pub encodes_append : (l m : List Tree) → encodes_by note (of_list (l ++ m)) ≡ encodes_by note (of_list l) ++ encodes_by note (of_list m)
unfolding encode_by of_list
encodes_append [] m = refl
encodes_append (u ∷ l) m =
    ap (λ (x : List ℕ). encode_by note u ++ x) (encodes_append l m)
    ∙ sym (append_assoc (encode_by note u) (encodes_by note (of_list l)) (encodes_by note (of_list m)))

pub encodes_snoc : (l : List Tree) (t : Tree) → encodes_by note (of_list (l ++ (t ∷ []))) ≡ encodes_by note (of_list l) ++ encode_by note t
unfolding encode_by of_list
encodes_snoc l t = encodes_append l (t ∷ []) ∙ ap (λ (x : List ℕ). encodes_by note (of_list l) ++ x) (append-nil (encode_by note t))

-- ---- the products and the power that are written, before they are closed
pub pair_unclosed : (μ : ℕ) (z : ℤ) (t : Tree)
    → unclosed (product μ (of_list (integer μ z ∷ t ∷ []))) ≡ (record_of 3 2 μ 0 ++ record_of 0 0 μ (word z)) ++ encode_by note t
unfolding encode_by kind_number count_of mark_of inner of_list count
pair_unclosed μ z t =
    ap (λ (x : List ℕ). record_of 3 2 μ 0 ++ (record_of 0 0 μ (word z) ++ x)) (append-nil (encode_by note t))
    ∙ sym (append_assoc (record_of 3 2 μ 0) (record_of 0 0 μ (word z)) (encode_by note t))

pub pair_records : (μ : ℕ) (z : ℤ) (t : Tree) → records (product μ (of_list (integer μ z ∷ t ∷ []))) ≡ records t + 2
unfolding records of_list
pair_records μ z t = omega arith

pub longer_unclosed : (μ : ℕ) (f : Forest) (z : ℤ)
    → unclosed (product μ (of_list (to_list f ++ (integer μ z ∷ [])))) ≡ (record_of 3 (count f + 1) μ 0 ++ encodes_by note f) ++ record_of 0 0 μ (word z)
unfolding encode_by kind_number count_of mark_of inner
longer_unclosed μ f z =
    let l = to_list f ++ (integer μ z ∷ []) in
    let n : count (of_list l) ≡ count f + 1 = omega (arith, list_count l, length-append (to_list f) (integer μ z ∷ []), count_list f) in
    ap (λ n. record_of 3 n μ 0 ++ encodes_by note (of_list l)) n
    ∙ ap (λ (x : List ℕ). record_of 3 (count f + 1) μ 0 ++ x)
    (encodes_snoc (to_list f) (integer μ z) ∙ ap (λ g. encodes_by note g ++ record_of 0 0 μ (word z)) (of_to_list f))
    ∙ sym (append_assoc (record_of 3 (count f + 1) μ 0) (encodes_by note f) (record_of 0 0 μ (word z)))

pub longer_records : (μ ν : ℕ) (f : Forest) (z : ℤ) → records (product μ (of_list (to_list f ++ (integer μ z ∷ [])))) ≡ records (product ν f) + 1
unfolding records
longer_records μ ν f z = omega (arith, recordses_snoc (to_list f) (integer μ z), ap recordses (of_to_list f))

pub power_unclosed : (μ : ℕ) (b : Tree) (ξ e : ℕ) → e < 2 ^ 63
    → unclosed (power μ b ξ e) ≡ (record_of 4 0 μ 0 ++ encode_by note b) ++ record_of 0 0 ξ e
unfolding encode_by kind_number count_of mark_of inner
power_unclosed μ b ξ e l =
    ap (λ (x : List ℕ). record_of 4 0 μ 0 ++ (encode_by note b ++ x))
    (append-nil (record_of 0 0 ξ (word (pos e))) ∙ ap (record_of 0 0 ξ) (exponent_word e l))
    ∙ sym (append_assoc (record_of 4 0 μ 0) (encode_by note b) (record_of 0 0 ξ e))

pub power_records : (μ : ℕ) (b : Tree) (e : ℕ) → records (power μ b μ e) ≡ records b + 2
unfolding records
power_records μ b e = omega arith

-- ---- another mark at the root: the same records, but for bytes 4-5 of the first, since notes do not look at marks
pub marked_records : (μ : ℕ) (t : Tree) → records (marked μ t) ≡ records t
unfolding marked records
marked_records μ (integer ν z) = refl
marked_records μ (symbol ν s) = refl
marked_records μ (sum ν f) = refl
marked_records μ (product ν f) = refl
marked_records μ (power ν b ξ e) = refl

record MarkAt (μ : ℕ) (t : Tree) : Type 0 where
  mark : ℕ
  before : List ℕ
  behind : List ℕ
  four : length before ≡ 4
  is : encode_by note t ≡ before ++ (bytes 2 mark ++ behind)
  other : encode_by note (marked μ t) ≡ before ++ (bytes 2 μ ++ behind)

mark_at : (μ : ℕ) (t : Tree) → MarkAt μ t
unfolding marked encode_by record_of bytes note records weight key
mark_at μ (integer ν z) =
    record { mark = ν; before = 0 ∷ 0 ∷ bytes 2 0; behind = 0 ∷ 0 ∷ bytes 8 (word z); four = refl; is = refl; other = refl }
mark_at μ (symbol ν s) =
    record { mark = ν; before = 1 ∷ 0 ∷ bytes 2 0; behind = 0 ∷ 0 ∷ bytes 8 s; four = refl; is = refl; other = refl }
mark_at μ (sum ν f) =
    record {
      mark = ν;
      before = 2 ∷ 0 ∷ bytes 2 (count f);
      behind = 0 ∷ 0 ∷ bytes 8 (note (sum ν f)) ++ encodes_by note f;
      four = refl;
      is = refl;
      other = refl;
    }
mark_at μ (product ν f) =
    let after = 0 ∷ 0 ∷ bytes 8 (note (product ν f)) ++ encodes_by note f in
    record { mark = ν; before = 3 ∷ 0 ∷ bytes 2 (count f); behind = after; four = refl; is = refl; other = refl }
mark_at μ (power ν b ξ e) =
    record {
      mark = ν;
      before = 4 ∷ 0 ∷ bytes 2 0;
      behind = 0 ∷ 0 ∷ bytes 8 (note (power ν b ξ e)) ++ (encode_by note b ++ record_of 0 0 ξ e);
      four = refl;
      is = refl;
      other = refl;
    }

-- bytes put over the first of those that were put
put_over : (d : List ℕ) (a : ℕ) (x y z : List ℕ) → length x ≡ length y → a + length (x ++ z) ≤ length d
    → put (put d a (x ++ z)) a y ≡ put d a (y ++ z)
unfolding put
put_over d a x y z e h =
    let long : a + length (y ++ z) ≡ a + length (x ++ z) = omega (arith, length-append x z, length-append y z) in
    let low : a ≤ length d = omega arith in
    let past : drop (a + length y) (put d a (x ++ z)) ≡ z ++ drop (a + length (x ++ z)) d =
    sym (drop-drop (length y) a (put d a (x ++ z))) ∙ ap (drop (length y)) (drop_put_at d a (x ++ z) low ∙ append_assoc x z _)
    ∙ drop_at x (z ++ drop (a + length (x ++ z)) d) (length y) e in
    ap (λ (u : List ℕ). u ++ (y ++ drop (a + length y) (put d a (x ++ z)))) (take_put d a (x ++ z) a (omega arith) low)
    ∙ ap (λ (u : List ℕ). take a d ++ (y ++ u)) past
    ∙ ap (λ (u : List ℕ). take a d ++ u) (sym (append_assoc y z (drop (a + length (x ++ z)) d)))
    ∙ ap (λ n. take a d ++ ((y ++ z) ++ drop n d)) (sym long)

-- and over some in the middle
put_inside : (d : List ℕ) (a b : ℕ) (w x y z : List ℕ) → b ≡ a + length w → length x ≡ length y → a + length (w ++ (x ++ z)) ≤ length d
    → put (put d a (w ++ (x ++ z))) b y ≡ put d a (w ++ (y ++ z))
put_inside d a b w x y z p e h =
    let all = length-append w (x ++ z) in
    let less = length-append w (y ++ z) in
    let one = length-append x z in
    let other = length-append y z in
    let front = length_put d a w (omega arith) in
    ap (λ (u : List ℕ). put u b y) (sym (put_put d a w b (x ++ z) p (omega arith)))
    ∙ put_over (put d a w) b x y z e (omega arith)
    ∙ put_put d a w b (y ++ z) p (omega arith)

pub mark_put : (d d₁ d₂ : List ℕ) (a b μ : ℕ) (t : Tree) → b ≡ a + 4 → a + records t * 16 ≤ length d → d₁ ≡ put d a (encode_by note t)
    → d₂ ≡ put d₁ b (bytes 2 μ) → d₂ ≡ put d a (encode_by note (marked μ t))
mark_put d d₁ d₂ a b μ t e h p q =
    let m = mark_at μ t in
    let long = ap length m.is in
    q ∙ ap (λ (u : List ℕ). put u b (bytes 2 μ)) (p ∙ ap (put d a) m.is)
    ∙ put_inside d a b m.before (bytes 2 m.mark) (bytes 2 μ) m.behind (omega (arith, m.four)) (unfold bytes in refl)
    (omega (arith, encode_by_length note t))
    ∙ ap (put d a) (sym m.other)

-- ---- bytes that stand in a table, and puts one after the other
pub stands_bytes : (s : List ℕ) (i n : ℕ) (x : List ℕ) → Stands s i x → length x ≡ n → part s (i * 16) n ≡ x
unfolding part
stands_bytes s i n x h e = ap (take n) h.there ∙ take_at x h.after n e

pub stands_part : (s : List ℕ) (i n : ℕ) (t : Tree) → Stands s i (encode_by note t) → n ≡ records t * 16 → part s (i * 16) n ≡ encode_by note t
stands_part s i n t h e = stands_bytes s i n (encode_by note t) h (omega (arith, encode_by_length note t))

-- the bytes x that stand from record i on, copied
pub copied : (d d' s : List ℕ) (a i n : ℕ) (x : List ℕ) → Stands s i x → length x ≡ n → d' ≡ put d a (part s (i * 16) n) → d' ≡ put d a x
copied d d' s a i n x h e p = p ∙ ap (put d a) (stands_bytes s i n x h e)

pub two_puts : (d d₁ d₂ x y : List ℕ) (a b : ℕ) → d₁ ≡ put d a x → d₂ ≡ put d₁ b y → b ≡ a + length x → b + length y ≤ length d
    → d₂ ≡ put d a (x ++ y)
two_puts d d₁ d₂ x y a b p q e r = q ∙ ap (λ (z : List ℕ). put z b y) p ∙ put_put d a x b y e r

pub three_puts : (d d₁ d₂ d₃ x y z : List ℕ) (a b c : ℕ) → d₁ ≡ put d a x → d₂ ≡ put d₁ b y → d₃ ≡ put d₂ c z
    → b ≡ a + length x → c ≡ b + length y → c + length z ≤ length d → d₃ ≡ put d a ((x ++ y) ++ z)
three_puts d d₁ d₂ d₃ x y z a b c p q r e f l =
    two_puts d d₂ d₃ (x ++ y) z a c (two_puts d d₁ d₂ x y a b p q e (omega arith)) r (omega (arith, length-append x y)) l

-- one more member, put behind those that were built
pub built_more : (o o' front : List ℕ) (e n : ℕ) (l : List Tree) (t : Tree) → take (e * 16) o ≡ front ++ encodes_by note (of_list l)
    → e * 16 ≤ length o → o' ≡ put o (e * 16) (encode_by note t) → n ≡ e + records t
    → take (n * 16) o' ≡ front ++ encodes_by note (of_list (l ++ (t ∷ [])))
built_more o o' front e n l t b w q m =
    let x = encode_by note t in
    let long : n * 16 ≡ e * 16 + length x = omega (arith, encode_by_length note t) in
    ap (take (n * 16)) q
    ∙ take_put_end o (e * 16) x (n * 16) long w
    ∙ ap (λ (y : List ℕ). y ++ x) b
    ∙ append_assoc front (encodes_by note (of_list l)) x
    ∙ ap (λ (y : List ℕ). front ++ y) (sym (encodes_snoc l t))
