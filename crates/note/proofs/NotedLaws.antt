-- Records of trees told of by h: how long they are, that with 0 for every node they are the paper's, and what a tree's own record tells
-- where it stands before the trees behind it, whatever number it holds. As of the paper's own records, by induction on the tree; the
-- record's fields are read at its own bytes.
use Rattle.std.proofs.Common.{◌≡◌, ℕ, ◌+◌, ◌-◌, ◌*◌, ◌<◌, ◌≤◌, List, ◌++◌, length, pos, sym, refl, ap, ◌∙◌, append-nil, arith, length-append, length-drop}
use Rattle.paper.specs.Limits.{modulus}
use Rattle.paper.specs.Bytes.{word}
use Rattle.paper.specs.Tree.{Tree, Forest, integer, symbol, sum, product, power, nil, cons, count, mark_of, records, recordses}
use Rattle.paper.specs.WellFormed.{Mark, WF}
use Rattle.paper.specs.Record.{kind, count_in, mark_in, bits}
use Rattle.paper.specs.Table.{record_of, encode, encodes}
use Rattle.paper.specs.Standing.{Stands, kind_number}
use Rattle.paper.proofs.EncodeLaws.{record_length, records_pos, count_records, kind_there, count_there, mark_there, bits_there}
pub use Rattle.paper.proofs.Seen.{exponent_word}
use Rattle.paper.proofs.Stands.{stands_first, stands_next}
use Rattle.note.specs.Noted.{encode_by, encodes_by, count_of, inner, bits_by}

-- with 0 for every node they are the paper's
mutual
  unfolding encode encode_by

  pub plain_encode : (t : Tree) → encode_by (λ u. 0) t ≡ encode t
  plain_encode (integer μ z) = refl
  plain_encode (symbol μ s) = refl
  plain_encode (sum μ f) = ap (λ (x : List ℕ). record_of 2 (count f) μ 0 ++ x) (plain_encodes f)
  plain_encode (product μ f) = ap (λ (x : List ℕ). record_of 3 (count f) μ 0 ++ x) (plain_encodes f)
  plain_encode (power μ b ξ e) = ap (λ (x : List ℕ). record_of 4 0 μ 0 ++ (x ++ record_of 0 0 ξ e)) (plain_encode b)

  pub plain_encodes : (f : Forest) → encodes_by (λ u. 0) f ≡ encodes f
  plain_encodes nil = refl
  plain_encodes (cons t f) = rw (plain_encode t, plain_encodes f)

-- a tree's own record, with the number v in its bytes 8-15
abbrev pub own : Tree → ℕ → List ℕ
own t v = record_of (kind_number t) (count_of t) (mark_of t) v

pub own_length : (t : Tree) (v : ℕ) → length (own t v) ≡ 16
own_length t v = record_length (kind_number t) (count_of t) (mark_of t) v

module _ (h : Tree → ℕ) where
  mutual
    unfolding encode_by records

    pub encode_by_length : (t : Tree) → length (encode_by h t) ≡ 16 * records t
    encode_by_length (integer μ z) = record_length 0 0 μ (word z)
    encode_by_length (symbol μ s) = record_length 1 0 μ s
    encode_by_length (sum μ f) = simp (length-append, record_length) (omega (arith, encodes_by_length f))
    encode_by_length (product μ f) = simp (length-append, record_length) (omega (arith, encodes_by_length f))
    encode_by_length (power μ b ξ e) = simp (length-append, record_length) (omega (arith, encode_by_length b))

    pub encodes_by_length : (f : Forest) → length (encodes_by h f) ≡ 16 * recordses f
    encodes_by_length nil = refl
    encodes_by_length (cons t f) = simp length-append (omega (arith, encode_by_length t, encodes_by_length f))

  -- a tree's records are its first one and those of the trees behind it
  pub head_inner : (t : Tree) → WF t → encode_by h t ≡ own t (bits_by h t) ++ encodes_by h (inner t)
  unfolding encode_by kind_number count_of mark_of bits_by inner
  head_inner (integer μ z) w = sym (append-nil (record_of 0 0 μ (word z)))
  head_inner (symbol μ s) w = sym (append-nil (record_of 1 0 μ s))
  head_inner (sum μ f) w = refl
  head_inner (product μ f) w = refl
  head_inner (power μ b ξ e) w =
      ap (λ (x : List ℕ). record_of 4 0 μ (h (power μ b ξ e)) ++ (encode_by h b ++ x))
      (sym (append-nil (record_of 0 0 ξ (word (pos e))) ∙ ap (record_of 0 0 ξ) (exponent_word e w.2)))

-- bytes that stand in a table lie inside it
bytes_within : (s : List ℕ) (i m : ℕ) (p : List ℕ) → Stands s i p → length p ≡ 16 * m → 0 < m → (i + m) * 16 ≤ length s
bytes_within s i m p h e l =
    let q : length s - i * 16 ≡ length p + length h.after =
    sym (length-drop (i * 16) s) ∙ ap length h.there ∙ length-append p h.after in
    omega arith

-- and so do the records of a tree
pub stands_within : {s : List ℕ} {i : ℕ} (h : Tree → ℕ) (t : Tree) → Stands s i (encode_by h t) → (i + records t) * 16 ≤ length s
stands_within {s} {i} h t q = bytes_within s i (records t) (encode_by h t) q (encode_by_length h t) (records_pos t)

-- fewer members than records
count_fits : (t : Tree) → records t < 65536 → count_of t < 65536
unfolding count_of records
count_fits (integer μ z) w = omega arith
count_fits (symbol μ s) w = omega arith
count_fits (sum μ f) w = omega (arith, count_records f)
count_fits (product μ f) w = omega (arith, count_records f)
count_fits (power μ b ξ e) w = omega arith

-- a mark is 16 bits
pub wf_mark : (t : Tree) → WF t → Mark (mark_of t)
unfolding mark_of
wf_mark (integer μ z) w = w.1
wf_mark (symbol μ s) w = w.1
wf_mark (sum μ f) w = w.2
wf_mark (product μ f) w = w.2
wf_mark (power μ b ξ e) w = w.3

-- there are five kinds
pub kind_lt : (t : Tree) → kind_number t < 5
unfolding kind_number
kind_lt (integer μ z) = omega arith
kind_lt (symbol μ s) = omega arith
kind_lt (sum μ f) = omega arith
kind_lt (product μ f) = omega arith
kind_lt (power μ b ξ e) = omega arith

-- a node's record holds what h says of it
pub node_bits : (h : Tree → ℕ) (t : Tree) → 2 ≤ kind_number t → bits_by h t ≡ h t
unfolding kind_number bits_by
node_bits h (integer μ z) l = absurd (omega arith)
node_bits h (symbol μ s) l = absurd (omega arith)
node_bits h (sum μ f) l = refl
node_bits h (product μ f) l = refl
node_bits h (power μ b ξ e) l = refl

-- ---- the tree t's own record stands at record i of the table s, the number v in it, and then the trees behind it
pub record Headed (h : Tree → ℕ) (s : List ℕ) (i : ℕ) (t : Tree) (v : ℕ) : Type 0 where
  pub stands : Stands s i (own t v ++ encodes_by h (inner t))

module _ {h : Tree → ℕ} {s : List ℕ} {i : ℕ} {t : Tree} {v : ℕ} (q : Headed h s i t v) where
  pub own_there : Stands s i (own t v)
  own_there = stands_first (own t v) (encodes_by h (inner t)) q.stands

  pub own_within : i * 16 + 16 ≤ length s
  own_within = omega (arith, bytes_within s i 1 (own t v) own_there (own_length t v) (omega arith))

  pub own_kind : kind s i ≡ kind_number t
  own_kind = kind_there s i (kind_number t) (count_of t) (mark_of t) v own_there.after own_there.there

  pub own_count : records t < 65536 → count_in s i ≡ count_of t
  own_count l = count_there s i (kind_number t) (count_of t) (mark_of t) v own_there.after own_there.there (count_fits t l)

  pub own_mark : WF t → mark_in s i ≡ mark_of t
  own_mark w = mark_there s i (kind_number t) (count_of t) (mark_of t) v own_there.after own_there.there (wf_mark t w)

  pub own_bits : v < modulus → bits s i ≡ v
  own_bits l = bits_there s i (kind_number t) (count_of t) (mark_of t) v own_there.after own_there.there l

  pub own_behind : Stands s (i + 1) (encodes_by h (inner t))
  own_behind = stands_next (own t v) (encodes_by h (inner t)) q.stands 1 (own_length t v)
