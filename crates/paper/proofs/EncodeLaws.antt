-- Laws of writing: how long the records of a tree are, that they are bytes, and that the fields of a record that stands in a table
-- are those it was written with. A record is written out byte by byte, so its fields are read off; the rest is an induction on the
-- tree.
use Prim.Native.Nat.{ℕ, suc, ◌+◌, ◌-◌, ◌*◌, ◌^◌, ◌<◌, ◌≤◌}
use mathlib.Core.Path.{◌≡◌, refl, sym, ap, ◌∙◌}
use mathlib.Core.Bool.{Bool, true, false}
use mathlib.Core.List.{List, [], ◌∷◌, ◌++◌}
use native.Mathlib.Nat.{add-zero, mod-eq_of_lt}
use native.Mathlib.Omega.{arith}
use borrow.Author.Tests.{ltb-true, ltb-false, le-ltb}
use lib.Dec.{ltb, lit<}
use lib.ListN.{length, get_or, drop, length-append}
use lib.Seq.{get_or-drop}
use lib.IntN.{ℤ, pos, negsuc}
use mir.Syntax.{w64}
use mir.Val.{to_z}
use mir.Facts.{to_z_pos, to_z-neg}
use Rattle.paper.specs.Limits.{modulus}
use Rattle.paper.specs.Bytes.{Bytes, bytes, le2, le8, signed, word}
use Rattle.paper.specs.Tree.{Tree, Forest, integer, symbol, sum, product, power, nil, cons, count, of_list, records, recordses, weight, weights}
use Rattle.paper.specs.Record.{kind, count_in, mark_in, bits, symbol_in}
use Rattle.paper.specs.WellFormed.{InRange}
use Rattle.paper.specs.Table.{record_of, encode, encodes}
use Rattle.paper.proofs.BytesLaws.{le_bytes, bytes_are_bytes, append_bytes, le2_drop, le8_drop}

pub record_length : (k c m v : ℕ) → length (record_of k c m v) ≡ 16
unfolding record_of bytes
record_length k c m v = refl

-- "A table holds records of 16 bytes, no header": a tree takes 16 bytes for each of its records
mutual
  unfolding encode records

  pub encode_length : (t : Tree) → length (encode t) ≡ 16 * records t
  encode_length (integer μ z) = record_length 0 0 μ (word z)
  encode_length (symbol μ s) = record_length 1 0 μ s
  encode_length (sum μ f) = simp (length-append, record_length) (omega (arith, encodes_length f))
  encode_length (product μ f) = simp (length-append, record_length) (omega (arith, encodes_length f))
  encode_length (power μ b ξ e) = simp (length-append, record_length) (omega (arith, encode_length b))

  pub encodes_length : (f : Forest) → length (encodes f) ≡ 16 * recordses f
  encodes_length nil = refl
  encodes_length (cons t f) = simp length-append (omega (arith, encode_length t, encodes_length f))

pub records_pos : (t : Tree) → 0 < records t
unfolding records
records_pos (integer μ z) = omega arith
records_pos (symbol μ s) = omega arith
records_pos (sum μ f) = omega arith
records_pos (product μ f) = omega arith
records_pos (power μ b ξ e) = omega arith

-- each record weighs 1 or more
mutual
  unfolding records weight

  pub records_weight : (t : Tree) → records t ≤ weight t
  records_weight (integer μ z) = omega arith
  records_weight (symbol μ s) = omega arith
  records_weight (sum μ f) = omega (arith, recordses_weights f)
  records_weight (product μ f) = omega (arith, recordses_weights f)
  records_weight (power μ b ξ e) = omega (arith, records_weight b)

  pub recordses_weights : (f : Forest) → recordses f ≤ weights f
  recordses_weights nil = omega arith
  recordses_weights (cons t f) = omega (arith, records_weight t, recordses_weights f)

-- each member has a record of its own
pub count_records : (f : Forest) → count f ≤ recordses f
unfolding count records
count_records nil = omega arith
count_records (cons t f) = omega (arith, records_pos t, count_records f)

-- the records of trees side by side
pub recordses_append : (l m : List Tree) → recordses (of_list (l ++ m)) ≡ recordses (of_list l) + recordses (of_list m)
unfolding records of_list
recordses_append [] m = omega arith
recordses_append (u ∷ l) m = omega (arith, recordses_append l m)

pub recordses_snoc : (l : List Tree) (t : Tree) → recordses (of_list (l ++ (t ∷ []))) ≡ recordses (of_list l) + records t
unfolding records of_list
recordses_snoc l t = recordses_append l (t ∷ []) ∙ omega arith

record_bytes : (k c m v : ℕ) → k < 256 → Bytes (record_of k c m v)
unfolding record_of
record_bytes k c m v h =
    let z : 0 < 256 = lit< tt in
    (h, (z, append_bytes (bytes 2 c) _ (bytes_are_bytes 2 c) (append_bytes (bytes 2 m) _ (bytes_are_bytes 2 m) (z, (z, bytes_are_bytes 8 v)))))

-- what is written is bytes
mutual
  unfolding encode

  pub encode_bytes : (t : Tree) → Bytes (encode t)
  encode_bytes (integer μ z) = record_bytes 0 0 μ (word z) (lit< tt)
  encode_bytes (symbol μ s) = record_bytes 1 0 μ s (lit< tt)
  encode_bytes (sum μ f) = append_bytes (record_of 2 (count f) μ 0) (encodes f) (record_bytes 2 (count f) μ 0 (lit< tt)) (encodes_bytes f)
  encode_bytes (product μ f) =
      append_bytes (record_of 3 (count f) μ 0) (encodes f) (record_bytes 3 (count f) μ 0 (lit< tt)) (encodes_bytes f)
  encode_bytes (power μ b ξ e) =
      append_bytes (record_of 4 0 μ 0) (encode b ++ record_of 0 0 ξ e) (record_bytes 4 0 μ 0 (lit< tt))
      (append_bytes (encode b) (record_of 0 0 ξ e) (encode_bytes b) (record_bytes 0 0 ξ e (lit< tt)))

  pub encodes_bytes : (f : Forest) → Bytes (encodes f)
  encodes_bytes nil = tt
  encodes_bytes (cons t f) = append_bytes (encode t) (encodes f) (encode_bytes t) (encodes_bytes f)

-- an integer in range, as 64 bits and back
pub signed_word : (z : ℤ) → InRange z → signed (word z) ≡ z
unfolding word
signed_word (pos n) h = ap (to_z w64) (mod-eq_of_lt {n = n} {m = modulus} (omega arith)) ∙ to_z_pos w64 h
signed_word (negsuc n) h =
    ap (λ (k : ℕ). to_z w64 (modulus - suc k)) (mod-eq_of_lt {n = n} {m = modulus} (omega arith)) ∙ to_z-neg w64 n h

-- what 64 bits stand for from 2^63 on
pub signed_negative : (n : ℕ) → 2 ^ 63 ≤ n → signed n ≡ negsuc (2 ^ 64 - suc n)
signed_negative n h = rw (le-ltb n (2 ^ 63) h) refl

pub word_signed : (n : ℕ) → n < 2 ^ 64 → word (signed n) ≡ n
unfolding word
word_signed n h = go (ltb n (2 ^ 63)) refl
  where
    go : (b : Bool) → ltb n (2 ^ 63) ≡ b → word (signed n) ≡ n
    go true e = ap word (to_z_pos w64 {n = n} (ltb-true n (2 ^ 63) e)) ∙ mod-eq_of_lt {n = n} {m = modulus} (omega arith)
    go false e =
        let l : 2 ^ 63 ≤ n = ltb-false n (2 ^ 63) e in
        ap word (signed_negative n l)
        ∙ omega arith

pub signed_in_range : (n : ℕ) → n < 2 ^ 64 → InRange (signed n)
signed_in_range n h = go (ltb n (2 ^ 63)) refl
  where
    go : (b : Bool) → ltb n (2 ^ 63) ≡ b → InRange (signed n)
    go true e = rw (to_z_pos w64 {n = n} (ltb-true n (2 ^ 63) e)) (ltb-true n (2 ^ 63) e)
    go false e = let l : 2 ^ 63 ≤ n = ltb-false n (2 ^ 63) e in rw (signed_negative n l) (omega arith)

-- the fields of a record that stands in a table
module _ (s : List ℕ) (i k c m v : ℕ) (rest : List ℕ) (e : drop (i * 16) s ≡ record_of k c m v ++ rest) where
  pub kind_there : kind s i ≡ k
  unfolding kind record_of
  kind_there = ap (λ (a : ℕ). get_or s a 0) (sym (add-zero (i * 16))) ∙ sym (get_or-drop (i * 16) s 0 0) ∙ ap (λ (l : List ℕ). get_or l 0 0) e

  pub count_there : c < 65536 → count_in s i ≡ c
  unfolding count_in record_of bytes le2
  count_there h = sym (le2_drop (i * 16) s 2) ∙ ap (λ (l : List ℕ). le2 l 2) e ∙ le_bytes 2 c h

  pub mark_there : m < 65536 → mark_in s i ≡ m
  unfolding mark_in record_of bytes le2
  mark_there h = sym (le2_drop (i * 16) s 4) ∙ ap (λ (l : List ℕ). le2 l 4) e ∙ le_bytes 2 m h

  pub bits_there : v < 2 ^ 64 → bits s i ≡ v
  unfolding bits record_of bytes le8
  bits_there h = sym (le8_drop (i * 16) s 8) ∙ ap (λ (l : List ℕ). le8 l 8) e ∙ le_bytes 8 v h

  pub symbol_there : v < 256 → symbol_in s i ≡ v
  unfolding symbol_in record_of bytes
  symbol_there h = sym (get_or-drop (i * 16) s 8 0) ∙ ap (λ (l : List ℕ). get_or l 8 0) e ∙ mod-eq_of_lt {n = v} {m = 256} h
