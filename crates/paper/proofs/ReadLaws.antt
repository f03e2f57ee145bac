-- Reading gives back what was written, by induction on the tree: the reader sees the fields that the record was written with, and
-- reads the members from the bytes that follow it.
use Prim.Native.Nat.{ℕ, zero, suc, ◌^◌, ◌<◌, ◌≤◌}
use mathlib.Core.Path.{◌≡◌, refl, ap, ◌∙◌, subst}
use mathlib.Core.Bool.{false}
use mathlib.Core.List.{List, [], ◌++◌, append_assoc, append-nil}
use mathlib.Core.Option.{some}
use native.Mathlib.Omega.{arith}
use borrow.Author.Tests.{le-ltb}
use lib.Dec.{ltb}
use lib.ListN.{length, drop, length-append}
use lib.IntN.{ℤ}
use mir.Syntax.{w64}
use mir.Facts.{to_z_pos}
use Rattle.paper.specs.Bytes.{bytes, signed, word}
use Rattle.paper.specs.Tree.{Tree, Forest, integer, symbol, sum, product, power, nil, cons, count, records, recordses, weight}
use Rattle.paper.specs.WellFormed.{WF, WFs}
use Rattle.paper.specs.Table.{record_of, encode, encodes, then, kind_of, read_members, raised, read_exponent, read_tree, whole, tree_of}
use Rattle.paper.proofs.Congruence.{word_lt}
use Rattle.paper.proofs.EncodeLaws.{record_length, encode_length, records_weight, count_records, signed_word, kind_there}
use Rattle.paper.proofs.EncodeLaws.{count_there, mark_there, bits_there, symbol_there}

record_long : (k c m v : ℕ) (rest : List ℕ) → ltb (length (record_of k c m v ++ rest)) 16 ≡ false
record_long k c m v rest =
    le-ltb (length (record_of k c m v ++ rest)) 16 (rw (length-append (record_of k c m v) rest, record_length k c m v) (omega arith))

record_drop : (k c m v : ℕ) (rest : List ℕ) → drop 16 (record_of k c m v ++ rest) ≡ rest
unfolding record_of bytes
record_drop k c m v rest = refl

-- one record of each kind, as it is read
read_integer : (n m v : ℕ) (rest : List ℕ) → m < 65536 → v < 2 ^ 64 → read_tree (suc n) (record_of 0 0 m v ++ rest) ≡ some (integer m (signed v), rest)
unfolding read_tree kind_of
read_integer n m v rest k h =
    rw (
      record_long 0 0 m v rest,
      kind_there (record_of 0 0 m v ++ rest) 0 0 0 m v rest refl,
      mark_there (record_of 0 0 m v ++ rest) 0 0 0 m v rest refl k,
      bits_there (record_of 0 0 m v ++ rest) 0 0 0 m v rest refl h,
      record_drop 0 0 m v rest,
    )

read_symbol : (n m v : ℕ) (rest : List ℕ) → m < 65536 → v < 256 → read_tree (suc n) (record_of 1 0 m v ++ rest) ≡ some (symbol m v, rest)
unfolding read_tree kind_of
read_symbol n m v rest k h =
    rw (
      record_long 1 0 m v rest,
      kind_there (record_of 1 0 m v ++ rest) 0 1 0 m v rest refl,
      mark_there (record_of 1 0 m v ++ rest) 0 1 0 m v rest refl k,
      symbol_there (record_of 1 0 m v ++ rest) 0 1 0 m v rest refl h,
      record_drop 1 0 m v rest,
    )

read_sum_lem : (n c m : ℕ) (rest : List ℕ) → m < 65536 → c < 65536
    → read_tree (suc n) (record_of 2 c m 0 ++ rest) ≡ then (read_members (λ q. read_tree n q) c rest) (λ f r. some (sum m f, r))
unfolding read_tree kind_of
read_sum_lem n c m rest k h =
    rw (
      record_long 2 c m 0 rest,
      kind_there (record_of 2 c m 0 ++ rest) 0 2 c m 0 rest refl,
      mark_there (record_of 2 c m 0 ++ rest) 0 2 c m 0 rest refl k,
      count_there (record_of 2 c m 0 ++ rest) 0 2 c m 0 rest refl h,
      record_drop 2 c m 0 rest,
    )

read_product_lem : (n c m : ℕ) (rest : List ℕ) → m < 65536 → c < 65536
    → read_tree (suc n) (record_of 3 c m 0 ++ rest) ≡ then (read_members (λ q. read_tree n q) c rest) (λ f r. some (product m f, r))
unfolding read_tree kind_of
read_product_lem n c m rest k h =
    rw (
      record_long 3 c m 0 rest,
      kind_there (record_of 3 c m 0 ++ rest) 0 3 c m 0 rest refl,
      mark_there (record_of 3 c m 0 ++ rest) 0 3 c m 0 rest refl k,
      count_there (record_of 3 c m 0 ++ rest) 0 3 c m 0 rest refl h,
      record_drop 3 c m 0 rest,
    )

read_power_lem : (n m : ℕ) (rest : List ℕ) → m < 65536 → read_tree (suc n) (record_of 4 0 m 0 ++ rest) ≡ then (read_tree n rest) (read_exponent m)
unfolding read_tree kind_of
read_power_lem n m rest k =
    rw (
      record_long 4 0 m 0 rest,
      kind_there (record_of 4 0 m 0 ++ rest) 0 4 0 m 0 rest refl,
      mark_there (record_of 4 0 m 0 ++ rest) 0 4 0 m 0 rest refl k,
      record_drop 4 0 m 0 rest,
    )

read_exponent_lem : (μ : ℕ) (b : Tree) (m e : ℕ) (rest : List ℕ) → m < 65536 → 1 ≤ e → e < 2 ^ 63
    → read_exponent μ b (record_of 0 0 m e ++ rest) ≡ some (power μ b m e, rest)
unfolding read_exponent kind_of raised
read_exponent_lem μ b m zero rest k h g = absurd (omega arith)
read_exponent_lem μ b m (suc e) rest k h g =
    rw (
      record_long 0 0 m (suc e) rest,
      kind_there (record_of 0 0 m (suc e) ++ rest) 0 0 0 m (suc e) rest refl,
      mark_there (record_of 0 0 m (suc e) ++ rest) 0 0 0 m (suc e) rest refl k,
      bits_there (record_of 0 0 m (suc e) ++ rest) 0 0 0 m (suc e) rest refl (omega arith),
      record_drop 0 0 m (suc e) rest,
    )
    (ap (raised μ b m rest) (to_z_pos w64 g))

-- the tree that was written, and the bytes after it
mutual
  unfolding encode records count read_members then

  pub read_written : (t : Tree) (n : ℕ) (rest : List ℕ) → WF t → records t < 65536 → records t ≤ n
      → read_tree n (encode t ++ rest) ≡ some (t, rest)
  read_written (integer μ z) zero rest w s h = absurd (omega arith)
  read_written (integer μ z) (suc n) rest w s h =
      read_integer n μ (word z) rest w.1 (word_lt z) ∙ ap (λ (y : ℤ). some (integer μ y, rest)) (signed_word z w.0)
  read_written (symbol μ v) zero rest w s h = absurd (omega arith)
  read_written (symbol μ v) (suc n) rest w s h = read_symbol n μ v rest w.1 w.0
  read_written (sum μ f) zero rest w s h = absurd (omega arith)
  read_written (sum μ f) (suc n) rest w s h =
      rw (
        append_assoc (record_of 2 (count f) μ 0) (encodes f) rest,
        read_sum_lem n (count f) μ (encodes f ++ rest) w.2 (omega (arith, count_records f)),
        members_written f n rest w.1 (omega arith) (omega arith),
      )
  read_written (product μ f) zero rest w s h = absurd (omega arith)
  read_written (product μ f) (suc n) rest w s h =
      rw (
        append_assoc (record_of 3 (count f) μ 0) (encodes f) rest,
        read_product_lem n (count f) μ (encodes f ++ rest) w.2 (omega (arith, count_records f)),
        members_written f n rest w.1 (omega arith) (omega arith),
      )
  read_written (power μ b ξ e) zero rest w s h = absurd (omega arith)
  read_written (power μ b ξ e) (suc n) rest w s h =
      rw (
        append_assoc (record_of 4 0 μ 0) (encode b ++ record_of 0 0 ξ e) rest,
        append_assoc (encode b) (record_of 0 0 ξ e) rest,
        read_power_lem n μ (encode b ++ (record_of 0 0 ξ e ++ rest)) w.3,
        read_written b n (record_of 0 0 ξ e ++ rest) w.0 (omega arith) (omega arith),
      )
      (read_exponent_lem μ b ξ e rest w.4 w.1 w.2)

  pub members_written : (f : Forest) (n : ℕ) (rest : List ℕ) → WFs f → recordses f < 65536 → recordses f ≤ n
      → read_members (λ q. read_tree n q) (count f) (encodes f ++ rest) ≡ some (f, rest)
  members_written nil n rest w s h = refl
  members_written (cons t f) n rest w s h =
      rw (
        append_assoc (encode t) (encodes f) rest,
        read_written t n (encodes f ++ rest) w.0 (omega arith) (omega arith),
        members_written f n rest w.1 (omega arith) (omega arith),
      )

-- "writing, then reading": the tree of a written table is the tree
pub tree_of_written : (t : Tree) → WF t → weight t < 65536 → tree_of (encode t) ≡ some t
unfolding tree_of whole
tree_of_written t w h =
    let r = records_weight t in
    let l = encode_length t in
    let e : encode t ++ [] ≡ encode t = append-nil (encode t) in
    rw (subst (λ (s : List ℕ). read_tree (length (encode t)) s ≡ some (t, [])) e
    (read_written t (length (encode t)) [] w (omega arith) (omega arith)))
