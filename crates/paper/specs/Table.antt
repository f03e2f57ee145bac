-- Trees and their records, both ways: "the tree in the order parent, then members from first to last (power: base, exponent)".
use Rattle.std.specs.Prelude.{ℕ, zero, suc, cond, List, [], ◌∷◌, ◌++◌, length, drop, ℤ, pos, negsuc, ltb}
use Rattle.std.proofs.Math.Option.{Option, none, some}
use Rattle.paper.specs.Bytes.{bytes, word, signed}
use Rattle.paper.specs.Tree.{Tree, Forest, integer, symbol, sum, product, power, nil, cons, count}
use Rattle.paper.specs.Record.{kind, count_in, mark_in, bits, symbol_in}

-- one record: its kind, its number of members, its mark, and the number in its bytes 8-15
unfoldable pub record_of : ℕ → ℕ → ℕ → ℕ → List ℕ
record_of k members mark number = k ∷ 0 ∷ (bytes 2 members ++ (bytes 2 mark ++ (0 ∷ 0 ∷ bytes 8 number)))

-- writing: the records of a tree
unfoldable mutual
  pub encode : Tree → List ℕ
  encode (integer μ z) = record_of 0 0 μ (word z)
  encode (symbol μ s) = record_of 1 0 μ s
  encode (sum μ f) = record_of 2 (count f) μ 0 ++ encodes f
  encode (product μ f) = record_of 3 (count f) μ 0 ++ encodes f
  encode (power μ b ξ e) = record_of 4 0 μ 0 ++ (encode b ++ record_of 0 0 ξ e)

  pub encodes : Forest → List ℕ
  encodes nil = []
  encodes (cons t f) = encode t ++ encodes f

-- reading: what was read, and the bytes after it; none where the bytes do not begin so
abbrev pub Reading : Type 0 → Type 0
Reading A = Option (A × List ℕ)

module _ {A B : Type 0} where
  unfoldable pub then : Reading A → (A → List ℕ → Reading B) → Reading B
  then none k = none
  then (some r) k = k r.0 r.1

pub data Kind : Type 0 where
  an_integer a_symbol a_sum a_product a_power no_kind : Kind

unfoldable pub kind_of : ℕ → Kind
kind_of zero = an_integer
kind_of (suc zero) = a_symbol
kind_of (suc (suc zero)) = a_sum
kind_of (suc (suc (suc zero))) = a_product
kind_of (suc (suc (suc (suc zero)))) = a_power
kind_of (suc (suc (suc (suc (suc n))))) = no_kind

-- k trees one after the other
unfoldable pub read_members : (List ℕ → Reading Tree) → ℕ → List ℕ → Reading Forest
read_members r zero s = some (nil, s)
read_members r (suc k) s = then (r s) (λ t s'. then (read_members r k s') (λ f s''. some (cons t f, s'')))

-- "The exponent of a power is an integer of at least 1."
unfoldable pub raised : ℕ → Tree → ℕ → List ℕ → ℤ → Reading Tree
raised μ b ξ s (pos zero) = none
raised μ b ξ s (pos (suc n)) = some (power μ b ξ (suc n), s)
raised μ b ξ s (negsuc n) = none

unfoldable pub read_exponent : ℕ → Tree → List ℕ → Reading Tree
read_exponent μ b s =
    cond (ltb (length s) 16) none
    (elim (kind_of (kind s 0)) [
      | an_integer ↦ raised μ b (mark_in s 0) (drop 16 s) (signed (bits s 0))
      | a_symbol ↦ none
      | a_sum ↦ none
      | a_product ↦ none
      | a_power ↦ none
      | no_kind ↦ none
    ])

-- the tree that the bytes begin with; n bounds its number of records
unfoldable pub read_tree : ℕ → List ℕ → Reading Tree
read_tree zero s = none
read_tree (suc n) s =
    cond (ltb (length s) 16) none
    (elim (kind_of (kind s 0)) [
      | an_integer ↦ some (integer (mark_in s 0) (signed (bits s 0)), drop 16 s)
      | a_symbol ↦ some (symbol (mark_in s 0) (symbol_in s 0), drop 16 s)
      | a_sum ↦ then (read_members (λ q. read_tree n q) (count_in s 0) (drop 16 s)) (λ f r. some (sum (mark_in s 0) f, r))
      | a_product ↦ then (read_members (λ q. read_tree n q) (count_in s 0) (drop 16 s)) (λ f r. some (product (mark_in s 0) f, r))
      | a_power ↦ then (read_tree n (drop 16 s)) (read_exponent (mark_in s 0))
      | no_kind ↦ none
    ])

unfoldable pub whole : Reading Tree → Option Tree
whole none = none
whole (some r) = cond (ltb 0 (length r.1)) none (some r.0)

-- the tree of a table, where its records are those of one tree and no more
unfoldable pub tree_of : List ℕ → Option Tree
tree_of s = whole (read_tree (length s) s)
