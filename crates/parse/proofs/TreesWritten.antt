-- The records of a tree written as a reader comes by them: a leaf at once; a sum, a product or a power when its first member stands already, by
-- `node_written`; members one after the other.
use Prim.Native.Nat.{ℕ, suc, ◌+◌, ◌-◌, ◌*◌, ◌%◌, ◌^◌, ◌<◌}
use mathlib.Core.Path.{◌≡◌, refl, sym, ap, ◌∙◌, subst}
use mathlib.Core.List.{List, [], ◌∷◌, ◌++◌, append_assoc, append-nil}
use native.Mathlib.Nat.{mod-eq_of_lt}
use native.Mathlib.Omega.{arith}
use lib.IntN.{pos, negsuc}
use Rattle.paper.specs.Limits.{modulus}
use Rattle.paper.specs.Bytes.{word}
use Rattle.paper.specs.Tree.{Tree, Forest, integer, symbol, sum, product, power, nil, cons, count, of_list, records, recordses}
use Rattle.paper_text.specs.Levels.{stand_in}
use Rattle.paper.specs.Table.{record_of, encode, encodes}
use Rattle.paper.proofs.EncodeLaws.{record_length, encode_length, encodes_length}
use Rattle.stretch.proofs.Laws.{put_none}
use Rattle.parse.specs.Written.{Written, Shifted}
use Rattle.parse.proofs.NodeLaws.{then_written, node_written}

module _ {o o' : List ℕ} {d : ℕ} where
  pub symbol_written : (v : ℕ) → Written (record_of 1 0 0 v) o d o' → Written (encode (symbol 0 v)) o d o'
  unfolding encode
  symbol_written v h = h

  pub from_nought : (v : ℕ) → v < 2 ^ 63 → Written (record_of 0 0 0 v) o d o' → Written (encode (integer 0 (pos v))) o d o'
  unfolding encode word
  from_nought v l h =
      let e = mod-eq_of_lt {n = v} {m = modulus} (omega (arith, l)) in
      subst (λ (x : ℕ). Written (record_of 0 0 0 x) o d o') (sym e) h

  -- -v, as 2^64 - v
  pub below_nought : (n w : ℕ) → n < 2 ^ 63 → w ≡ 2 ^ 64 - suc n → Written (record_of 0 0 0 w) o d o' → Written (encode (integer 0 (negsuc n))) o d o'
  unfolding encode word
  below_nought n w l q h =
      let m = mod-eq_of_lt {n = n} {m = modulus} (omega (arith, l)) in
      let e : w ≡ modulus - suc (n % modulus) = omega (arith, q, m) in
      subst (λ (x : ℕ). Written (record_of 0 0 0 x) o d o') e h

-- the tree that stands for a group that is not read, by its rank: 0, -1, a product or a sum of no members
module _ {o o' : List ℕ} {d : ℕ} where
  pub nought_stands : Written (record_of 0 0 0 0) o d o' → Written (encode (stand_in 0)) o d o'
  unfolding stand_in
  nought_stands h = from_nought 0 (omega arith) h

  pub minus_one_stands : Written (record_of 0 0 0 (2 ^ 64 - 1)) o d o' → Written (encode (stand_in 1)) o d o'
  unfolding stand_in
  minus_one_stands h = below_nought 0 (2 ^ 64 - 1) (omega arith) refl h

  pub product_stands : Written (record_of 3 0 0 0) o d o' → Written (encode (stand_in 2)) o d o'
  unfolding stand_in encode count
  product_stands h = subst (λ x. Written x o d o') (sym (append-nil (record_of 3 0 0 0))) h

  pub sum_stands : Written (record_of 2 0 0 0) o d o' → Written (encode (stand_in 3)) o d o'
  unfolding stand_in encode count
  sum_stands h = subst (λ x. Written x o d o') (sym (append-nil (record_of 2 0 0 0))) h

-- ---- members one after the other
encodes_more : (l : List Tree) (t : Tree) → encodes (of_list (l ++ (t ∷ []))) ≡ encodes (of_list l) ++ encode t
unfolding encode of_list
encodes_more [] t = append-nil (encode t)
encodes_more (u ∷ l) t = ap (λ x. encode u ++ x) (encodes_more l t) ∙ sym (append_assoc (encode u) (encodes (of_list l)) (encode t))

module _ {o : List ℕ} {d : ℕ} where
  pub none_written : Written (encodes nil) o d o
  unfolding encode
  none_written = record { there = λ f. sym (put_none o (d * 16)) }

  pub one_more_written : (l : List Tree) (t : Tree) (e : ℕ) {o' o'' : List ℕ} → e ≡ d + recordses (of_list l) → Written (encodes (of_list l)) o d o'
      → Written (encode t) o' e o'' → Written (encodes (of_list (l ++ (t ∷ [])))) o d o''
  one_more_written l t e {o'} {o''} q h k =
      subst (λ x. Written x o d o'') (sym (encodes_more l t)) (then_written e (recordses (of_list l)) (encodes_length (of_list l)) q h k)

-- ---- a node whose first member stands at d up to record q
module _ (t : Tree) {o o1 o2 o3 o4 : List ℕ} {d : ℕ} (q : ℕ) (e : q ≡ d + records t) (w : Written (encode t) o d o1) (s : Shifted o1 d q o2) where
  pub sum_written : (f : Forest) (n : ℕ) → n ≡ count (cons t f) → Written (encodes f) o2 (q + 1) o3 → Written (record_of 2 n 0 0) o3 d o4
      → Written (encode (sum 0 (cons t f))) o d o4
  unfolding encode
  sum_written f n c y z =
      node_written q (records t) (record_length 2 (count (cons t f)) 0 0) (encode_length t) e w s y
      (subst (λ (x : ℕ). Written (record_of 2 x 0 0) o3 d o4) c z)

  pub product_written : (f : Forest) (n : ℕ) → n ≡ count (cons t f) → Written (encodes f) o2 (q + 1) o3 → Written (record_of 3 n 0 0) o3 d o4
      → Written (encode (product 0 (cons t f))) o d o4
  unfolding encode
  product_written f n c y z =
      node_written q (records t) (record_length 3 (count (cons t f)) 0 0) (encode_length t) e w s y
      (subst (λ (x : ℕ). Written (record_of 3 x 0 0) o3 d o4) c z)

  pub power_written : (n : ℕ) → Written (record_of 0 0 0 n) o2 (q + 1) o3 → Written (record_of 4 0 0 0) o3 d o4 → Written (encode (power 0 t 0 n)) o d o4
  unfolding encode
  power_written n y z = node_written q (records t) (record_length 4 0 0 0) (encode_length t) e w s y z
