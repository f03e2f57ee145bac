-- The records of what is read, as the reader comes by them: a power and its base, and the members of a node after its first, one after the
-- other.
use Prim.Native.Nat.{ℕ, ◌+◌}
use mathlib.Core.Path.{◌≡◌}
use mathlib.Core.List.{List, [], ◌∷◌, ◌++◌}
use native.Mathlib.Omega.{arith}
use lib.ListN.{length-append}
use Rattle.paper.specs.Tree.{Tree, sum, product, power, cons, count, of_list, records, recordses}
use Rattle.paper.specs.Table.{record_of}
use Rattle.paper.proofs.WFLaws.{list_count}
use Rattle.paper.proofs.EncodeLaws.{recordses_snoc}
use Rattle.parse.specs.Written.{Written, Shifted}
use Rattle.parse.proofs.TreesWritten.{none_written, one_more_written, sum_written, product_written, power_written}
use Rattle.parse.specs.Parsed.{Laid}
use Rattle.parse.specs.Joined.{Rows}

module _ {old o1 o2 o3 o4 : List ℕ} {d q : ℕ} (s : Shifted o1 d q o2) where
  pub power_laid : {v : ℕ} → Written (record_of 0 0 0 v) o2 (q + 1) o3 → Written (record_of 4 0 0 0) o3 d o4 → (t : Tree) → Laid old d o1 q t
      → Laid old d o4 (q + 2) (power 0 t 0 v)
  unfolding records
  power_laid {v} y z t h =
      record { next = (let n = h.next in omega (arith, n)); put_there = power_written t q h.next h.put_there s v y z }

pub no_rows : (old : List ℕ) (i : ℕ) → Rows old i old i 1 []
unfolding of_list records
no_rows old i = record { next = omega arith; put_there = none_written; counted = omega arith }

pub one_row : {old new new' : List ℕ} {i q q1 c : ℕ} (l : List Tree) (t : Tree) → Rows old i new q c l → Laid new q new' q1 t
    → Rows old i new' q1 (c + 1) (l ++ (t ∷ []))
one_row {q = q} l t h k =
    let a = h.next in
    let b = k.next in
    let e = recordses_snoc l t in
    let f = h.counted in
    let g = length-append l (t ∷ []) in
    record {
      next = omega (arith, a, b, e);
      put_there = one_more_written l t q h.next h.put_there k.put_there;
      counted = omega (arith, f, g);
    }

-- a sum and a product: the first member stood from record d on and is shifted; the others are written behind it, the node's record comes last
node_next : {old o1 o2 o3 : List ℕ} {d q0 q c : ℕ} (t : Tree) (l : List Tree) → Laid old d o1 q0 t → Rows o2 (q0 + 1) o3 q c l
    → q ≡ d + (1 + recordses (of_list (t ∷ l)))
unfolding of_list records
node_next t l h r = let a = h.next in let b = r.next in omega (arith, a, b)

node_count : {o2 o3 : List ℕ} {i q c : ℕ} (t : Tree) (l : List Tree) → Rows o2 i o3 q c l → c ≡ count (cons t (of_list l))
unfolding count
node_count t l r = let a = r.counted in let b = list_count l in omega (arith, a, b)

module _ {old o1 o2 o3 o4 : List ℕ} {d q0 q c : ℕ} (s : Shifted o1 d q0 o2) where
  pub sum_laid : Written (record_of 2 c 0 0) o3 d o4 → (t : Tree) (l : List Tree) → Laid old d o1 q0 t → Rows o2 (q0 + 1) o3 q c l
      → Laid old d o4 q (sum 0 (of_list (t ∷ l)))
  unfolding of_list records
  sum_laid z t l h r =
      record { next = node_next t l h r; put_there = sum_written t q0 h.next h.put_there s (of_list l) c (node_count t l r) r.put_there z }

  pub product_laid : Written (record_of 3 c 0 0) o3 d o4 → (t : Tree) (l : List Tree) → Laid old d o1 q0 t → Rows o2 (q0 + 1) o3 q c l
      → Laid old d o4 q (product 0 (of_list (t ∷ l)))
  unfolding of_list records
  product_laid z t l h r =
      record { next = node_next t l h r; put_there = product_written t q0 h.next h.put_there s (of_list l) c (node_count t l r) r.put_there z }
