-- The note of a product without its integers: the product's own note less their notes, modulo 2^64. Each integer adds to the product's
-- note just what its own note has: one record, weight 1, and its key, for a leaf adds its key. Keys wrap around at the top of the 64
-- bits, so one difference does all three.
use Rattle.std.proofs.Common.{◌≡◌, ℕ, ◌+◌, ◌%◌, ◌<◌, ◌≤◌, List, [], ◌∷◌, length, ℤ, pos, sym, refl, ap, ◌∙◌, mod-eq_of_lt, arith, lit<}
use Rattle.paper.specs.Limits.{modulus}
use Rattle.paper.specs.Bytes.{word}
use Rattle.paper.specs.Tree.{Tree, integer, symbol, sum, product, power, of_list, records, recordses, weight}
use Rattle.paper.specs.Standing.{kind_number}
use Rattle.paper.specs.Rules.{as_integer, with_integer, integers_of, with_other, others_of, product_of, collapse}
use Rattle.paper.proofs.Congruence.{Agree, agree_refl, agree_of, agree_sym, agree_trans, agree_add, agree_cancel}
use Rattle.paper.proofs.Value.{total, list_weights}
use Rattle.note.specs.Note.{key, share_of, share, note_of, note, leaf_note}
use Rattle.note.proofs.KeyLaws.{adds, adds_all, product_adds, note_whole, note_lt, integer_note, list_shares}

list_recordses : (l : List Tree) → recordses (of_list l) ≡ total records l
unfolding records total of_list
list_recordses [] = refl
list_recordses (t ∷ l) = ap (λ n. records t + n) (list_recordses l)

-- what g has of each integer, all together
unfoldable pub summed : (Tree → ℕ) → List ℤ → ℕ
summed g [] = 0
summed g (z ∷ ns) = g (integer 0 z) + summed g ns

-- a total over the members, by the integers and the others, where marks do not matter to it
module _ (g : Tree → ℕ) (plain : (μ : ℕ) (z : ℤ) → g (integer μ z) ≡ g (integer 0 z)) where
  apart_total : (l : List Tree) → total g l ≡ summed g (integers_of l) + total g (others_of l)
  unfolding total summed integers_of others_of with_integer with_other as_integer
  apart_total [] = refl
  apart_total (integer μ z ∷ l) = omega (arith, plain μ z, apart_total l)
  apart_total (symbol μ s ∷ l) = omega (arith, apart_total l)
  apart_total (sum μ f ∷ l) = omega (arith, apart_total l)
  apart_total (product μ f ∷ l) = omega (arith, apart_total l)
  apart_total (power μ b ξ e ∷ l) = omega (arith, apart_total l)

-- integers' notes add up part by part, a leaf's share being its key
integer_adds : (z : ℤ) → note (integer 0 z) ≡ adds (integer 0 z)
unfolding share share_of kind_number weight
integer_adds z = note_whole (integer 0 z) (lit< tt)

summed_notes : (ns : List ℤ) → summed note ns ≡ note_of (summed records ns) (summed weight ns) (summed share ns)
unfolding summed note_of
summed_notes [] = refl
summed_notes (z ∷ ns) = omega (arith, integer_adds z, summed_notes ns)

-- what members add, the integers and the others
adds_apart : (l : List Tree) → adds_all (of_list (others_of l)) + summed note (integers_of l) ≡ adds_all (of_list l)
unfolding note_of records weight share key kind_number
adds_apart l =
    let m = others_of l in
    let n = apart_total records (λ μ z. refl) l in
    let w = apart_total weight (λ μ z. refl) l in
    let k = apart_total share (λ μ z. refl) l in
    omega (
      arith,
      summed_notes (integers_of l),
      list_recordses m,
      list_weights m,
      list_shares m,
      list_recordses l,
      list_weights l,
      list_shares l,
    )

-- the note of what is left and the notes of the integers, together
pub product_without : (μ : ℕ) (l : List Tree)
    → Agree modulus (note (product μ (of_list (others_of l))) + summed note (integers_of l)) (note (product μ (of_list l)))
product_without μ l =
    let m = others_of l in
    let s = summed note (integers_of l) in
    let e : note_of 1 1 3 + adds_all (of_list m) + s ≡ note_of 1 1 3 + adds_all (of_list l) = omega (arith, adds_apart l) in
    agree_trans (agree_add (agree_sym (product_adds μ (of_list m))) (agree_refl {a = s}))
    (agree_trans (agree_of e) (product_adds μ (of_list l)))

cancelled : (v n x s a : ℕ) → v < modulus → n < modulus → x % modulus ≡ s % modulus → (v + x) % modulus ≡ a
    → (n + s) % modulus ≡ a % modulus → v ≡ n
cancelled v n x s a lt ln e h k =
    let p : (v + x) % modulus ≡ (n + s) % modulus = omega (arith, h, k) in
    let q : Agree modulus (v + x) (n + x) =
    agree_trans (record { agree = p }) (agree_add (agree_refl {a = n}) (record { agree = sym e })) in
    sym (mod-eq_of_lt lt) ∙ (agree_cancel {m = 18446744073709551615} x q).agree ∙ mod-eq_of_lt ln

-- the note of what is left, as code has it: v is the whole's note less x, and x is what the integers add, both modulo 2^64
pub rest_note : (μ : ℕ) (l : List Tree) (v x : ℕ) → v < modulus → x % modulus ≡ summed note (integers_of l) % modulus
    → (v + x) % modulus ≡ note (product μ (of_list l)) → v ≡ note (product μ (of_list (others_of l)))
rest_note μ l v x lt e h =
    let t = product μ (of_list (others_of l)) in
    cancelled v (note t) x (summed note (integers_of l)) (note (product μ (of_list l))) lt (note_lt t) e h (product_without μ l).agree

-- ---- the note of a rest, by how many members are left
pub rest_two : (μ : ℕ) (m : List Tree) → 2 ≤ length m → note (product_of μ m) ≡ note (product μ (of_list m))
unfolding product_of collapse
rest_two μ [] l = absurd (omega arith)
rest_two μ (t ∷ []) l = absurd (omega arith)
rest_two μ (t ∷ u ∷ m) l = refl

pub rest_single : (μ : ℕ) (t : Tree) → note (product_of μ (t ∷ [])) ≡ note t
unfolding product_of collapse
rest_single μ t = refl

pub rest_none : (μ : ℕ) → note (product_of μ []) ≡ leaf_note 0 1
unfolding product_of collapse word
rest_none μ = integer_note μ (pos 1)
