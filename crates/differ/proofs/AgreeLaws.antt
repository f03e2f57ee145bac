-- The two halves of a tree's first record tell its kind, its number of members, its mark and its number; so two first records agree exactly when
-- both halves are the same. By cases on the trees; the mark is the upper half of the first half, which the kind and the number of members do not reach.
use Prim.Native.Nat.{ℕ, ◌+◌, ◌*◌, ◌^◌, ◌<◌}
use mathlib.Core.Path.{◌≡◌, refl, sym, ap, ◌∙◌}
use mathlib.Core.Bool.{Bool, true, false}
use mathlib.Core.List.{List}
use native.Mathlib.Nat.{add-zero}
use native.Mathlib.Omega.{arith}
use borrow.Author.Tests.{eq-eqb, eqb-true, eqb-false}
use lib.ListN.{length}
use lib.Dec.{eqb}
use Rattle.paper.specs.Bytes.{bytes, le, le8, word}
use Rattle.paper.specs.Record.{bits}
use Rattle.paper.specs.Tree.{Tree, Forest, integer, symbol, sum, product, power, count, to_list, records, mark_of}
use Rattle.paper.specs.WellFormed.{WF}
use Rattle.paper.specs.Equal.{on_integer, on_symbol, on_sum, on_product, on_power}
use Rattle.paper.specs.Table.{record_of, encode}
use Rattle.paper.specs.Standing.{TreeIn, Stands}
use Rattle.paper_differ.specs.Differ.{same_fields, alike}
use Rattle.number.proofs.NumLaws.{same_number}
use Rattle.paper.proofs.Tests.{not_so}
use Rattle.paper.proofs.WFLaws.{count_list}
use Rattle.paper.proofs.Congruence.{word_lt}
use Rattle.paper.proofs.BytesLaws.{le8_drop}
use Rattle.paper.proofs.EncodeLaws.{bits_there, count_records}
use Rattle.paper.proofs.Stands.{sum_record, product_record, power_record}
use Rattle.paper_differ.proofs.DifferLaws.{Alike, a_integer, a_symbol, a_sum, a_product, a_power, alike_view}

-- bytes 0-3, bytes 0-7 and bytes 8-15 of a tree's first record, as numbers
unfoldable low_of : Tree → ℕ
low_of (integer μ z) = 0
low_of (symbol μ s) = 1
low_of (sum μ f) = 2 + count f * 65536
low_of (product μ f) = 3 + count f * 65536
low_of (power μ b ξ e) = 4

unfoldable front_of : Tree → ℕ
front_of t = low_of t + mark_of t * 4294967296

unfoldable bits_of : Tree → ℕ
bits_of (integer μ z) = word z
bits_of (symbol μ s) = s
bits_of (sum μ f) = 0
bits_of (product μ f) = 0
bits_of (power μ b ξ e) = 0

module _ {s : List ℕ} {i : ℕ} where
  front_there : (k c m v : ℕ) → c < 65536 → m < 65536 → Stands s i (record_of k c m v) → le8 s (i * 16) ≡ k + c * 65536 + m * 4294967296
  unfolding record_of bytes le8 le
  front_there k c m v l n h =
      ap (le8 s) (sym (add-zero (i * 16))) ∙ sym (le8_drop (i * 16) s 0) ∙ ap (λ (x : List ℕ). le8 x 0) h.there ∙ omega arith

  front_told : (t : Tree) → TreeIn s i t → le8 s (i * 16) ≡ front_of t
  unfolding low_of front_of mark_of encode records
  front_told (integer μ z) h = front_there 0 0 μ (word z) (omega arith) h.wf.1 h.stands
  front_told (symbol μ v) h = front_there 1 0 μ v (omega arith) h.wf.1 h.stands
  front_told (sum μ f) h = front_there 2 (count f) μ 0 (omega (arith, h.few, count_records f)) h.wf.2 (sum_record μ f h.stands)
  front_told (product μ f) h = front_there 3 (count f) μ 0 (omega (arith, h.few, count_records f)) h.wf.2 (product_record μ f h.stands)
  front_told (power μ b ξ e) h = front_there 4 0 μ 0 (omega arith) h.wf.3 (power_record μ b ξ e h.stands)

  low_lt : (t : Tree) → TreeIn s i t → low_of t < 4294967296
  unfolding low_of records
  low_lt (integer μ z) h = omega arith
  low_lt (symbol μ v) h = omega arith
  low_lt (sum μ f) h = omega (arith, h.few, count_records f)
  low_lt (product μ f) h = omega (arith, h.few, count_records f)
  low_lt (power μ b ξ e) h = omega arith

  number_there : (k c m v : ℕ) → v < 2 ^ 64 → Stands s i (record_of k c m v) → bits s i ≡ v
  number_there k c m v l h = bits_there s i k c m v h.after h.there l

  bits_told : (t : Tree) → TreeIn s i t → bits s i ≡ bits_of t
  unfolding bits_of encode
  bits_told (integer μ z) h = number_there 0 0 μ (word z) (word_lt z) h.stands
  bits_told (symbol μ v) h = number_there 1 0 μ v (omega (arith, h.wf.0)) h.stands
  bits_told (sum μ f) h = number_there 2 (count f) μ 0 (omega arith) (sum_record μ f h.stands)
  bits_told (product μ f) h = number_there 3 (count f) μ 0 (omega arith) (product_record μ f h.stands)
  bits_told (power μ b ξ e) h = number_there 4 0 μ 0 (omega arith) (power_record μ b ξ e h.stands)

-- the same halves
same_count : (f g : Forest) → count f ≡ count g → count f ≡ length (to_list g)
same_count f g e = e ∙ sym (count_list g)

halves_fields : (t u : Tree) → WF t → WF u → low_of t ≡ low_of u → bits_of t ≡ bits_of u → same_fields t u ≡ true
unfolding low_of bits_of same_fields on_integer on_symbol on_sum on_product on_power
halves_fields (integer μ z) (integer ν y) v w e k = same_number z y v.0 w.0 k
halves_fields (integer μ z) (symbol ν r) v w e k = absurd (omega arith)
halves_fields (integer μ z) (sum ν g) v w e k = absurd (omega arith)
halves_fields (integer μ z) (product ν g) v w e k = absurd (omega arith)
halves_fields (integer μ z) (power ν c ζ m) v w e k = absurd (omega arith)
halves_fields (symbol μ s) (integer ν y) v w e k = absurd (omega arith)
halves_fields (symbol μ s) (symbol ν r) v w e k = eq-eqb s r k
halves_fields (symbol μ s) (sum ν g) v w e k = absurd (omega arith)
halves_fields (symbol μ s) (product ν g) v w e k = absurd (omega arith)
halves_fields (symbol μ s) (power ν c ζ m) v w e k = absurd (omega arith)
halves_fields (sum μ f) (integer ν y) v w e k = absurd (omega arith)
halves_fields (sum μ f) (symbol ν r) v w e k = absurd (omega arith)
halves_fields (sum μ f) (sum ν g) v w e k = eq-eqb (count f) (length (to_list g)) (same_count f g (omega arith))
halves_fields (sum μ f) (product ν g) v w e k = absurd (omega arith)
halves_fields (sum μ f) (power ν c ζ m) v w e k = absurd (omega arith)
halves_fields (product μ f) (integer ν y) v w e k = absurd (omega arith)
halves_fields (product μ f) (symbol ν r) v w e k = absurd (omega arith)
halves_fields (product μ f) (sum ν g) v w e k = absurd (omega arith)
halves_fields (product μ f) (product ν g) v w e k = eq-eqb (count f) (length (to_list g)) (same_count f g (omega arith))
halves_fields (product μ f) (power ν c ζ m) v w e k = absurd (omega arith)
halves_fields (power μ b ξ n) (integer ν y) v w e k = absurd (omega arith)
halves_fields (power μ b ξ n) (symbol ν r) v w e k = absurd (omega arith)
halves_fields (power μ b ξ n) (sum ν g) v w e k = absurd (omega arith)
halves_fields (power μ b ξ n) (product ν g) v w e k = absurd (omega arith)
halves_fields (power μ b ξ n) (power ν c ζ m) v w e k = refl

-- what is below 2^32 and what is above are told apart
halves_alike : (t u : Tree) → WF t → WF u → low_of t < 4294967296 → low_of u < 4294967296 → front_of t ≡ front_of u → bits_of t ≡ bits_of u → alike t u ≡ true
unfolding front_of alike
halves_alike t u v w l m e k = rw (eq-eqb (mark_of t) (mark_of u) (omega arith)) (halves_fields t u v w (omega arith) k)

alike_halves : {t u : Tree} → Alike t u → (front_of t ≡ front_of u) × (bits_of t ≡ bits_of u)
unfolding low_of front_of mark_of bits_of
alike_halves a_integer = (refl, refl)
alike_halves a_symbol = (refl, refl)
alike_halves (a_sum {f = f} {g = g} e) = (omega (arith, count_list g), refl)
alike_halves (a_product {f = f} {g = g} e) = (omega (arith, count_list g), refl)
alike_halves a_power = (refl, refl)

-- ---- of two trees that stand in tables
module _ {a : List ℕ} {i : ℕ} {b : List ℕ} {j : ℕ} {t u : Tree} (h : TreeIn a i t) (g : TreeIn b j u) where
  pub fronts_differ : (le8 a (i * 16) ≡ le8 b (j * 16) → ⊥) → false ≡ alike t u
  fronts_differ d =
      sym (not_so (alike t u) (λ e. d (front_told t h ∙ (alike_halves (alike_view t u e)).0 ∙ sym (front_told u g))))

  -- where the first halves are the same, the second ones decide
  pub numbers_tell : le8 a (i * 16) ≡ le8 b (j * 16) → eqb (bits a i) (bits b j) ≡ alike t u
  numbers_tell e = go (eqb (bits a i) (bits b j)) refl
    where
      go : (r : Bool) → eqb (bits a i) (bits b j) ≡ r → r ≡ alike t u
      go true n =
          let same = eqb-true (bits a i) (bits b j) n in
          sym
          (halves_alike t u h.wf g.wf (low_lt t h) (low_lt u g) (sym (front_told t h) ∙ e ∙ front_told u g)
          (sym (bits_told t h) ∙ same ∙ bits_told u g))
      go false n =
          let other = eqb-false (bits a i) (bits b j) n in
          sym (not_so (alike t u) (λ x. other (bits_told t h ∙ (alike_halves (alike_view t u x)).1 ∙ sym (bits_told u g))))
