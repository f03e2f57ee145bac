-- Laws of the list of lengths: what is left of it at item i is the length of that item, and what is left at the next one.
use Prim.Native.Nat.{ℕ, zero, suc, ◌+◌, ◌-◌, ◌*◌, ◌/◌, ◌≤◌, ◌<◌}
use mathlib.Core.Path.{◌≡◌, refl, sym, ap, ◌∙◌}
use mathlib.Core.List.{List, [], ◌∷◌}
use native.Mathlib.Nat.{sub-zero}
use native.Mathlib.Omega.{arith}
use borrow.Author.Tests.{eq-eqb, ne_eqb, le-ltb}
use lib.Dec.{eqb, ltb}
use lib.ListN.{length, drop}
use lib.Seq.{drop-drop}
use Rattle.paper.specs.Bytes.{le8}
use Rattle.paper.proofs.BytesLaws.{le8_drop}
use Rattle.paper_batch.specs.Batch.{numbers_in, lengths_in, total}
use Rattle.batch.specs.Turn.{lengths_from}

pub length_numbers : (n : ℕ) (s : List ℕ) → length (numbers_in n s) ≡ n
unfolding numbers_in
length_numbers zero s = refl
length_numbers (suc n) s = ap suc (length_numbers n (drop 8 s))

pub length_lengths : (s : List ℕ) → length (lengths_in s) ≡ length s / 8
unfolding lengths_in
length_lengths s = length_numbers (length s / 8) s

module _ (s : List ℕ) (n : ℕ) where
  pub from_turn : (i : ℕ) → i < n → lengths_from s n i ≡ le8 s (i * 8) ∷ lengths_from s n (i + 1)
  unfolding lengths_from numbers_in
  from_turn i h =
      let e : n - i ≡ suc (n - (i + 1)) = omega arith in
      let a : 8 * i + 0 ≡ i * 8 = omega arith in
      let b : 8 * i + 8 ≡ 8 * (i + 1) = omega arith in
      rw (e, le8_drop, drop-drop, a, b) refl

  pub from_none : (i : ℕ) → n ≤ i → lengths_from s n i ≡ []
  unfolding lengths_from numbers_in
  from_none i h = let e : n - i ≡ 0 = omega arith in rw e refl

  pub total_turn : (i : ℕ) → i < n → total (lengths_from s n i) ≡ le8 s (i * 8) + total (lengths_from s n (i + 1))
  unfolding total
  total_turn i h = rw (from_turn i h) refl

  pub total_none : (i : ℕ) → n ≤ i → total (lengths_from s n i) ≡ 0
  unfolding total
  total_none i h = rw (from_none i h) refl

pub from_all : (s : List ℕ) → lengths_from s (length s / 8) 0 ≡ lengths_in s
unfolding lengths_from lengths_in
from_all s = rw sub-zero refl

-- counted down to what is left, the lengths add up where nothing is left
pub counted : (t given left : ℕ) → t + left ≡ given → ltb left 1 ≡ eqb t given
counted t given zero e = sym (eq-eqb t given (omega arith))
counted t given (suc left) e = le-ltb (suc left) 1 (omega arith) ∙ sym (ne_eqb t given (λ f. omega arith))
