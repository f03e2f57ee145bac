-- Spelling a number from its last digit on: the digits that stand in the array, with those of the quotient that is left before them, are the
-- digits of the number.
use Prim.Native.Nat.{ℕ, zero, suc, ◌+◌, ◌-◌, ◌/◌, ◌%◌, ◌^◌, ◌≤◌, ◌<◌}
use mathlib.Core.Path.{◌≡◌, refl, sym, ap, ◌∙◌}
use mathlib.Core.List.{List, ◌∷◌}
use native.Mathlib.Omega.{arith}
use borrow.Author.Tests.{lt-ltb, le-ltb}
use lib.ListN.{length, set, take, drop, replicate, length-drop, length-set}
use lib.Seq.{set_split, length-take-le, drop_at, take_all}
use Rattle.paper_text.specs.Text.{digits, digits_of}
use Rattle.paper_text.proofs.DigitLaws.{quotient_below}
use Rattle.stretch.specs.Put.{part, put}
use Rattle.decimal.specs.Digits.{NumberSpelt}

-- of the digits of v those from place i on stand in b, and w is left
pub record Spelling (v : ℕ) (b : List ℕ) (i w : ℕ) : Type 0 where
  pub long : length b ≡ 20
  pub some : 1 ≤ i
  pub few : i ≤ 20
  pub fits : w < 10 ^ i
  pub rest : digits_of i w (drop i b) ≡ digits v

pub begin_spelling : (v : ℕ) → v < 2 ^ 64 → Spelling v (replicate 20 0) 20 v
unfolding digits
begin_spelling v h = record { long = refl; some = omega arith; few = omega arith; fits = omega (arith, h); rest = refl }

drop_set : (b : List ℕ) (i x : ℕ) → i < length b → drop i (set b i x) ≡ x ∷ drop (suc i) b
drop_set b i x h = ap (drop i) (set_split b i x h) ∙ drop_at (take i b) (x ∷ drop (suc i) b) i (length-take-le i b (omega (arith, h)))

two_left : (i w : ℕ) → 10 ≤ w → w < 10 ^ i → 2 ≤ i
two_left zero w h l = absurd (omega (arith, h, l))
two_left (suc zero) w h l = absurd (omega (arith, h, l))
two_left (suc (suc i)) w h l = omega arith

pub spell_turn : (v : ℕ) (b : List ℕ) (i w : ℕ) → 9 < w → Spelling v b i w → Spelling v (set b (i - 1) (48 + w % 10)) (i - 1) (w / 10)
unfolding digits_of
spell_turn v b zero w h k = let s = k.some in absurd (omega (arith, s))
spell_turn v b (suc i) w h k =
    let l = k.long in
    let f = k.few in
    let t = two_left (suc i) w h k.fits in
    let e : suc i - 1 ≡ i = omega arith in
    rw e record {
      long = length-set b i (48 + w % 10) ∙ l;
      some = omega (arith, t);
      few = omega (arith, f);
      fits = quotient_below i w k.fits;
      rest =
          ap (digits_of i (w / 10)) (drop_set b i (48 + w % 10) (omega (arith, l, f)))
          ∙ sym (rw (le-ltb w 10 h)) ∙ k.rest;
    }

-- the highest digit
spell_last : (v : ℕ) (b : List ℕ) (i w : ℕ) → w ≤ 9 → Spelling v b i w → drop (i - 1) (set b (i - 1) (48 + w)) ≡ digits v
unfolding digits_of
spell_last v b zero w h k = let s = k.some in absurd (omega (arith, s))
spell_last v b (suc i) w h k =
    let l = k.long in
    let f = k.few in
    let e : suc i - 1 ≡ i = omega arith in
    rw e (drop_set b i (48 + w) (omega (arith, l, f)) ∙ sym (rw (lt-ltb w 10 (omega (arith, h)))) ∙ k.rest)

spelt_length : (v : ℕ) (b : List ℕ) (i w : ℕ) → w ≤ 9 → Spelling v b i w → 20 - (i - 1) ≡ length (digits v)
spelt_length v b i w h k =
    let l = k.long in
    let a = length-set b (i - 1) (48 + w) in
    let e = length-drop (i - 1) (set b (i - 1) (48 + w)) in
    let d = ap length (spell_last v b i w h k) in
    omega (arith, l, a, e, d)

spelt_part : (v : ℕ) (b : List ℕ) (i w : ℕ) → w ≤ 9 → Spelling v b i w → part (set b (i - 1) (48 + w)) (i - 1) (20 - (i - 1)) ≡ digits v
unfolding part
spelt_part v b i w h k =
    let n = spelt_length v b i w h k in
    ap (take (20 - (i - 1))) (spell_last v b i w h k) ∙ take_all (20 - (i - 1)) (digits v) (omega (arith, n))

-- ---- the answer, where the digits do not fit and where they do
pub no_room_lem : (v : ℕ) (b : List ℕ) (i w : ℕ) (o o' : List ℕ) (at : ℕ) → w ≤ 9 → Spelling v b i w → length o < at + (20 - (i - 1))
    → NumberSpelt v o at o' (at + (20 - (i - 1)))
no_room_lem v b i w o o' at h k l =
    let n = spelt_length v b i w h k in
    record { end = omega (arith, n); spelt = λ m. absurd (omega (arith, n, l, m)) }

pub room : (v : ℕ) (b : List ℕ) (i w : ℕ) (o o' : List ℕ) (at : ℕ) → w ≤ 9 → Spelling v b i w
    → o' ≡ put o at (part (set b (i - 1) (48 + w)) (i - 1) (20 - (i - 1))) → NumberSpelt v o at o' (at + (20 - (i - 1)))
room v b i w o o' at h k e =
    let n = spelt_length v b i w h k in
    record { end = omega (arith, n); spelt = λ m. e ∙ ap (put o at) (spelt_part v b i w h k) }
