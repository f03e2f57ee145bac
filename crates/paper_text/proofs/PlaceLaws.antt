-- A text seen from a place in it, as code goes along: the character there and what follows it.
use Prim.Native.Nat.{ℕ, ◌+◌, ◌-◌, ◌*◌, ◌≤◌, ◌<◌}
use mathlib.Core.Path.{◌≡◌, refl, sym, ap, ◌∙◌}
use mathlib.Core.Bool.{Bool, true, false, cond}
use mathlib.Core.List.{List, [], ◌∷◌}
use native.Mathlib.Omega.{arith}
use native.Mathlib.Numerals.{add-one}
use borrow.Author.Tests.{leb-true, ltb-true, ltb-false}
use lib.Dec.{eqb, ltb, leb}
use lib.ListN.{length, get_or, drop, drop_of_length-le}
use lib.Seq.{drop-cons}
use Rattle.paper_text.specs.Text.{nought, begins, tail, is_digit, digit_ahead, read_digits}
use Rattle.paper.proofs.Tests.{never, and_left, and_right}
use Rattle.paper_text.proofs.DigitLaws.{read_end}

pub from_here : (s : List ℕ) (at : ℕ) → at < length s → drop at s ≡ get_or s at 0 ∷ drop (at + 1) s
from_here s at h = rw add-one (drop-cons s at 0 h)

pub at_end : (s : List ℕ) (at : ℕ) → length s ≤ at → drop at s ≡ []
at_end s at h = drop_of_length-le s h

-- ---- digits
pub digit_there : (s : List ℕ) (at : ℕ) → at < length s → digit_ahead (drop at s) ≡ is_digit (get_or s at 0)
unfolding digit_ahead
digit_there s at h = ap digit_ahead (from_here s at h)

pub no_digit_past : (s : List ℕ) (at : ℕ) → length s ≤ at → digit_ahead (drop at s) ≡ false
unfolding digit_ahead
no_digit_past s at h = ap digit_ahead (at_end s at h)

-- a digit ahead is a character of the text, from 48 to 57
pub record DigitAt (s : List ℕ) (at : ℕ) : Type 0 where
  pub inside : at < length s
  pub least : 48 ≤ get_or s at 0
  pub most : get_or s at 0 < 58

pub digit_at : (s : List ℕ) (at : ℕ) → digit_ahead (drop at s) ≡ true → DigitAt s at
unfolding is_digit
digit_at s at d = go (ltb at (length s)) refl
  where
    go : (b : Bool) → ltb at (length s) ≡ b → DigitAt s at
    go true e =
        let h = ltb-true at (length s) e in
        let i = sym (digit_there s at h) ∙ d in
        record {
          inside = h;
          least = leb-true 48 (get_or s at 0) (and_left (leb 48 (get_or s at 0)) (ltb (get_or s at 0) 58) i);
          most = ltb-true (get_or s at 0) 58 (and_right (leb 48 (get_or s at 0)) (ltb (get_or s at 0) 58) i);
        }
    go false e = never (sym (no_digit_past s at (ltb-false at (length s) e)) ∙ d)

pub digits_step : (s : List ℕ) (at v : ℕ) → digit_ahead (drop at s) ≡ true
    → read_digits v (drop at s) ≡ read_digits (10 * v + (get_or s at 0 - 48)) (drop (at + 1) s)
unfolding read_digits
digits_step s at v d =
    let h = (digit_at s at d).inside in
    ap (read_digits v) (from_here s at h) ∙ rw (sym (digit_there s at h) ∙ d)

pub digits_end : (s : List ℕ) (at v : ℕ) → digit_ahead (drop at s) ≡ false → read_digits v (drop at s) ≡ (v, drop at s)
digits_end s at v d = read_end v (drop at s) d

-- digits after a number only raise it
pub digits_raise : (s : List ℕ) (v : ℕ) → v ≤ (read_digits v s).0
unfolding read_digits
digits_raise [] v = omega arith
digits_raise (c ∷ s) v = go (is_digit c) (digits_raise s (10 * v + (c - nought)))
  where
    go : (b : Bool) → 10 * v + (c - nought) ≤ (read_digits (10 * v + (c - nought)) s).0
        → v ≤ (cond b (read_digits (10 * v + (c - nought)) s) (v, c ∷ s)).0
    go true ih = omega (arith, ih)
    go false ih = omega arith

-- ---- signs
pub begins_there : (s : List ℕ) (at c : ℕ) → at < length s → begins c (drop at s) ≡ eqb (get_or s at 0) c
unfolding begins
begins_there s at c h = ap (begins c) (from_here s at h)

pub begins_past : (s : List ℕ) (at c : ℕ) → length s ≤ at → begins c (drop at s) ≡ false
unfolding begins
begins_past s at c h = ap (begins c) (at_end s at h)

pub tail_there : (s : List ℕ) (at : ℕ) → at < length s → tail (drop at s) ≡ drop (at + 1) s
unfolding tail
tail_there s at h = ap tail (from_here s at h)

pub sign_inside : (s : List ℕ) (at c : ℕ) → begins c (drop at s) ≡ true → at < length s
sign_inside s at c b = go (ltb at (length s)) refl
  where
    go : (x : Bool) → ltb at (length s) ≡ x → at < length s
    go true e = ltb-true at (length s) e
    go false e = never (sym (begins_past s at c (ltb-false at (length s) e)) ∙ b)
