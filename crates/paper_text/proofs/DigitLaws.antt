-- Digits: what is spelt is read again, and the highest digit of a number over 0 is not 0. By induction on the bound of the digits: the
-- last digit is the remainder by ten, those before it spell the quotient.
use Prim.Native.Nat.{ℕ, zero, suc, ◌+◌, ◌*◌, ◌/◌, ◌%◌, ◌^◌, ◌<◌, ◌≤◌}
use mathlib.Core.Path.{◌≡◌, refl, sym, ap, ◌∙◌}
use mathlib.Core.Bool.{Bool, true, false, cond}
use mathlib.Core.List.{List, [], ◌∷◌, ◌++◌}
use mathlib.Core.Option.{some}
use native.Mathlib.Omega.{arith}
use native.Mathlib.Nat.{pow-suc}
use borrow.Author.Tests.{ltb-true, ltb-false, lt-ltb, le-leb, ne_eqb, eqb-true}
use lib.Dec.{eqb, ltb}
use Rattle.paper_text.specs.Text.{nought, digits_of, digits, begins, tail, is_digit, digit_ahead, read_digits, below, read_number}

-- a digit is seen to be one
pub digit_is : (x : ℕ) → x < 10 → is_digit (nought + x) ≡ true
unfolding is_digit
digit_is x h = rw (le-leb 48 (48 + x) (omega arith), lt-ltb (48 + x) (48 + 10) (omega arith))

-- one digit more
pub read_digit : (u x : ℕ) (s : List ℕ) → x < 10 → read_digits u ((nought + x) ∷ s) ≡ read_digits (10 * u + x) s
unfolding read_digits
read_digit u x s h =
    rw (digit_is x h)
    (ap (λ (y : ℕ). read_digits (10 * u + y) s) (omega arith))

-- what is read of a text whose end is no digit
pub read_end : (v : ℕ) (s : List ℕ) → digit_ahead s ≡ false → read_digits v s ≡ (v, s)
unfolding read_digits digit_ahead
read_end v [] h = refl
read_end v (c ∷ s) h = rw h

-- the bound of a quotient
pub quotient_below : (n v : ℕ) → v < 10 ^ suc n → v / 10 < 10 ^ n
quotient_below n v h = let e : 10 ^ suc n ≡ 10 ^ n * 10 = pow-suc 10 n in omega (arith, h, e)

pub spelt_read : (n v : ℕ) (after : List ℕ) → v < 10 ^ n → read_digits 0 (digits_of n v after) ≡ read_digits v after
unfolding digits_of
spelt_read zero v after h = ap (λ (y : ℕ). read_digits y after) (omega (arith, h))
spelt_read (suc n) v after h =
    go (ltb v 10) refl (spelt_read n (v / 10) ((nought + v % 10) ∷ after) (quotient_below n v h))
  where
    go : (b : Bool) → ltb v 10 ≡ b
        → read_digits 0 (digits_of n (v / 10) ((nought + v % 10) ∷ after)) ≡ read_digits (v / 10) ((nought + v % 10) ∷ after)
        → read_digits 0 (cond b ((nought + v) ∷ after) (digits_of n (v / 10) ((nought + v % 10) ∷ after))) ≡ read_digits v after
    go true e ih = read_digit 0 v after (ltb-true v 10 e) ∙ ap (λ (y : ℕ). read_digits y after) (omega arith)
    go false e ih =
        ih ∙ read_digit (v / 10) (v % 10) after (omega arith) ∙ ap (λ (y : ℕ). read_digits y after) (omega arith)

-- more text after the digits
pub digits_after : (n v : ℕ) (after rest : List ℕ) → digits_of n v after ++ rest ≡ digits_of n v (after ++ rest)
unfolding digits_of
digits_after zero v after rest = refl
digits_after (suc n) v after rest = go (ltb v 10) (digits_after n (v / 10) ((nought + v % 10) ∷ after) rest)
  where
    go : (b : Bool) → digits_of n (v / 10) ((nought + v % 10) ∷ after) ++ rest ≡ digits_of n (v / 10) ((nought + v % 10) ∷ (after ++ rest))
        → cond b ((nought + v) ∷ after) (digits_of n (v / 10) ((nought + v % 10) ∷ after)) ++ rest
        ≡ cond b ((nought + v) ∷ (after ++ rest)) (digits_of n (v / 10) ((nought + v % 10) ∷ (after ++ rest)))
    go true ih = refl
    go false ih = ih

-- the first digit: one is there, and it is not 0 where the number is over 0
pub digit_first : (n v : ℕ) (after : List ℕ) → 0 < v → v < 10 ^ n → (digit_ahead (digits_of n v after) ≡ true) × (begins nought (digits_of n v after) ≡ false)
unfolding digits_of digit_ahead begins
digit_first zero v after p h = absurd (omega (arith, h))
digit_first (suc n) v after p h = go (ltb v 10) refl (λ q. digit_first n (v / 10) ((nought + v % 10) ∷ after) q (quotient_below n v h))
  where
    go : (b : Bool) → ltb v 10 ≡ b
        → (0 < v / 10
        → (digit_ahead (digits_of n (v / 10) ((nought + v % 10) ∷ after)) ≡ true) × (begins nought (digits_of n (v / 10) ((nought + v % 10) ∷ after)) ≡ false))
        → (digit_ahead (cond b ((nought + v) ∷ after) (digits_of n (v / 10) ((nought + v % 10) ∷ after))) ≡ true)
        × (begins nought (cond b ((nought + v) ∷ after) (digits_of n (v / 10) ((nought + v % 10) ∷ after))) ≡ false)
    go true e ih = (digit_is v (ltb-true v 10 e), ne_eqb (48 + v) 48 (λ x. absurd (omega arith)))
    go false e ih = ih (let q : 10 ≤ v = ltb-false v 10 e in omega arith)

nought_read : (bound : ℕ) (rest : List ℕ) → 0 < bound → digit_ahead rest ≡ false → read_number bound (nought ∷ rest) ≡ some (0, rest)
unfolding read_number below digit_ahead begins tail is_digit
nought_read bound rest h d = rw (d, read_digit 0 0 rest (omega arith), read_end 0 rest d, lt-ltb 0 bound h)

more_read : (bound w : ℕ) (rest : List ℕ) → suc w < bound → suc w < 10 ^ 20 → digit_ahead rest ≡ false
    → read_number bound (digits_of 20 (suc w) rest) ≡ some (suc w, rest)
unfolding read_number below
more_read bound w rest h g d =
    let f = digit_first 20 (suc w) rest (omega arith) g in
    rw (f.0, f.1, spelt_read 20 (suc w) rest g ∙ read_end (suc w) rest d, lt-ltb (suc w) bound h)

-- a number of at most 20 digits, below the bound, is read where no digit follows
pub number_read : (bound v : ℕ) (rest : List ℕ) → v < bound → v < 10 ^ 20 → digit_ahead rest ≡ false
    → read_number bound (digits v ++ rest) ≡ some (v, rest)
unfolding digits digits_of
number_read bound zero rest h g d = nought_read bound rest h d
number_read bound (suc w) rest h g d =
    ap (read_number bound) (digits_after 20 (suc w) [] rest) ∙ more_read bound w rest h g d

-- a number begins with a digit, so with no sign
pub digits_ahead : (v : ℕ) (rest : List ℕ) → v < 10 ^ 20 → digit_ahead (digits v ++ rest) ≡ true
unfolding digits digits_of digit_ahead is_digit
digits_ahead zero rest g = refl
digits_ahead (suc w) rest g = ap digit_ahead (digits_after 20 (suc w) [] rest) ∙ (digit_first 20 (suc w) rest (omega arith) g).0

pub no_sign : (c : ℕ) (s : List ℕ) → is_digit c ≡ false → digit_ahead s ≡ true → begins c s ≡ false
unfolding digit_ahead begins
no_sign c [] n d = refl
no_sign c (x ∷ s) n d = go (eqb x c) refl
  where
    go : (b : Bool) → eqb x c ≡ b → b ≡ false
    go true e = sym d ∙ ap is_digit (eqb-true x c e) ∙ n
    go false e = refl
