-- What `num_of` answers, by cases, and that the library's checked arithmetic answers it.
use Rattle.std.proofs.Common.{◌≡◌, ℕ, ◌+◌, ◌^◌, ◌<◌, ◌≤◌, Bool, true, false, cond, ltb, ℤ, pos, negsuc, ◌+ℤ◌}
use Rattle.std.proofs.Common.{sym, refl, ap, ◌∙◌, subst, arith, w64, le-ltb, lt-ltb}
use Rattle.std.proofs.Common.{Ok, Err, Some, None, Option, Result, to_z, of_z, FitsSigned}
use Rattle.std.specs.Option.{SomeIff}
use Rattle.std.specs.Result.{IsErr}
use Rattle.std.specs.Int.{cast_signed}
use Rattle.std.proofs.lemmas.Int.{of_z-to_z, to_z-of_z}
use native.Mathlib.Decide.{dec_lt}
use lib.Signed.{mag}
use mir.Facts.{to_z_pos}
use Rattle.paper.proofs.LikeTermsWF.{fits_true}
use Rattle.paper.specs.Bytes.{signed, word}
use Rattle.paper.specs.Rules.{fits}
use Rattle.paper.specs.WellFormed.{InRange}
use Rattle.paper.specs.Equal.{eq_z}
use Rattle.paper.proofs.Seen.{exponent_word}
use Rattle.paper.proofs.Tests.{eq_z_self}
use Rattle.paper.proofs.EncodeLaws.{signed_word}
use Rattle.number.specs.declared.OutOfRange.{OutOfRange}
use Rattle.number.specs.Num.{num_of, out_of_range}

-- ---- integers of the range are the same where their bits are
pub same_number : (z y : ℤ) → InRange z → InRange y → word z ≡ word y → eq_z z y ≡ true
same_number z y v w e = subst (λ x. eq_z z x ≡ true) (sym (signed_word z v) ∙ ap signed e ∙ signed_word y w) (eq_z_self z)

-- ---- what `num_of` answers, and what an answer tells of the integer
pub num_of_in : (z : ℤ) → InRange z → num_of z ≡ Ok (word z)
unfolding num_of fits
num_of_in z h = rw (lt-ltb (mag z) (2 ^ 63) h)

pub num_of_out : (z : ℤ) → 2 ^ 63 ≤ mag z → num_of z ≡ out_of_range
unfolding num_of fits
num_of_out z h = rw (le-ltb (mag z) (2 ^ 63) h)

pub num_of_is : (z : ℤ) (b : ℕ) → num_of z ≡ Ok b → (fits z ≡ true) × (b ≡ word z) × (signed b ≡ z)
unfolding num_of
num_of_is z b = by (fits z) refl
  where
    by : (t : Bool) → fits z ≡ t → cond {A = Result ℕ OutOfRange} t (Ok (word z)) out_of_range ≡ Ok b → (fits z ≡ true) × (b ≡ word z) × (signed b ≡ z)
    by true e q = let w : b ≡ word z = cc in (e, w, ap signed w ∙ signed_word z (fits_true z e))
    by false e q = absurd (let o : ◌≡◌ {A = ℕ} 0 1 = cc in omega arith)

pub num_of_is_out : (z : ℤ) → num_of z ≡ out_of_range → fits z ≡ false
unfolding num_of
num_of_is_out z = by (fits z) refl
  where
    by : (t : Bool) → fits z ≡ t → cond {A = Result ℕ OutOfRange} t (Ok (word z)) out_of_range ≡ out_of_range → fits z ≡ false
    by true e q = absurd (let o : ◌≡◌ {A = ℕ} 0 1 = cc in omega arith)
    by false e q = e

-- ---- an error is that a number is out of range
pub an_error : {T : Type 0} {r : Result T OutOfRange} → IsErr r → r ≡ Err record {}
an_error {r = Err e} h = refl
an_error {r = Ok x} h = cc

-- ---- what the library's checked arithmetic answers, as `num_of`
from_bits : (a : ℕ) (x : ℤ) → a < 2 ^ 64 → x ≡ cast_signed w64 a → to_z w64 (of_z w64 x) ≡ signed a
from_bits a x h e = rw e (ap (to_z w64) (of_z-to_z w64 a h))

pub both_from_bits : (f : ℤ → ℤ → ℤ) {a b : ℕ} {x y : ℤ} → a < 2 ^ 64 → b < 2 ^ 64 → x ≡ cast_signed w64 a → y ≡ cast_signed w64 b
    → f (to_z w64 (of_z w64 x)) (to_z w64 (of_z w64 y)) ≡ f (signed a) (signed b)
both_from_bits f {a = a} {b = b} {x = x} {y = y} h k e q = rw (from_bits a x h e, from_bits b y k q)

bits_are : (z : ℤ) → FitsSigned w64 z → of_z w64 z ≡ word z
unfolding word
bits_are (pos n) h = omega (arith, h.sfits)
bits_are (negsuc n) h = omega (arith, h.sfits)

pub checked_in : {o : Option ℤ} {z w y : ℤ} {n : ℕ} → SomeIff o (FitsSigned w64 z) z → o ≡ Some y → z ≡ w
    → n ≡ of_z w64 (to_z w64 (of_z w64 y)) → ◌≡◌ {A = Result ℕ OutOfRange} (Ok n) (num_of w)
checked_in {o = Some x} {z = z} {w = w} {y = y} {n = n} (fit, e) is same b =
    let q : y ≡ w = cc in
    let f : FitsSigned w64 w = subst (FitsSigned w64) same fit in
    let k : n ≡ word w = rw b (rw q (ap (of_z w64) (to_z-of_z w64 w f) ∙ bits_are w f)) in
    rw k (sym (num_of_in w f.sfits))
checked_in {o = None} unfit is same b = cc

pub checked_out : {o : Option ℤ} {z w : ℤ} {r : Result ℕ OutOfRange} → SomeIff o (FitsSigned w64 z) z → o ≡ None → z ≡ w
    → IsErr r → r ≡ num_of w
checked_out {o = None} {z = z} {w = w} {r = Err e} unfit is same err =
    let past : mag z < 2 ^ 63 → ⊥ = λ h. unfit record { sfits = h } in
    rw (← same) (sym (num_of_out z (omega arith)))
checked_out {o = None} {r = Ok n} unfit is same err = cc
checked_out {o = Some x} fit is same err = cc

-- exponents are natural numbers, and their sum is judged as one
pub add_exponents_lem : (a b : ℕ) → a < 2 ^ 63 → b < 2 ^ 63 → num_of (signed a +ℤ signed b) ≡ cond (ltb (a + b) (2 ^ 63)) (Ok (a + b)) out_of_range
add_exponents_lem a b h k = by (dec_lt (a + b) (2 ^ 63))
  where
    total : signed a +ℤ signed b ≡ pos (a + b)
    total = rw (to_z_pos w64 {n = a} h, to_z_pos w64 {n = b} k)

    by : Dec (a + b < 2 ^ 63) → num_of (signed a +ℤ signed b) ≡ cond (ltb (a + b) (2 ^ 63)) (Ok (a + b)) out_of_range
    by (yes p) = rw (lt-ltb (a + b) (2 ^ 63) p, total) (num_of_in (pos (a + b)) p ∙ ap Ok (exponent_word (a + b) p))
    by (no p) =
        let l : 2 ^ 63 ≤ a + b = omega arith in
        rw (le-ltb (a + b) (2 ^ 63) l, total) (num_of_out (pos (a + b)) l)
