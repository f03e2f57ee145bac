-- Reading a number digit by digit: what is read so far, with the digits that are left after it, is the whole; and a number that has reached
-- the bound can only grow.
use Prim.Native.Nat.{ℕ, ◌+◌, ◌-◌, ◌*◌, ◌/◌, ◌≤◌, ◌<◌}
use mathlib.Core.Path.{◌≡◌, refl, sym, ap, ◌∙◌}
use mathlib.Core.Bool.{Bool, true, false, ◌&&◌}
use mathlib.Core.List.{List}
use native.Mathlib.Omega.{arith}
use Rattle.std.proofs.lemmas.Bool.Decides.{nat_tests}
use borrow.Author.Tests.{lt-ltb, le-ltb, ne_eqb, eq-eqb, ltb-true, ltb-false}
use denote.Ref.{Bor}
use lib.Dec.{ltb}
use lib.ListN.{length, get_or, drop}
use Rattle.paper_text.specs.Text.{nought, begins, tail, is_digit, digit_ahead, read_digits, below, read_number}
use Rattle.paper.proofs.Tests.{never}
use Rattle.paper_text.proofs.PlaceLaws.{no_digit_past, digit_there, digit_at, digits_step, digits_end, digits_raise, begins_there, tail_there}
use Rattle.std.proofs.Common.{Option, Some, None, MatchOption}
use Rattle.std.specs.Slice.{IsItemAt}
use Rattle.std.specs.Char.{is_ascii_digit}
use Rattle.decimal.specs.Digits.{NumberRead}

-- ---- one character, where there is one
same_digit : (c : ℕ) → is_ascii_digit c ≡ is_digit c
unfolding is_digit
same_digit c = grind (arith, nat_tests)

pub digit_shown : (s : List ℕ) (at : ℕ) (c : Option (Bor ℕ)) (b : Bool) {P : Bor ℕ → Type 0} → IsItemAt s at c → MatchOption c (b ≡ false) P
    → ((x : Bor ℕ) → P x → b ≡ is_ascii_digit x.now) → b ≡ digit_ahead (drop at s)
unfolding is_digit
digit_shown s at None b h e f = e ∙ sym (no_digit_past s at h.3)
digit_shown s at (Some x) b h e f =
    let l : at < length s = h.3.0 in
    let y : x.now ≡ get_or s at 0 = h.3.1 0 in
    f x e ∙ ap is_ascii_digit y ∙ same_digit (get_or s at 0) ∙ sym (digit_there s at l)

-- ---- the whole number
pub no_number : (bound : ℕ) (s : List ℕ) (at : ℕ) → digit_ahead (drop at s) ≡ false → NumberRead bound s at None
unfolding read_number
no_number bound s at d = record { reads = rw d; ahead = tt }

pub leading_nought : (bound : ℕ) (s : List ℕ) (at : ℕ) → digit_ahead (drop at s) ≡ true → get_or s at 0 ≡ 48 → digit_ahead (drop (at + 1) s) ≡ true
    → NumberRead bound s at None
unfolding read_number
leading_nought bound s at d l e =
    let i = digit_at s at d in
    record {
      reads = rw (d, begins_there s at 48 i.inside, eq-eqb (get_or s at 0) 48 l, tail_there s at i.inside, e);
      ahead = tt;
    }

-- the first digit is no leading 0
abbrev pub Sound : List ℕ → ℕ → Type 0
Sound s at = (digit_ahead (drop at s) ≡ true) × (begins nought (drop at s) && digit_ahead (tail (drop at s)) ≡ false)

pub sound_other : (s : List ℕ) (at : ℕ) → digit_ahead (drop at s) ≡ true → (get_or s at 0 ≡ 48 → ⊥) → Sound s at
sound_other s at d l =
    let i = (digit_at s at d).inside in
    (d, rw (begins_there s at 48 i, ne_eqb (get_or s at 0) 48 l))

pub sound_alone : (s : List ℕ) (at : ℕ) → digit_ahead (drop at s) ≡ true → digit_ahead (drop (at + 1) s) ≡ false → Sound s at
sound_alone s at d e = (d, rw (tail_there s at (digit_at s at d).inside, e) (and_none (begins nought (drop at s))))
  where
    and_none : (b : Bool) → b && false ≡ false
    and_none true = refl
    and_none false = refl

read_sound : (bound : ℕ) (s : List ℕ) (at : ℕ) → Sound s at → read_number bound (drop at s) ≡ below bound (read_digits 0 (drop at s))
unfolding read_number
read_sound bound s at h = rw (h.0, h.1)

-- v is read from `at` to e
pub record SoFar (s : List ℕ) (at v e : ℕ) : Type 0 where
  pub rest : read_digits v (drop e s) ≡ read_digits 0 (drop at s)
  pub from : at ≤ e
  pub within : e ≤ length s

pub begin_digits : (s : List ℕ) (at : ℕ) → digit_ahead (drop at s) ≡ true → SoFar s at 0 at
begin_digits s at d = let h = (digit_at s at d).inside in record { rest = refl; from = omega arith; within = omega (arith, h) }

pub one_digit : (s : List ℕ) (at v e : ℕ) → SoFar s at v e → digit_ahead (drop e s) ≡ true → SoFar s at (10 * v + (get_or s e 0 - 48)) (e + 1)
one_digit s at v e k d =
    let h = (digit_at s e d).inside in
    let f = k.from in
    record { rest = sym (digits_step s e v d) ∙ k.rest; from = omega (arith, f); within = omega (arith, h) }

pub too_great : (bound : ℕ) (s : List ℕ) (at v e : ℕ) → Sound s at → SoFar s at v e → digit_ahead (drop e s) ≡ true → bound / 10 < v
    → NumberRead bound s at None
unfolding below
too_great bound s at v e p k d h =
    let x = digits_raise (drop (e + 1) s) (10 * v + (get_or s e 0 - 48)) in
    let w : read_digits (10 * v + (get_or s e 0 - 48)) (drop (e + 1) s) ≡ read_digits 0 (drop at s) = sym (digits_step s e v d) ∙ k.rest in
    let y : bound ≤ (read_digits (10 * v + (get_or s e 0 - 48)) (drop (e + 1) s)).0 = omega (arith, x, h) in
    record { reads = sym (read_sound bound s at p ∙ rw (← w) (rw (le-ltb _ bound y))); ahead = tt }

read_all : (bound : ℕ) (s : List ℕ) (at v e : ℕ) → Sound s at → SoFar s at v e → digit_ahead (drop e s) ≡ false
    → read_number bound (drop at s) ≡ below bound (v, drop e s)
read_all bound s at v e p k d = read_sound bound s at p ∙ ap (below bound) (sym k.rest ∙ digits_end s e v d)

pub is_number : (bound : ℕ) (s : List ℕ) (at v e : ℕ) → Sound s at → SoFar s at v e → digit_ahead (drop e s) ≡ false → v < bound → at < e
    → NumberRead bound s at (Some (v, e))
unfolding below
is_number bound s at v e p k d h l = record { reads = sym (read_all bound s at v e p k d ∙ rw (lt-ltb v bound h)); ahead = (l, k.within) }

pub reaches_bound : (bound : ℕ) (s : List ℕ) (at v e : ℕ) → Sound s at → SoFar s at v e → digit_ahead (drop e s) ≡ false → bound ≤ v
    → NumberRead bound s at None
unfolding below
reaches_bound bound s at v e p k d h = record { reads = sym (read_all bound s at v e p k d ∙ rw (le-ltb v bound h)); ahead = tt }

-- a digit was read, since one stands at the start
pub moved_on : (s : List ℕ) (at v e : ℕ) → Sound s at → SoFar s at v e → digit_ahead (drop e s) ≡ false → at < e
moved_on s at v e p k d = go (ltb at e) refl
  where
    go : (b : Bool) → ltb at e ≡ b → at < e
    go true q = ltb-true at e q
    go false q =
        let l = ltb-false at e q in
        let f = k.from in
        let same : at ≡ e = omega (arith, l, f) in
        never (sym (sym p.0 ∙ ap (λ (x : ℕ). digit_ahead (drop x s)) same ∙ d))
