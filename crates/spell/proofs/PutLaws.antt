-- Texts put to an area one after the other are put as one text: where the whole fits, each fits.
use Prim.Native.Nat.{ℕ, suc, ◌+◌, ◌-◌, ◌^◌, ◌≤◌, ◌<◌}
use mathlib.Core.Path.{◌≡◌, refl, ap, ◌∙◌, subst}
use mathlib.Core.List.{List, [], ◌∷◌, ◌++◌}
use native.Mathlib.Omega.{arith}
use native.Mathlib.Numerals.{add-one}
use lib.ListN.{length, set, length-append}
use lib.Seq.{set_split}
use mir.Syntax.{w64}
use mir.Facts.{to_z_pos}
use Rattle.paper.specs.Bytes.{signed}
use Rattle.paper_text.specs.Text.{minus, power_sign, digits, signed_digits}
use Rattle.paper.proofs.EncodeLaws.{signed_negative}
use Rattle.stretch.specs.Put.{put}
use Rattle.stretch.proofs.Laws.{length_put, put_put}
use Rattle.decimal.specs.Digits.{NumberSpelt}
use Rattle.spell.specs.Spelt.{Put}

pub then_put : {p q o o' o'' : List ℕ} {at m e : ℕ} → Put p o at o' m → Put q o' m o'' e → Put (p ++ q) o at o'' e
then_put {p} {q} {o} {o'} {o''} {at} {m} {e} h k =
    let l = length-append p q in
    let x = h.end in
    let y = k.end in
    record {
      end = omega (arith, x, y, l);
      put_there = λ f.
          let here = h.put_there (omega (arith, f, l)) in
          let long : length o' ≡ length o = ap length here ∙ length_put o at p (omega (arith, f, l)) in
          k.put_there (omega (arith, f, l, x, long)) ∙ ap (λ z. put z m q) here ∙ put_put o at p m q x (omega (arith, f, l, x));
    }

-- ---- one character
pub no_room_lem : (c : ℕ) (o o' : List ℕ) (at : ℕ) → length o ≤ at → Put (c ∷ []) o at o' (at + 1)
no_room_lem c o o' at h = record { end = refl; put_there = λ f. absurd (omega (arith, f, h)) }

pub room : (c : ℕ) (o : List ℕ) (at : ℕ) → at < length o → Put (c ∷ []) o at (set o at c) (at + 1)
unfolding put
room c o at h = record { end = refl; put_there = λ f. set_split o at c h ∙ rw add-one refl }

-- ---- numbers
pub digits_put : {v : ℕ} {o o' : List ℕ} {at e : ℕ} → NumberSpelt v o at o' e → Put (digits v) o at o' e
digits_put h = record { end = h.end; put_there = h.spelt }

pub from_nought : {v : ℕ} {o o' : List ℕ} {at e : ℕ} → v < 2 ^ 63 → NumberSpelt v o at o' e → Put (signed_digits (signed v)) o at o' e
unfolding signed_digits
from_nought {v} {o} {o'} {at} {e} l h = rw (to_z_pos w64 {n = v} l) (digits_put h)

pub below_nought : {v w : ℕ} {o o' o'' : List ℕ} {at m e : ℕ} → 2 ^ 63 ≤ v → v < 2 ^ 64 → w ≡ 2 ^ 64 - 1 - v + 1
    → Put (minus ∷ []) o at o' m → NumberSpelt w o' m o'' e → Put (signed_digits (signed v)) o at o'' e
unfolding signed_digits
below_nought {v} {w} {o} {o'} {o''} {at} {m} {e} l u q h k =
    let same : w ≡ suc (2 ^ 64 - suc v) = omega (arith, q, l, u) in
    rw (signed_negative v l) (subst (λ x. Put (minus ∷ digits x) o at o'' e) same (then_put h (digits_put k)))

pub exponent_put : {v w : ℕ} {o o' o'' : List ℕ} {at m e : ℕ} → v ≡ w → Put (power_sign ∷ []) o at o' m → NumberSpelt v o' m o'' e
    → Put (power_sign ∷ digits w) o at o'' e
exponent_put {v} {w} {o} {o'} {o''} {at} {m} {e} q h k = subst (λ x. Put (power_sign ∷ digits x) o at o'' e) q (then_put h (digits_put k))
