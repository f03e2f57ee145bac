-- A record, copied by its two halves: eight bytes that are read as a number and written again are the same bytes, and the two halves side
-- by side are the record.
use Prim.Native.Nat.{ℕ, ◌+◌, ◌≤◌}
use mathlib.Core.Path.{◌≡◌, sym, ap, ◌∙◌}
use mathlib.Core.List.{List, ◌++◌}
use native.Mathlib.Omega.{arith}
use lib.ListN.{length, take, drop, length-drop}
use lib.Seq.{length-take-le, take-add, drop-drop}
use Rattle.paper.specs.Bytes.{Bytes, le, bytes, le8}
use Rattle.paper.proofs.BytesLaws.{eight_front, bytes_le, length_bytes, take_bytes, drop_bytes, le8_drop}
use Rattle.stretch.specs.Put.{part, put}
use Rattle.stretch.proofs.Laws.{put_put}

-- eight bytes, read and written
eight_again : (s : List ℕ) → Bytes s → (a : ℕ) → a + 8 ≤ length s → bytes 8 (le8 s a) ≡ part s a 8
unfolding part
eight_again s b a h =
    let d = drop a s in
    let l : 8 ≤ length d = omega (arith, length-drop a s) in
    let z : a ≡ a + 0 = omega arith in
    ap (bytes 8) (ap (le8 s) z ∙ sym (le8_drop a s 0) ∙ eight_front d l)
    ∙ ap (λ (n : ℕ). bytes n (le (take 8 d))) (sym (length-take-le 8 d l))
    ∙ bytes_le (take 8 d) (take_bytes 8 d (drop_bytes a s b))

-- two halves side by side
both_halves : (s : List ℕ) (a : ℕ) → part s a 8 ++ part s (a + 8) 8 ≡ part s a 16
unfolding part
both_halves s a = sym (take-add 8 8 (drop a s) ∙ ap (λ (x : List ℕ). take 8 (drop a s) ++ take 8 x) (drop-drop 8 a s))

pub halves : (d s : List ℕ) → Bytes s → (at from u v : ℕ) → at + 16 ≤ length d → from + 16 ≤ length s
    → u ≡ le8 s from → v ≡ le8 s (from + 8)
    → {d' d'' : List ℕ} → d' ≡ put d at (bytes 8 u) → d'' ≡ put d' (at + 8) (bytes 8 v) → d'' ≡ put d at (part s from 16)
halves d s b at from u v g h e f p q =
    let k : at + 8 ≡ at + length (bytes 8 u) = omega (arith, length_bytes 8 u) in
    let l : (at + 8) + length (bytes 8 v) ≤ length d = omega (arith, length_bytes 8 v) in
    q ∙ ap (λ (x : List ℕ). put x (at + 8) (bytes 8 v)) p
    ∙ put_put d at (bytes 8 u) (at + 8) (bytes 8 v) k l
    ∙ ap (λ (x : List ℕ). put d at (x ++ bytes 8 v)) (ap (bytes 8) e ∙ eight_again s b from (omega arith))
    ∙ ap (λ (x : List ℕ). put d at (part s from 8 ++ x)) (ap (bytes 8) f ∙ eight_again s b (from + 8) (omega arith))
    ∙ ap (put d at) (both_halves s from)
