-- Laws of numbers in eight bytes each: one number more is written where those before it end.
use Rattle.std.proofs.Common.{◌≡◌, ℕ, ◌+◌, ◌*◌, ◌<◌, ◌≤◌, List, [], ◌∷◌, ◌++◌, length, get_or, take, drop, sym, refl, ap, ◌∙◌, append_assoc}
use Rattle.std.proofs.Common.{append-nil, add-one, arith, length-append, length-take-le, take_all, take-suc}
use Rattle.paper.specs.Bytes.{bytes}
use Rattle.paper.specs.Calls.{eights}
use Rattle.paper.proofs.BytesLaws.{length_bytes}
use Rattle.stretch.specs.Put.{put}
use Rattle.stretch.proofs.Laws.{put_put, put_none, length_put}

pub eights_length : (ns : List ℕ) → length (eights ns) ≡ 8 * length ns
unfolding eights
eights_length [] = refl
eights_length (n ∷ ns) = rw (length-append, length_bytes) (omega (arith, eights_length ns))

pub eights_append : (ns ms : List ℕ) → eights (ns ++ ms) ≡ eights ns ++ eights ms
unfolding eights
eights_append [] ms = refl
eights_append (n ∷ ns) ms = rw (eights_append ns ms) (sym (append_assoc (bytes 8 n) (eights ns) (eights ms)))

eights_one : (n : ℕ) → eights (n ∷ []) ≡ bytes 8 n
unfolding eights
eights_one n = append-nil (bytes 8 n)

-- the slice d after the first i of the numbers are written
unfoldable pub up_to : List ℕ → List ℕ → ℕ → List ℕ
up_to d ns i = put d 0 (eights (take i ns))

module _ (d ns : List ℕ) (room : 8 * length ns ≤ length d) where
  front_length : (i : ℕ) → i ≤ length ns → length (eights (take i ns)) ≡ 8 * i
  front_length i h = eights_length (take i ns) ∙ ap (λ (n : ℕ). 8 * n) (length-take-le i ns h)

  pub up_to_none : up_to d ns 0 ≡ d
  unfolding up_to eights
  up_to_none = put_none d 0

  pub up_to_length : (i : ℕ) → i ≤ length ns → length (up_to d ns i) ≡ length d
  unfolding up_to
  up_to_length i h = length_put d 0 (eights (take i ns)) (omega (arith, front_length i h))

  pub up_to_more : (i : ℕ) → i < length ns → put (up_to d ns i) (i * 8) (bytes 8 (get_or ns i 0)) ≡ up_to d ns (i + 1)
  unfolding up_to
  up_to_more i h =
      let v = get_or ns i 0 in
      put_put d 0 (eights (take i ns)) (i * 8) (bytes 8 v) (omega (arith, front_length i (omega arith))) (rw length_bytes (omega arith))
      ∙ ap (put d 0)
      (ap (λ (x : List ℕ). eights (take i ns) ++ x) (sym (eights_one v))
      ∙ sym (eights_append (take i ns) (v ∷ []))
      ∙ ap eights (sym (ap (λ (k : ℕ). take k ns) (add-one i) ∙ take-suc ns i 0 h)))

  pub up_to_all : (i : ℕ) → i ≡ length ns → up_to d ns i ≡ eights ns ++ drop (8 * length ns) d
  unfolding up_to put
  up_to_all i e =
      let all : take i ns ≡ ns = take_all i ns (omega arith) in
      let long : 0 + length (eights ns) ≡ 8 * length ns = omega (arith, eights_length ns) in
      rw (all, long)

-- the numbers before are written, and then those that say what is wrong
pub with_flaw : (before rest : List ℕ) {both flaw after : List ℕ} → both ≡ flaw → after ≡ eights (before ++ both) ++ rest
    → after ≡ eights (before ++ flaw) ++ rest
with_flaw before rest e w = w ∙ ap (λ (l : List ℕ). eights (before ++ l) ++ rest) e
