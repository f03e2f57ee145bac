-- The list while pairs are written: each takes sixteen bytes, and one pair more is written where those before it end.
use Prim.Native.Nat.{ℕ, ◌+◌, ◌*◌, ◌≤◌}
use mathlib.Core.Path.{◌≡◌, refl, sym, ap, ◌∙◌}
use mathlib.Core.List.{List, [], ◌∷◌, ◌++◌, append_assoc, append-nil}
use native.Mathlib.Omega.{arith}
use lib.ListN.{length, length-append}
use Rattle.paper.specs.Bytes.{bytes}
use Rattle.paper.specs.Calls.{eights}
use Rattle.paper_differ.specs.Differ.{numbers_of, at_front}
use Rattle.paper.proofs.BytesLaws.{length_bytes}
use Rattle.stretch.specs.Put.{put}
use Rattle.stretch.proofs.Laws.{put_put, put_none}

numbers_length : (ds : List (ℕ × ℕ)) → length (eights (numbers_of ds)) ≡ 16 * length ds
unfolding eights numbers_of
numbers_length [] = refl
numbers_length (d ∷ ds) = simp (length-append, length_bytes) (omega (arith, numbers_length ds))

numbers_more : (ds : List (ℕ × ℕ)) (i j : ℕ) → eights (numbers_of ds) ++ (bytes 8 i ++ bytes 8 j) ≡ eights (numbers_of (ds ++ ((i, j) ∷ [])))
unfolding eights numbers_of
numbers_more [] i j = ap (λ (x : List ℕ). bytes 8 i ++ x) (sym (append-nil (bytes 8 j)))
numbers_more (d ∷ ds) i j =
    append_assoc (bytes 8 d.0) (bytes 8 d.1 ++ eights (numbers_of ds)) (bytes 8 i ++ bytes 8 j)
    ∙ ap (λ (x : List ℕ). bytes 8 d.0 ++ x)
    (append_assoc (bytes 8 d.1) (eights (numbers_of ds)) (bytes 8 i ++ bytes 8 j)
    ∙ ap (λ (x : List ℕ). bytes 8 d.1 ++ x) (numbers_more ds i j))

-- two numbers side by side are a pair
pub write_two : (d : List ℕ) (p i j : ℕ) → p * 16 + 16 ≤ length d
    → put (put d (p * 16) (bytes 8 i)) (p * 16 + 8) (bytes 8 j) ≡ put d (p * 16) (bytes 8 i ++ bytes 8 j)
write_two d p i j h =
    put_put d (p * 16) (bytes 8 i) (p * 16 + 8) (bytes 8 j) (omega (arith, length_bytes 8 i)) (omega (arith, length_bytes 8 j))

-- the list d after the pairs ds are written
unfoldable pub written : List ℕ → List (ℕ × ℕ) → List ℕ
written d ds = put d 0 (eights (numbers_of ds))

pub written_none : (d : List ℕ) → written d [] ≡ d
unfolding written eights numbers_of
written_none d = put_none d 0

pub written_more : (d : List ℕ) (ds : List (ℕ × ℕ)) (p i j : ℕ) → length ds ≡ p → p * 16 + 16 ≤ length d
    → put (written d ds) (p * 16) (bytes 8 i ++ bytes 8 j) ≡ written d (ds ++ ((i, j) ∷ []))
unfolding written
written_more d ds p i j e h =
    put_put d 0 (eights (numbers_of ds)) (p * 16) (bytes 8 i ++ bytes 8 j) (omega (arith, numbers_length ds))
    (omega (arith, length-append (bytes 8 i) (bytes 8 j), length_bytes 8 i, length_bytes 8 j))
    ∙ ap (put d 0) (numbers_more ds i j)

pub written_all : (d : List ℕ) (ds : List (ℕ × ℕ)) → written d ds ≡ at_front ds d
unfolding written put at_front
written_all d ds =
    let long : 0 + length (eights (numbers_of ds)) ≡ 16 * length ds = omega (arith, numbers_length ds) in
    rw long refl
