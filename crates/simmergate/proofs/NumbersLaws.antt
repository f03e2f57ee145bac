-- A call's return and its answer slice. Where the slice is too short and where it has room, the definitions say what they are (`TellsIn`, crate
-- `paper`); with room the code writes the numbers of the answer that it was told, and that answer is the definitions'.
use Prim.Native.Nat.{ℕ, ◌*◌}
use mathlib.Core.Path.{◌≡◌, sym, ap, ◌∙◌}
use mathlib.Core.List.{List, ◌++◌}
use lib.ListN.{length, drop}
use Rattle.paper.specs.Answers.{Answer}
use Rattle.paper.specs.Calls.{answer_numbers, eights}
use Rattle.paper.proofs.Slices.{answer_count}
pub use Rattle.number.proofs.EightsLaws.{with_flaw}

-- x is what the code was told, y what the definitions give; the bytes past the answer are `rest`
pub tells : {A : Type 0} {x y : A} → x ≡ y → (number : A → ℕ) (numbers : A → List ℕ) (rest : List ℕ) {r : ℕ} {after answers : List ℕ}
    → after ≡ eights (numbers x) ++ rest → (r ≡ number y) × (answers ≡ eights (numbers y) ++ rest) → (number x ≡ r) × (after ≡ answers)
tells {A = A} e number numbers rest w q =
    (ap number e ∙ sym q.0, w ∙ ap (λ (a : A). eights (numbers a) ++ rest) e ∙ sym q.1)

-- so many numbers, handed over as a list
pub numbers_told : (numbers slice : List ℕ) {many : ℕ} {ns after : List ℕ} → ns ≡ numbers → length numbers ≡ many
    → after ≡ eights ns ++ drop (8 * length ns) slice → after ≡ eights numbers ++ drop (8 * many) slice
numbers_told numbers slice e n w =
    w ∙ ap (λ (l : List ℕ). eights l ++ drop (8 * length l) slice) e ∙ ap (λ (k : ℕ). eights numbers ++ drop (8 * k) slice) n

-- the simplifier's ten numbers, handed over as a list
pub ten_told : (a : Answer) (slice : List ℕ) {ns after : List ℕ} → ns ≡ answer_numbers a → after ≡ eights ns ++ drop (8 * length ns) slice
    → after ≡ eights (answer_numbers a) ++ drop 80 slice
ten_told a slice e w =
    w ∙ ap (λ (l : List ℕ). eights l ++ drop (8 * length l) slice) e
    ∙ ap (λ (k : ℕ). eights (answer_numbers a) ++ drop (8 * k) slice) (answer_count a)
