-- The three numbers are those that `text::read` tells, and the area is as it leaves it.
use Rattle.std.proofs.Common.{◌≡◌, ℕ, List, [], ◌∷◌, ◌++◌, sym, ap, ◌∙◌, arith, drop}
use Rattle.paper.specs.Calls.{eights}
use Rattle.paper_text.specs.Answers.{Filled, Taken, taken_numbers, read_given}
use Rattle.paper_text.proofs.Slices.{text_slices}
use Rattle.simmergate.proofs.NumbersLaws.{tells}
use Rattle.simmergate.proofs.text_calls.simmergate_read_text.Goals as goal

pub returns-then-answer-lt-READ_BYTES : goal.returns-then-answer-lt-READ_BYTES
returns-then-answer-lt-READ_BYTES c =
    let a = c.args in
    let q = (text_slices.reading a.limit a.text.now a.table.now a.answer.now).0 c.if-answer-lt-READ_BYTES.true in
    let l = (text_slices.reading_area a.limit a.text.now a.table.now a.answer.now).0 c.if-answer-lt-READ_BYTES.true in
    record { returns = c.number.ensures ∙ sym q.0; answers = sym q.1; leaves = sym l }

pub returns-in-Ok : goal.returns-in-Ok
unfolding taken_numbers read_given
returns-in-Ok c =
    let a = c.args in
    let by = (text_slices.reading a.limit a.text.now a.table.now a.answer.now).1 (omega arith) in
    let l = (text_slices.reading_area a.limit a.text.now a.table.now a.answer.now).1 (omega arith) in
    let told = ap (λ (x : Filled Taken). x.answer) c.in-Ok.ensures in
    let q = tells told (λ (x : Taken). x.number) taken_numbers (drop 24 a.answer.now) c.write_numbers.ensures by in
    record { returns = q.0; answers = q.1; leaves = ap (λ (x : Filled Taken). x.area) c.in-Ok.ensures ∙ sym l }

same_numbers : (n p n' p' : ℕ) (rest : List ℕ) {after : List ℕ} → n ≡ n' → p ≡ p' → after ≡ eights (n ∷ p ∷ 0 ∷ []) ++ rest
    → after ≡ eights (n' ∷ p' ∷ 0 ∷ []) ++ rest
same_numbers n p n' p' rest e q w = w ∙ rw (e, q)

pub returns-in-Err : goal.returns-in-Err
unfolding taken_numbers read_given
returns-in-Err c =
    let a = c.args in
    let by = (text_slices.reading a.limit a.text.now a.table.now a.answer.now).1 (omega arith) in
    let l = (text_slices.reading_area a.limit a.text.now a.table.now a.answer.now).1 (omega arith) in
    let told = ap (λ (x : Filled Taken). x.answer) c.in-Err.ensures in
    let rest = drop 24 a.answer.now in
    let w = same_numbers _ _ _ _ rest c.number-number.ensures c.place.ensures c.write_numbers-in-Err.ensures in
    let q = tells told (λ (x : Taken). x.number) taken_numbers rest w by in
    record { returns = c.number-number.ensures ∙ q.0; answers = q.1; leaves = ap (λ (x : Filled Taken). x.area) c.in-Err.ensures ∙ sym l }
