-- The numbers are those that `fetch_1` tells, and place 0.
use Rattle.std.proofs.Common.{◌≡◌, ℕ, drop, refl, sym, arith, ◌∙◌, Result, Ok, Err}
use Rattle.paper.proofs.Slices.{tells_in}
use Rattle.paper_settings.specs.Settings.{OldReply, fetched_old}
use Rattle.paper_settings.specs.Calls.{old_numbers, old_returns, old_answers}
use Rattle.table.specs.declared.refusals.Refusal.{Refusal}
use Rattle.settings.specs.Shown.{number_in, says_1}
use Rattle.simmergate.proofs.NumbersLaws.{tells}
use Rattle.simmergate.proofs.settings_calls.simmergate_settings_fetch_1.Goals as goal

number_told : (x : Result ℕ Refusal) → number_in x ≡ (says_1 x).number
number_told (Ok s) = refl
number_told (Err r) = refl

pub returns-then-answer-lt-OLD_FETCH_BYTES : goal.returns-then-answer-lt-OLD_FETCH_BYTES
unfolding old_returns old_answers old_numbers
returns-then-answer-lt-OLD_FETCH_BYTES c =
    let a = c.args in
    let v = fetched_old a.key a.area.now in
    let q = (tells_in 24 v.number (old_numbers v) refl a.answer.now).0 c.if-answer-lt-OLD_FETCH_BYTES.true in
    record { returns = c.number.ensures ∙ sym q.0; answers = sym q.1 }

pub returns : goal.returns
unfolding old_returns old_answers old_numbers
returns c =
    let a = c.args in
    let v = fetched_old a.key a.area.now in
    let by = (tells_in 24 v.number (old_numbers v) refl a.answer.now).1 (omega arith) in
    let wrote = rw c.old_numbers_of.ensures at c.write_numbers.ensures in
    let q = tells c.fetch_1-shown.ensures (λ (x : OldReply). x.number) old_numbers (drop 24 a.answer.now) wrote by in
    record { returns = c.number_in.ensures ∙ number_told c.fetch_1-shown.result ∙ q.0; answers = q.1 }
