-- The numbers are those that `fetch` tells, and place 0.
use Rattle.std.proofs.Common.{◌≡◌, drop, refl, sym, arith, ◌∙◌, Result, Ok, Err}
use Rattle.paper.proofs.Slices.{tells_in}
use Rattle.paper_settings.specs.Settings.{new_release, Reply, fetched}
use Rattle.paper_settings.specs.Calls.{reply_numbers, fetch_returns, fetch_answers}
use Rattle.table.specs.declared.refusals.Refusal.{Refusal}
use Rattle.settings.specs.declared.Shown.{Shown}
use Rattle.settings.specs.Shown.{number_in, says}
use Rattle.simmergate.proofs.NumbersLaws.{tells}
use Rattle.simmergate.proofs.settings_calls.simmergate_settings_fetch.Goals as goal

number_told : (x : Result Shown Refusal) → number_in x ≡ (says x).number
number_told (Ok s) = refl
number_told (Err r) = refl

pub returns-then-answer-lt-FETCH_BYTES : goal.returns-then-answer-lt-FETCH_BYTES
unfolding fetch_returns fetch_answers reply_numbers
returns-then-answer-lt-FETCH_BYTES c =
    let a = c.args in
    let v = fetched new_release a.key a.area.now in
    let q = (tells_in 32 v.number (reply_numbers v) refl a.answer.now).0 c.if-answer-lt-FETCH_BYTES.true in
    record { returns = c.number.ensures ∙ sym q.0; answers = sym q.1 }

pub returns : goal.returns
unfolding fetch_returns fetch_answers reply_numbers
returns c =
    let a = c.args in
    let v = fetched new_release a.key a.area.now in
    let by = (tells_in 32 v.number (reply_numbers v) refl a.answer.now).1 (omega arith) in
    let wrote = rw c.numbers_of.ensures at c.write_numbers.ensures in
    let q = tells c.fetch-shown.ensures (λ (x : Reply). x.number) reply_numbers (drop 32 a.answer.now) wrote by in
    record { returns = c.number_in.ensures ∙ number_told c.fetch-shown.result ∙ q.0; answers = q.1 }
