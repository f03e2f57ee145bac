-- `simmergate::receiver_calls::simmergate_receive_finish`: the record is read, the receiver tells the checker's answer, and the record and the answer's
-- numbers are written, each to its own slice.
use Rattle.std.proofs.Common.{ap, ◌∙◌}
use Rattle.paper_receiver.specs.Receiver.{Receiver, finish_verdict, finish_state}
use Rattle.paper_receiver.specs.Calls.{held_in}
use Rattle.table.specs.Refusals.{stands_for}
use Rattle.receiver.specs.Receiving.{says}
use Rattle.simmergate.proofs.ReceiverCallLaws.{short_record, short_slice, finish_room}
use Rattle.simmergate.proofs.receiver_calls.simmergate_receive_finish.Goals as goal

pub returns-then-state-lt-RECORD_BYTES : goal.returns-then-state-lt-RECORD_BYTES
returns-then-state-lt-RECORD_BYTES c =
    let a = c.args in
    let q = short_record a.limit a.state.now a.area.now a.answer.now c.if-state-lt-RECORD_BYTES.true in
    record { returns = c.number.ensures ∙ q.0; keeps = q.1.0; answers = q.1.1 }

pub returns-then-answer-lt-CHECK_BYTES : goal.returns-then-answer-lt-CHECK_BYTES
returns-then-answer-lt-CHECK_BYTES c =
    let a = c.args in
    let q = short_slice a.limit a.state.now a.area.now a.answer.now c.if-answer-lt-CHECK_BYTES.true in
    record { returns = c.number-then-answer-lt-CHECK_BYTES.ensures ∙ q.0; keeps = q.1.0; answers = q.1.1 }

pub returns : goal.returns
unfolding held_in
returns c =
    let a = c.args in
    let f = c.at_finish-f.result in
    let verdict-told = c.at_finish-f.ensures.0
    ∙ ap (λ (r : Receiver). finish_verdict a.limit (record { state = r; area = a.area.now })) c.read_receiver.ensures in
    let state-told = c.at_finish-f.ensures.1
    ∙ ap (λ (r : Receiver). finish_state a.limit (record { state = r; area = a.area.now })) c.read_receiver.ensures in
    let q =
    finish_room a.limit a.state.now a.area.now a.answer.now (stands_for f.judged) (says f.state) verdict-told state-told
    c.if-state-lt-RECORD_BYTES.false c.if-answer-lt-CHECK_BYTES.false c.write_receiver.new.state c.answer_judged.new.answer c.write_receiver.ensures
    c.answer_judged.ensures.1 in
    record { returns = c.answer_judged.ensures.0 ∙ q.0; keeps = q.1.0; answers = q.1.1 }
