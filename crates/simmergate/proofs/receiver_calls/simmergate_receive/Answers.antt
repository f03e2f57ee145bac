-- `simmergate::receiver_calls::simmergate_receive`: the record is read, the receiver tells what a piece makes of it and of the area, and the record is
-- written.
use Rattle.std.proofs.Common.{Result, sym, ap, ◌∙◌}
use Rattle.paper_receiver.specs.Receiver.{Receiver, received}
use Rattle.paper_receiver.specs.Calls.{held_in}
use Rattle.table.specs.declared.refusals.Refusal.{Refusal}
use Rattle.table.specs.Refusals.{stands_for}
use Rattle.receiver.specs.Receiving.{gives}
use Rattle.simmergate.proofs.ReceiverCallLaws.{receive_no_room, receive_room}
use Rattle.simmergate.proofs.receiver_calls.simmergate_receive.Goals as goal

pub returns-then-state-lt-RECORD_BYTES : goal.returns-then-state-lt-RECORD_BYTES
returns-then-state-lt-RECORD_BYTES c =
    let a = c.args in
    let q = receive_no_room a.limit a.state.now a.area.now a.piece.now c.if-state-lt-RECORD_BYTES.true in
    record { returns = c.number.ensures ∙ q.0; keeps = q.1.0; leaves = q.1.1 }

pub returns-in-Ok : goal.returns-in-Ok
unfolding held_in
returns-in-Ok c =
    let a = c.args in
    let t = c.after_piece-t.result in
    let after = gives t.taken t.state c.after_piece-t.new.area in
    let told = c.after_piece-t.ensures
    ∙ ap (λ (r : Receiver). received a.limit (record { state = r; area = a.area.now }) a.piece.now) c.read_receiver.ensures in
    let q =
    receive_room a.limit a.state.now a.area.now a.piece.now after told c.if-state-lt-RECORD_BYTES.false c.write_receiver.new.state
    c.write_receiver.ensures in
    let number = ap (λ (k : Result (Unit {0}) Refusal). (stands_for k).number) c.in-Ok.is in
    record { returns = sym number ∙ q.0; keeps = q.1.0; leaves = q.1.1 }

pub returns-in-Err : goal.returns-in-Err
unfolding held_in
returns-in-Err c =
    let a = c.args in
    let t = c.after_piece-t.result in
    let after = gives t.taken t.state c.after_piece-t.new.area in
    let told = c.after_piece-t.ensures
    ∙ ap (λ (r : Receiver). received a.limit (record { state = r; area = a.area.now }) a.piece.now) c.read_receiver.ensures in
    let q =
    receive_room a.limit a.state.now a.area.now a.piece.now after told c.if-state-lt-RECORD_BYTES.false c.write_receiver.new.state
    c.write_receiver.ensures in
    let number = ap (λ (k : Result (Unit {0}) Refusal). (stands_for k).number) c.in-Err.is in
    record { returns = c.number-in-Err.ensures ∙ sym number ∙ q.0; keeps = q.1.0; leaves = q.1.1 }
