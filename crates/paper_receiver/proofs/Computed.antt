-- The examples of the receiver: one table, one statement, by computation.
use mathlib.Core.Path.{◌≡◌, refl}
use mathlib.Core.List.{map}
use Rattle.paper.specs.Bytes.{bytes}
use Rattle.paper.specs.Equal.{one}
use Rattle.paper.specs.Record.{flaw_numbers}
use Rattle.paper.specs.Calls.{verdict_numbers, eights, is_too_short, returned, answered}
use Rattle.paper.proofs.Computes.{verdict_computes}
use Rattle.paper_receiver.specs.Receiver.{is_past, kept, counted, area_after, with_piece, is_short, received, finish_verdict, finish_state}
use Rattle.paper_receiver.specs.Calls.{receiver_in, receiver_numbers, held_in, receive_returns, receive_record, receive_area}
use Rattle.paper_receiver.specs.Calls.{no_room, finish_returns, finish_record, finish_answers}
use Rattle.paper_receiver.specs.Examples.{with_each, examples, computed, tallies, tallied, takings, taken, finishes, finished}
use Rattle.paper_receiver.specs.Examples.{receives, receive_computed, endings, ending_computed}

-- a name that opens every definition of the receiver; it states nothing
unfoldable pub receiver_computes : Unit {0}
unfolding
    verdict_computes one bytes flaw_numbers verdict_numbers eights is_too_short returned answered is_past kept counted area_after with_piece is_short
    received finish_verdict finish_state receiver_in receiver_numbers held_in receive_returns receive_record receive_area no_room finish_returns
    finish_record finish_answers
receiver_computes = tt

-- the definitions give each example as the request has it
pub record Shown : Type 0 where
  pub pieces : map computed examples ≡ examples
  pub limits : map tallied tallies ≡ tallies
  pub calls : map taken takings ≡ takings
  pub finishing : map finished finishes ≡ finishes
  pub from_c : map receive_computed receives ≡ receives
  pub finish_from_c : map ending_computed endings ≡ endings

pub shown : Shown
unfolding
    receiver_computes with_each examples computed tallies tallied takings taken finishes finished receives receive_computed endings
    ending_computed
shown =
    record { pieces = refl; limits = refl; calls = refl; finishing = refl; from_c = refl; finish_from_c = refl }
