-- `simmergate::receiver_calls::write_receiver` meets its contract: both numbers are written.
use borrow.Author.Rules.{rules}
use Rattle.paper_receiver.specs.Calls.{receiver_numbers}
use Rattle.simmergate.proofs.receiver_calls.write_receiver.Statement.{statement}
use Rattle.simmergate.proofs.receiver_calls.write_receiver.Tie as tie

returns : tie.Need-returns
unfolding receiver_numbers
returns c = c.write_numbers.ensures

pub write_receiver_spec : {M : Type 1} → statement M
write_receiver_spec = tie.close (tie.spec (λ c. search rules) (λ c κs. search rules) (λ c. search rules) returns)
