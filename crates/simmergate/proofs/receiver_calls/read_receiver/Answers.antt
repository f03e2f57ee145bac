-- `simmergate::receiver_calls::read_receiver`: both numbers are read.
use Rattle.std.proofs.Common.{ℕ, ap, ◌∙◌}
use Rattle.paper.specs.Bytes.{le8}
use Rattle.paper_receiver.specs.Receiver.{Receiver}
use Rattle.paper_receiver.specs.Calls.{receiver_in}
use Rattle.simmergate.proofs.receiver_calls.read_receiver.Goals as goal

pub returns : goal.returns
unfolding receiver_in
returns c =
    let s = c.args.state.now in
    let both : ℕ → ℕ → Receiver = λ n k. record { count = n; past = k } in
    ap (λ (n : ℕ). both n c.read8-past.result) c.read8-count.ensures ∙ ap (both (le8 s 0)) c.read8-past.ensures
