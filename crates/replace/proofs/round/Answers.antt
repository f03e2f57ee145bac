-- `replace::round` meets its contract: each turn writes the weight of one definition.
use Rattle.std.proofs.Common.{ℕ, ◌∙◌, arith}
use Rattle.std.proofs.Math.ListN.{length-set}
use Rattle.std.specs.Prelude as code
use Rattle.replace.specs.Weighed.{weighs}
use Rattle.replace.specs.Index.{piece_at}
use Rattle.replace.proofs.WeighLaws.{next_turn, next_counted}
use Rattle.replace.proofs.round.Goals as goal

pub loop-j-preserved : goal.loop-j-preserved
unfolding piece_at
loop-j-preserved c =
    let a = c.args in
    let l = c.loop-j in
    let w = c.weigh in
    let its-weight : ℕ → code.Option ℕ = λ k. weighs a.limit a.which.now a.weights.now (piece_at a.definitions.now a.from.now k) in
    record {
      long = length-set l.next l.j w.result ∙ l.invariant.long;
      written = next_turn l.next its-weight l.j w.result l.invariant.long (omega arith) w.ensures.weighs l.invariant.written;
      few = next_counted l.next l.j w.result l.invariant.long (omega arith) w.ensures.few l.invariant.few;
    }
