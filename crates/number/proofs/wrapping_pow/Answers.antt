-- `number::wrapping_pow` meets its contract: a turn of repeated squaring, at an odd and at an even exponent.
use Rattle.std.proofs.Common.{◌∙◌, ◌^◌, arith}
use Rattle.number.proofs.ModLaws.{odd_turn, even_turn}
use Rattle.number.proofs.wrapping_pow.Goals as goal
use Rattle.number.proofs.wrapping_pow.Goals.{then-left-eq1, else-left-eq1}

pub loop-left-preserved : goal.loop-left-preserved
loop-left-preserved c =
    let l = c.loop-left in
    elim c.if-left-eq1.branch [
      | then-left-eq1 w ↦ (
        omega arith,
        rw w.acc-is (odd_turn l.acc l.base l.left (2 ^ 64) w.if-left-eq1.true ∙ l.invariant.1),
      )
      | else-left-eq1 w ↦ (
        omega arith,
        rw w.acc-is (even_turn l.acc l.base l.left (2 ^ 64) (omega arith) ∙ l.invariant.1),
      )
    ]
