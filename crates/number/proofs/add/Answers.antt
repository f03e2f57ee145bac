-- `number::add` meets its contract: the checked sum is there exactly where the sum fits.
use Rattle.std.proofs.Common.{◌+ℤ◌}
use Rattle.number.proofs.NumLaws.{both_from_bits, checked_in, checked_out}
use Rattle.number.proofs.add.Goals as goal

pub returns-in_err-sum : goal.returns-in_err-sum
returns-in_err-sum c =
    checked_out c.checked_add.ensures c.in_err-sum.ensures.ok_part
    (both_from_bits (◌+ℤ◌) c.ranges.a.fits c.ranges.b.fits c.cast_signed.ensures c.cast_signed-2.ensures)
    c.from_residual.ensures.0

pub returns : goal.returns
returns c =
    checked_in c.checked_add.ensures c.in_ok-sum.ensures.ok_part
    (both_from_bits (◌+ℤ◌) c.ranges.a.fits c.ranges.b.fits c.cast_signed.ensures c.cast_signed-2.ensures)
    c.cast_unsigned.ensures
