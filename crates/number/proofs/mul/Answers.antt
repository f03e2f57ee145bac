-- `number::mul` meets its contract: the checked product is there exactly where the product fits.
use Rattle.std.proofs.Common.{◌*ℤ◌}
use Rattle.number.proofs.NumLaws.{both_from_bits, checked_in, checked_out}
use Rattle.number.proofs.mul.Goals as goal

pub returns-in_err-product : goal.returns-in_err-product
returns-in_err-product c =
    checked_out c.checked_mul.ensures c.in_err-product.ensures.ok_part
    (both_from_bits (◌*ℤ◌) c.ranges.a.fits c.ranges.b.fits c.cast_signed.ensures c.cast_signed-2.ensures)
    c.from_residual.ensures.0

pub returns : goal.returns
returns c =
    checked_in c.checked_mul.ensures c.in_ok-product.ensures.ok_part
    (both_from_bits (◌*ℤ◌) c.ranges.a.fits c.ranges.b.fits c.cast_signed.ensures c.cast_signed-2.ensures)
    c.cast_unsigned.ensures
