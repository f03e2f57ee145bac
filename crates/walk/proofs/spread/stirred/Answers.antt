-- Halves of 64 bits, multiplied, fit 64 bits with another half added (`half_whole`).
use Rattle.std.proofs.Common.{◌+◌, ◌*◌, ◌/◌, ◌%◌, ap}
use Rattle.walk.specs.Spread.{stirred}
use Rattle.walk.proofs.SpreadLaws.{wrapped, half_sum, half_product, half_whole}
use Rattle.walk.proofs.spread.stirred.Goals as goal

pub overflow_add-result : goal.overflow_add-result
overflow_add-result c = record { fits = half_sum c.wrapping_mul-y.result (wrapped _ _ c.wrapping_mul-y.ensures) }

pub overflow_mul-result : goal.overflow_mul-result
overflow_mul-result c = record { fits = half_product c.wrapping_mul-y.result (wrapped _ _ c.wrapping_mul-y.ensures) }

pub overflow_add-result-2 : goal.overflow_add-result-2
overflow_add-result-2 c = record { fits = half_whole c.wrapping_mul-y.result (wrapped _ _ c.wrapping_mul-y.ensures) }

pub returns : goal.returns
unfolding stirred
returns c = ap (λ y. (y % 4294967296 + y / 4294967296) % 4294967296 * (y / 4294967296) + y % 4294967296) c.wrapping_mul-y.ensures
