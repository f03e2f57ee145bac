-- The kind tells the rank, and for an integer its highest bit.
use Rattle.std.proofs.Common.{arith}
use Rattle.spell.proofs.RankLaws.{low_rank, high_rank, symbol_rank, sum_rank, product_rank, power_rank}
use Rattle.spell.proofs.TreeLaws.{inside, kind_as}
use Rattle.spell.proofs.rank_at.Goals as goal

pub at-requires : goal.at-requires
at-requires c = inside c.requires

pub bits-requires : goal.bits-requires
bits-requires c = inside c.requires

pub returns-then-bits-lt-NEGATIVE : goal.returns-then-bits-lt-NEGATIVE
returns-then-bits-lt-NEGATIVE c = λ t h. let b = c.bits.ensures in low_rank h (kind_as c.requires c.in-Integer.ensures.named) (omega (arith, b))

pub returns-else-bits-lt-NEGATIVE : goal.returns-else-bits-lt-NEGATIVE
returns-else-bits-lt-NEGATIVE c = λ t h. let b = c.bits.ensures in high_rank h (kind_as c.requires c.in-Integer.ensures.named) (omega (arith, b))

pub returns-in-Symbol : goal.returns-in-Symbol
returns-in-Symbol c = λ t h. symbol_rank h (kind_as c.requires c.in-Symbol.ensures.named)

pub returns-in-Sum : goal.returns-in-Sum
returns-in-Sum c = λ t h. sum_rank h (kind_as c.requires c.in-Sum.ensures.named)

pub returns-in-Product : goal.returns-in-Product
returns-in-Product c = λ t h. product_rank h (kind_as c.requires c.in-Product.ensures.named)

pub returns-in-Power : goal.returns-in-Power
returns-in-Power c = λ t h. power_rank h (kind_as c.requires c.in-Power.ensures.named)
