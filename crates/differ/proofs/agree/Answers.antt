-- `differ::agree` meets its contract: its two tests are those of the halves of the trees' first records.
use Rattle.std.proofs.Common.{sym, ◌∙◌, arith}
use borrow.Author.Tests.{ne_eqb}
use Rattle.paper.proofs.StandingLaws.{record_within}
use Rattle.differ.proofs.AgreeLaws.{fronts_differ, numbers_tell}
use Rattle.differ.proofs.agree.Goals as goal

pub overflow_mul-i : goal.overflow_mul-i
overflow_mul-i c = omega (arith, record_within c.requires.0.there)

pub read8-requires : goal.read8-requires
read8-requires c = omega (arith, record_within c.requires.0.there)

pub overflow_mul-j : goal.overflow_mul-j
overflow_mul-j c = omega (arith, record_within c.requires.1.there)

pub read8-requires-2 : goal.read8-requires-2
read8-requires-2 c = omega (arith, record_within c.requires.1.there)

pub bits-requires : goal.bits-requires
bits-requires c = record_within c.requires.0.there

pub bits-requires-then-read8 : goal.bits-requires-then-read8
bits-requires-then-read8 c = record_within c.requires.1.there

pub returns-then-read8 : goal.returns-then-read8
returns-then-read8 c = λ t u h g.
    let same = sym c.read8.ensures ∙ c.if-read8.true ∙ c.read8-2.ensures in
    rw (c.bits.ensures, c.bits-then-read8.ensures) (numbers_tell h g same)

pub returns-else-read8 : goal.returns-else-read8
returns-else-read8 c = λ t u h g.
    ne_eqb _ _ c.if-read8.false ∙ fronts_differ h g (λ e. c.if-read8.false (c.read8.ensures ∙ e ∙ sym c.read8-2.ensures))
