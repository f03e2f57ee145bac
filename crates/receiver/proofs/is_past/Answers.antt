-- `receiver::is_past`: by the mark, and then by the count.
use mathlib.Core.Path.{sym}
use native.Mathlib.Omega.{arith}
use borrow.Author.Tests.{ne_eqb}
use Rattle.paper_receiver.proofs.PieceLaws.{past_by_mark, past_by_count}
use Rattle.receiver.specs.Receiving.{says}
use Rattle.receiver.proofs.is_past.Goals as goal

pub returns-then-r-ne0 : goal.returns-then-r-ne0
returns-then-r-ne0 c = rw (ne_eqb _ _ c.if-r-ne0.true) (sym (past_by_mark c.args.most (says c.args.r) (omega arith)))

pub returns-else-r-ne0 : goal.returns-else-r-ne0
returns-else-r-ne0 c = sym (past_by_count c.args.most (says c.args.r) (omega arith))
