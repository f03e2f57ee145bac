-- Each return is one case of the answer, by the code's tests.
use Rattle.std.proofs.Common.{refl, eq-eqb, ne_eqb, le-leb}
use borrow.Author.Tests.{lt-leb}
use Rattle.walk.specs.Walked.{answer_of}
use Rattle.walk.proofs.answer.Goals as goal

pub returns-then-count-n : goal.returns-then-count-n
unfolding answer_of
returns-then-count-n c = rw (le-leb _ _ c.if-count-n.true) refl

pub returns-then-late : goal.returns-then-late
unfolding answer_of
returns-then-late c = rw (lt-leb _ _ c.if-count-n.false, c.if-late.true) refl

pub returns-then-new-eq1 : goal.returns-then-new-eq1
unfolding answer_of
returns-then-new-eq1 c = rw (lt-leb _ _ c.if-count-n.false, c.if-late.false, eq-eqb _ _ c.if-new-eq1.true) refl

pub returns-else-new-eq1 : goal.returns-else-new-eq1
unfolding answer_of
returns-else-new-eq1 c = rw (lt-leb _ _ c.if-count-n.false, c.if-late.false, ne_eqb _ _ c.if-new-eq1.false) refl
