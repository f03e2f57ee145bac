-- By the two cases of a count.
use Rattle.walk.proofs.LoneLaws.{byte_lone, byte_shared}
use Rattle.walk.proofs.lone.lone_byte.Goals as goal

pub returns-then-count-eq1 : goal.returns-then-count-eq1
returns-then-count-eq1 c = byte_lone _ _ c.if-count-eq1.true

pub returns : goal.returns
returns c = byte_shared _ _ c.if-count-eq1.false
