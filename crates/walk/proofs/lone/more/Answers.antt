-- By the two cases of a count.
use Rattle.walk.proofs.LoneLaws.{more_first, more_again}
use Rattle.walk.proofs.lone.more.Goals as goal

pub returns-then-count-lt1 : goal.returns-then-count-lt1
returns-then-count-lt1 c = more_first _ c.if-count-lt1.true

pub returns : goal.returns
returns c = more_again _ c.if-count-lt1.false
