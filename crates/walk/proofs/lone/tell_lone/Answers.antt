-- The flags are cleared, the entries counted at them, and the bits set by them; all lie behind record d, where there is room.
use Rattle.std.proofs.Common.{arith}
use Rattle.walk.proofs.LoneLaws.{flags_there}
use Rattle.walk.proofs.lone.tell_lone.Goals as goal

pub returns : goal.returns
returns c = (omega arith, flags_there _ _ _ _ _ _ c.clear.ensures c.count_flags.ensures, c.mark_lone.ensures)
