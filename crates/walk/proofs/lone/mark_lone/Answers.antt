-- A turn sets the bit of the next entry (`marked_turn`).
use Rattle.std.proofs.Common.{sym}
use Rattle.walk.proofs.LoneLaws.{marked_none, marked_turn}
use Rattle.walk.proofs.lone.mark_lone.Goals as goal

pub loop-k-init : goal.loop-k-init
loop-k-init c = sym (marked_none _ _ _ _)

pub loop-k-preserved : goal.loop-k-preserved
loop-k-preserved c = marked_turn _ _ _ _ _ _ _ _ c.loop-k.invariant c.flag_of.ensures.0 c.lone_byte.ensures
