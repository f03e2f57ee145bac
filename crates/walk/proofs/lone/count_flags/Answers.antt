-- A turn counts the next entry (`counted_turn`).
use Rattle.std.proofs.Common.{sym}
use Rattle.walk.proofs.LoneLaws.{counted_none, counted_turn}
use Rattle.walk.proofs.lone.count_flags.Goals as goal

pub loop-k-init : goal.loop-k-init
loop-k-init c = sym (counted_none _ _ _ _)

pub loop-k-preserved : goal.loop-k-preserved
loop-k-preserved c = counted_turn _ _ _ _ _ _ _ _ c.loop-k.invariant c.flag_of.ensures.0 c.more.ensures
