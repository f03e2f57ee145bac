-- The shift and the clearing are side by side and reach the end.
use Rattle.std.proofs.Common.{◌∙◌}
use Rattle.settings.proofs.CallLaws.{closed_up_lem}
use Rattle.settings.proofs.close_up.Goals as goal

pub returns : goal.returns
returns c = rw c.shift.ensures at c.clear.ensures ∙ closed_up_lem c.args.area.now c.args.i c.requires
