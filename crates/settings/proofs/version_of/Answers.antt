-- Byte 0 of the slot is that of the area.
use Rattle.std.proofs.Common.{sym}
use Rattle.settings.proofs.StepLaws.{version_at}
use Rattle.settings.proofs.version_of.Goals as goal

pub returns : goal.returns
returns c = sym (version_at c.args.area.now c.args.i)
