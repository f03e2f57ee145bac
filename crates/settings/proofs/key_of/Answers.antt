-- Bytes 2 and 3 of the slot are those of the area.
use Rattle.std.proofs.Common.{sym, ◌∙◌}
use Rattle.settings.proofs.StepLaws.{key_at}
use Rattle.settings.proofs.key_of.Goals as goal

pub returns : goal.returns
returns c = c.read2.ensures.0 ∙ sym (key_at c.args.area.now c.args.i)
