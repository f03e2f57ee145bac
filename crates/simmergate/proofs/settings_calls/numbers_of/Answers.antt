-- The numbers of what is shown, or of what is refused.
use Rattle.std.proofs.Common.{refl}
use Rattle.paper_settings.specs.Calls.{reply_numbers}
use Rattle.simmergate.proofs.settings_calls.numbers_of.Goals as goal

pub returns-in-Ok : goal.returns-in-Ok
unfolding reply_numbers
returns-in-Ok c = rw c.in-Ok.is refl

pub returns-in-Err : goal.returns-in-Err
unfolding reply_numbers
returns-in-Err c = rw (c.in-Err.is, c.number.ensures) refl
