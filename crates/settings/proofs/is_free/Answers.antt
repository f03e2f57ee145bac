-- The bytes that are looked at are the slot's.
use Rattle.std.proofs.Common.{◌+◌, ◌-◌, ◌*◌, ◌≡◌, take, drop, arith, ap, ◌∙◌}
use Rattle.paper_settings.specs.Settings.{is_free}
use Rattle.settings.specs.Slots.{slot_at}
use Rattle.settings.proofs.StepLaws.{free_told}
use Rattle.settings.proofs.is_free.Goals as goal

pub returns : goal.returns
unfolding slot_at
returns c =
    let i = c.args.i in
    let whole : 32 * i + 32 - 32 * i ≡ 32 = omega arith in
    free_told _ _ c.all_zero.ensures ∙ ap (λ n. is_free (take n (drop (32 * i) c.args.area.now))) whole
