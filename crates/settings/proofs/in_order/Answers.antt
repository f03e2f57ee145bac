-- An area that is in place is in order exactly where no key is there twice.
use Rattle.std.proofs.Common.{not, sym, ap, ◌∙◌}
use Rattle.paper_settings.specs.Settings.{slots_of}
use Rattle.settings.proofs.KeyLaws.{order_placed, order_displaced}
use Rattle.settings.proofs.in_order.Goals as goal

pub returns-then-in_place : goal.returns-then-in_place
returns-then-in_place c =
    ap not c.any_twice.ensures ∙ sym (order_placed (slots_of c.args.area.now) (sym c.in_place.ensures ∙ c.if-in_place.true))

pub returns-else-in_place : goal.returns-else-in_place
returns-else-in_place c =
    c.if-in_place.false ∙ sym (order_displaced (slots_of c.args.area.now) (sym c.in_place.ensures ∙ c.if-in_place.false))
