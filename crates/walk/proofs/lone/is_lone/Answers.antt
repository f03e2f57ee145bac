-- By the two cases of `told`.
use Rattle.std.proofs.Common.{◌&&◌, ltb, sym, ap, ◌∙◌}
use Rattle.walk.specs.Lone.{is_lone}
use Rattle.walk.proofs.lone.is_lone.Goals as goal

pub returns-then-told : goal.returns-then-told
unfolding is_lone
returns-then-told c = ap (λ b. b && ltb 127 c.args.high) (sym c.if-told.true)

pub returns-else-told : goal.returns-else-told
unfolding is_lone
returns-else-told c = c.if-told.false ∙ ap (λ b. b && ltb 127 c.args.high) (sym c.if-told.false)
