-- The bit is set where bits are given, else nothing is written.
use Rattle.std.proofs.Common.{◌+◌, ◌*◌, get_or, set, sym, refl, ap, ◌∙◌, subst}
use Rattle.walk.specs.Numbers.{MarkedIf}
use Rattle.walk.proofs.LoneLaws.{byte_lone}
use Rattle.walk.proofs.numbers.mark.Goals as goal

pub returns-then-marks : goal.returns-then-marks
returns-then-marks c =
    let g = c.args in
    subst (λ b. MarkedIf b g.work.now (set g.work.now (g.k * 4 + 3) c.lone_byte.result) g.k) (sym c.if-marks.true)
    (ap (λ x. set g.work.now (g.k * 4 + 3) x) (c.lone_byte.ensures ∙ sym (byte_lone (get_or g.work.now (g.k * 4 + 3) 0) 1 refl)))

pub returns-else-marks : goal.returns-else-marks
returns-else-marks c =
    let g = c.args in
    subst (λ b. MarkedIf b g.work.now g.work.now g.k) (sym c.if-marks.false) refl
