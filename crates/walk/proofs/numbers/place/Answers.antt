-- The upper half of 64 bits times the number of flags fits, and the flag is one of them (`place_lt`).
use Rattle.std.proofs.Common.{◌*◌, ◌/◌, ◌%◌, ◌<◌, sym, ap, ◌∙◌, subst}
use Rattle.paper.specs.Limits.{modulus}
use Rattle.walk.specs.Numbers.{place_of}
use Rattle.walk.proofs.SpreadLaws.{wrapped, scaled}
use Rattle.walk.proofs.NumbersLaws.{place_lt}
use Rattle.walk.proofs.numbers.place.Goals as goal

pub overflow_mul-result : goal.overflow_mul-result
overflow_mul-result c = record { fits = scaled c.wrapping_mul-x.result (wrapped _ _ c.wrapping_mul-x.ensures) _ c.requires.1 }

pub returns : goal.returns
unfolding place_of
returns c =
    let g = c.args in
    let product = c.wrapping_mul-x.ensures ∙ ap (λ y. y * g.f % modulus) c.stirred.ensures in
    let is = ap (λ y. y / 4294967296 * g.n / 4294967296) product in
    (is, subst (λ x. x < g.n) (sym is) (place_lt g.f g.n g.v c.requires.0))
