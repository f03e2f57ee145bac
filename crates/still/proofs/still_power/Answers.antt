-- `still::still_power` meets its contract: each return is one case of the definition's three tests, and the exponent is the last of as many
-- records as the power's note says.
use Rattle.std.proofs.Common.{◌≡◌, ◌+◌, ◌-◌, not, eqb, sym, ap, ◌∙◌, arith}
use Rattle.paper.specs.Record.{bits}
use Rattle.paper.specs.Tree.{records}
use Rattle.note.proofs.ToldLaws.{noted_told, record_within, kind_number_lem}
use Rattle.still.proofs.SoughtLaws.{power_at, power_of_power, power_of_sought, power_by_exponent}
use Rattle.still.proofs.still_power.Goals as goal
use Rattle.still.proofs.still_power.Goals.{then-k-gt-PRODUCT-via-then-k-gt-PRODUCT, then-k-gt-PRODUCT-via-else-k-gt-PRODUCT+then-is_sought}

pub overflow_add-i : goal.overflow_add-i
overflow_add-i c = omega (arith, record_within (noted_told c.requires.1))

pub kind-k-requires : goal.kind-k-requires
kind-k-requires c =
    let some = c.requires in
    record_within (noted_told (power_at some.0 some.1 some.2).there)

pub overflow_add-i-else-k-gt-PRODUCT : goal.overflow_add-i-else-k-gt-PRODUCT
overflow_add-i-else-k-gt-PRODUCT c = omega (arith, record_within (noted_told c.requires.1))

pub is_sought-requires : goal.is_sought-requires
is_sought-requires c =
    let some = c.requires in
    let p = power_at some.0 some.1 some.2 in
    (p.base, p.there, c.kind-k.ensures ∙ kind_number_lem (noted_told p.there))

pub returns-then-k-gt-PRODUCT : goal.returns-then-k-gt-PRODUCT
returns-then-k-gt-PRODUCT c = λ t h e.
    let p = power_at t h e in
    let k = c.kind-k.ensures ∙ kind_number_lem (noted_told p.there) in
    elim c.then-k-gt-PRODUCT.branch [
      | then-k-gt-PRODUCT-via-then-k-gt-PRODUCT w ↦ power_of_power p.base p.exponent (omega (arith, k)) ∙ sym p.tells
      | then-k-gt-PRODUCT-via-else-k-gt-PRODUCT+then-is_sought w ↦
          power_of_sought p.base p.exponent (omega (arith, k)) (sym (w.is_sought.ensures p.base p.there k) ∙ w.if-is_sought.true) ∙ sym p.tells
    ]

pub bits-requires : goal.bits-requires
bits-requires c = record_within (noted_told c.requires.1)

pub overflow_add-i-2 : goal.overflow_add-i-2
overflow_add-i-2 c = omega (arith, record_within (noted_told c.requires.1))

pub overflow_sub-i : goal.overflow_sub-i
overflow_sub-i c =
    let some = c.requires in
    omega (arith, c.bits.ensures, c.records_of-size.ensures, (power_at some.0 some.1 some.2).size)

pub bits-requires-2 : goal.bits-requires-2
bits-requires-2 c =
    let some = c.requires in
    let p = power_at some.0 some.1 some.2 in
    omega (arith, c.bits.ensures, c.records_of-size.ensures, p.size, p.within)

pub returns : goal.returns
returns c = λ t h e.
    let size = c.records_of-size in
    let a = c.args in
    let p = power_at t h e in
    let k = c.kind-k.ensures ∙ kind_number_lem (noted_told p.there) in
    let base = sym (c.is_sought.ensures p.base p.there k) ∙ c.if-is_sought.false in
    let place : a.i + size.result - 1 ≡ a.i + 1 + records p.base = omega (arith, size.ensures, c.bits.ensures, p.size) in
    ap (λ n. not (eqb n 1)) (c.bits-2.ensures ∙ ap (bits a.s.now) place ∙ p.exponent_there)
    ∙ power_by_exponent p.base p.exponent (omega (arith, k)) base
    ∙ sym p.tells
