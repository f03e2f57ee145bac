-- A turn visits one more entry (`passed_more`).
use Rattle.std.proofs.Common.{◌≡◌, ℕ, ◌+◌, ◌*◌, ◌≤◌, Bool, true, false, length, arith}
use mir.Val.{bool_byte}
use Rattle.walk.proofs.NumbersLaws.{numbered_still, cleared_length, passed_none, passed_more, passed_told}
use Rattle.walk.proofs.numbers.put_down.Goals as goal

-- true counts 1
bit : (b : Bool) (n : ℕ) → n ≡ bool_byte b → n ≤ 1
bit true n e = omega (arith, e)
bit false n e = omega (arith, e)

pub loop-k-init : goal.loop-k-init
loop-k-init c = (omega arith, omega (arith, c.requires.0.some), passed_none _ _ _ _ _ _ _ _ _)

pub visit-requires : goal.visit-requires
visit-requires c =
    let g = c.args in
    let q = c.requires in
    let v = c.loop-k.invariant.2 in
    let far : (g.d + 1) * 16 + g.round.m * 16 ≤ length g.out.now = omega (arith, q.2, q.3) in
    let long = cleared_length g.out.now _ ((g.d + 1) * 16) g.round.m c.clear.ensures far in
    (numbered_still v.only q.0, c.loop-k-test.true, q.1, q.2, omega (arith, q.3, v.long, long))

pub overflow_add-shared : goal.overflow_add-shared
overflow_add-shared c =
    record { fits = omega (arith, c.loop-k.invariant.0, c.requires.0.few, c.loop-k-test.true, bit c.visit.result _ c.from-shared.ensures) }

pub loop-k-smaller : goal.loop-k-smaller
loop-k-smaller c = omega (arith, c.loop-k-test.true, c.stride-k-step.ensures.0)

pub loop-k-preserved : goal.loop-k-preserved
loop-k-preserved c =
    let v = c.loop-k.invariant in
    let s = c.stride-k-step.ensures in
    let less = c.loop-k-test.true in
    let one = bit c.visit.result _ c.from-shared.ensures in
    (omega (arith, v.0, one, s.0), omega (arith, less), passed_more v.2 c.requires.0 less c.visit.ensures _ s.0 s.2)

pub returns : goal.returns
returns c =
    let v = c.loop-k.invariant in
    let q = c.requires in (
      omega (arith, v.0, v.1, c.stride-k-step.ensures.1, q.0.few),
      passed_told q.0 q.2 q.3 c.clear.ensures v.2 (omega (arith, c.loop-k-test.false)),
    )

-- after the last turn
pub returns-2 : goal.returns-2
returns-2 c =
    let v = c.loop-k.invariant in
    let q = c.requires in
    let s = c.stride-k-step.ensures in
    let less = c.loop-k-test.true in
    let one = bit c.visit.result _ c.from-shared.ensures in (
      omega (arith, v.0, one, less, q.0.few),
      passed_told q.0 q.2 q.3 c.clear.ensures (passed_more v.2 q.0 less c.visit.ensures _ s.0 s.2) (omega arith),
    )
