-- A version over 2 is malformed by its byte 0; then each byte tells, or leaves it to those after it.
use Rattle.std.proofs.Common.{arith, sym, ◌∙◌}
use borrow.Author.Tests.{eqb-true, eqb-false, lt-ltb}
use Rattle.paper.proofs.Tests.{true_not_false}
use Rattle.paper_settings.specs.Settings.{may_table, may_be}
use Rattle.settings.proofs.StepLaws.{strays_start, strays_zero, strays_may, strays_here, strays_done, high_zero, over_malformed}
use Rattle.settings.proofs.is_malformed.Goals as goal
use Rattle.settings.proofs.is_malformed.Goals.{else-area-i-ne0-via-then-area-i-ne0+else-may-byte-eq0, then-byte-gt-LAST, else-byte-gt-LAST}
use Rattle.settings.proofs.is_malformed.Goals.{else-area-i-ne0-via-else-area-i-ne0}

pub returns-then-v-gt-NEWEST : goal.returns-then-v-gt-NEWEST
returns-then-v-gt-NEWEST c = sym (over_malformed c.args.area.now c.args.i (omega (arith, c.version_of-v.ensures)))

pub loop-byte-init : goal.loop-byte-init
loop-byte-init c = strays_start c.args.area.now c.args.i c.version_of-v.result c.version_of-v.ensures

pub returns-then-may-byte-eq0 : goal.returns-then-may-byte-eq0
unfolding may_be may_table
returns-then-may-byte-eq0 c =
    let v = c.version_of-v.result in
    let byte = c.loop-byte.byte in
    let here = strays_here c.args.area.now c.args.i v byte c.loop-byte-test.true c.if-area-i-ne0.true in
    sym (c.loop-byte.invariant
    ∙ elim c.if-byte-gt-LAST.branch [
      | then-byte-gt-LAST w ↦ here (high_zero v byte w.if-byte-gt-LAST.true)
      | else-byte-gt-LAST w ↦ here (eqb-true _ _ (sym w.value-is ∙ c.if-may-byte-eq0.true))
    ])

pub loop-byte-preserved : goal.loop-byte-preserved
unfolding may_be may_table
loop-byte-preserved c =
    let a = c.args.area.now in
    let v = c.version_of-v.result in
    let byte = c.loop-byte.byte in
    let test = c.loop-byte-test.true in
    c.loop-byte.invariant
    ∙ elim c.else-area-i-ne0.branch [
      | else-area-i-ne0-via-then-area-i-ne0+else-may-byte-eq0 w ↦ elim w.if-byte-gt-LAST.branch [
        | then-byte-gt-LAST u ↦ absurd (true_not_false (u.value-is ∙ lt-ltb 15 byte u.if-byte-gt-LAST.true) w.if-may-byte-eq0.false)
        | else-byte-gt-LAST u ↦ strays_may a c.args.i v byte test (eqb-false _ _ (sym u.value-is ∙ w.if-may-byte-eq0.false))
      ]
      | else-area-i-ne0-via-else-area-i-ne0 w ↦ strays_zero a c.args.i v byte test w.if-area-i-ne0.false
    ]

pub returns : goal.returns
returns c =
    sym (c.loop-byte.invariant ∙ strays_done c.args.area.now c.args.i c.version_of-v.result c.loop-byte.byte c.loop-byte-test.false)
