-- `record::stray`: a tidy record has no stray byte (TidyLaws); of any other each byte is one step of the search (StrayLaws).
-- Where a test of MAY[k][j] is handed to a law about `may_be k j`, the law is admitted because the two tables are the same numbers.
use Prim.Native.Nat.{◌<◌, ◌≤◌}
use mathlib.Core.Path.{sym, ap, ◌∙◌}
use native.Mathlib.Omega.{arith}
use Rattle.paper.specs.Record.{may_table, may_be}
use Rattle.record.specs.Flaw.{found_below}
use Rattle.record.proofs.TidyLaws.{tidy_stray}
use Rattle.record.proofs.StrayLaws.{stray_zero, stray_free, stray_here, stray_done}
use Rattle.record.proofs.FoundLaws.{found_here, found_nowhere}
use Rattle.record.proofs.stray.Goals as goal
use Rattle.record.proofs.stray.Goals.{else-s-i-ne0-via-then-s-i-ne0+else-k-j-eq0, else-s-i-ne0-via-else-s-i-ne0}

pub returns-then-is_tidy : goal.returns-then-is_tidy
returns-then-is_tidy c =
    ap (found_below 16) (sym (tidy_stray c.args.s.now c.args.i c.args.k c.requires.1 (sym c.is_tidy.ensures ∙ c.if-is_tidy.true)))

pub returns-then-k-j-eq0 : goal.returns-then-k-j-eq0
unfolding may_be may_table
returns-then-k-j-eq0 c =
    let a = c.args in
    let j = c.loop-j.j in
    let test : j < 16 = omega arith in
    found_here 16 j _ test (c.loop-j.invariant ∙ stray_here a.s.now a.i a.k j test c.if-s-i-ne0.true c.if-k-j-eq0.true)

pub loop-j-preserved : goal.loop-j-preserved
unfolding may_be may_table
loop-j-preserved c =
    let s = c.args.s.now in
    let i = c.args.i in
    let k = c.args.k in
    let j = c.loop-j.j in
    let test : j < 16 = omega arith in
    c.loop-j.invariant
    ∙ elim c.else-s-i-ne0.branch [
      | else-s-i-ne0-via-then-s-i-ne0+else-k-j-eq0 w ↦ stray_free s i k j test w.if-s-i-ne0.true w.if-k-j-eq0.false
      | else-s-i-ne0-via-else-s-i-ne0 w ↦ stray_zero s i k j test w.if-s-i-ne0.false
    ]

pub returns : goal.returns
returns c =
    let a = c.args in
    let j = c.loop-j.j in
    let all : 16 ≤ j = omega arith in
    let done = c.loop-j.invariant ∙ stray_done a.s.now a.i a.k j all in
    found_nowhere 16 _ (omega (arith, done))
