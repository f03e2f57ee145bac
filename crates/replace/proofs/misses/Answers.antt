-- `replace::misses` meets its contract.
use Rattle.std.proofs.Common.{◌≡◌, length, arith}
use Rattle.paper_shared.specs.Answers.{length_at}
use Rattle.replace.proofs.PartLaws.{begins_none, begins_next, lists_differ, lengths_over, lengths_end}
use Rattle.replace.proofs.misses.Goals as goal
use Rattle.replace.proofs.misses.Goals.{then-lengths-gt0-via-then-lengths-gt0, then-lengths-gt0-via-else-lengths-gt0+then-lengths-symbols}

pub returns-then-lengths-gt0 : goal.returns-then-lengths-gt0
returns-then-lengths-gt0 c =
    let a = c.args in
    lists_differ a.symbols.now a.lengths.now a.definitions.now (λ e.
    elim c.then-lengths-gt0.branch [
      | then-lengths-gt0-via-then-lengths-gt0 w ↦ absurd (omega (arith, e))
      | then-lengths-gt0-via-else-lengths-gt0+then-lengths-symbols w ↦ let d = w.if-lengths-symbols.true in absurd (omega (arith, e, d))
    ])

pub loop-i-init : goal.loop-i-init
loop-i-init c = let e = begins_none c.args.lengths.now in omega arith

pub returns-then-left-n : goal.returns-then-left-n
unfolding length_at
returns-then-left-n c =
    let a = c.args in
    let l = c.loop-i in
    let v = c.read8-n.ensures in
    lengths_over a.symbols.now a.lengths.now a.definitions.now l.i (omega arith) (omega arith)

pub loop-i-preserved : goal.loop-i-preserved
unfolding length_at
loop-i-preserved c =
    let v = c.read8-n.ensures in
    let n = begins_next c.args.lengths.now c.loop-i.i in
    omega arith

pub returns : goal.returns
returns c =
    let a = c.args in
    let l = c.loop-i in
    let e : l.i ≡ length a.symbols.now = omega arith in
    lengths_end a.symbols.now a.lengths.now a.definitions.now l.left (omega arith) (rw e at l.invariant)
