-- `batch::adds_up` meets its contract.
use Rattle.std.proofs.Common.{◌/◌, length, sym, ap, arith}
use borrow.Author.Tests.{ne_eqb}
use Rattle.paper_batch.specs.Batch.{lengths_in, total}
use Rattle.batch.proofs.LengthsLaws.{from_all, total_turn, total_none, counted}
use Rattle.batch.proofs.adds_up.Goals as goal

pub loop-i-init : goal.loop-i-init
loop-i-init c = record { within = omega arith; same = omega (arith, ap total (from_all c.args.lengths.now)) }

pub returns-then-left-next : goal.returns-then-left-next
returns-then-left-next c =
    let s = c.args.lengths.now in
    let turn = total_turn s (length s / 8) c.loop-i.i (omega arith) in
    sym (ne_eqb (total (lengths_in s)) c.args.given (λ e. omega (arith, turn)))

pub loop-i-preserved : goal.loop-i-preserved
loop-i-preserved c =
    let s = c.args.lengths.now in
    let turn = total_turn s (length s / 8) c.loop-i.i (omega arith) in
    record { within = omega arith; same = omega (arith, turn) }

pub returns : goal.returns
returns c =
    let s = c.args.lengths.now in
    let none = total_none s (length s / 8) c.loop-i.i (omega arith) in
    counted (total (lengths_in s)) c.args.given c.loop-i.left (omega (arith, none))
