-- `record::judge_record` meets its contract: a kind that a byte names is one of five.
use Rattle.std.proofs.Common.{◌≤◌, arith}
use Rattle.record.proofs.FlawLaws.{flaw_known}
use Rattle.record.proofs.KindLaws.{number_below}
use Rattle.record.proofs.judge_record.Goals as goal

pub returns-in-Ok : goal.returns-in-Ok
returns-in-Ok c =
    let n = number_below c.in-Ok.field-0 in
    let l : c.kind-byte.result ≤ 4 = omega (arith, c.in-Ok.ensures) in
    rw c.or.ensures (flaw_known c.args.s.now c.args.i c.kind-byte.result c.kind-byte.ensures l _ _ c.judge_bytes.ensures c.judge_count.ensures)
