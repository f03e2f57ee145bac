-- Where the record does not lie in the area nothing is promised.
use Rattle.std.proofs.Common.{arith}
use Rattle.paper.proofs.EncodeLaws.{record_length}
use Rattle.parse.proofs.area.put_record.Goals as goal

pub returns-then-out-d : goal.returns-then-out-d
returns-then-out-d c =
    let a = c.args in
    let l = record_length a.kind a.count 0 a.bits in
    record { there = λ f. absurd (omega (arith, f, l)) }
