-- Another limit is 19; the verdict on the text tells 14 and 3 and the records of its tree; where these fit, the second reading lays them from
-- record 0 on.
use Rattle.std.proofs.Common.{arith, sym}
use Rattle.paper.proofs.EncodeLaws.{encode_length}
use Rattle.paper.proofs.LimitLaws.{limit_small}
use Rattle.paper_text.specs.Text.{read_text}
use Rattle.text.proofs.ReadLaws.{is_none, is_heavy, is_light, no_limit, no_form, heavy, no_records, records_written}
use Rattle.text.proofs.read.Goals as goal

pub returns-then-not-is_limit : goal.returns-then-not-is_limit
returns-then-not-is_limit c = no_limit c.args.limit c.args.text.now c.args.table.now (sym c.if-not-is_limit.ensures)

pub weigh-requires : goal.weigh-requires
weigh-requires c = let h = limit_small c.args.limit (sym c.if-not-is_limit.ensures) in omega (arith, h)

pub returns-in-Err-NotWritten : goal.returns-in-Err-NotWritten
returns-in-Err-NotWritten c =
    let a = c.args in
    let e = rw c.in-Err-NotWritten.field-0-is at c.in-Err-NotWritten.ensures in
    no_form a.limit (sym c.if-not-is_limit.ensures) a.text.now a.table.now (is_none a.limit (read_text a.text.now) e)

pub returns-in-Err-Heavy : goal.returns-in-Err-Heavy
returns-in-Err-Heavy c =
    let a = c.args in
    let e = rw c.in-Err-Heavy.field-0-is at c.in-Err-Heavy.ensures in
    let h = is_heavy a.limit (read_text a.text.now) e in
    heavy a.limit (sym c.if-not-is_limit.ensures) a.text.now a.table.now h.tree h.read h.over

pub returns-then-table-records : goal.returns-then-table-records
returns-then-table-records c =
    let a = c.args in
    let h = is_light a.limit _ (read_text a.text.now) c.in-Ok.ensures in
    let n = h.counted in
    let short = c.if-table-records.true in
    no_records a.limit (sym c.if-not-is_limit.ensures) a.text.now a.table.now h.tree h.read h.light (omega (arith, n, short))

pub returns : goal.returns
returns c =
    let a = c.args in
    let h = is_light a.limit _ (read_text a.text.now) c.in-Ok.ensures in
    let n = h.counted in
    let room = c.if-table-records.false in
    let long = encode_length h.tree in
    let put_there = (c.write.ensures h.tree h.read h.light).there (omega (arith, n, room, long)) in
    records_written a.limit (sym c.if-not-is_limit.ensures) a.text.now a.table.now h.tree h.read h.light (omega (arith, n, room)) _ _ n put_there
