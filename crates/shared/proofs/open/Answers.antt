-- `shared::open` meets its contract: a refusal is the plan's, or 6; without one the opened table is written, and nothing else.
use Rattle.std.proofs.Common.{length, arith}
use Rattle.std.proofs.lemmas.Result.{err_from_is_err_and}
use Rattle.paper_shared.specs.Answers.{tree_in, definitions_of}
use Rattle.replace.specs.Planned.{handed}
use Rattle.shared.proofs.Laws.{turned_as, limit_known, opens_to, small, openable, open_refused, open_tight, open_done}
use Rattle.shared.proofs.open.Goals as goal

pub returns-in_err-p : goal.returns-in_err-p
returns-in_err-p c =
    let a = c.args in
    let h = handed a.table.now a.symbols.now a.lengths.now a.definitions.now in
    let p = err_from_is_err_and c.from_residual.result c.from_residual.ensures.1 in
    let r = c.in_err-p.field-0.0 in
    rw (p.1, p.2) (open_refused a.limit h a.opened.now r (turned_as a.limit h r c.in_err-p.ensures))

pub overflow_mul-w : goal.overflow_mul-w
overflow_mul-w c =
    let a = c.args in
    let h = handed a.table.now a.symbols.now a.lengths.now a.definitions.now in
    let l = small a.limit h c.in_ok-p.p c.in_ok-p.ensures in
    omega arith

pub returns-then-opened-w : goal.returns-then-opened-w
returns-then-opened-w c =
    let a = c.args in
    let h = handed a.table.now a.symbols.now a.lengths.now a.definitions.now in
    let p = c.in_ok-p.p in
    open_tight a.limit h (limit_known a.limit h p c.in_ok-p.ensures) (opens_to a.limit h p c.in_ok-p.ensures) a.opened.now c.if-opened-w.true

pub open_records-records-requires : goal.open_records-records-requires
open_records-records-requires c =
    let a = c.args in
    let h = handed a.table.now a.symbols.now a.lengths.now a.definitions.now in
    let p = c.in_ok-p.p in
    let k = openable a.limit h p c.in_ok-p.ensures a.opened.now c.if-opened-w.false in
    (definitions_of h, length h.symbols, tree_in h.table, (opens_to a.limit h p c.in_ok-p.ensures).tree, k)

pub returns : goal.returns
returns c =
    let a = c.args in
    let h = handed a.table.now a.symbols.now a.lengths.now a.definitions.now in
    let p = c.in_ok-p.p in
    let r = c.open_records-records in
    let o = opens_to a.limit h p c.in_ok-p.ensures in
    let k = openable a.limit h p c.in_ok-p.ensures a.opened.now c.if-opened-w.false in
    open_done a.limit h (limit_known a.limit h p c.in_ok-p.ensures) o a.opened.now r.new.area r.result c.if-opened-w.false
    (r.ensures (definitions_of h) (length h.symbols) (tree_in h.table) o.tree k)
