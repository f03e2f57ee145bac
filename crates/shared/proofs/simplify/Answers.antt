-- `shared::simplify` meets its contract: 19 of the limit, 9 of the edition, a refusal of the plan, or 6 of one of the four areas; without one the
-- opened table is written, and the simplifier gives the rest.
use Rattle.std.proofs.Common.{ℕ, ◌*◌, ◌≤◌, List, length, sym, ap, ◌∙◌, arith}
use Rattle.paper.specs.Table.{encode}
use Rattle.paper.specs.Answers.{Given, simplified}
use Rattle.paper.proofs.EncodeLaws.{records_weight, encode_length}
use Rattle.stretch.proofs.Laws.{length_put}
use Rattle.table.specs.Refusals.{verdict_of}
use Rattle.paper_shared.specs.Answers.{SharedGiven, tree_in, definitions_of}
use Rattle.replace.specs.Index.{Holding}
use Rattle.replace.specs.Planned.{handed}
use Rattle.simplify.specs.Answer.{lent}
use Rattle.simplify.proofs.Calling.{both_known}
use Rattle.shared.proofs.Laws.{opens_to, small, openable, turned_as, table_of, roomy, shared_off, shared_refused, shared_tight, shared_done}
use Rattle.shared.proofs.simplify.Goals as goal
use Rattle.shared.proofs.simplify.Goals.{Else-is_tight, After-open_records-e}

pub returns-in-Err : goal.returns-in-Err
returns-in-Err c =
    let a = c.args in
    let h = handed a.table.now a.symbols.now a.lengths.now a.definitions.now in
    shared_off a.limit a.edition h a.opened.now a.out.now a.steps.now a.work.now c.in-Err.refusal c.in-Err.ensures c.refused.result c.refused.ensures

pub returns-in-Err-prepare : goal.returns-in-Err-prepare
returns-in-Err-prepare c =
    let a = c.args in
    let h = handed a.table.now a.symbols.now a.lengths.now a.definitions.now in
    let known = both_known a.limit a.edition c.in_default.ensures in
    let r = c.in-Err-prepare.r in
    let said = c.refused-in-Err-prepare in
    shared_refused a.limit a.edition h a.opened.now a.out.now a.steps.now a.work.now known.0 known.1 (verdict_of r) said.result said.ensures
    (turned_as a.limit h r c.in-Err-prepare.ensures)

pub is_tight-requires : goal.is_tight-requires
is_tight-requires c =
    let a = c.args in
    let h = handed a.table.now a.symbols.now a.lengths.now a.definitions.now in
    let l = small a.limit h c.in-Ok.p c.in-Ok.ensures in
    omega arith

pub returns-then-is_tight : goal.returns-then-is_tight
returns-then-is_tight c =
    let a = c.args in
    let h = handed a.table.now a.symbols.now a.lengths.now a.definitions.now in
    let known = both_known a.limit a.edition c.in_default.ensures in
    shared_tight a.limit a.edition h a.opened.now a.out.now a.steps.now a.work.now known.0 known.1
    (opens_to a.limit h c.in-Ok.p c.in-Ok.ensures)
    c.refused-then-is_tight.result c.refused-then-is_tight.ensures (sym c.if-is_tight.true ∙ c.is_tight.ensures)

-- where the areas have room
has_room : (c : Else-is_tight) → 16 * c.in-Ok.p.weight ≤ length c.args.opened.now
has_room c =
    let a = c.args in
    roomy a.limit c.in-Ok.p.weight (length a.opened.now) (length a.out.now) (length a.steps.now) (length a.work.now)
    (sym c.if-is_tight.false ∙ c.is_tight.ensures)

pub open_records-e-requires : goal.open_records-e-requires
open_records-e-requires c =
    let a = c.args in
    let h = handed a.table.now a.symbols.now a.lengths.now a.definitions.now in
    let p = c.in-Ok.p in
    let k = openable a.limit h p c.in-Ok.ensures a.opened.now (has_room (goal.at.open_records-e-requires c).Else-is_tight) in
    (definitions_of h, length h.symbols, tree_in h.table, (opens_to a.limit h p c.in-Ok.ensures).tree, k)

-- where the opened table is written
written : (c : After-open_records-e)
    → let a = c.args in
    let h = handed a.table.now a.symbols.now a.lengths.now a.definitions.now in
    Holding (opens_to a.limit h c.in-Ok.p c.in-Ok.ensures).tree 0 c.open_records-e.result a.opened.now c.open_records-e.new.area
written c =
    let a = c.args in
    let h = handed a.table.now a.symbols.now a.lengths.now a.definitions.now in
    let p = c.in-Ok.p in
    let r = roomy a.limit p.weight (length a.opened.now) (length a.out.now) (length a.steps.now) (length a.work.now)
    (sym c.if-is_tight.false ∙ c.is_tight.ensures) in
    let k = openable a.limit h p c.in-Ok.ensures a.opened.now r in
    c.open_records-e.ensures (definitions_of h) (length h.symbols) (tree_in h.table) (opens_to a.limit h p c.in-Ok.ensures).tree k

pub overflow_mul-end : goal.overflow_mul-end
overflow_mul-end c =
    let a = c.args in
    let h = handed a.table.now a.symbols.now a.lengths.now a.definitions.now in
    let o = opens_to a.limit h c.in-Ok.p c.in-Ok.ensures in
    let l = small a.limit h c.in-Ok.p c.in-Ok.ensures in
    let q = o.ready.weighs in
    let r = records_weight o.tree in
    let e = (written (goal.at.overflow_mul-end c).After-open_records-e).end in
    omega arith

pub slice_bounds-simplify-end : goal.slice_bounds-simplify-end
slice_bounds-simplify-end c =
    let a = c.args in
    let h = handed a.table.now a.symbols.now a.lengths.now a.definitions.now in
    let o = opens_to a.limit h c.in-Ok.p c.in-Ok.ensures in
    let q = o.ready.weighs in
    let r = records_weight o.tree in
    let l = encode_length o.tree in
    let w = written (goal.at.slice_bounds-simplify-end c).After-open_records-e in
    let e = w.end in
    let room = roomy a.limit c.in-Ok.p.weight (length a.opened.now) (length a.out.now) (length a.steps.now) (length a.work.now)
    (sym c.if-is_tight.false ∙ c.is_tight.ensures) in
    let k = ap length w.there ∙ length_put a.opened.now (0 * 16) (encode o.tree) (omega arith) in
    omega arith

-- an answer of the simplifier, beside the area
abbrev beside : List ℕ → Given → SharedGiven
beside xs g = record { given = g; area = xs }

pub returns : goal.returns
returns c =
    let a = c.args in
    let h = handed a.table.now a.symbols.now a.lengths.now a.definitions.now in
    let known = both_known a.limit a.edition c.in_default.ensures in
    let o = opens_to a.limit h c.in-Ok.p c.in-Ok.ensures in
    let r = c.open_records-e in
    let w = written (goal.at.returns c).After-open_records-e in
    let l = lent a.out.now a.steps.now a.work.now in
    ap (beside r.new.area)
    (c.simplify.ensures ∙ ap (λ (x : List ℕ). simplified a.limit a.edition x l) (table_of o.tree r.result a.opened.now r.new.area w))
    ∙ shared_done a.limit a.edition h a.opened.now a.out.now a.steps.now a.work.now known.0 known.1 o r.new.area r.result
    (sym c.if-is_tight.false ∙ c.is_tight.ensures) w
