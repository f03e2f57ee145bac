-- `simplify::simplify_in` meets its contract: each return is one law of Calling, on the refusal of the call, the checker's answer and the test of
-- the areas; where the call is refused, the areas are as they were, and stay so when `work` is cleared.
use Rattle.std.proofs.Common.{sym, ◌∙◌, arith}
use Rattle.paper.proofs.LimitLaws.{limit_small}
use Rattle.paper.proofs.BytesLaws.{are_bytes}
use Rattle.simplify.proofs.Calling.{Accepted, as_left, called_off, both_known, turned_down, light, cramped, rooms, tree, lending, ran}
use Rattle.simplify.proofs.simplify_in.Goals as goal
use Rattle.simplify.proofs.simplify_in.Goals.{After-work_bytes-need}

-- where the call is accepted: what was found so far
accepted : (c : After-work_bytes-need)
    → let g = c.args in
    Accepted g.limit g.edition g.table.now c.in-Ok.w c.work_bytes-need.result g.out.now g.steps.now g.work.now
accepted c =
    let known = both_known c.args.limit c.args.edition c.in_default.ensures in
    record {
      limited = known.0;
      known = known.1;
      asks = c.work_bytes-need.ensures;
      says_so = c.in-Ok.ensures;
      bytes = are_bytes c.args.table.now c.type_inv.table;
      roomy = sym c.is_cramped.ensures ∙ c.if-is_cramped.false;
    }

pub returns-in-Err : goal.returns-in-Err
returns-in-Err c =
    let g = c.args in
    as_left g.limit g.edition g.table.now (are_bytes g.table.now c.type_inv.table) c.refused.result g.out.now g.steps.now g.work.now g.out.now g.steps.now
    (called_off g.limit g.edition c.in-Err.refusal c.in-Err.ensures g.table.now c.refused.result g.out.now g.steps.now g.work.now c.refused.ensures)

pub returns-in-Err-weight : goal.returns-in-Err-weight
returns-in-Err-weight c =
    let g = c.args in
    let known = both_known g.limit g.edition c.in_default.ensures in
    let r = c.refused-in-Err-weight in
    as_left g.limit g.edition g.table.now (are_bytes g.table.now c.type_inv.table) r.result g.out.now g.steps.now g.work.now g.out.now g.steps.now
    (turned_down g.limit known.0 g.table.now g.edition known.1 c.in-Err-weight.refusal c.in-Err-weight.ensures
    r.result g.out.now g.steps.now g.work.now r.ensures)

pub is_cramped-requires : goal.is_cramped-requires
is_cramped-requires c =
    let g = c.args in
    let known = both_known g.limit g.edition c.in_default.ensures in
    let l = light g.limit known.0 g.table.now c.in-Ok.w c.in-Ok.ensures (are_bytes g.table.now c.type_inv.table) in
    let m = limit_small g.limit known.0 in
    omega arith

pub returns-then-is_cramped : goal.returns-then-is_cramped
returns-then-is_cramped c =
    let g = c.args in
    let known = both_known g.limit g.edition c.in_default.ensures in
    let r = c.refused-then-is_cramped in
    as_left g.limit g.edition g.table.now (are_bytes g.table.now c.type_inv.table) r.result g.out.now g.steps.now g.work.now g.out.now g.steps.now
    (cramped g.limit known.0 g.table.now c.in-Ok.w c.in-Ok.ensures g.edition known.1 r.result g.out.now g.steps.now g.work.now
    (sym c.is_cramped.ensures ∙ c.if-is_cramped.true) r.ensures)

pub overflow_mul-end : goal.overflow_mul-end
overflow_mul-end c =
    let g = c.args in
    let known = both_known g.limit g.edition c.in_default.ensures in
    let l = light g.limit known.0 g.table.now c.in-Ok.w c.in-Ok.ensures (are_bytes g.table.now c.type_inv.table) in
    let m = limit_small g.limit known.0 in
    omega arith

pub slice_bounds-run-end : goal.slice_bounds-run-end
slice_bounds-run-end c = omega (arith, (rooms (accepted (goal.at.slice_bounds-run-end c).After-work_bytes-need)).0)

pub slice_bounds-run-end-2 : goal.slice_bounds-run-end-2
slice_bounds-run-end-2 c = omega (arith, (rooms (accepted (goal.at.slice_bounds-run-end-2 c).After-work_bytes-need)).1)

pub slice_bounds-run-end-3 : goal.slice_bounds-run-end-3
slice_bounds-run-end-3 c = omega (arith, (rooms (accepted (goal.at.slice_bounds-run-end-3 c).After-work_bytes-need)).2)

pub run-requires : goal.run-requires
run-requires c =
    let call = accepted (goal.at.run-requires c).After-work_bytes-need in
    (tree call, lending call)

pub returns : goal.returns
returns c =
    let call = accepted (goal.at.returns c).After-work_bytes-need in
    let r = c.run in
    ran call r.result r.new.out r.new.steps r.new.work (r.ensures (tree call) (lending call)) r.auto.work
