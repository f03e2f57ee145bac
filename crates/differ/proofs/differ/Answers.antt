-- `differ::differ` meets its contract: each return is one law of DifferedLaws, on what was found out before it.
use Rattle.std.proofs.Common.{sym, arith}
use Rattle.paper.proofs.BytesLaws.{are_bytes}
use Rattle.record.specs.Flaw.{flaw_of}
use Rattle.table.specs.Refusals.{number_of, place_of, flaw_in}
use Rattle.table.proofs.RefusalLaws.{some_number}
use Rattle.differ.proofs.DifferedLaws.{limit_refused, first_refused, second_refused, list_refused, none_refused, both_accepted}
use Rattle.differ.proofs.differ.Goals as goal

pub returns-then-not-is_limit : goal.returns-then-not-is_limit
returns-then-not-is_limit c = limit_refused _ _ _ _ (sym c.if-not-is_limit.ensures)

pub returns-in-Err : goal.returns-in-Err
returns-in-Err c =
    let r = c.in-Err.refusal in
    first_refused _ (sym c.if-not-is_limit.ensures) _ _ _ (number_of r) (place_of r) (flaw_of (flaw_in r)) c.in-Err.ensures (some_number r)

pub returns-in-Err-check : goal.returns-in-Err-check
returns-in-Err-check c =
    let r = c.in-Err-check.refusal in
    second_refused _ (sym c.if-not-is_limit.ensures) _ _ _ (number_of r) (place_of r) (flaw_of (flaw_in r))
    (sym c.in_default.ensures) c.in-Err-check.ensures (some_number r)

pub write_pairs-pairs-requires : goal.write_pairs-pairs-requires
write_pairs-pairs-requires c =
    both_accepted c.args.limit _ _ (are_bytes _ c.type_inv.a) (are_bytes _ c.type_inv.b) (sym c.in_default.ensures) (sym c.in_default-check.ensures)

pub returns-then-list-pairs : goal.returns-then-list-pairs
returns-then-list-pairs c =
    list_refused _ (sym c.if-not-is_limit.ensures) _ _ _ (sym c.in_default.ensures) (sym c.in_default-check.ensures)
    _ c.write_pairs-pairs.ensures.all c.if-list-pairs.true

pub write_pairs-requires : goal.write_pairs-requires
write_pairs-requires c =
    both_accepted c.args.limit _ _ (are_bytes _ c.type_inv.a) (are_bytes _ c.type_inv.b) (sym c.in_default.ensures) (sym c.in_default-check.ensures)

pub returns : goal.returns
returns c =
    let pairs = c.write_pairs-pairs in
    none_refused _ (sym c.if-not-is_limit.ensures) _ _ _ (sym c.in_default.ensures) (sym c.in_default-check.ensures)
    _ pairs.ensures.all c.if-list-pairs.false
    c.write_pairs.new.list (c.write_pairs.ensures.written (omega (arith, pairs.ensures.all, c.if-list-pairs.false)))
