-- The first character tells which leaf it is, the law of that leaf the rest.
use Rattle.std.proofs.Common.{◌+◌, ◌^◌, arith, rules, sym}
use Rattle.paper_text.proofs.PlaceLaws.{sign_inside}
use Rattle.parse.proofs.LeafLaws.{number_small, no_symbol, is_symbol, no_negative, minus_nought, is_negative, no_integer, is_integer_lem}
use Rattle.parse.proofs.leaf.Goals as goal

pub overflow_add-at : goal.overflow_add-at
overflow_add-at c =
    let h = sign_inside c.args.text.now c.args.at 115 (sym c.if-sign_at.ensures) in
    search (rules, h)

pub returns-in_default : goal.returns-in_default
returns-in_default c = no_symbol c.args.text.now c.args.at (sym c.if-sign_at.ensures) c.in_default.ensures

pub returns-then-sign_at : goal.returns-then-sign_at
returns-then-sign_at c = rw c.bare.ensures (is_symbol c.args.text.now c.args.at _ _ (sym c.if-sign_at.ensures) c.in-Some.ensures c.put_record.ensures)

pub overflow_add-at-then-sign_at-2 : goal.overflow_add-at-then-sign_at-2
overflow_add-at-then-sign_at-2 c =
    let h = sign_inside c.args.text.now c.args.at 45 (sym c.if-sign_at-2.ensures) in
    search (rules, h)

pub returns-in_default-read_number : goal.returns-in_default-read_number
returns-in_default-read_number c =
    no_negative c.args.text.now c.args.at (sym c.if-sign_at.ensures) (sym c.if-sign_at-2.ensures) c.in_default-read_number.ensures

pub returns-then-v-lt1 : goal.returns-then-v-lt1
returns-then-v-lt1 c =
    minus_nought c.args.text.now c.args.at _ _ c.if-v-lt1.true (sym c.if-sign_at.ensures) (sym c.if-sign_at-2.ensures) c.in-Some-read_number.ensures

pub returns-then-sign_at-2 : goal.returns-then-sign_at-2
returns-then-sign_at-2 c =
    let a = c.args in
    let number = c.in-Some-read_number.ensures in
    let small = number_small (2 ^ 63 + 1) a.text.now (a.at + 1) _ _ (omega arith) number in
    rw c.bare-then-sign_at-2.ensures
    (is_negative a.text.now a.at _ _ c.if-v-lt1.false (sym c.if-sign_at.ensures) (sym c.if-sign_at-2.ensures) number _ (omega (arith, small))
    c.put_record-then-sign_at-2.ensures)

pub returns-in_default-read_number-2 : goal.returns-in_default-read_number-2
returns-in_default-read_number-2 c =
    no_integer c.args.text.now c.args.at (sym c.if-sign_at.ensures) (sym c.if-sign_at-2.ensures) c.in_default-read_number-2.ensures

pub returns : goal.returns
returns c =
    rw c.bare-2.ensures
    (is_integer_lem c.args.text.now c.args.at _ _ (sym c.if-sign_at.ensures) (sym c.if-sign_at-2.ensures) c.in-Some-read_number-2.ensures
    c.put_record-2.ensures)
