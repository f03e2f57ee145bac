-- The digits are put into an array from its end on, the lowest first, and copied where they fit.
use Rattle.std.proofs.Common.{arith, rules, length-set}
use Rattle.decimal.proofs.SpellLaws.{begin_spelling, spell_turn, no_room_lem, room}
use Rattle.decimal.proofs.spell_number.Goals as goal

pub loop-w-init : goal.loop-w-init
loop-w-init c = begin_spelling c.args.v (search rules)

pub loop-w-smaller : goal.loop-w-smaller
loop-w-smaller c = let s = c.loop-w.invariant.some in omega (arith, s)

pub loop-w-preserved : goal.loop-w-preserved
loop-w-preserved c = let l = c.loop-w in spell_turn c.args.v l.b l.i l.w c.loop-w-test.true l.invariant

pub returns-then-out-at : goal.returns-then-out-at
returns-then-out-at c =
    let a = c.args in
    let l = c.loop-w in
    no_room_lem a.v l.b l.i l.w a.out.now _ a.at c.loop-w-test.false l.invariant c.if-out-at.true

pub copy_bytes-requires : goal.copy_bytes-requires
copy_bytes-requires c =
    let l = c.loop-w in
    let f = l.invariant.few in
    let e = l.invariant.long in
    (omega arith, simp length-set (omega (arith, e, f)))

pub returns : goal.returns
returns c =
    let a = c.args in
    let l = c.loop-w in
    room a.v l.b l.i l.w a.out.now c.copy_bytes.new.dst a.at c.loop-w-test.false l.invariant c.copy_bytes.ensures
