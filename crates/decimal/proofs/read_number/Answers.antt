-- Where a digit stands, and where none does, is told by `digit_at`; the laws of reading a number tell the rest.
use Rattle.std.proofs.Common.{sym, arith}
use Rattle.paper_text.proofs.PlaceLaws.{digit_at}
use Rattle.decimal.proofs.ReadLaws.{no_number, leading_nought, sound_other, sound_alone, begin_digits, one_digit}
use Rattle.decimal.proofs.ReadLaws.{too_great, is_number, reaches_bound, moved_on}
use Rattle.decimal.proofs.read_number.Goals as goal
use Rattle.decimal.proofs.read_number.Goals.{else-text-at-eq48-via-then-text-at-eq48+else-digit_at, else-text-at-eq48-via-else-text-at-eq48}

pub returns-then-not-digit_at : goal.returns-then-not-digit_at
returns-then-not-digit_at c = no_number c.args.bound c.args.text.now c.args.at (sym c.if-not-digit_at.ensures)

pub bounds-text-at : goal.bounds-text-at
bounds-text-at c = (digit_at c.args.text.now c.args.at (sym c.if-not-digit_at.ensures)).inside

pub returns-then-digit_at : goal.returns-then-digit_at
returns-then-digit_at c =
    leading_nought c.args.bound c.args.text.now c.args.at (sym c.if-not-digit_at.ensures) c.if-text-at-eq48.true (sym c.if-digit_at.ensures)

pub loop-at-init : goal.loop-at-init
loop-at-init c =
    let d = sym c.if-not-digit_at.ensures in
    record {
      sound =
          elim c.else-text-at-eq48.branch [
            | else-text-at-eq48-via-then-text-at-eq48+else-digit_at w ↦ sound_alone c.args.text.now c.args.at d (sym w.if-digit_at.ensures)
            | else-text-at-eq48-via-else-text-at-eq48 w ↦ sound_other c.args.text.now c.args.at d w.if-text-at-eq48.false
          ];
      so_far = begin_digits c.args.text.now c.args.at d;
    }

pub returns-then-most-v : goal.returns-then-most-v
returns-then-most-v c =
    let k = c.loop-at.invariant in
    too_great c.args.bound c.args.text.now c.args.at c.loop-at.v c.loop-at.e k.sound k.so_far (sym c.loop-at-test.ensures) c.if-most-v.true

pub bounds-text-e : goal.bounds-text-e
bounds-text-e c = (digit_at c.args.text.now c.loop-at.e (sym c.loop-at-test.ensures)).inside

pub overflow_sub-text : goal.overflow_sub-text
overflow_sub-text c = (digit_at c.args.text.now c.loop-at.e (sym c.loop-at-test.ensures)).least

pub loop-at-smaller : goal.loop-at-smaller
loop-at-smaller c = let h = (digit_at c.args.text.now c.loop-at.e (sym c.loop-at-test.ensures)).inside in omega (arith, h)

pub loop-at-preserved : goal.loop-at-preserved
loop-at-preserved c =
    let k = c.loop-at.invariant in
    record {
      sound = k.sound;
      so_far = rw c.from.ensures (one_digit c.args.text.now c.args.at c.loop-at.v c.loop-at.e k.so_far (sym c.loop-at-test.ensures));
    }

pub returns-then-v-bound : goal.returns-then-v-bound
returns-then-v-bound c =
    let k = c.loop-at.invariant in
    let d = sym c.loop-at-test.ensures in
    is_number c.args.bound c.args.text.now c.args.at c.loop-at.v c.loop-at.e k.sound k.so_far d c.if-v-bound.true
    (moved_on c.args.text.now c.args.at c.loop-at.v c.loop-at.e k.sound k.so_far d)

pub returns-else-v-bound : goal.returns-else-v-bound
returns-else-v-bound c =
    let k = c.loop-at.invariant in
    reaches_bound c.args.bound c.args.text.now c.args.at c.loop-at.v c.loop-at.e k.sound k.so_far (sym c.loop-at-test.ensures) c.if-v-bound.false
