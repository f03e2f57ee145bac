-- `stretch::shift_right` meets its contract: the byte that a turn reads lies before those that are put, so it is still the entry's.
use Rattle.std.proofs.Common.{◌≡◌, ◌-◌, refl, sym, arith}
use native.Mathlib.Nat.{add-zero, sub-zero}
use Rattle.std.proofs.Math.ListN.{length-set}
use Rattle.stretch.proofs.Laws.{put_none, part_none, right_turn}
use Rattle.stretch.proofs.shift_right.Goals as goal

pub loop-j-init : goal.loop-j-init
loop-j-init c =
    let z : c.args.n - c.args.n ≡ 0 = omega arith in
    record { few = omega arith; long = refl; done = sym (rw (z, part_none) (put_none _ _)) }

pub loop-j-preserved : goal.loop-j-preserved
loop-j-preserved c =
    let l = c.loop-j in
    record {
      few = omega arith;
      long = simp length-set (omega arith);
      done = rw l.invariant.done (right_turn _ _ _ _ _ (omega arith) (omega arith) (omega arith) (omega arith));
    }

pub returns : goal.returns
returns c =
    let z : c.loop-j.j ≡ 0 = omega arith in
    simp (add-zero, sub-zero) at (rw z at c.loop-j.invariant.done)
