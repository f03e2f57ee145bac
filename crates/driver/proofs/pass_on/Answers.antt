-- `driver::pass_on`: the members are kept up to the next node, and where none is left the pass ends, by the laws of Between.
use mathlib.Core.Path.{◌≡◌, refl, sym, ap, subst}
use native.Mathlib.Omega.{arith}
use Rattle.std.proofs.lemmas.Result.{err_from_is_err_and}
use Rattle.paper.specs.Record.{arity}
use Rattle.driver.specs.Paused.{begun_at, ended_at, Midway, WentOn}
use Rattle.driver.proofs.Between.{onward, onward_both, again_room, again_midway, came_home}
use Rattle.driver.proofs.pass_on.Goals as goal

pub keep_members-k-requires : goal.keep_members-k-requires
keep_members-k-requires c = (c.requires.0, c.loop-k.steps, c.loop-k.invariant.midway c.requires.0 c.requires.1)

pub end_pass-requires : goal.end_pass-requires
end_pass-requires c =
    let x = c.requires.0 in
    (c.if-k-gt0.false, (x, c.keep_members-k.ensures.2 x c.loop-k.steps (c.loop-k.invariant.midway x c.requires.1)))

pub returns-in_err-turn-clause-went : goal.returns-in_err-turn-clause-went
returns-in_err-turn-clause-went c =
    let left = err_from_is_err_and c.from_residual.result c.from_residual.ensures.1 in
    λ x v. rw (left.1, left.2) (c.in_err-turn.ensures x (c.keep_members-k.ensures.2 x c.loop-k.steps (c.loop-k.invariant.midway x v)))

pub returns-in-Finished-clause-onward : goal.returns-in-Finished-clause-onward
returns-in-Finished-clause-onward c =
    let x = c.requires.0 in
    let k = c.keep_members-k in
    let end = c.in-Finished in
    let e : c.ended.result ≡ ended_at k.result end.end end.place end.noted end.tries = c.ended.ensures in
    let turn = rw end.is at (c.in_ok-turn.ensures x (k.ensures.2 x c.loop-k.steps (c.loop-k.invariant.midway x c.requires.1))) in
    onward_both (onward_both c.loop-k.invariant.onward k.ensures.0) (onward k.result e refl turn.1)

pub returns-in-Finished-clause-went : goal.returns-in-Finished-clause-went
returns-in-Finished-clause-went c =
    let k = c.keep_members-k in
    let end = c.in-Finished in
    let r = c.end_pass.new in
    let e : c.ended.result ≡ ended_at k.result end.end end.place end.noted end.tries = c.ended.ensures in
    λ x v.
    let turn = rw end.is at (c.in_ok-turn.ensures x (k.ensures.2 x c.loop-k.steps (c.loop-k.invariant.midway x v))) in
    subst (λ y. WentOn x r.out r.work r.steps y) (sym e) (came_home k.result end.end end.place end.noted end.tries turn.0)

pub begin-s-requires : goal.begin-s-requires
begin-s-requires c =
    let x = c.requires.0 in
    let again = c.in-Again in
    let r = c.end_pass.new in
    let led = c.keep_members-k.ensures.2 x c.loop-k.steps (c.loop-k.invariant.midway x c.requires.1) in
    let room = again_room led r.out r.work r.steps again.place again.noted again.tries (rw again.is at (c.in_ok-turn.ensures x led)) in
    (room.0, room.1, room.2)

pub loop-k-smaller : goal.loop-k-smaller
loop-k-smaller c =
    let x = c.requires.0 in
    let k = c.keep_members-k in
    let again = c.in-Again in
    let r = c.end_pass.new in
    let led = k.ensures.2 x c.loop-k.steps (c.loop-k.invariant.midway x c.requires.1) in
    let turn = rw again.is at (c.in_ok-turn.ensures x led) in
    let e : c.begin-s.result ≡ begun_at k.result again.place again.noted again.tries (arity r.work again.place) = c.begin-s.ensures.0 in
    let more = turn.5 in
    let room = (again_room led r.out r.work r.steps again.place again.noted again.tries turn).3 in
    let noted : c.begin-s.result.noted ≡ again.noted = ap (λ y. y.noted) e in
    omega (arith, k.ensures.1, c.end_pass.auto.steps)

pub loop-k-preserved : goal.loop-k-preserved
loop-k-preserved c =
    let k = c.keep_members-k in
    let again = c.in-Again in
    let r = c.end_pass.new in
    let e : c.begin-s.result ≡ begun_at k.result again.place again.noted again.tries (arity r.work again.place) = c.begin-s.ensures.0 in
    let here = c.requires.0 in
    let led = k.ensures.2 here c.loop-k.steps (c.loop-k.invariant.midway here c.requires.1) in
    record {
      onward =
          onward_both (onward_both c.loop-k.invariant.onward k.ensures.0)
          (onward k.result e refl (rw again.is at (c.in_ok-turn.ensures here led)).6);
      midway = λ x v.
          let at = k.ensures.2 x c.loop-k.steps (c.loop-k.invariant.midway x v) in
          subst (λ y. Midway x c.begin-s.new.out r.work r.steps y) (sym e)
          (again_midway at r.out r.work r.steps again.place again.noted again.tries (rw again.is at (c.in_ok-turn.ensures x at))
          c.begin-s.new.out c.begin-s.ensures.1 c.begin-s.auto.out);
    }
