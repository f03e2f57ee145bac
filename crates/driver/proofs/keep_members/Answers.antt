-- `driver::keep_members`: one that is kept is one more; where one is to be driven scratch alone has changed (Between).
use mathlib.Core.Path.{◌≡◌, refl, sym, ap, ◌∙◌, subst}
use native.Mathlib.Omega.{arith}
use Rattle.driver.specs.Paused.{kept_by, Midway}
use Rattle.driver.proofs.Between.{onward, kept_fits, kept_none, kept_ready, kept_next, kept_still}
use Rattle.driver.proofs.keep_members.Goals as goal

pub loop-i-init : goal.loop-i-init
loop-i-init c = λ x steps v. subst (λ y. Midway x c.args.out.now c.args.work.now steps y) (kept_none c.args.s) v

pub overflow_add-s : goal.overflow_add-s
overflow_add-s c =
    let l = c.loop-i in
    let f = kept_fits c.args.s l.i l.r (l.invariant c.requires.0 c.requires.1 c.requires.2) in
    omega (arith, f.end)

pub overflow_add-s-in-loop-i : goal.overflow_add-s-in-loop-i
overflow_add-s-in-loop-i c =
    let l = c.loop-i in
    let f = kept_fits c.args.s l.i l.r (l.invariant c.requires.0 c.requires.1 c.requires.2) in
    omega (arith, f.place, c.well_formed)

pub keep_member-requires : goal.keep_member-requires
keep_member-requires c =
    let l = c.loop-i in
    kept_ready c.args.s l.i l.r (l.invariant c.requires.0 c.requires.1 c.requires.2) c.loop-i-test.true

pub kept-requires : goal.kept-requires
kept-requires c =
    let l = c.loop-i in
    let f = kept_fits c.args.s l.i l.r (l.invariant c.requires.0 c.requires.1 c.requires.2) in
    let some = c.loop-i-test.true in
    (omega arith, omega (arith, f.place, c.well_formed), f.tries, omega (arith, f.end), omega (arith, f.gathered))

pub returns-in_default : goal.returns-in_default
returns-in_default c =
    let g = c.args in
    let l = c.loop-i in
    let e : c.kept.result ≡ kept_by g.s l.i l.r = c.kept.ensures in (
      onward g.s e refl (omega arith),
      ap (λ x. x.noted) e,
      λ x steps v. subst (λ y. Midway x c.keep_member.new.out g.work.now steps y) (sym e)
          (kept_still g.s l.i l.r (l.invariant x steps v) c.loop-i-test.true c.keep_member.auto.out c.in_default.ensures),
    )

pub overflow_add-r : goal.overflow_add-r
overflow_add-r c =
    let l = c.loop-i in
    let v = l.invariant c.requires.0 c.requires.1 c.requires.2 in
    let f = kept_fits c.args.s _ _ (kept_next c.args.s l.i l.r v c.loop-i-test.true c.keep_member.auto.out c.in-Some.n c.in-Some.ensures) in
    omega (arith, f.end)

pub loop-i-preserved : goal.loop-i-preserved
loop-i-preserved c =
    let l = c.loop-i in
    λ x steps v. kept_next c.args.s l.i l.r (l.invariant x steps v) c.loop-i-test.true c.keep_member.auto.out c.in-Some.n c.in-Some.ensures

pub kept-requires-2 : goal.kept-requires-2
kept-requires-2 c =
    let g = c.args in
    let l = c.loop-i in
    let all : l.i ≡ g.s.left = omega (arith, c.loop-i-test.false, l.auto.i-end) in
    let f = kept_fits g.s l.i l.r (l.invariant c.requires.0 c.requires.1 c.requires.2) in
    (omega arith, omega (arith, f.place, c.well_formed), f.tries, omega (arith, f.end), omega (arith, f.gathered))

pub returns : goal.returns
returns c =
    let g = c.args in
    let l = c.loop-i in
    let all : l.i ≡ g.s.left = omega (arith, c.loop-i-test.false, l.auto.i-end) in
    let e : c.kept-2.result ≡ kept_by g.s l.i l.r = c.kept-2.ensures ∙ ap (λ i. kept_by g.s i l.r) (sym all) in (
      onward g.s e refl (omega arith),
      ap (λ x. x.noted) e,
      λ x steps v. subst (λ y. Midway x l.out g.work.now steps y) (sym e) (l.invariant x steps v),
    )
