-- `driver::ease`: each answer of the rules is one law of Easing, for the tree that stands there.
use Rattle.std.specs.Prelude.{Ok, Err}
use Rattle.std.proofs.lemmas.Result.{err_from_is_err_and}
use Rattle.driver.proofs.Places.{noted_one}
use Rattle.driver.proofs.Easing.{step_room, eased_none, set_stepped, eased_step}
use Rattle.driver.proofs.ease.Goals as goal

pub bounds-steps-s : goal.bounds-steps-s
bounds-steps-s c = step_room c.args.edition c.requires.2

pub settle-requires-in-Pending : goal.settle-requires-in-Pending
settle-requires-in-Pending c =
    let a = c.combine_gathered-c in
    let p = c.in-Pending in
    let v = c.requires.2 in
    (_, c.requires.1, set_stepped c.args.edition v a.new.out a.new.work a.auto.out a.auto.work p.k p.q (p.ensures _ _ v.ready))

pub returns-in_err-settled-in-Pending : goal.returns-in_err-settled-in-Pending
returns-in_err-settled-in-Pending c =
    let ed = c.args.edition in
    let a = c.combine_gathered-c in
    let p = c.in-Pending in
    let x = c.settle-in-Pending.new in
    let left = err_from_is_err_and c.from_residual-in_err-settled-in-Pending.result c.from_residual-in_err-settled-in-Pending.ensures.1 in
    λ t r v.
    let pending = p.ensures t r v.ready in
    let before = set_stepped ed v a.new.out a.new.work a.auto.out a.auto.work p.k p.q pending in
    rw (left.1, left.2)
    (eased_step ed v a.new.out a.new.work a.auto.out a.auto.work p.k p.q pending x.out x.work x.steps (Err c.in_err-settled-in-Pending.field-0.0)
    (c.in_err-settled-in-Pending.ensures pending.0 r before))

pub bounds-steps-s-in-Quiet : goal.bounds-steps-s-in-Quiet
bounds-steps-s-in-Quiet c = step_room c.args.edition c.requires.2

pub returns-in-Nothing : goal.returns-in-Nothing
returns-in-Nothing c =
    let a = c.combine_gathered-c in
    λ t r v. eased_none c.args.edition v a.new.out a.new.work a.auto.out a.auto.work (c.in-Nothing.ensures t r v.ready)

pub returns-in_ok-settled-in-Pending : goal.returns-in_ok-settled-in-Pending
returns-in_ok-settled-in-Pending c =
    let ed = c.args.edition in
    let a = c.combine_gathered-c in
    let p = c.in-Pending in
    let x = c.settle-in-Pending.new in
    λ t r v.
    let pending = p.ensures t r v.ready in
    let before = set_stepped ed v a.new.out a.new.work a.auto.out a.auto.work p.k p.q pending in
    eased_step ed v a.new.out a.new.work a.auto.out a.auto.work p.k p.q pending x.out x.work x.steps (Ok c.in_ok-settled-in-Pending.settled)
    (c.in_ok-settled-in-Pending.ensures pending.0 r before)

pub returns-in-Quiet : goal.returns-in-Quiet
returns-in-Quiet c =
    let g = c.args in
    λ t r v.
    let quiet = c.in-Quiet.ensures t r v.ready in
    (c.in-Quiet.k, quiet.0, quiet.1, quiet.2, quiet.3, quiet.4, noted_one g.steps.now g.s c.in-Quiet.k (step_room g.edition v), quiet.5)
