-- `driver::drive_tree`: each turn is one level down and back (Levels). The numbers of the node that a level keeps are those that are put back.
use mathlib.Core.Path.{refl, sym, ◌∙◌, subst}
use native.Mathlib.Omega.{arith}
use Rattle.std.proofs.lemmas.Result.{err_from_is_err_and}
use Rattle.driver.specs.Paused.{call, Reached}
use Rattle.driver.proofs.Between.{tries_now, lighter_now}
use Rattle.driver.proofs.Levels.{member_called, member_fell, goes_on, more_tries}
use Rattle.driver.proofs.+drive_tree.Goals as goal

pub returns-in_err-end-clause-drives : goal.returns-in_err-end-clause-drives
returns-in_err-end-clause-drives t c =
    let w = c.args.w.now in
    let left = err_from_is_err_and c.from_residual.result c.from_residual.ensures.1 in
    λ x r v. rw (left.1, left.2) (c.in_err-end.ensures.went (call w.out.now w.work.now w.steps.now w.stand x r) (refl, v))

pub loop-w-init : goal.loop-w-init
loop-w-init t c =
    let w = c.args.w.now in
    let k = c.go_on.ensures.same_lengths in
    record {
      level =
          record {
            on = λ x r v. c.in_ok-end.ensures.went (call w.out.now w.work.now w.steps.now w.stand x r) (refl, v);
            out_long = k.0;
            work_long = k.1;
            steps_long = k.2;
          };
      end_is = c.in_ok-end.ensures.onward.0;
      same_references = c.go_on.ensures.same_references;
    }

pub drive_tree-requires : goal.drive_tree-requires
drive_tree-requires t c =
    let l = c.loop-w-test.true in
    let v = (c.loop-w.invariant.level.on c.requires.0 c.requires.1 c.requires.2).waits l in
    (omega (arith, lighter_now v), (_, _, member_called v l))

pub returns-in_err-member-clause-drives : goal.returns-in_err-member-clause-drives
returns-in_err-member-clause-drives t c =
    let l = c.loop-w-test.true in
    let left = err_from_is_err_and c.from_residual-in_err-member.result c.from_residual-in_err-member.ensures.1 in
    λ x r h.
    let v = (c.loop-w.invariant.level.on x r h).waits l in
    rw (left.1, left.2) (member_fell v l c.in_err-member.field-0.0.steps (c.in_err-member.ensures.drives _ _ (member_called v l)))

pub returns-in_err-member-clause-same_lengths : goal.returns-in_err-member-clause-same_lengths
returns-in_err-member-clause-same_lengths t c =
    let a = c.loop-w.invariant.level in
    let d = c.drive_tree.ensures.same_lengths in
    (d.0 ∙ a.out_long, d.1 ∙ a.work_long, d.2 ∙ a.steps_long)

pub returns-in_err-member-clause-same_references : goal.returns-in_err-member-clause-same_references
returns-in_err-member-clause-same_references t c =
    let a = c.loop-w.invariant.same_references in
    let d = c.drive_tree.ensures.same_references in
    (d.0 ∙ a.0, d.1 ∙ a.1, d.2 ∙ a.2)

pub go_on-requires-in-loop-w : goal.go_on-requires-in-loop-w
go_on-requires-in-loop-w t c =
    let l = c.loop-w-test.true in
    let v = (c.loop-w.invariant.level.on c.requires.0 c.requires.1 c.requires.2).waits l in
    let k = c.drive_tree.ensures.same_lengths in
    (_, goes_on v l (c.in_ok-member.ensures.drives _ _ (member_called v l)) k.0 k.1 k.2)

pub returns-in_err-end-2-clause-drives : goal.returns-in_err-end-2-clause-drives
returns-in_err-end-2-clause-drives t c =
    let l = c.loop-w-test.true in
    let k = c.drive_tree.ensures.same_lengths in
    let left = err_from_is_err_and c.from_residual-in_err-end-2.result c.from_residual-in_err-end-2.ensures.1 in
    λ x r h.
    let v = (c.loop-w.invariant.level.on x r h).waits l in
    rw (left.1, left.2)
    (c.in_err-end-2.ensures.went _ (goes_on v l (c.in_ok-member.ensures.drives _ _ (member_called v l)) k.0 k.1 k.2))

pub returns-in_err-end-2-clause-same_lengths : goal.returns-in_err-end-2-clause-same_lengths
returns-in_err-end-2-clause-same_lengths t c =
    let a = c.loop-w.invariant.level in
    let d = c.drive_tree.ensures.same_lengths in
    let k = c.go_on-in-loop-w.ensures.same_lengths in
    (k.0 ∙ d.0 ∙ a.out_long, k.1 ∙ d.1 ∙ a.work_long, k.2 ∙ d.2 ∙ a.steps_long)

pub returns-in_err-end-2-clause-same_references : goal.returns-in_err-end-2-clause-same_references
returns-in_err-end-2-clause-same_references t c =
    let a = c.loop-w.invariant.same_references in
    let d = c.drive_tree.ensures.same_references in
    let k = c.go_on-in-loop-w.ensures.same_references in
    (k.0 ∙ d.0 ∙ a.0, k.1 ∙ d.1 ∙ a.1, k.2 ∙ d.2 ∙ a.2)

pub loop-w-smaller : goal.loop-w-smaller
loop-w-smaller t c =
    let l = c.loop-w-test.true in
    let v = (c.loop-w.invariant.level.on c.requires.0 c.requires.1 c.requires.2).waits l in
    let m = c.in_ok-member.ensures.drives _ _ (member_called v l) in
    omega (arith, tries_now v, more_tries v l m, c.in_ok-end-2.ensures.onward.1.tries)

pub loop-w-preserved : goal.loop-w-preserved
loop-w-preserved t c =
    let l = c.loop-w-test.true in
    let was = c.loop-w.invariant in
    let a = was.level in
    let b = was.same_references in
    let d = c.drive_tree.ensures in
    let k = c.go_on-in-loop-w.ensures in
    record {
      level =
          record {
            on = λ x r h.
                let v = (a.on x r h).waits l in
                let m = c.in_ok-member.ensures.drives _ _ (member_called v l) in
                c.in_ok-end-2.ensures.went _ (goes_on v l m d.same_lengths.0 d.same_lengths.1 d.same_lengths.2);
            out_long = k.same_lengths.0 ∙ d.same_lengths.0 ∙ a.out_long;
            work_long = k.same_lengths.1 ∙ d.same_lengths.1 ∙ a.work_long;
            steps_long = k.same_lengths.2 ∙ d.same_lengths.2 ∙ a.steps_long;
          };
      end_is = c.in_ok-end-2.ensures.onward.0;
      same_references = (
        k.same_references.0 ∙ d.same_references.0 ∙ b.0,
        k.same_references.1 ∙ d.same_references.1 ∙ b.1,
        k.same_references.2 ∙ d.same_references.2 ∙ b.2,
      );
    }

pub returns-clause-drives : goal.returns-clause-drives
returns-clause-drives t c =
    let g = c.args.w.now in
    let w = c.loop-w.w in
    let i = c.loop-w.invariant in
    λ x r h.
    subst (λ e. Reached (call g.out.now g.work.now g.steps.now g.stand x r) w.out.now w.work.now w.steps.now w.stand e) (sym i.end_is)
    ((i.level.on x r h).ends c.loop-w-test.false)

pub returns-clause-same_lengths : goal.returns-clause-same_lengths
returns-clause-same_lengths t c = let a = c.loop-w.invariant.level in (a.out_long, a.work_long, a.steps_long)

pub returns-clause-same_references : goal.returns-clause-same_references
returns-clause-same_references t c = c.loop-w.invariant.same_references
