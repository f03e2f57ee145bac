-- `rules::members::count_kept`: a turn meets the first of the members left.
use Prim.Native.Nat.{◌+◌, ◌-◌, ◌<◌}
use mathlib.Core.Path.{◌≡◌, sym, ◌∙◌, subst}
use native.Mathlib.Omega.{arith}
use Rattle.note.specs.Note.{note}
use Rattle.rules.proofs.Nodes.{node_within}
use Rattle.rules.proofs.Counting.{Counting, counting_starts, next_one, some_next, counts, skips, counted}
use Rattle.rules.proofs.members.count_kept.Goals as goal
use Rattle.rules.proofs.members.count_kept.Goals.{then-is_the, else-is_the}

pub overflow_add-kept : goal.overflow_add-kept
overflow_add-kept c = let f = c.requires.0 in omega (arith, node_within _ _ f.0 f.1)

pub count-end-requires : goal.count-end-requires
count-end-requires c = let f = c.requires.0 in omega (arith, node_within _ _ f.0 f.1)

pub loop-init : goal.loop-init
loop-init c = record { few = omega arith; counting = λ f h. counting_starts h (omega (arith, c.count-end.ensures.0)) }

pub is_the-requires : goal.is_the-requires
is_the-requires c =
    let q = c.requires.0 in
    let some : 0 < c.count-end.result - c.loop.counter = omega (arith, c.loop-test.true) in
    (some_next (c.loop.invariant.counting q.0 q.1) some, c.requires.1)

pub overflow_add-kept-else-is_the : goal.overflow_add-kept-else-is_the
overflow_add-kept-else-is_the c = omega (arith, c.loop.invariant.few, c.loop-test.true, c.count-end.ensures.1)

pub skip_tree-requires : goal.skip_tree-requires
skip_tree-requires c =
    let q = c.requires.0 in
    let some : 0 < c.count-end.result - c.loop.counter = omega (arith, c.loop-test.true) in
    some_next (c.loop.invariant.counting q.0 q.1) some

pub loop-preserved : goal.loop-preserved
loop-preserved c =
    let s = c.args.s.now in
    let z = c.args.z in
    let end = c.count-end.result in
    let at = c.skip_tree.result in
    let some : 0 < end - c.loop.counter = omega (arith, c.loop-test.true) in
    let fewer : end - c.loop.counter - 1 ≡ end - (c.loop.counter + 1) = omega arith in
    let was = c.loop.invariant in
    elim c.if-is_the.branch [
      | then-is_the w ↦
          rw w.kept-is
          (record {
            few = omega (arith, was.few);
            counting = λ f h.
                let v = was.counting f h in
                let t = next_one v some in
                let it = sym (c.is_the.ensures t.tree t.there) ∙ w.if-is_the.true in
                subst (λ n. Counting s c.args.p z f at n c.loop.kept.many c.loop.kept.last c.loop.kept.end) fewer
                (skips v some at (c.skip_tree.ensures note t.tree t.there) it);
          })
      | else-is_the w ↦
          rw w.kept-is
          (record {
            few = omega (arith, was.few);
            counting = λ f h.
                let v = was.counting f h in
                let t = next_one v some in
                let other = sym (c.is_the.ensures t.tree t.there) ∙ w.if-is_the.false in
                subst (λ n. Counting s c.args.p z f at n (c.loop.kept.many + 1) c.loop.kept.end c.loop.kept.dropped) fewer
                (counts v some at (c.skip_tree.ensures note t.tree t.there) other);
          })
    ]

pub returns : goal.returns
returns c = λ f h. counted (c.loop.invariant.counting f h) (omega (arith, c.loop-test.false))
