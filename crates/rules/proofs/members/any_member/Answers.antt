-- `rules::members::any_member`: a turn asks the first of the members left. Where it is the integer one of all is, and else the others are left.
use Prim.Native.Nat.{◌-◌, ◌<◌}
use mathlib.Core.Path.{sym, ◌∙◌}
use native.Mathlib.Omega.{arith}
use Rattle.note.specs.Note.{note}
use Rattle.rules.proofs.Nodes.{node_within}
use Rattle.rules.proofs.Finding.{all_left, none_left, head, some_left, found, passed}
use Rattle.rules.proofs.members.any_member.Goals as goal

pub overflow_add-at : goal.overflow_add-at
overflow_add-at c = let f = c.requires.0 in omega (arith, node_within _ _ f.0 f.1)

pub count-end-requires : goal.count-end-requires
count-end-requires c = let f = c.requires.0 in omega (arith, node_within _ _ f.0 f.1)

pub loop-init : goal.loop-init
loop-init c = λ f h. all_left c.args.z h (omega (arith, c.count-end.ensures.0))

pub is_the-requires : goal.is_the-requires
is_the-requires c =
    let q = c.requires.0 in
    let some : 0 < c.count-end.result - c.loop.counter = omega (arith, c.loop-test.true) in
    (some_left (c.loop.invariant q.0 q.1) some, c.requires.1)

pub returns-then-is_the : goal.returns-then-is_the
returns-then-is_the c =
    let some : 0 < c.count-end.result - c.loop.counter = omega (arith, c.loop-test.true) in
    λ f h.
    let v = c.loop.invariant f h in
    let t = head v some in
    sym (found v some (sym (c.is_the.ensures t.tree t.there) ∙ c.if-is_the.true))

pub skip_tree-at-requires : goal.skip_tree-at-requires
skip_tree-at-requires c =
    let q = c.requires.0 in
    let some : 0 < c.count-end.result - c.loop.counter = omega (arith, c.loop-test.true) in
    some_left (c.loop.invariant q.0 q.1) some

pub loop-preserved : goal.loop-preserved
loop-preserved c =
    let some : 0 < c.count-end.result - c.loop.counter = omega (arith, c.loop-test.true) in
    λ f h.
    let v = c.loop.invariant f h in
    let t = head v some in
    passed v some _ _ (sym (c.is_the.ensures t.tree t.there) ∙ c.if-is_the.false) (c.skip_tree-at.ensures note t.tree t.there) (omega arith)

pub returns : goal.returns
returns c = λ f h. sym (none_left (c.loop.invariant f h) (omega (arith, c.loop-test.false)))
