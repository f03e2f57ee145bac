-- `rules::members::copy_kept`: a turn takes the first of the members left, copies it where it is to be kept, and passes on; when none is left all that is
-- kept stands in `out`, and is put back.
use Prim.Native.Nat.{ℕ, ◌+◌, ◌-◌, ◌<◌}
use mathlib.Core.Path.{◌≡◌, sym, ◌∙◌, subst}
use mathlib.Core.List.{List}
use native.Mathlib.Omega.{arith}
use lib.ListN.{length}
use Rattle.paper.specs.Tree.{Tree, Forest, records, to_list}
use Rattle.note.specs.Note.{note}
use Rattle.split.specs.Standing.{Told}
use Rattle.rules.specs.Tried.{Held}
use Rattle.rules.proofs.Dropping.{dropped_light, held_length, kept, Dropping, Room, begins, head, some_member, room, passes, keeps, ends}
use Rattle.rules.proofs.Puts.{put_follows}
use Rattle.rules.proofs.members.copy_kept.Goals as goal
use Rattle.rules.proofs.members.copy_kept.Goals.{then-not-is_the, else-not-is_the}

pub mark-mark-requires : goal.mark-mark-requires
mark-mark-requires c = omega (arith, held_length c.requires.0.2)

pub overflow_add-at : goal.overflow_add-at
overflow_add-at c = omega (arith, held_length c.requires.0.2)

pub count-end-requires : goal.count-end-requires
count-end-requires c = omega (arith, held_length c.requires.0.2)

pub loop-init : goal.loop-init
loop-init c = λ f rest h. begins h (omega (arith, c.count-end.ensures.0))

pub skip_tree-next-requires : goal.skip_tree-next-requires
skip_tree-next-requires c =
    let h = c.requires.0.2 in
    let some : 0 < c.count-end.result - c.loop.counter = omega (arith, c.loop-test.true) in
    some_member h (c.loop.invariant _ _ h) some

pub is_the-requires : goal.is_the-requires
is_the-requires c =
    let h = c.requires.0.2 in
    let some : 0 < c.count-end.result - c.loop.counter = omega (arith, c.loop-test.true) in
    (some_member h (c.loop.invariant _ _ h) some, c.requires.1)

-- there is room for the member that is next
member_room : {z : ℕ} {o₀ w : List ℕ} {d p : ℕ} {f : Forest} {rest : List ℕ} (h : Held o₀ w d p f rest) {o : List ℕ} {at left e n next : ℕ}
    → Dropping z o₀ w d p f rest o at left e n → 0 < left → ((t : Tree) → Told note w at t → next ≡ at + records t) → length o ≡ length o₀
    → Room o₀ w o at next e n
member_room h v some ends long = let t = head h v some in room h v some _ (ends t.tree t.there) long

pub overflow_mul-e : goal.overflow_mul-e
overflow_mul-e c =
    let h = c.requires.0.2 in
    let some : 0 < c.count-end.result - c.loop.counter = omega (arith, c.loop-test.true) in
    let r = member_room h (c.loop.invariant _ _ h) some (c.skip_tree-next.ensures note) c.loop.auto.out in
    record { fits = omega (arith, r.written) }

pub overflow_mul-at : goal.overflow_mul-at
overflow_mul-at c =
    let h = c.requires.0.2 in
    let some : 0 < c.count-end.result - c.loop.counter = omega (arith, c.loop-test.true) in
    let r = member_room h (c.loop.invariant _ _ h) some (c.skip_tree-next.ensures note) c.loop.auto.out in
    record { fits = omega (arith, r.forward, r.read) }

pub overflow_sub-next : goal.overflow_sub-next
overflow_sub-next c =
    let h = c.requires.0.2 in
    let some : 0 < c.count-end.result - c.loop.counter = omega (arith, c.loop-test.true) in
    (member_room h (c.loop.invariant _ _ h) some (c.skip_tree-next.ensures note) c.loop.auto.out).forward

pub overflow_mul-next : goal.overflow_mul-next
overflow_mul-next c =
    let h = c.requires.0.2 in
    let some : 0 < c.count-end.result - c.loop.counter = omega (arith, c.loop-test.true) in
    let r = member_room h (c.loop.invariant _ _ h) some (c.skip_tree-next.ensures note) c.loop.auto.out in
    record { fits = omega (arith, r.read) }

pub copy_bytes-requires : goal.copy_bytes-requires
copy_bytes-requires c =
    let h = c.requires.0.2 in
    let some : 0 < c.count-end.result - c.loop.counter = omega (arith, c.loop-test.true) in
    let r = member_room h (c.loop.invariant _ _ h) some (c.skip_tree-next.ensures note) c.loop.auto.out in
    (omega (arith, r.long, r.written), omega (arith, r.forward, r.read))

pub overflow_sub-e : goal.overflow_sub-e
overflow_sub-e c =
    let h = c.requires.0.2 in
    let some : 0 < c.count-end.result - c.loop.counter = omega (arith, c.loop-test.true) in
    (member_room h (c.loop.invariant _ _ h) some (c.skip_tree-next.ensures note) c.loop.auto.out).forward

pub overflow_add-e-then-not-is_the : goal.overflow_add-e-then-not-is_the
overflow_add-e-then-not-is_the c =
    let h = c.requires.0.2 in
    let some : 0 < c.count-end.result - c.loop.counter = omega (arith, c.loop-test.true) in
    let r = member_room h (c.loop.invariant _ _ h) some (c.skip_tree-next.ensures note) c.loop.auto.out in
    record { fits = omega (arith, r.written) }

pub overflow_add-kept : goal.overflow_add-kept
overflow_add-kept c =
    let h = c.requires.0.2 in
    let some : 0 < c.count-end.result - c.loop.counter = omega (arith, c.loop-test.true) in
    let r = member_room h (c.loop.invariant _ _ h) some (c.skip_tree-next.ensures note) c.loop.auto.out in
    record { fits = omega (arith, r.few, r.written) }

pub loop-preserved : goal.loop-preserved
loop-preserved c =
    let g = c.args in
    let end = c.count-end.result in
    let next = c.skip_tree-next in
    let some : 0 < end - c.loop.counter = omega (arith, c.loop-test.true) in
    let fewer : end - c.loop.counter - 1 ≡ end - (c.loop.counter + 1) = omega arith in
    elim c.if-not-is_the.branch [
      | then-not-is_the w ↦ λ f rest h.
          let v = c.loop.invariant f rest h in
          let t = head h v some in
          let other = sym (c.is_the.ensures t.tree t.there) ∙ w.if-not-is_the.true in
          rw (w.out-is, w.e-is, w.kept-is)
          (subst (λ n. Dropping g.z g.out.now g.work.now g.d g.p f rest w.copy_bytes.new.dst next.result n
          (c.loop.e + (next.result - c.loop.at)) (c.loop.kept + 1)) fewer
          (keeps h v some next.result (next.ensures note t.tree t.there) c.loop.auto.out w.copy_bytes.new.dst other w.copy_bytes.ensures))
      | else-not-is_the w ↦ λ f rest h.
          let v = c.loop.invariant f rest h in
          let t = head h v some in
          let it = sym (c.is_the.ensures t.tree t.there) ∙ w.if-not-is_the.false in
          rw (w.out-is, w.e-is, w.kept-is)
          (subst (λ n. Dropping g.z g.out.now g.work.now g.d g.p f rest c.loop.out next.result n c.loop.e c.loop.kept) fewer
          (passes h v some next.result (next.ensures note t.tree t.there) c.loop.auto.out it))
    ]

pub put_back-requires : goal.put_back-requires
put_back-requires c =
    let g = c.args in
    let h = c.requires.0.2 in
    let e = ends h c.loop.auto.out (c.loop.invariant _ _ h) (omega (arith, c.loop-test.false)) in
    let light = dropped_light g.sum c.mark-mark.result g.z c.requires.0.0 c.mark-mark.ensures.1 h.wf h.light in
    ((_, e.built, e.many, light), e.short, e.within)

pub returns : goal.returns
returns c =
    let g = c.args in
    λ f rest h.
    let e = ends h c.loop.auto.out (c.loop.invariant f rest h) (omega (arith, c.loop-test.false)) in
    let light = dropped_light g.sum c.mark-mark.result g.z f c.mark-mark.ensures.1 h.wf h.light in
    put_follows (c.put_back.ensures (kept g.z (to_list f)) e.built e.many light) c.mark-mark.ensures.0 e.follow e.done
