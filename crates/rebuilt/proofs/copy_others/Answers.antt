-- An integer is passed over, any other member is copied to where those before it end.
use Rattle.std.proofs.Common.{◌≡◌, ◌+◌, ◌-◌, ◌*◌, ◌<◌, ◌≤◌, length, subst, arith}
use Rattle.paper.specs.Record.{count_in}
use Rattle.paper.specs.Tree.{Tree, of_list, records, recordses}
use Rattle.note.proofs.ToldLaws.{record_within, one_product, some_told}
use Rattle.note.specs.Note.{note}
use Rattle.split.specs.Standing.{Told}
use Rattle.part.proofs.PartLaws.{sized}
use Rattle.rebuilt.proofs.IntegerTests.{ne_other, ne_integer}
use Rattle.rebuilt.proofs.Without.{others, Copying, copying_start, copied_all, copying_tree, copying_past, copying_room, copying_more}
use Rattle.rebuilt.proofs.copy_others.Goals as goal
use Rattle.rebuilt.proofs.copy_others.Goals.{then-ne, else-ne}

pub overflow_add-at : goal.overflow_add-at
overflow_add-at c = record { fits = omega (arith, record_within c.requires.2) }

pub count-end-requires : goal.count-end-requires
count-end-requires c = record_within c.requires.2

pub loop-init : goal.loop-init
loop-init c = λ μ f h r.
    let all : count_in c.args.s.now c.args.i ≡ c.count-end.result - 0 = omega (arith, c.count-end.ensures.0) in
    subst (λ n. Copying c.args.s.now c.args.out.now c.args.m f c.args.out.now c.args.m (c.args.i + 1) n) all (copying_start _ _ h)

pub skip_tree-e-requires : goal.skip_tree-e-requires
skip_tree-e-requires c =
    let q = c.requires in
    some_told (copying_tree (c.loop.invariant q.0 q.1 q.2 q.3) (omega arith)).1

pub at-requires : goal.at-requires
at-requires c =
    let q = c.requires in
    record_within (copying_tree (c.loop.invariant q.0 q.1 q.2 q.3) (omega arith)).1

pub overflow_sub-e : goal.overflow_sub-e
overflow_sub-e c =
    let q = c.requires in
    let t = copying_tree (c.loop.invariant q.0 q.1 q.2 q.3) (omega arith) in
    omega (arith, c.skip_tree-e.ensures note t.0 t.1)

pub copy_tree-requires : goal.copy_tree-requires
copy_tree-requires c =
    let q = c.requires in
    let v = c.loop.invariant q.0 q.1 q.2 q.3 in
    let l : 0 < c.count-end.result - c.loop.counter = omega arith in
    let t = copying_tree v l in
    let ends = c.skip_tree-e.ensures note t.0 t.1 in (
      (t.0, sized _ _ _ t.0 t.1 (omega (arith, ends))),
      omega (
        arith,
        ends,
        copying_room v l
            (ne_other c.at.result _ c.at.ensures.all c.ne.ensures c.if-ne.true) q.3 t.0 t.1,
      ),
    )

pub overflow_sub-to : goal.overflow_sub-to
overflow_sub-to c =
    let q = c.requires in
    let t = copying_tree (c.loop.invariant q.0 q.1 q.2 q.3) (omega arith) in
    omega (arith, c.skip_tree-e.ensures note t.0 t.1)

pub overflow_add-to : goal.overflow_add-to
overflow_add-to c =
    let q = c.requires in
    let v = c.loop.invariant q.0 q.1 q.2 q.3 in
    let l : 0 < c.count-end.result - c.loop.counter = omega arith in
    let t = copying_tree v l in
    record {
      fits = omega (
        arith,
        c.skip_tree-e.ensures note t.0 t.1,
        copying_room v l
            (ne_other c.at.result _ c.at.ensures.all c.ne.ensures c.if-ne.true) q.3 t.0 t.1,
      );
    }

pub loop-preserved : goal.loop-preserved
loop-preserved c = λ μ f h r.
    let v = c.loop.invariant μ f h r in
    let l : 0 < c.count-end.result - c.loop.counter = omega arith in
    let past = c.skip_tree-e in
    let less : c.count-end.result - c.loop.counter - 1 ≡ c.count-end.result - (c.loop.counter + 1) = omega arith in
    let size : (t : Tree) → Told note c.args.s.now c.loop.at t → past.result - c.loop.at ≡ records t = λ t g. omega (arith, past.ensures note t g) in
    subst (λ n. Copying c.args.s.now c.args.out.now c.args.m f c.if-ne.out c.if-ne.to past.result n) less
    (elim c.if-ne.branch [
      | then-ne w ↦
          rw (w.out-is, w.to-is)
          (copying_more v l (ne_other c.at.result _ c.at.ensures.all c.ne.ensures w.if-ne.true) r w.copy_tree.new.out past.result (past.ensures note)
          (λ t g. w.copy_tree.ensures t (sized _ _ _ t g (size t g))))
      | else-ne w ↦ rw (w.out-is, w.to-is) (copying_past v l past.result (past.ensures note)
          (omega (arith, ne_integer c.at.result _ c.at.ensures.all c.ne.ensures w.if-ne.false)))
    ])

-- one product stands there, so the room for one is the room for any
pub returns : goal.returns
returns c μ f h =
    let q = c.requires in
    let same = one_product q.2 h in
    let fit = subst (λ g. (c.args.m + recordses (of_list (others g))) * 16 ≤ length c.args.out.now) same q.3 in
    copied_all (c.loop.invariant μ f h fit) (omega arith)
