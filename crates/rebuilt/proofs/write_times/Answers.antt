-- The code's tests choose one of three members for the coefficient n times the tree of k records. With n = 1 it is the tree with another
-- mark; for a product the same with n after its members, one record more; for any other tree the product of n and the tree, two records
-- more (the laws of Becomes). The contract asks for room for that member, so there is room for the records that are written; and the
-- function that is called puts that member there.
use Rattle.std.proofs.Common.{◌≡◌, ◌-◌, refl, subst, arith}
use Rattle.paper.specs.Tree.{records}
use Rattle.paper.specs.WellFormed.{WF}
use Rattle.record.specs.declared.kinds.Kind.TheVariants.{Product}
use Rattle.record.proofs.KindLaws.{kind_by_number}
use Rattle.note.specs.Note.{note}
use Rattle.note.proofs.ToldLaws.{record_within}
use Rattle.part.specs.Part.{Sized}
use Rattle.part.proofs.PartLaws.{sized}
use Rattle.rebuilt.proofs.Closing.{paired_wf, lengthened_wf}
use Rattle.rebuilt.proofs.Becomes.{room, light, written, one_becomes, longer_becomes, pair_becomes}
use Rattle.rebuilt.proofs.WriteLaws.{is_product, kind_other}
use Rattle.rebuilt.proofs.write_times.Goals as goal

-- ---- with n = 1, the tree
pub copy_marked-requires : goal.copy_marked-requires
copy_marked-requires c =
    let g = c.args in
    let q = c.requires.told in
    let size = c.skip_tree.ensures note q.0 q.1 in
    let one = one_becomes g.mark g.n q.0 {k = c.skip_tree.result - g.i} (omega (arith, size)) c.if-n-eq1.true in
    ((q.0, sized _ _ _ q.0 q.1 (omega (arith, size))), room one g.out.now g.m q.2)

pub returns-then-n-eq1 : goal.returns-then-n-eq1
returns-then-n-eq1 c t h =
    let g = c.args in
    let size = c.skip_tree.ensures note t h in
    let one = one_becomes g.mark g.n t {k = c.skip_tree.result - g.i} (omega (arith, size)) c.if-n-eq1.true in
    written one g.out.now g.m _ _ refl (c.copy_marked.ensures t (sized _ _ _ t h (omega (arith, size))))

pub at-requires : goal.at-requires
at-requires c = record_within c.requires.told.1

-- ---- for a product, the same with n after its members
pub write_longer-requires : goal.write_longer-requires
write_longer-requires c =
    let g = c.args in
    let q = c.requires.told in
    let p = is_product g.s.now g.i q.0 q.1 (omega (arith, c.in-Product.ensures.all)) in
    let size : c.skip_tree.result - g.i ≡ records q.0 = omega (arith, c.skip_tree.ensures note q.0 q.1) in
    let longer = longer_becomes g.mark g.n q.0 size c.ranges.n.fits c.if-n-eq1.false p.is in
    let w = subst WF p.is q.1.wf in (
      (
        p.mark,
        p.members,
        subst (Sized g.s.now g.i (c.skip_tree.result - g.i)) p.is (sized _ _ _ q.0 q.1 size),
        (lengthened_wf _ _ p.members c.requires.mark_bound c.ranges.n.fits w.0 w.1, light longer g.out.now g.m q.2),
      ),
      room longer g.out.now g.m q.2,
    )

pub returns-in-Product : goal.returns-in-Product
returns-in-Product c t h =
    let g = c.args in
    let p = is_product g.s.now g.i t h (omega (arith, c.in-Product.ensures.all)) in
    let size : c.skip_tree.result - g.i ≡ records t = omega (arith, c.skip_tree.ensures note t h) in
    written (longer_becomes g.mark g.n t size c.ranges.n.fits c.if-n-eq1.false p.is) g.out.now g.m _ _ (omega arith)
    (c.write_longer.ensures _ _ (subst (Sized g.s.now g.i (c.skip_tree.result - g.i)) p.is (sized _ _ _ t h size)))

-- ---- for any other tree, the product of n and the tree
pub write_pair-requires : goal.write_pair-requires
write_pair-requires c =
    let g = c.args in
    let q = c.requires.told in
    let size : c.skip_tree.result - g.i ≡ records q.0 = omega (arith, c.skip_tree.ensures note q.0 q.1) in
    let pair =
    pair_becomes g.mark g.n q.0 size c.ranges.n.fits c.if-n-eq1.false g.s.now g.i q.1 (kind_other q.1 q.3)
    (λ e. c.in_default.not-Product (kind_by_number c.at.result Product (omega (arith, c.at.ensures.all, e)))) in (
      (q.0, sized _ _ _ q.0 q.1 size, (paired_wf _ _ q.0 c.requires.mark_bound c.ranges.n.fits q.1.wf, light pair g.out.now g.m q.2)),
      room pair g.out.now g.m q.2,
    )

pub returns-in_default : goal.returns-in_default
returns-in_default c t h =
    let g = c.args in
    let q = c.requires.told in
    let size : c.skip_tree.result - g.i ≡ records t = omega (arith, c.skip_tree.ensures note t h) in
    let pair =
    pair_becomes g.mark g.n t size c.ranges.n.fits c.if-n-eq1.false g.s.now g.i h (kind_other q.1 q.3)
    (λ e. c.in_default.not-Product (kind_by_number c.at.result Product (omega (arith, c.at.ensures.all, e)))) in
    written pair g.out.now g.m _ _ (omega arith) (c.write_pair.ensures t (sized _ _ _ t h size))
