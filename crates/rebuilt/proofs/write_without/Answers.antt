-- What is left of the product is a record that counts its other members, and these. With n = 1 that is the answer; with any other n the
-- coefficient stands after them, and the record counts one member more. One such product stands there, so the room that the contract asks for
-- is the room for it; the record, the members and the coefficient are put each where the one before it ends, and the product is closed.
use Rattle.std.proofs.Common.{◌≡◌, ℕ, ◌+◌, ◌*◌, ◌<◌, ◌^◌, ◌≤◌, List, length, refl, ◌∙◌, subst, arith}
use Rattle.paper.specs.Tree.{Tree, marked, of_list, records}
use Rattle.paper.specs.WellFormed.{Mark}
use Rattle.note.specs.Note.{note}
use Rattle.split.specs.Rest.{Lessened}
use Rattle.paper.proofs.MarkLaws.{marked_wf}
use Rattle.rebuilt.specs.Written.{Fitting, Light, lengthened, timed}
use Rattle.rebuilt.proofs.Closing.{put_closable, put_closed, product_node}
use Rattle.rebuilt.proofs.Becomes.{room, light, written, one_becomes, longer_becomes}
use Rattle.rebuilt.proofs.Without.{others, lessened_once, left_records, left_node, left_longer_wf, left_written, left_longer_written, left_many}
use Rattle.rebuilt.proofs.write_without.Goals as goal

-- ---- the product without its integers is the tree t, and no other; the contract asks for room for one that is written
module _ {s : List ℕ} {i many : ℕ} {u : Tree} (asked : Lessened note s i many u) {out : List ℕ} {m : ℕ} (mark n : ℕ)
    (fit : Fitting (timed mark n u) out m) {t : Tree} (h : Lessened note s i many t) where
  fits : Fitting (timed mark n t) out m
  fits = subst (λ u. Fitting (timed mark n u) out m) (lessened_once asked h) fit

  one_room : n ≡ 1 → (m + records t) * 16 ≤ length out
  one_room e = room (one_becomes mark n t refl e) out m fits

  one_light : n ≡ 1 → Mark mark → Light (marked mark t)
  one_light e k = (marked_wf mark t k h.wf, light (one_becomes mark n t refl e) out m fits)

  longer_room : n < 2 ^ 64 → (n ≡ 1 → ⊥) → (m + (records t + 1)) * 16 ≤ length out
  longer_room l e = room (longer_becomes mark n t refl l e h.left) out m fits

  longer_light : n < 2 ^ 64 → (n ≡ 1 → ⊥) → Mark mark → Light (lengthened mark n (of_list (others h.members)))
  longer_light l e k = (left_longer_wf h mark n k l, light (longer_becomes mark n t refl l e h.left) out m fits)

-- ---- with n = 1
pub write_record-requires : goal.write_record-requires
write_record-requires c =
    let q = c.requires.lessened in
    omega (arith, one_room q.1 c.args.mark c.args.n q.2 q.1 c.if-n-eq1.true, left_records q.1)

pub copy_others-end-requires : goal.copy_others-end-requires
copy_others-end-requires c =
    let q = c.requires.lessened in (
      q.1.mark,
      q.1.members,
      q.1.whole,
      omega (arith, one_room q.1 c.args.mark c.args.n q.2 q.1 c.if-n-eq1.true, left_records q.1, c.write_record.auto.d),
    )

pub close-requires : goal.close-requires
close-requires c =
    let g = c.args in
    let q = c.requires.lessened in
    let r = one_room q.1 c.args.mark c.args.n q.2 q.1 c.if-n-eq1.true in
    let copy = c.copy_others-end.ensures q.1.mark q.1.members q.1.whole in (
      _,
      put_closable _ (one_light q.1 c.args.mark c.args.n q.2 q.1 c.if-n-eq1.true c.requires.mark_bound) (left_node q.1 _) _ _ _ (omega (arith, r))
          (left_written q.1 g.out.now _ _ g.m g.mark copy.1 r c.write_record.ensures),
    )

pub returns-then-n-eq1 : goal.returns-then-n-eq1
returns-then-n-eq1 c t h =
    let g = c.args in
    let q = c.requires.lessened in
    let r = one_room q.1 c.args.mark c.args.n q.2 h c.if-n-eq1.true in
    let copy = c.copy_others-end.ensures h.mark h.members h.whole in
    written (one_becomes g.mark g.n t refl c.if-n-eq1.true) g.out.now g.m _ _ (copy.0 ∙ omega (arith, left_records h))
    (put_closed _ (one_light q.1 c.args.mark c.args.n q.2 h c.if-n-eq1.true c.requires.mark_bound) (left_node h _) _ _ _ (omega (arith, r))
    (left_written h g.out.now _ _ g.m g.mark copy.1 r c.write_record.ensures) _ c.close.ensures)

-- ---- with any other n
pub overflow_add-many : goal.overflow_add-many
overflow_add-many c =
    let q = c.requires.lessened in
    record { fits = omega (arith, longer_room q.1 c.args.mark c.args.n q.2 q.1 c.ranges.n.fits c.if-n-eq1.false, left_many q.1) }

pub write_record-requires-2 : goal.write_record-requires-2
write_record-requires-2 c =
    let q = c.requires.lessened in
    omega (arith, longer_room q.1 c.args.mark c.args.n q.2 q.1 c.ranges.n.fits c.if-n-eq1.false, left_records q.1)

pub copy_others-e-requires : goal.copy_others-e-requires
copy_others-e-requires c =
    let q = c.requires.lessened in (
      q.1.mark,
      q.1.members,
      q.1.whole,
      omega (arith, longer_room q.1 c.args.mark c.args.n q.2 q.1 c.ranges.n.fits c.if-n-eq1.false, left_records q.1, c.write_record-2.auto.d),
    )

pub write_record-requires-3 : goal.write_record-requires-3
write_record-requires-3 c =
    let q = c.requires.lessened in
    let copy = c.copy_others-e.ensures q.1.mark q.1.members q.1.whole in
    let room = longer_room q.1 c.args.mark c.args.n q.2 q.1 c.ranges.n.fits c.if-n-eq1.false in
    omega (arith, copy.0, room, left_records q.1, c.copy_others-e.auto.out, c.write_record-2.auto.d)

pub close-requires-2 : goal.close-requires-2
close-requires-2 c =
    let g = c.args in
    let q = c.requires.lessened in
    let r = longer_room q.1 c.args.mark c.args.n q.2 q.1 c.ranges.n.fits c.if-n-eq1.false in
    let copy = c.copy_others-e.ensures q.1.mark q.1.members q.1.whole in (
      _,
      put_closable _ (longer_light q.1 c.args.mark c.args.n q.2 q.1 c.ranges.n.fits c.if-n-eq1.false c.requires.mark_bound) (product_node _ _) _ _ _
          (omega (arith, r))
          (left_longer_written q.1 g.out.now _ _ g.m g.mark copy.1 _ g.n _ c.ranges.n.fits (copy.0 ∙ omega (arith, left_records q.1)) r
          c.write_record-2.ensures c.write_record-3.ensures),
    )

pub overflow_add-result : goal.overflow_add-result
overflow_add-result c =
    let q = c.requires.lessened in
    let copy = c.copy_others-e.ensures q.1.mark q.1.members q.1.whole in
    record { fits = omega (arith, copy.0, longer_room q.1 c.args.mark c.args.n q.2 q.1 c.ranges.n.fits c.if-n-eq1.false, left_records q.1) }

pub returns : goal.returns
returns c t h =
    let g = c.args in
    let q = c.requires.lessened in
    let r = longer_room q.1 c.args.mark c.args.n q.2 h c.ranges.n.fits c.if-n-eq1.false in
    let copy = c.copy_others-e.ensures h.mark h.members h.whole in
    written (longer_becomes g.mark g.n t refl c.ranges.n.fits c.if-n-eq1.false h.left) g.out.now g.m _ _ (omega (arith, copy.0, left_records h))
    (put_closed _ (longer_light q.1 c.args.mark c.args.n q.2 h c.ranges.n.fits c.if-n-eq1.false c.requires.mark_bound) (product_node _ _) _ _ _
    (omega (arith, r))
    (left_longer_written h g.out.now _ _ g.m g.mark copy.1 _ g.n _ c.ranges.n.fits (copy.0 ∙ omega (arith, left_records h)) r
    c.write_record-2.ensures c.write_record-3.ensures) _ c.close-2.ensures)
