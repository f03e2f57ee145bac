-- With the exponent 1 the answer is the base, with any other it is the record of a power, the base, and the exponent, two records more; the
-- contract asks for room for it. The power is closed; one base stands at the record, so that any other is that of the light factor.
use Rattle.std.proofs.Common.{◌≡◌, ◌+◌, ◌*◌, List, ℕ, refl, subst, arith}
use Rattle.paper.specs.Table.{record_of}
use Rattle.paper.specs.Tree.{power}
use Rattle.paper.specs.Rules.{Factor, from_factor}
use Rattle.note.specs.Note.{note}
use Rattle.note.specs.Noted.{encode_by}
use Rattle.note.proofs.ToldLaws.{one_tree}
use Rattle.note.proofs.CloseLaws.{unclosed}
use Rattle.stretch.specs.Put.{put}
use Rattle.part.specs.Part.{Sized, ShowsPower}
use Rattle.rebuilt.specs.Written.{Light, Fitting}
use Rattle.rebuilt.proofs.Closing.{put_closable, put_closed, power_node}
use Rattle.rebuilt.proofs.Becomes.{power_shown}
use Rattle.rebuilt.proofs.WriteLaws.{base_room, base_answer, power_room, power_light, power_put, power_answer}
use Rattle.rebuilt.proofs.write_power.Goals as goal

pub copy_marked-requires : goal.copy_marked-requires
copy_marked-requires c =
    let q = c.requires in
    ((q.0.base, q.1.sized), base_room (power_shown q.1) c.args.out.now c.args.m c.if-e-eq1.true q.2)

pub returns-then-e-eq1 : goal.returns-then-e-eq1
returns-then-e-eq1 c x h =
    base_answer (power_shown h) c.args.out.now c.args.m c.if-e-eq1.true _ (c.copy_marked.ensures x.base h.sized)

-- ---- with another exponent than 1: record, base and exponent are put for any factor that the arguments show, and the power can be closed
module _ {s : List ℕ} {e i k μ m : ℕ} {out d₁ d₂ d₃ : List ℕ} (more : e ≡ 1 → ⊥) (p : d₁ ≡ put out (m * 16) (record_of 4 0 μ 0))
    (q : (t : _) → Sized s i k t → d₂ ≡ put d₁ ((m + 1) * 16) (encode_by note t)) (w : d₃ ≡ put d₂ ((m + 1 + k) * 16) (record_of 0 0 μ e)) {y : Factor}
    (asked : ShowsPower s e i k μ y) (fit : Fitting (from_factor y) out m) where
  light : {x : Factor} → ShowsPower s e i k μ x → Light (power μ x.base μ e)
  light h =
      subst (λ b. Light (power μ b μ e)) (one_tree asked.sized.there h.sized.there) (power_light (power_shown asked) out m more fit)

  there : {x : Factor} → ShowsPower s e i k μ x → d₃ ≡ put out (m * 16) (unclosed (power μ x.base μ e))
  there {x} h = power_put (power_shown h) out m (power_room (power_shown asked) out m more fit) _ _ _ _ refl p (q x.base h.sized) w

pub write_record-requires : goal.write_record-requires
write_record-requires c =
    let q = c.requires in
    omega (arith, power_room (power_shown q.1) c.args.out.now c.args.m c.if-e-eq1.false q.2)

pub copy_tree-requires : goal.copy_tree-requires
copy_tree-requires c =
    let q = c.requires in (
      (q.0.base, q.1.sized),
      omega (arith, power_room (power_shown q.1) c.args.out.now c.args.m c.if-e-eq1.false q.2, c.write_record.auto.d),
    )

pub write_record-requires-2 : goal.write_record-requires-2
write_record-requires-2 c =
    let q = c.requires in
    omega (arith, power_room (power_shown q.1) c.args.out.now c.args.m c.if-e-eq1.false q.2, c.write_record.auto.d, c.copy_tree.auto.out)

pub close-requires : goal.close-requires
close-requires c =
    let q = c.requires in
    let room = power_room (power_shown q.1) c.args.out.now c.args.m c.if-e-eq1.false q.2 in (
      _,
      put_closable _ (light c.if-e-eq1.false c.write_record.ensures c.copy_tree.ensures c.write_record-2.ensures q.1 q.2 q.1)
          (power_node _ _ _ _) _ _ _ (omega (arith, room))
          (there c.if-e-eq1.false c.write_record.ensures c.copy_tree.ensures c.write_record-2.ensures q.1 q.2 q.1),
    )

pub returns : goal.returns
returns c x h =
    let q = c.requires in
    let room = power_room (power_shown q.1) c.args.out.now c.args.m c.if-e-eq1.false q.2 in
    power_answer (power_shown h) c.args.out.now c.args.m c.if-e-eq1.false _ _ (omega arith)
    (put_closed _ (light c.if-e-eq1.false c.write_record.ensures c.copy_tree.ensures c.write_record-2.ensures q.1 q.2 h)
    (power_node _ _ _ _) _ _ _ (omega (arith, room))
    (there c.if-e-eq1.false c.write_record.ensures c.copy_tree.ensures c.write_record-2.ensures q.1 q.2 h) _ c.close.ensures)
