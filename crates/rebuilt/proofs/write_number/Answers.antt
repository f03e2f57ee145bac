-- The factor's base is the integer v, of one record. The laws are those of `write_power`, with k = 1.
use Rattle.std.proofs.Common.{◌≡◌, ◌+◌, ◌*◌, List, ℕ, sym, ◌∙◌, subst, arith}
use Rattle.paper.specs.Table.{record_of}
use Rattle.paper.specs.Tree.{power}
use Rattle.paper.specs.Rules.{Factor, from_factor}
use Rattle.note.proofs.CloseLaws.{unclosed}
use Rattle.stretch.specs.Put.{put}
use Rattle.part.specs.Part.{ShowsNumber}
use Rattle.rebuilt.specs.Written.{Light, Fitting}
use Rattle.rebuilt.proofs.Closing.{put_closable, put_closed, power_node}
use Rattle.rebuilt.proofs.Becomes.{number_shown}
use Rattle.rebuilt.proofs.WriteLaws.{base_room, base_answer, power_room, power_light, power_put, power_answer, number_written, number_marked}
use Rattle.rebuilt.proofs.write_number.Goals as goal

pub write_record-requires : goal.write_record-requires
write_record-requires c =
    let q = c.requires in
    omega (arith, base_room (number_shown q.1) c.args.out.now c.args.m c.if-e-eq1.true q.2)

pub returns-then-e-eq1 : goal.returns-then-e-eq1
returns-then-e-eq1 c x h =
    let g = c.args in
    base_answer (number_shown h) g.out.now g.m c.if-e-eq1.true _ (number_marked h g.out.now _ (g.m * 16) c.write_record.ensures)

-- ---- with another exponent than 1: record, base and exponent are put for any factor that the arguments show, and the power can be closed
module _ {e v b μ m : ℕ} {out d₁ d₂ d₃ : List ℕ} (more : e ≡ 1 → ⊥) (p : d₁ ≡ put out (m * 16) (record_of 4 0 μ 0))
    (q : d₂ ≡ put d₁ ((m + 1) * 16) (record_of 0 0 b v)) (w : d₃ ≡ put d₂ ((m + 2) * 16) (record_of 0 0 μ e)) {y : Factor}
    (asked : ShowsNumber e v b μ y) (fit : Fitting (from_factor y) out m) where
  light : {x : Factor} → ShowsNumber e v b μ x → Light (power μ x.base μ e)
  light h =
      subst (λ b. Light (power μ b μ e)) (asked.base ∙ sym h.base) (power_light (number_shown asked) out m more fit)

  there : {x : Factor} → ShowsNumber e v b μ x → d₃ ≡ put out (m * 16) (unclosed (power μ x.base μ e))
  there h =
      power_put (number_shown h) out m (power_room (number_shown asked) out m more fit) _ _ _ _ (omega arith) p
      (number_written h _ _ ((m + 1) * 16) q) w

pub write_record-requires-2 : goal.write_record-requires-2
write_record-requires-2 c =
    let q = c.requires in
    omega (arith, power_room (number_shown q.1) c.args.out.now c.args.m c.if-e-eq1.false q.2)

pub write_record-requires-3 : goal.write_record-requires-3
write_record-requires-3 c =
    let q = c.requires in
    omega (arith, power_room (number_shown q.1) c.args.out.now c.args.m c.if-e-eq1.false q.2, c.write_record-2.auto.d)

pub write_record-requires-4 : goal.write_record-requires-4
write_record-requires-4 c =
    let q = c.requires in
    omega (arith, power_room (number_shown q.1) c.args.out.now c.args.m c.if-e-eq1.false q.2, c.write_record-2.auto.d, c.write_record-3.auto.d)

pub close-requires : goal.close-requires
close-requires c =
    let q = c.requires in
    let room = power_room (number_shown q.1) c.args.out.now c.args.m c.if-e-eq1.false q.2 in (
      _,
      put_closable _ (light c.if-e-eq1.false c.write_record-2.ensures c.write_record-3.ensures c.write_record-4.ensures q.1 q.2 q.1)
          (power_node _ _ _ _) _ _ _ (omega (arith, room))
          (there c.if-e-eq1.false c.write_record-2.ensures c.write_record-3.ensures c.write_record-4.ensures q.1 q.2 q.1),
    )

pub returns : goal.returns
returns c x h =
    let q = c.requires in
    let room = power_room (number_shown q.1) c.args.out.now c.args.m c.if-e-eq1.false q.2 in
    power_answer (number_shown h) c.args.out.now c.args.m c.if-e-eq1.false _ _ (omega arith)
    (put_closed _ (light c.if-e-eq1.false c.write_record-2.ensures c.write_record-3.ensures c.write_record-4.ensures q.1 q.2 h)
    (power_node _ _ _ _) _ _ _ (omega (arith, room))
    (there c.if-e-eq1.false c.write_record-2.ensures c.write_record-3.ensures c.write_record-4.ensures q.1 q.2 h) _ c.close.ensures)
