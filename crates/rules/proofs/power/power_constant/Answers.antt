-- `rules::power::power_constant`: at a tree of another kind, and at a power whose base is not the integer 0 or 1, the step does not apply; else that integer
-- is written where the power ended.
use Prim.Native.Nat.{◌+◌, ◌*◌, ◌≤◌}
use mathlib.Core.Path.{refl, ap, ◌∙◌}
use native.Mathlib.Omega.{arith}
use Rattle.paper.specs.Record.{kind, mark_in}
use Rattle.paper.specs.Rules.{power_constant}
use Rattle.paper.specs.Table.{record_of}
use Rattle.paper.proofs.EncodeLaws.{records_pos}
use Rattle.record.specs.declared.kinds.Kind.TheVariants.{Integer, Power}
use Rattle.split.proofs.SplitLaws.{kind_five}
use Rattle.note.proofs.ToldLaws.{record_within}
use Rattle.stretch.specs.Put.{put}
use Rattle.rules.proofs.RuleLaws.{told_is, told_is_not, ready_tree, ready_seen}
use Rattle.rules.proofs.PowerLaws.{on_no_power, is_power, constant_other, constant_more, constant_applies, constant_put}
use Rattle.rules.proofs.power.power_constant.Goals as goal

pub at-requires : goal.at-requires
at-requires c = record_within (ready_tree c.requires.2)

pub returns-then-ne : goal.returns-then-ne
unfolding power_constant
returns-then-ne c = λ t rest h. (on_no_power (ready_seen h) _ (told_is_not _ Power c.at.ensures.all c.ne.ensures c.if-ne.true), refl, refl)

pub overflow_add-p : goal.overflow_add-p
overflow_add-p c =
    let s = is_power c.requires.2 (told_is (kind_five _ (ready_tree c.requires.2)) _ Power c.at.ensures.all c.ne.ensures c.if-ne.false) in
    omega (arith, s.long)

pub at-requires-2 : goal.at-requires-2
at-requires-2 c =
    let s = is_power c.requires.2 (told_is (kind_five _ (ready_tree c.requires.2)) _ Power c.at.ensures.all c.ne.ensures c.if-ne.false) in
    record_within s.there

pub returns-then-ne-2 : goal.returns-then-ne-2
returns-then-ne-2 c =
    λ t rest h.
    let s = is_power h (told_is (kind_five _ (ready_tree h)) _ Power c.at.ensures.all c.ne.ensures c.if-ne.false) in
    let other = told_is_not _ Integer c.at-2.ensures.all c.ne-2.ensures c.if-ne-2.true in
    (constant_other s (omega (arith, other)), refl, refl)

pub overflow_add-p-2 : goal.overflow_add-p-2
overflow_add-p-2 c =
    let s = is_power c.requires.2 (told_is (kind_five _ (ready_tree c.requires.2)) _ Power c.at.ensures.all c.ne.ensures c.if-ne.false) in
    omega (arith, s.long)

pub bits-v-requires : goal.bits-v-requires
bits-v-requires c =
    let s = is_power c.requires.2 (told_is (kind_five _ (ready_tree c.requires.2)) _ Power c.at.ensures.all c.ne.ensures c.if-ne.false) in
    record_within s.there

pub returns-then-v-gt1 : goal.returns-then-v-gt1
returns-then-v-gt1 c =
    λ t rest h.
    let s = is_power h (told_is (kind_five _ (ready_tree h)) _ Power c.at.ensures.all c.ne.ensures c.if-ne.false) in
    let integer = told_is (kind_five _ s.there) _ Integer c.at-2.ensures.all c.ne-2.ensures c.if-ne-2.false in
    (constant_more s (omega (arith, integer)) (omega (arith, c.if-v-gt1.true, c.bits-v.ensures)), refl, refl)

pub mark-mark-requires : goal.mark-mark-requires
mark-mark-requires c = record_within (ready_tree c.requires.2)

pub overflow_add-p-3 : goal.overflow_add-p-3
overflow_add-p-3 c =
    let s = is_power c.requires.2 (told_is (kind_five _ (ready_tree c.requires.2)) _ Power c.at.ensures.all c.ne.ensures c.if-ne.false) in
    omega (arith, s.long)

pub write_record-requires : goal.write_record-requires
write_record-requires c =
    let s = is_power c.requires.2 (told_is (kind_five _ (ready_tree c.requires.2)) _ Power c.at.ensures.all c.ne.ensures c.if-ne.false) in
    omega (arith, s.long, records_pos s.base)

pub overflow_add-result : goal.overflow_add-result
overflow_add-result c =
    let s = is_power c.requires.2 (told_is (kind_five _ (ready_tree c.requires.2)) _ Power c.at.ensures.all c.ne.ensures c.if-ne.false) in
    omega (arith, s.long)

pub returns : goal.returns
returns c =
    let w = c.args.work.now in
    let q = (c.args.p + 2) * 16 in
    λ t rest h.
    let s = is_power h (told_is (kind_five _ (ready_tree h)) _ Power c.at.ensures.all c.ne.ensures c.if-ne.false) in
    let integer : kind w (c.args.p + 1) ≤ 0 = omega (arith, told_is (kind_five _ s.there) _ Integer c.at-2.ensures.all c.ne-2.ensures c.if-ne-2.false) in (
      _,
      constant_applies s integer (omega (arith, c.if-v-gt1.false, c.bits-v.ensures)),
      constant_put s integer _ _
          (c.write_record.ensures ∙ ap (λ m. put w q (record_of 0 0 m c.bits-v.result)) c.mark-mark.ensures.0
          ∙ ap (λ v. put w q (record_of 0 0 (mark_in w c.args.p) v)) c.bits-v.ensures),
      refl,
    )
