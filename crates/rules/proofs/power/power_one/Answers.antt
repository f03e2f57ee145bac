-- `rules::power::power_one`: at a tree of another kind, and at a power whose exponent is not 1, the step does not apply; else the base is moved by one record,
-- so that it ends where the power ended.
use mathlib.Core.Path.{refl, sym, ap, ◌∙◌}
use native.Mathlib.Omega.{arith}
use Rattle.paper.specs.Record.{bits}
use Rattle.paper.specs.Rules.{power_one}
use Rattle.record.specs.declared.kinds.Kind.TheVariants.{Power}
use Rattle.split.proofs.SplitLaws.{kind_five}
use Rattle.note.proofs.ToldLaws.{record_within, some_told}
use Rattle.note.specs.Note.{note}
use Rattle.rules.proofs.RuleLaws.{told_is, told_is_not, ready_tree, ready_seen}
use Rattle.rules.proofs.PowerLaws.{on_no_power, is_power, one_applies, one_idle, base_moved}
use Rattle.rules.proofs.power.power_one.Goals as goal

pub at-requires : goal.at-requires
at-requires c = record_within (ready_tree c.requires.2)

pub returns-then-ne : goal.returns-then-ne
unfolding power_one
returns-then-ne c = λ t rest h. (on_no_power (ready_seen h) _ (told_is_not _ Power c.at.ensures.all c.ne.ensures c.if-ne.true), refl, refl)

pub overflow_add-p : goal.overflow_add-p
overflow_add-p c =
    let s = is_power c.requires.2 (told_is (kind_five _ (ready_tree c.requires.2)) _ Power c.at.ensures.all c.ne.ensures c.if-ne.false) in
    omega (arith, s.long)

pub skip_tree-x-requires : goal.skip_tree-x-requires
skip_tree-x-requires c =
    let s = is_power c.requires.2 (told_is (kind_five _ (ready_tree c.requires.2)) _ Power c.at.ensures.all c.ne.ensures c.if-ne.false) in
    some_told s.there

pub bits-requires : goal.bits-requires
bits-requires c =
    let s = is_power c.requires.2 (told_is (kind_five _ (ready_tree c.requires.2)) _ Power c.at.ensures.all c.ne.ensures c.if-ne.false) in
    omega (arith, c.skip_tree-x.ensures note s.base s.there, s.long)

pub returns-then-bits-ne1 : goal.returns-then-bits-ne1
returns-then-bits-ne1 c =
    λ t rest h.
    let s = is_power h (told_is (kind_five _ (ready_tree h)) _ Power c.at.ensures.all c.ne.ensures c.if-ne.false) in
    let exponent = c.bits.ensures ∙ ap (bits c.args.work.now) (c.skip_tree-x.ensures note s.base s.there) ∙ s.said in
    (one_idle s (λ e. c.if-bits-ne1.true (exponent ∙ e)), refl, refl)

pub overflow_add-p-2 : goal.overflow_add-p-2
overflow_add-p-2 c =
    let s = is_power c.requires.2 (told_is (kind_five _ (ready_tree c.requires.2)) _ Power c.at.ensures.all c.ne.ensures c.if-ne.false) in
    omega (arith, s.long)

pub overflow_mul-p : goal.overflow_mul-p
overflow_mul-p c =
    let s = is_power c.requires.2 (told_is (kind_five _ (ready_tree c.requires.2)) _ Power c.at.ensures.all c.ne.ensures c.if-ne.false) in
    omega (arith, s.long)

pub overflow_add-p-3 : goal.overflow_add-p-3
overflow_add-p-3 c =
    let s = is_power c.requires.2 (told_is (kind_five _ (ready_tree c.requires.2)) _ Power c.at.ensures.all c.ne.ensures c.if-ne.false) in
    omega (arith, s.long)

pub overflow_mul-p-2 : goal.overflow_mul-p-2
overflow_mul-p-2 c =
    let s = is_power c.requires.2 (told_is (kind_five _ (ready_tree c.requires.2)) _ Power c.at.ensures.all c.ne.ensures c.if-ne.false) in
    omega (arith, s.long)

pub overflow_add-p-4 : goal.overflow_add-p-4
overflow_add-p-4 c =
    let s = is_power c.requires.2 (told_is (kind_five _ (ready_tree c.requires.2)) _ Power c.at.ensures.all c.ne.ensures c.if-ne.false) in
    omega (arith, s.long)

pub overflow_sub-x : goal.overflow_sub-x
overflow_sub-x c =
    let s = is_power c.requires.2 (told_is (kind_five _ (ready_tree c.requires.2)) _ Power c.at.ensures.all c.ne.ensures c.if-ne.false) in
    omega (arith, c.skip_tree-x.ensures note s.base s.there, s.long)

pub overflow_mul-x : goal.overflow_mul-x
overflow_mul-x c =
    let s = is_power c.requires.2 (told_is (kind_five _ (ready_tree c.requires.2)) _ Power c.at.ensures.all c.ne.ensures c.if-ne.false) in
    omega (arith, c.skip_tree-x.ensures note s.base s.there, s.long)

pub shift_right-requires : goal.shift_right-requires
shift_right-requires c =
    let s = is_power c.requires.2 (told_is (kind_five _ (ready_tree c.requires.2)) _ Power c.at.ensures.all c.ne.ensures c.if-ne.false) in
    let place = c.skip_tree-x.ensures note s.base s.there in
    (omega (arith, place, s.long), omega (arith, place, s.long))

pub overflow_add-result : goal.overflow_add-result
overflow_add-result c =
    let s = is_power c.requires.2 (told_is (kind_five _ (ready_tree c.requires.2)) _ Power c.at.ensures.all c.ne.ensures c.if-ne.false) in
    omega (arith, s.long)

pub returns : goal.returns
returns c =
    λ t rest h.
    let s = is_power h (told_is (kind_five _ (ready_tree h)) _ Power c.at.ensures.all c.ne.ensures c.if-ne.false) in
    let place = c.skip_tree-x.ensures note s.base s.there in
    let exponent = c.bits.ensures ∙ ap (bits c.args.work.now) place ∙ s.said in
    (s.base, one_applies s (sym exponent ∙ c.if-bits-ne1.false), base_moved s _ _ place c.shift_right.ensures, refl)
