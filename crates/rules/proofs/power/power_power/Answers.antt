-- `rules::power::power_power`: at a tree of another kind, and at a power whose base is none, the step does not apply; else the product of the exponents is in
-- range, and the inner base is moved between a power's record and that product, or it is not. What the step makes is lighter than the tree, so it can be
-- closed.
use Prim.Native.Nat.{ℕ, ◌<◌, ◌+◌}
use mathlib.Core.Path.{◌≡◌, refl, sym, ap, ◌∙◌}
use mathlib.Core.List.{List}
use native.Mathlib.Omega.{arith}
use lib.IntN.{◌*ℤ◌}
use Rattle.std.specs.Prelude.{Ok}
use Rattle.std.proofs.lemmas.Result.{err_from_is_err_and}
use Rattle.paper.specs.Tree.{Tree, power, records}
use Rattle.paper.specs.Record.{kind, mark_in, bits}
use Rattle.paper.specs.Bytes.{signed}
use Rattle.paper.specs.Rules as paper
use Rattle.paper.specs.Rules.{power_power}
use Rattle.paper.proofs.PowerRules.{power_power_good}
use Rattle.note.specs.Note.{note}
use Rattle.note.proofs.CloseLaws.{closable, closed_pending}
use Rattle.record.specs.declared.kinds.Kind.TheVariants.{Power}
use Rattle.split.proofs.SplitLaws.{kind_five}
use Rattle.note.proofs.ToldLaws.{record_within, some_told}
use Rattle.number.specs.Num.{num_of}
use Rattle.rules.specs.Asked.{Ready}
use Rattle.rebuilt.proofs.Closing.{power_node}
use Rattle.rules.proofs.RuleLaws.{told_is, told_is_not, ready_tree, ready_seen, rule_light}
use Rattle.rules.proofs.PowerLaws.{on_no_power, is_power, IsTower, no_tower, is_tower, tower_applies, tower_over, tower_put}
use Rattle.rules.proofs.power.power_power.Goals as goal

-- what the product of both exponents is
module _ {w : List ℕ} {p : ℕ} {t : Tree} {rest : List ℕ} (s : IsTower w p t rest) {y : ℕ} (place : y ≡ p + 2 + records s.base) where
  product : {b c : ℕ} → b ≡ bits w y → c ≡ bits w (y + 1) → num_of (signed b *ℤ signed c) ≡ num_of (signed s.inner *ℤ signed s.outer)
  product {b} {c} e f =
      let next : y + 1 ≡ p + 3 + records s.base = omega (arith, place) in
      let inner = e ∙ ap (bits w) place ∙ s.inner_said in
      let outer = f ∙ ap (bits w) next ∙ s.outer_said in
      ap (λ a. num_of (signed a *ℤ signed c)) inner ∙ ap (λ a. num_of (signed s.inner *ℤ signed a)) outer

  -- the power that the step makes, with both marks
  applies : {n m em : ℕ} → num_of (signed s.inner *ℤ signed s.outer) ≡ Ok n → m ≡ mark_in w p → em ≡ mark_in w (y + 1)
      → power_power t ≡ paper.applies (power m s.base em n)
  applies {n} {m} {em} is first second =
      let next : y + 1 ≡ p + 3 + records s.base = omega (arith, place) in
      tower_applies s _ is
      ∙ ap (λ i. paper.applies (power i s.base (mark_in w (p + 3 + records s.base)) n)) (sym first)
      ∙ ap (λ i. paper.applies (power m s.base i n)) (ap (mark_in w) (sym next) ∙ sym second)

-- a power whose base is one too
tower_of : {o w : List ℕ} {d p : ℕ} {t : Tree} {rest : List ℕ} → Ready o w d p t rest → kind w p ≡ 4 → (kind w (p + 1) < 5 → kind w (p + 1) ≡ 4)
    → IsTower w p t rest
tower_of h e f = let s = is_power h e in is_tower s (f (kind_five s.base s.there))

pub at-requires : goal.at-requires
at-requires c = record_within (ready_tree c.requires.2)

pub returns-then-ne : goal.returns-then-ne
unfolding power_power
returns-then-ne c = λ t rest h. (on_no_power (ready_seen h) _ (told_is_not _ Power c.at.ensures.all c.ne.ensures c.if-ne.true), refl, refl)

pub overflow_add-p : goal.overflow_add-p
overflow_add-p c =
    let s = is_power c.requires.2 (told_is (kind_five _ (ready_tree c.requires.2)) _ Power c.at.ensures.all c.ne.ensures c.if-ne.false) in
    omega (arith, s.long)

pub at-requires-2 : goal.at-requires-2
at-requires-2 c =
    let s = is_power c.requires.2 (told_is (kind_five _ (ready_tree c.requires.2)) _ Power c.at.ensures.all c.ne.ensures c.if-ne.false) in
    record_within s.there

pub returns-then-ne-2 : goal.returns-then-ne-2
returns-then-ne-2 c =
    λ t rest h.
    let s = is_power h (told_is (kind_five _ (ready_tree h)) _ Power c.at.ensures.all c.ne.ensures c.if-ne.false) in
    (no_tower s (told_is_not _ Power c.at-2.ensures.all c.ne-2.ensures c.if-ne-2.true), refl, refl)

pub overflow_add-p-2 : goal.overflow_add-p-2
overflow_add-p-2 c =
    let s = tower_of c.requires.2 (told_is (kind_five _ (ready_tree c.requires.2)) _ Power c.at.ensures.all c.ne.ensures c.if-ne.false)
    (λ l. told_is l _ Power c.at-2.ensures.all c.ne-2.ensures c.if-ne-2.false) in
    omega (arith, s.long)

pub skip_tree-y-requires : goal.skip_tree-y-requires
skip_tree-y-requires c =
    let s = tower_of c.requires.2 (told_is (kind_five _ (ready_tree c.requires.2)) _ Power c.at.ensures.all c.ne.ensures c.if-ne.false)
    (λ l. told_is l _ Power c.at-2.ensures.all c.ne-2.ensures c.if-ne-2.false) in
    some_told s.there

pub bits-requires : goal.bits-requires
bits-requires c =
    let s = tower_of c.requires.2 (told_is (kind_five _ (ready_tree c.requires.2)) _ Power c.at.ensures.all c.ne.ensures c.if-ne.false)
    (λ l. told_is l _ Power c.at-2.ensures.all c.ne-2.ensures c.if-ne-2.false) in
    omega (arith, c.skip_tree-y.ensures note s.base s.there, s.long)

pub overflow_add-y : goal.overflow_add-y
overflow_add-y c =
    let s = tower_of c.requires.2 (told_is (kind_five _ (ready_tree c.requires.2)) _ Power c.at.ensures.all c.ne.ensures c.if-ne.false)
    (λ l. told_is l _ Power c.at-2.ensures.all c.ne-2.ensures c.if-ne-2.false) in
    omega (arith, c.skip_tree-y.ensures note s.base s.there, s.long)

pub bits-requires-2 : goal.bits-requires-2
bits-requires-2 c =
    let s = tower_of c.requires.2 (told_is (kind_five _ (ready_tree c.requires.2)) _ Power c.at.ensures.all c.ne.ensures c.if-ne.false)
    (λ l. told_is l _ Power c.at-2.ensures.all c.ne-2.ensures c.if-ne-2.false) in
    omega (arith, c.skip_tree-y.ensures note s.base s.there, s.long)

pub returns-in_err-n : goal.returns-in_err-n
returns-in_err-n c =
    let left = err_from_is_err_and c.from_residual.result c.from_residual.ensures.1 in
    λ t rest h.
    let s = tower_of h (told_is (kind_five _ (ready_tree h)) _ Power c.at.ensures.all c.ne.ensures c.if-ne.false)
    (λ l. told_is l _ Power c.at-2.ensures.all c.ne-2.ensures c.if-ne-2.false) in
    let place = c.skip_tree-y.ensures note s.base s.there in
    rw left.1 (tower_over s (sym (product s place c.bits.ensures c.bits-2.ensures) ∙ sym c.mul.ensures ∙ c.in_err-n.was))

pub mark-mark-requires : goal.mark-mark-requires
mark-mark-requires c = record_within (ready_tree c.requires.2)

pub overflow_add-y-2 : goal.overflow_add-y-2
overflow_add-y-2 c =
    let s = tower_of c.requires.2 (told_is (kind_five _ (ready_tree c.requires.2)) _ Power c.at.ensures.all c.ne.ensures c.if-ne.false)
    (λ l. told_is l _ Power c.at-2.ensures.all c.ne-2.ensures c.if-ne-2.false) in
    omega (arith, c.skip_tree-y.ensures note s.base s.there, s.long)

pub mark-exponent_mark-requires : goal.mark-exponent_mark-requires
mark-exponent_mark-requires c =
    let s = tower_of c.requires.2 (told_is (kind_five _ (ready_tree c.requires.2)) _ Power c.at.ensures.all c.ne.ensures c.if-ne.false)
    (λ l. told_is l _ Power c.at-2.ensures.all c.ne-2.ensures c.if-ne-2.false) in
    omega (arith, c.skip_tree-y.ensures note s.base s.there, s.long)

pub overflow_add-p-3 : goal.overflow_add-p-3
overflow_add-p-3 c =
    let s = tower_of c.requires.2 (told_is (kind_five _ (ready_tree c.requires.2)) _ Power c.at.ensures.all c.ne.ensures c.if-ne.false)
    (λ l. told_is l _ Power c.at-2.ensures.all c.ne-2.ensures c.if-ne-2.false) in
    omega (arith, s.long)

pub overflow_mul-p : goal.overflow_mul-p
overflow_mul-p c =
    let s = tower_of c.requires.2 (told_is (kind_five _ (ready_tree c.requires.2)) _ Power c.at.ensures.all c.ne.ensures c.if-ne.false)
    (λ l. told_is l _ Power c.at-2.ensures.all c.ne-2.ensures c.if-ne-2.false) in
    omega (arith, s.long)

pub overflow_add-p-4 : goal.overflow_add-p-4
overflow_add-p-4 c =
    let s = tower_of c.requires.2 (told_is (kind_five _ (ready_tree c.requires.2)) _ Power c.at.ensures.all c.ne.ensures c.if-ne.false)
    (λ l. told_is l _ Power c.at-2.ensures.all c.ne-2.ensures c.if-ne-2.false) in
    omega (arith, s.long)

pub overflow_mul-p-2 : goal.overflow_mul-p-2
overflow_mul-p-2 c =
    let s = tower_of c.requires.2 (told_is (kind_five _ (ready_tree c.requires.2)) _ Power c.at.ensures.all c.ne.ensures c.if-ne.false)
    (λ l. told_is l _ Power c.at-2.ensures.all c.ne-2.ensures c.if-ne-2.false) in
    omega (arith, s.long)

pub overflow_add-p-5 : goal.overflow_add-p-5
overflow_add-p-5 c =
    let s = tower_of c.requires.2 (told_is (kind_five _ (ready_tree c.requires.2)) _ Power c.at.ensures.all c.ne.ensures c.if-ne.false)
    (λ l. told_is l _ Power c.at-2.ensures.all c.ne-2.ensures c.if-ne-2.false) in
    omega (arith, s.long)

pub overflow_sub-y : goal.overflow_sub-y
overflow_sub-y c =
    let s = tower_of c.requires.2 (told_is (kind_five _ (ready_tree c.requires.2)) _ Power c.at.ensures.all c.ne.ensures c.if-ne.false)
    (λ l. told_is l _ Power c.at-2.ensures.all c.ne-2.ensures c.if-ne-2.false) in
    omega (arith, c.skip_tree-y.ensures note s.base s.there, s.long)

pub overflow_mul-y : goal.overflow_mul-y
overflow_mul-y c =
    let s = tower_of c.requires.2 (told_is (kind_five _ (ready_tree c.requires.2)) _ Power c.at.ensures.all c.ne.ensures c.if-ne.false)
    (λ l. told_is l _ Power c.at-2.ensures.all c.ne-2.ensures c.if-ne-2.false) in
    omega (arith, c.skip_tree-y.ensures note s.base s.there, s.long)

pub shift_right-requires : goal.shift_right-requires
shift_right-requires c =
    let s = tower_of c.requires.2 (told_is (kind_five _ (ready_tree c.requires.2)) _ Power c.at.ensures.all c.ne.ensures c.if-ne.false)
    (λ l. told_is l _ Power c.at-2.ensures.all c.ne-2.ensures c.if-ne-2.false) in
    let place = c.skip_tree-y.ensures note s.base s.there in
    (omega (arith, place, s.long), omega (arith, place, s.long))

pub overflow_add-y-3 : goal.overflow_add-y-3
overflow_add-y-3 c =
    let s = tower_of c.requires.2 (told_is (kind_five _ (ready_tree c.requires.2)) _ Power c.at.ensures.all c.ne.ensures c.if-ne.false)
    (λ l. told_is l _ Power c.at-2.ensures.all c.ne-2.ensures c.if-ne-2.false) in
    omega (arith, c.skip_tree-y.ensures note s.base s.there, s.long)

pub write_record-requires : goal.write_record-requires
write_record-requires c =
    let s = tower_of c.requires.2 (told_is (kind_five _ (ready_tree c.requires.2)) _ Power c.at.ensures.all c.ne.ensures c.if-ne.false)
    (λ l. told_is l _ Power c.at-2.ensures.all c.ne-2.ensures c.if-ne-2.false) in
    omega (arith, c.skip_tree-y.ensures note s.base s.there, s.long, c.shift_right.auto.d)

pub overflow_add-p-6 : goal.overflow_add-p-6
overflow_add-p-6 c =
    let s = tower_of c.requires.2 (told_is (kind_five _ (ready_tree c.requires.2)) _ Power c.at.ensures.all c.ne.ensures c.if-ne.false)
    (λ l. told_is l _ Power c.at-2.ensures.all c.ne-2.ensures c.if-ne-2.false) in
    omega (arith, s.long)

pub write_record-requires-2 : goal.write_record-requires-2
write_record-requires-2 c =
    let s = tower_of c.requires.2 (told_is (kind_five _ (ready_tree c.requires.2)) _ Power c.at.ensures.all c.ne.ensures c.if-ne.false)
    (λ l. told_is l _ Power c.at-2.ensures.all c.ne-2.ensures c.if-ne-2.false) in
    omega (arith, c.skip_tree-y.ensures note s.base s.there, s.long, c.write_record.auto.d, c.shift_right.auto.d)

pub overflow_add-p-7 : goal.overflow_add-p-7
overflow_add-p-7 c =
    let s = tower_of c.requires.2 (told_is (kind_five _ (ready_tree c.requires.2)) _ Power c.at.ensures.all c.ne.ensures c.if-ne.false)
    (λ l. told_is l _ Power c.at-2.ensures.all c.ne-2.ensures c.if-ne-2.false) in
    omega (arith, s.long)

pub close-requires : goal.close-requires
close-requires c =
    let h = c.requires.2 in
    let s = tower_of h (told_is (kind_five _ (ready_tree h)) _ Power c.at.ensures.all c.ne.ensures c.if-ne.false)
    (λ l. told_is l _ Power c.at-2.ensures.all c.ne-2.ensures c.if-ne-2.false) in
    let place = c.skip_tree-y.ensures note s.base s.there in
    let is = sym (product s place c.bits.ensures c.bits-2.ensures) ∙ sym c.mul.ensures ∙ c.in_ok-n.was in
    let made = power c.mark-mark.result s.base c.mark-exponent_mark.result c.in_ok-n.n in
    let step = applies s place is c.mark-mark.ensures.0 c.mark-exponent_mark.ensures.0 in
    let light = rule_light h _ power_power_good made step in
    let there = tower_put s _ _ _ _ _ _ _ place c.shift_right.ensures c.write_record.ensures c.write_record-2.ensures light.0.2 in
    (_, closable made light.0 (power_node _ _ _ _) light.1 (record { after = _; there = there.0 }))

pub overflow_add-result : goal.overflow_add-result
overflow_add-result c =
    let s = tower_of c.requires.2 (told_is (kind_five _ (ready_tree c.requires.2)) _ Power c.at.ensures.all c.ne.ensures c.if-ne.false)
    (λ l. told_is l _ Power c.at-2.ensures.all c.ne-2.ensures c.if-ne-2.false) in
    omega (arith, s.long)

pub returns : goal.returns
returns c =
    λ t rest h.
    let s = tower_of h (told_is (kind_five _ (ready_tree h)) _ Power c.at.ensures.all c.ne.ensures c.if-ne.false)
    (λ l. told_is l _ Power c.at-2.ensures.all c.ne-2.ensures c.if-ne-2.false) in
    let place = c.skip_tree-y.ensures note s.base s.there in
    let is = sym (product s place c.bits.ensures c.bits-2.ensures) ∙ sym c.mul.ensures ∙ c.in_ok-n.was in
    let made = power c.mark-mark.result s.base c.mark-exponent_mark.result c.in_ok-n.n in
    let step = applies s place is c.mark-mark.ensures.0 c.mark-exponent_mark.ensures.0 in
    let light = rule_light h _ power_power_good made step in
    let there = tower_put s _ _ _ _ _ _ _ place c.shift_right.ensures c.write_record.ensures c.write_record-2.ensures light.0.2 in
    let can_close = closable made light.0 (power_node _ _ _ _) light.1 (record { after = rest; there = there.0 }) in
    let q = closed_pending made light.0 (power_node _ _ _ _) _ _ rest _ there.1 there.0 (c.close.ensures made can_close) in
    (made, step, q.0, refl)
