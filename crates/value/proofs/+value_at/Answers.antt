-- `value::value_at`: a tree's value is told by the law of its kind, that of a node by what the loop gathered.
use borrow.Author.Tests.{not-true, not-false}
use Rattle.std.proofs.Common.{◌≡◌, ℕ, ◌+◌, ◌-◌, ◌%◌, ◌^◌, ◌<◌, ◌≤◌, List, [], ◌∷◌, length, set, refl, sym, ap, ◌∙◌, arith}
use native.Mathlib.Nat.{sub-zero}
use Rattle.paper.specs.Limits.{modulus}
use Rattle.paper.specs.Record.{kind}
use Rattle.paper.specs.Verdict.{records_in}
use Rattle.record.specs.declared.kinds.Kind.TheVariants.{Integer, Symbol, Power}
use Rattle.record.proofs.KindLaws.{kind_is, kind_is_not}
use Rattle.value.specs.Evaluated.{held, place, neutral, joined, parts}
use Rattle.value.proofs.TreeLaws.{inside, kind_below, last_kind, integer_value, symbol_value, parts_there, members_value, exponent_inside, power_value}
use Rattle.value.proofs.MemberLaws.{gathers, neutral_small, begins, member_there, goes_on, ends}
use Rattle.value.proofs.+value_at.Goals as goal

-- the cell, once its one number is written
written : (at : List ℕ) (v : ℕ) → length at ≡ 1 → set at 0 v ≡ v ∷ []
written [] v h = absurd (omega arith)
written (x ∷ []) v h = refl
written (x ∷ y ∷ at) v h = absurd (omega arith)

pub at-k-requires : goal.at-k-requires
at-k-requires t c = inside c.requires.1

pub overflow_add-at : goal.overflow_add-at
overflow_add-at t c = omega (arith, inside c.requires.1, c.requires.2)

pub bits-requires : goal.bits-requires
bits-requires t c = inside c.requires.1

pub returns-then-eq : goal.returns-then-eq
returns-then-eq t c =
    let i = place c.args.at.now in
    let k : kind c.args.s.now.now i ≡ 0 = omega (arith, kind_is _ Integer _ (kind c.args.s.now.now i) c.at-k.ensures.all c.eq.ensures c.if-eq.true) in
    rw (written c.args.at.now (i + 1) c.requires.0) (λ t h. integer_value (held c.args.regs.now) t h k _ c.bits.ensures)

pub symbol-requires : goal.symbol-requires
symbol-requires t c = inside c.requires.1

pub returns-then-eq-2 : goal.returns-then-eq-2
returns-then-eq-2 t c =
    let i = place c.args.at.now in
    let k : kind c.args.s.now.now i ≡ 1 = omega (arith, kind_is _ Symbol _ (kind c.args.s.now.now i) c.at-k.ensures.all c.eq-2.ensures c.if-eq-2.true) in
    let regs = held c.args.regs.now in
    let v = c.register_of.ensures ∙ ap regs c.symbol.ensures in
    rw (written c.args.at.now (i + 1) c.requires.0) (λ t h. symbol_value regs t h k _ v c.register_of.type_inv)

pub parts-end-requires : goal.parts-end-requires
parts-end-requires t c = (inside c.requires.1, c.at-k.ensures.named (kind_below c.requires.1))

pub loop-init : goal.loop-init
loop-init t c =
    let s = c.args.s.now.now in
    let i = place c.args.at.now in
    let from = begins (gathers (held c.args.regs.now) (kind s i)) (parts s i) (neutral_small (kind s i)) in
    let unit = c.neutral-total.ensures ∙ ap neutral (c.at-k.ensures.named (kind_below c.requires.1)) in
    let all = sub-zero c.parts-end.result ∙ c.parts-end.ensures in
    rw (written c.args.at.now (i + 1) c.requires.0, all, unit) from

pub value_at-requires : goal.value_at-requires
unfolding records_in
value_at-requires t c =
    let s = c.args.s.now.now in
    let i = place c.args.at.now in
    let l = c.loop.invariant in
    let other = kind_is_not _ Integer _ (kind s i) c.at-k.ensures.all c.eq.ensures c.if-eq.false in
    let another = kind_is_not _ Symbol _ (kind s i) c.at-k.ensures.all c.eq-2.ensures c.if-eq-2.false in
    let node : 2 ≤ kind s i = omega (arith, other, another) in
    let members = parts_there c.requires.1 node in
    let some : 0 < c.parts-end.result - c.loop.counter = omega arith in
    let there = member_there (gathers (held c.args.regs.now) (kind s i)) l members some in
    (omega (arith, l.ahead, inside c.requires.1), (ap length l.cell, there, c.requires.2))

pub loop-preserved : goal.loop-preserved
loop-preserved t c =
    let s = c.args.s.now.now in
    let i = place c.args.at.now in
    let l = c.loop in
    let other = kind_is_not _ Integer _ (kind s i) c.at-k.ensures.all c.eq.ensures c.if-eq.false in
    let another = kind_is_not _ Symbol _ (kind s i) c.at-k.ensures.all c.eq-2.ensures c.if-eq-2.false in
    let node : 2 ≤ kind s i = omega (arith, other, another) in
    let members = parts_there c.requires.1 node in
    let member = c.value_at in
    let next = c.joined-total.ensures ∙ ap (λ (x : ℕ). joined x l.total member.result % modulus) (c.at-k.ensures.named (kind_below c.requires.1)) in
    let some : 0 < c.parts-end.result - l.counter = omega arith in
    let fewer : c.parts-end.result - (l.counter + 1) ≡ c.parts-end.result - l.counter - 1 = omega arith in
    rw fewer (goes_on (gathers (held c.args.regs.now) (kind s i)) l.invariant members some member.result _ member.ensures _ next)

pub returns-then-ne : goal.returns-then-ne
returns-then-ne t c =
    let l = c.loop in
    let i = place c.args.at.now in
    let s = c.args.s.now.now in
    let other = kind_is_not _ Integer _ (kind s i) c.at-k.ensures.all c.eq.ensures c.if-eq.false in
    let another = kind_is_not _ Symbol _ (kind s i) c.at-k.ensures.all c.eq-2.ensures c.if-eq-2.false in
    let node : 2 ≤ kind s i = omega (arith, other, another) in
    let base = kind_is_not _ Power _ (kind s i) c.at-k.ensures.all refl (not-true _ (sym c.ne.ensures ∙ c.if-ne.true)) in
    let members : kind s i < 4 = omega (arith, base) in
    let none : c.parts-end.result - l.counter ≤ 0 = omega arith in
    let all = ends (gathers (held c.args.regs.now) (kind s i)) l.invariant none in
    λ t' h. members_value (held c.args.regs.now) l.total l.at all t' h node members

pub overflow_add-at-2 : goal.overflow_add-at-2
overflow_add-at-2 t c =
    let l = c.loop in
    let s = c.args.s.now.now in
    let i = place c.args.at.now in
    let none : c.parts-end.result - l.counter ≤ 0 = omega arith in
    let all = ends (gathers (held c.args.regs.now) (kind s i)) l.invariant none in
    let power = kind_is _ Power _ (kind s i) c.at-k.ensures.all refl (not-false _ (sym c.ne.ensures ∙ c.if-ne.false)) in
    let last = last_kind c.requires.1 (omega (arith, power)) in
    omega (arith, exponent_inside (held c.args.regs.now) l.total l.at all c.requires.1 last, c.requires.2)

pub bits-requires-2 : goal.bits-requires-2
bits-requires-2 t c =
    let l = c.loop in
    let s = c.args.s.now.now in
    let i = place c.args.at.now in
    let none : c.parts-end.result - l.counter ≤ 0 = omega arith in
    let all = ends (gathers (held c.args.regs.now) (kind s i)) l.invariant none in
    let power = kind_is _ Power _ (kind s i) c.at-k.ensures.all refl (not-false _ (sym c.ne.ensures ∙ c.if-ne.false)) in
    let last = last_kind c.requires.1 (omega (arith, power)) in
    exponent_inside (held c.args.regs.now) l.total l.at all c.requires.1 last

pub returns : goal.returns
returns t c =
    let l = c.loop in
    let s = c.args.s.now.now in
    let i = place c.args.at.now in
    let regs = held c.args.regs.now in
    let none : c.parts-end.result - l.counter ≤ 0 = omega arith in
    let all = ends (gathers regs (kind s i)) l.invariant none in
    let power = kind_is _ Power _ (kind s i) c.at-k.ensures.all refl (not-false _ (sym c.ne.ensures ∙ c.if-ne.false)) in
    let last = last_kind c.requires.1 (omega (arith, power)) in
    let v = c.wrapping_pow.ensures ∙ ap (λ (x : ℕ). l.total ^ x % modulus) c.bits-2.ensures in
    λ t' h.
    let told = power_value regs l.total l.at all t' h last _ v in
    record { value = told.value; end = written l.at _ (ap length l.invariant.cell) ∙ told.end }
