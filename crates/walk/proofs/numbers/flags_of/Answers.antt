-- Each return is one kind of member.
use Rattle.std.proofs.Common.{◌≡◌, ◌+◌, ◌*◌, refl, sym, ◌∙◌, subst, arith}
use Rattle.paper.specs.Rules.{factor_of}
use Rattle.note.proofs.ToldLaws.{record_within}
use Rattle.rebuilt.proofs.IntegerTests.{eq_integer, eq_other}
use Rattle.walk.specs.Numbers.{first_flag, second_flag}
use Rattle.walk.proofs.NumbersLaws.{bits_word, integer_seen, other_seen, term_flags, number_flags, other_flags}
use Rattle.walk.proofs.numbers.flags_of.Goals as goal

pub returns-then-round : goal.returns-then-round
returns-then-round c =
    let r = c.args.round in
    let a = c.place-first.result in (
      omega (arith, c.place-first.ensures.1),
      omega (arith, c.place-first.ensures.1),
      λ how t h.
          subst (λ b. (a ≡ first_flag b r.f r.m t) × (a ≡ second_flag b r.f r.m t)) (sym c.if-round.true)
          (term_flags r.f r.m _ a t (c.rest_spread.ensures how t h) c.place-first.ensures.0),
    )

pub at-requires : goal.at-requires
at-requires c = let some = c.requires.0 in record_within (c.base-b.ensures.by_index some.how some.tree some.there)

pub bits-requires : goal.bits-requires
bits-requires c = let some = c.requires.0 in record_within (c.base-b.ensures.by_index some.how some.tree some.there)

pub returns-then-eq : goal.returns-then-eq
returns-then-eq c =
    let r = c.args.round in
    let x = c.place-first-then-eq in
    let y = c.place-y in (
      omega (arith, x.ensures.1),
      omega (arith, y.ensures.1),
      λ how t h.
          let there = c.base-b.ensures.by_index how t h in
          let number = integer_seen (factor_of t).base there _ refl (eq_integer c.at.result _ c.at.ensures.all c.eq.ensures c.if-eq.true) in
          subst (λ b. (x.result ≡ first_flag b r.f r.m t) × (4 * r.m + y.result ≡ second_flag b r.f r.m t))
          (sym c.if-round.false)
          (number_flags r.f r.m _ _ x.result y.result t number (c.exponent.ensures how t h).0
          (c.bits.ensures ∙ bits_word (factor_of t).base there number) x.ensures.0 y.ensures.0),
    )

pub returns : goal.returns
returns c =
    let r = c.args.round in
    let a = c.place-first-2.result in (
      omega (arith, c.place-first-2.ensures.1),
      omega (arith, c.place-first-2.ensures.1),
      λ how t h.
          let there = c.base-b.ensures.by_index how t h in
          let other = other_seen (factor_of t).base there _ refl (eq_other c.at.result _ c.at.ensures.all c.eq.ensures c.if-eq.false) in
          subst (λ b. (a ≡ first_flag b r.f r.m t) × (a ≡ second_flag b r.f r.m t)) (sym c.if-round.false)
          (other_flags r.f r.m _ a t other (c.spread.ensures how (factor_of t).base there) c.place-first-2.ensures.0),
    )
