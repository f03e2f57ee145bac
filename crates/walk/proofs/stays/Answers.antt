-- Of a sum's members only products are looked into, of a product's only powers.
use Rattle.std.proofs.Common.{◌≡◌, Bool, true, false, not, sym, ap, ◌∙◌, subst, arith}
use Rattle.paper.specs.Record.{kind}
use Rattle.record.specs.declared.kinds.Kind.TheVariants.{Product, Power}
use Rattle.record.proofs.KindLaws.{kind_by_number}
use Rattle.split.specs.Standing.{Told}
use Rattle.split.proofs.SplitLaws.{some_product, kind_five}
use Rattle.note.proofs.ToldLaws.{record_within, seen, seen_product}
use Rattle.paper.specs.Tree.{Tree}
use Rattle.walk.specs.Stays.{stays, term_stays, factor_stays}
use Rattle.walk.proofs.SeenStays.{term_stays_lem, factor_stays_lem}
use Rattle.walk.proofs.stays.Goals as goal

pub at-requires : goal.at-requires
at-requires c = record_within c.requires.there

pub product_stays-requires : goal.product_stays-requires
product_stays-requires c =
    let k : kind c.args.s.now c.args.i ≡ 3 = omega (arith, c.in-Product.ensures.all) in
    some_product c.requires k

pub power_stays-requires : goal.power_stays-requires
power_stays-requires c =
    let q = c.requires in
    (q, omega (arith, c.in-Power.ensures.all, kind_five q.tree q.there))

pub returns-then-not-terms : goal.returns-then-not-terms
returns-then-not-terms c = λ how t h.
    ap not c.if-not-terms.true
    ∙ sym (ap (λ b. stays b t) c.if-not-terms.true ∙ factor_stays_lem t h (λ e. omega (arith, e, c.in-Product.ensures.all)))

pub returns-else-not-terms : goal.returns-else-not-terms
unfolding term_stays
returns-else-not-terms c = λ how t h.
    let k : kind c.args.s.now c.args.i ≡ 3 = omega (arith, c.in-Product.ensures.all) in
    let p = seen_product (seen h) k in
    c.product_stays.ensures how p.0 p.1 (subst (Told how c.args.s.now c.args.i) p.2 h)
    ∙ ap term_stays (sym p.2)
    ∙ ap (λ b. stays b t) (sym c.if-not-terms.false)

pub returns-then-terms : goal.returns-then-terms
returns-then-terms c = λ how t h.
    c.if-terms.true ∙ sym (ap (λ b. stays b t) c.if-terms.true ∙ term_stays_lem t h (λ e. omega (arith, e, c.in-Power.ensures.all)))

pub returns-else-terms : goal.returns-else-terms
returns-else-terms c = λ how t h. c.power_stays.ensures how t h ∙ ap (λ b. stays b t) (sym c.if-terms.false)

-- any other tree stays in both
both_stay : (b : Bool) (t : Tree) → term_stays t ≡ true → factor_stays t ≡ true → true ≡ stays b t
both_stay true t g h = sym g
both_stay false t g h = sym h

pub returns-in_default : goal.returns-in_default
returns-in_default c = λ how t h.
    both_stay c.args.terms t
    (term_stays_lem t h (λ e. c.in_default.not-Product (kind_by_number c.at.result Product (omega (arith, c.at.ensures.all, e)))))
    (factor_stays_lem t h (λ e. c.in_default.not-Power (kind_by_number c.at.result Power (omega (arith, c.at.ensures.all, e)))))
