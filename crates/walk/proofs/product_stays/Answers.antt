-- Where the first member is no integer the others are looked at in their turn; else the product stays only with one more member, which the
-- record after the integer's tells of (`two_stay`).
use Rattle.std.proofs.Common.{◌≡◌, ℕ, ◌+◌, ◌<◌, ◌≤◌, min, ◌⊎◌, inl, inr, Bool, false, ◌&&◌, sym, ap, ◌∙◌, arith}
use Rattle.paper.specs.Tree.{Tree, Forest, product, mark_of, to_list}
use Rattle.paper.specs.Record.{kind, count_in}
use Rattle.record.specs.Kinds.{number_of}
use Rattle.record.specs.declared.kinds.Kind.{Kind}
use Rattle.record.specs.declared.kinds.Kind.TheVariants.{Integer, Product}
use Rattle.record.proofs.KindLaws.{kind_by_number}
use Rattle.split.specs.Standing.{Told}
use Rattle.note.proofs.ToldLaws.{record_within, some_told, mark_number}
use Rattle.rebuilt.proofs.IntegerTests.{ne_other, ne_integer}
use Rattle.walk.specs.Stays.{is_coefficient, is_other_rest, product_stays}
use Rattle.walk.proofs.SeenStays.{integer_at, product_at, rest_at, head, second, no_first, second_there, too_many, two_stay}
use Rattle.walk.proofs.product_stays.Goals as goal

-- what is told of the product, by its two members
told : {how : Tree → ℕ} {s : _} {i μ : ℕ} {f : Forest} (h : Told how s i (product μ f)) → kind s (i + 1) < 1 → count_in s i ≤ 2 → (b : Bool)
    → is_other_rest (second h).tree ≡ b → product_stays μ (to_list f) ≡ (b && is_coefficient μ (head h).tree)
told {μ = μ} h k n b e = two_stay h k n ∙ ap (λ b. b && is_coefficient μ (head h).tree) e

pub overflow_add-i : goal.overflow_add-i
overflow_add-i c = record { fits = omega (arith, record_within c.requires.there) }

pub at-requires : goal.at-requires
at-requires c = record_within (head c.requires.there).there

pub returns-then-ne : goal.returns-then-ne
returns-then-ne c = λ how μ f h.
    c.last_stays.ensures how μ f h ∙ sym (no_first h (ne_other c.at.result _ c.at.ensures.all c.ne.ensures c.if-ne.true))

pub count-requires : goal.count-requires
count-requires c = record_within c.requires.there

pub returns-then-count-gt-PAIR : goal.returns-then-count-gt-PAIR
returns-then-count-gt-PAIR c = λ how μ f h.
    sym (too_many h (ne_integer c.at.result _ c.at.ensures.all c.ne.ensures c.if-ne.false) (omega (arith, c.count.ensures.0, c.if-count-gt-PAIR.true)))

pub overflow_add-i-2 : goal.overflow_add-i-2
overflow_add-i-2 c =
    record { fits = omega (arith, record_within (second_there c.requires.there (ne_integer c.at.result _ c.at.ensures.all c.ne.ensures c.if-ne.false))) }

pub at-requires-2 : goal.at-requires-2
at-requires-2 c = record_within (second_there c.requires.there (ne_integer c.at.result _ c.at.ensures.all c.ne.ensures c.if-ne.false))

-- an integer or a product is no rest
no_rest : {how : Tree → ℕ} {s : _} {j : ℕ} (u : Tree) → Told how s j u → (k : Kind) → number_of k ≡ min (kind s j) 4
    → (k ≡ Integer) ⊎ (k ≡ Product) → is_other_rest u ≡ false
no_rest u h k m (inl e) = (integer_at u h (omega (arith, ap number_of (sym e) ∙ m))).2
no_rest u h k m (inr e) = product_at u h (omega (arith, ap number_of (sym e) ∙ m))

pub returns-in-Integer : goal.returns-in-Integer
returns-in-Integer c = λ how μ f h.
    let begins : kind c.args.s.now (c.args.i + 1) < 1 = ne_integer c.at.result _ c.at.ensures.all c.ne.ensures c.if-ne.false in
    let two : count_in c.args.s.now c.args.i ≤ 2 = omega (arith, c.count.ensures.0, c.if-count-gt-PAIR.false) in
    sym (told h begins two _ (no_rest (second h).tree (second_there h begins) _ c.at-2.ensures.all c.in-Integer.is))

pub overflow_add-i-in_default : goal.overflow_add-i-in_default
overflow_add-i-in_default c = record { fits = omega (arith, record_within c.requires.there) }

pub mark-requires : goal.mark-requires
mark-requires c = record_within c.requires.there

pub is_coefficient-requires : goal.is_coefficient-requires
is_coefficient-requires c = some_told (head c.requires.there).there

pub returns-in_default : goal.returns-in_default
unfolding mark_of
returns-in_default c = λ how μ f h.
    let begins : kind c.args.s.now (c.args.i + 1) < 1 = ne_integer c.at.result _ c.at.ensures.all c.ne.ensures c.if-ne.false in
    let two : count_in c.args.s.now c.args.i ≤ 2 = omega (arith, c.count.ensures.0, c.if-count-gt-PAIR.false) in
    let kind_of = c.at-2.ensures.all in
    let no_integer : kind c.args.s.now (c.args.i + 2) ≡ 0 → ⊥ =
    λ e. c.in_default.not-Integer (kind_by_number c.at-2.result Integer (omega (arith, kind_of, e))) in
    let rest = rest_at (second h).tree (second_there h begins) (omega (arith, no_integer))
    (λ e. c.in_default.not-Product (kind_by_number c.at-2.result Product (omega (arith, kind_of, e)))) in
    c.is_coefficient.ensures how (head h).tree (head h).there
    ∙ ap (λ m. is_coefficient m (head h).tree) (c.mark.ensures.0 ∙ mark_number h)
    ∙ sym (told h begins two _ rest)
