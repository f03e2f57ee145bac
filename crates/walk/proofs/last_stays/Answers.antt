-- An integer before the last member ends the search, and the last one is judged by its record.
use Rattle.std.proofs.Common.{◌≡◌, ℕ, ◌+◌, ◌-◌, ◌<◌, ◌≤◌, true, cond, ◌&&◌, ltb, length, sym, ap, ◌∙◌, subst, arith, le-ltb, lt-ltb}
use borrow.Author.Tests.{lt-leb}
use Rattle.paper.specs.Record.{kind, count_in}
use Rattle.paper.specs.Tree.{Tree, Forest, product, mark_of, to_list}
use Rattle.paper.proofs.WFLaws.{count_list}
use Rattle.split.specs.Standing.{Told}
use Rattle.note.proofs.ToldLaws.{product_trees, record_within, some_told, mark_number}
use Rattle.rebuilt.proofs.IntegerTests.{eq_integer, eq_other, ne_other, ne_integer}
use Rattle.walk.specs.Stays.{is_coefficient, last_stays}
use Rattle.walk.proofs.SeenStays.{Seeking, seeking_begins, member, seeking_stops, seeking_more, last, seeking_ends, integer_at, other_at}
use Rattle.walk.proofs.last_stays.Goals as goal

-- the members are as many as were counted, one or more
many : {how : Tree → ℕ} {s : _} {i n μ : ℕ} {f : Forest} → Told how s i (product μ f) → n ≡ count_in s i → (length (to_list f) ≡ n) × (1 ≤ n)
many {f = f} h e = (count_list f ∙ (product_trees h).counted ∙ sym e, omega (arith, h.wf.0, (product_trees h).counted, e))

pub count-n-requires : goal.count-n-requires
count-n-requires c = record_within c.requires.there

pub overflow_add-at : goal.overflow_add-at
overflow_add-at c = record { fits = omega (arith, record_within c.requires.there) }

pub loop-init : goal.loop-init
loop-init c = λ how μ f h.
    let all : count_in c.args.s.now c.args.i ≡ c.count-n.result + 1 - 1 = omega (arith, c.count-n.ensures.0) in
    subst (λ n. Seeking how c.args.s.now (ltb 2 (length (to_list f))) μ f (c.args.i + 1) n) all (seeking_begins _ h)

pub at-requires : goal.at-requires
at-requires c =
    let q = c.requires in
    record_within (member (c.loop.invariant q.how q.mark q.members q.there) (omega arith)).there

pub returns-then-eq : goal.returns-then-eq
returns-then-eq c = λ how μ f h.
    sym (seeking_stops (c.loop.invariant how μ f h) (omega (arith, c.loop-test.true)) (eq_integer c.at.result _ c.at.ensures.all c.eq.ensures c.if-eq.true))

pub skip_tree-at-requires : goal.skip_tree-at-requires
skip_tree-at-requires c =
    let q = c.requires in
    some_told (member (c.loop.invariant q.how q.mark q.members q.there) (omega arith)).there

pub loop-preserved : goal.loop-preserved
loop-preserved c = λ how μ f h.
    let less : c.count-n.result + 1 - c.loop.counter - 1 ≡ c.count-n.result + 1 - (c.loop.counter + 1) = omega arith in
    subst (λ n. Seeking how c.args.s.now (ltb 2 (length (to_list f))) μ f c.skip_tree-at.result n) less
    (seeking_more (c.loop.invariant how μ f h) (omega (arith, c.loop-test.true)) (eq_other c.at.result _ c.at.ensures.all c.eq.ensures c.if-eq.false) _
    (c.skip_tree-at.ensures how))

pub at-requires-2 : goal.at-requires-2
at-requires-2 c =
    let q = c.requires in
    let n = (many q.there c.count-n.ensures.0).1 in
    record_within (member (c.loop.invariant q.how q.mark q.members q.there) (omega (arith, n, c.loop.auto.counter-end n))).there

-- ---- the last one, which is an integer or none
module _ {how : Tree → ℕ} {s : _} {μ : ℕ} {f : Forest} {at left : ℕ} (v : Seeking how s (ltb 2 (length (to_list f))) μ f at left) (one : left ≡ 1) where
  abbrev it : Tree
  it = (last v one).tree

  last_integer : kind s at < 1 → last_stays (ltb 2 (length (to_list f))) μ (to_list f) ≡ (ltb 2 (length (to_list f)) && is_coefficient μ it)
  last_integer l =
      seeking_ends v one
      ∙ ap (λ b. cond b (ltb 2 (length (to_list f)) && is_coefficient μ it) true) (integer_at it (last v one).there l).0

  last_other : 0 < kind s at → last_stays (ltb 2 (length (to_list f))) μ (to_list f) ≡ true
  last_other l =
      seeking_ends v one
      ∙ ap (λ b. cond b (ltb 2 (length (to_list f)) && is_coefficient μ it) true) (other_at it (last v one).there l).0

pub returns-then-ne : goal.returns-then-ne
returns-then-ne c = λ how μ f h.
    let n = (many h c.count-n.ensures.0).1 in
    sym (last_other (c.loop.invariant how μ f h) (omega (arith, n, c.loop.auto.counter-end n, c.loop-test.false))
    (ne_other c.at-2.result _ c.at-2.ensures.all c.ne.ensures c.if-ne.true))

pub mark-requires : goal.mark-requires
mark-requires c = record_within c.requires.there

pub is_coefficient-requires : goal.is_coefficient-requires
is_coefficient-requires c =
    let q = c.requires in
    let n = (many q.there c.count-n.ensures.0).1 in
    some_told (member (c.loop.invariant q.how q.mark q.members q.there) (omega (arith, n, c.loop.auto.counter-end n))).there

pub returns-then-n-ge-LONGER : goal.returns-then-n-ge-LONGER
unfolding mark_of
returns-then-n-ge-LONGER c = λ how μ f h.
    let v = c.loop.invariant how μ f h in
    let n = many h c.count-n.ensures.0 in
    let one : c.count-n.result + 1 - c.loop.counter ≡ 1 = omega (arith, n.1, c.loop.auto.counter-end n.1, c.loop-test.false) in
    let t = last v one in
    c.is_coefficient.ensures how t.tree t.there
    ∙ ap (λ m. is_coefficient m t.tree) (c.mark.ensures.0 ∙ mark_number h)
    ∙ sym
    (last_integer v one (ne_integer c.at-2.result _ c.at-2.ensures.all c.ne.ensures c.if-ne.false)
    ∙ ap (λ b. b && is_coefficient μ t.tree) (lt-ltb 2 (length (to_list f)) (omega (arith, n.0, c.if-n-ge-LONGER.true))))

pub returns-else-n-ge-LONGER : goal.returns-else-n-ge-LONGER
returns-else-n-ge-LONGER c = λ how μ f h.
    let v = c.loop.invariant how μ f h in
    let n = many h c.count-n.ensures.0 in
    let one : c.count-n.result + 1 - c.loop.counter ≡ 1 = omega (arith, n.1, c.loop.auto.counter-end n.1, c.loop-test.false) in
    let t = last v one in
    lt-leb _ _ c.if-n-ge-LONGER.false
    ∙ sym
    (last_integer v one (ne_integer c.at-2.result _ c.at-2.ensures.all c.ne.ensures c.if-ne.false)
    ∙ ap (λ b. b && is_coefficient μ t.tree) (le-ltb 2 (length (to_list f)) (omega (arith, n.0, c.if-n-ge-LONGER.false))))
