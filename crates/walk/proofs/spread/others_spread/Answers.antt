-- A turn adds the next member's spread, if it is no integer (`added_other`, `added_integer`).
use Rattle.std.proofs.Common.{◌≡◌, ◌+◌, ◌-◌, ◌<◌, subst, arith}
use Rattle.paper.specs.Record.{count_in}
use Rattle.note.proofs.ToldLaws.{record_within}
use Rattle.rebuilt.proofs.IntegerTests.{ne_other, ne_integer}
use Rattle.walk.proofs.SpreadLaws.{Adding, adding_start, adding_tree, added_other, added_integer, added_all}
use Rattle.walk.proofs.spread.others_spread.Goals as goal
use Rattle.walk.proofs.spread.others_spread.Goals.{then-ne, else-ne}

pub overflow_add-at : goal.overflow_add-at
overflow_add-at c = omega (arith, record_within c.requires.there)

pub count-end-requires : goal.count-end-requires
count-end-requires c = record_within c.requires.there

pub loop-init : goal.loop-init
loop-init c = λ how μ f h.
    let all : count_in c.args.s.now c.args.i ≡ c.count-end.result - 0 = omega (arith, c.count-end.ensures.0) in
    subst (λ n. Adding how c.args.s.now 0 (c.args.i + 1) n f) all (adding_start h)

pub at-requires : goal.at-requires
at-requires c =
    let some = c.requires in
    record_within (adding_tree (c.loop.invariant some.how some.mark some.members some.there) (omega arith)).there

pub spread-sum-requires : goal.spread-sum-requires
spread-sum-requires c =
    let some = c.requires in
    adding_tree (c.loop.invariant some.how some.mark some.members some.there) (omega arith)

pub skip_tree-at-requires : goal.skip_tree-at-requires
skip_tree-at-requires c =
    let some = c.requires in
    adding_tree (c.loop.invariant some.how some.mark some.members some.there) (omega arith)

pub loop-preserved : goal.loop-preserved
loop-preserved c = λ how μ f h.
    let inv = c.loop.invariant how μ f h in
    let l : 0 < c.count-end.result - c.loop.counter = omega arith in
    let next = c.skip_tree-at in
    let less : c.count-end.result - c.loop.counter - 1 ≡ c.count-end.result - (c.loop.counter + 1) = omega arith in
    subst (λ n. Adding how c.args.s.now c.if-ne.sum next.result n f) less
    (elim c.if-ne.branch [
      | then-ne w ↦
          added_other inv l next.result (next.ensures how) (ne_other c.at.result _ c.at.ensures.all c.ne.ensures w.if-ne.true)
          w.spread-sum.result (w.spread-sum.ensures how)
          c.if-ne.sum w.sum-is
      | else-ne w ↦ rw w.sum-is (added_integer inv l next.result (next.ensures how)
          (omega (arith, ne_integer c.at.result _ c.at.ensures.all c.ne.ensures w.if-ne.false)))
    ])

pub returns : goal.returns
returns c = λ how μ f h. added_all (c.loop.invariant how μ f h) μ (omega arith)
