-- `split::count_others` meets its contract: a turn counts the next member, where it is no integer.
use Rattle.std.proofs.Common.{◌≡◌, ◌+◌, ◌-◌, refl, sym, ◌∙◌, arith}
use native.Mathlib.Nat.{sub-zero}
use Rattle.note.proofs.ToldLaws.{record_within}
use Rattle.split.proofs.SplitLaws.{counting_start, counting_tree, counted_other, counted_integer, counted_all}
use borrow.Author.Tests.{not-true, not-false}
use Rattle.paper.specs.Record.{kind}
use Rattle.record.specs.declared.kinds.Kind.TheVariants.{Integer}
use Rattle.record.proofs.KindLaws.{kind_is, kind_is_not}
use Rattle.split.proofs.count_others.Goals as goal
use Rattle.split.proofs.count_others.Goals.{then-ne, else-ne}

pub overflow_add-at : goal.overflow_add-at
overflow_add-at c = omega (arith, record_within c.requires.there)

pub count-end-requires : goal.count-end-requires
count-end-requires c = record_within c.requires.there

pub loop-init : goal.loop-init
loop-init c = record { few = omega arith; counting = λ how μ f h. rw (c.count-end.ensures.0, sub-zero) (counting_start h) }

pub at-requires : goal.at-requires
at-requires c =
    let some = c.requires in
    record_within (counting_tree (c.loop.invariant.counting some.how some.mark some.members some.there) (omega arith)).there

pub overflow_add-many : goal.overflow_add-many
overflow_add-many c = omega arith

pub skip_tree-at-requires : goal.skip_tree-at-requires
skip_tree-at-requires c =
    let some = c.requires in
    counting_tree (c.loop.invariant.counting some.how some.mark some.members some.there) (omega arith)

pub loop-preserved : goal.loop-preserved
loop-preserved c =
    let inv = c.loop.invariant in
    let next = c.skip_tree-at in
    let fewer : c.count-end.result - (c.loop.counter + 1) ≡ c.count-end.result - c.loop.counter - 1 = omega arith in
    elim c.if-ne.branch [
      | then-ne w ↦
          let k = kind_is_not _ Integer _ (kind c.args.s.now c.loop.at) c.at.ensures.all refl (not-true _ (sym c.ne.ensures ∙ w.if-ne.true)) in
          record {
            few = omega arith;
            counting = λ how μ f h.
                rw (w.many-is, w.last-is, fewer)
                (counted_other (inv.counting how μ f h) (omega arith) next.result (next.ensures how) (omega (arith, k)));
          }
      | else-ne w ↦
          let k = kind_is _ Integer _ (kind c.args.s.now c.loop.at) c.at.ensures.all refl (not-false _ (sym c.ne.ensures ∙ w.if-ne.false)) in
          record {
            few = omega arith;
            counting = λ how μ f h.
                rw (w.many-is, w.last-is, fewer)
                (counted_integer (inv.counting how μ f h) (omega arith) next.result (next.ensures how) (omega (arith, k)));
          }
    ]

pub returns : goal.returns
returns c = λ how μ f h. counted_all (c.loop.invariant.counting how μ f h) (omega arith)
