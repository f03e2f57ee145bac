-- `rules::members::move_to_end`: the tree ends at `end`, and stays; or it ends before, and its records are put so that they end there.
use mathlib.Core.Path.{refl}
use native.Mathlib.Omega.{arith}
use Rattle.note.specs.Note.{note}
use Rattle.note.proofs.ToldLaws.{some_told}
use Rattle.rules.proofs.Counting.{ends_there, moved}
use Rattle.rules.proofs.members.move_to_end.Goals as goal

pub skip_tree-next-requires : goal.skip_tree-next-requires
skip_tree-next-requires c = some_told c.requires.0.1

pub returns-then-end-next : goal.returns-then-end-next
returns-then-end-next c = λ t h l. ends_there h c.args.end (omega (arith, c.skip_tree-next.ensures note t h, c.if-end-next.true))

pub overflow_sub-q : goal.overflow_sub-q
overflow_sub-q c = omega (arith, c.skip_tree-next.ensures note _ c.requires.0.1)

pub overflow_sub-q-2 : goal.overflow_sub-q-2
overflow_sub-q-2 c = omega (arith, c.skip_tree-next.ensures note _ c.requires.0.1, c.requires.0.2)

pub overflow_mul-q : goal.overflow_mul-q
overflow_mul-q c = omega (arith, c.skip_tree-next.ensures note _ c.requires.0.1, c.requires.0.2, c.requires.1)

pub overflow_mul-i : goal.overflow_mul-i
overflow_mul-i c = omega (arith, c.skip_tree-next.ensures note _ c.requires.0.1, c.requires.0.2, c.requires.1)

pub overflow_sub-next : goal.overflow_sub-next
overflow_sub-next c = omega (arith, c.skip_tree-next.ensures note _ c.requires.0.1)

pub overflow_mul-next : goal.overflow_mul-next
overflow_mul-next c = omega (arith, c.skip_tree-next.ensures note _ c.requires.0.1, c.requires.0.2, c.requires.1)

pub shift_right-requires : goal.shift_right-requires
shift_right-requires c =
    let e = c.skip_tree-next.ensures note _ c.requires.0.1 in
    (omega (arith, e, c.requires.0.2), omega (arith, e, c.requires.0.2, c.requires.1))

pub returns : goal.returns
returns c = λ t h l. moved h c.args.end _ _ _ (c.skip_tree-next.ensures note t h) l refl c.requires.1 c.shift_right.ensures
