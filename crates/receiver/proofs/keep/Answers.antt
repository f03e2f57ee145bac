-- `receiver::keep`: past the most a record stays; else all of the piece is kept, or its front (StepLaws).
use mathlib.Core.Path.{sym, ◌∙◌}
use native.Mathlib.Omega.{arith}
use Rattle.paper_receiver.proofs.PieceLaws.{past_leaves}
use Rattle.receiver.specs.Receiving.{held}
use Rattle.receiver.proofs.StepLaws.{count_within, keeps_front, keeps_whole}
use Rattle.receiver.proofs.keep.Goals as goal

pub returns-then-is_past : goal.returns-then-is_past
returns-then-is_past c =
    sym (past_leaves c.args.most (held c.args.r c.args.area.now) c.args.piece.now (sym c.is_past.ensures ∙ c.if-is_past.true))

pub overflow_sub-most : goal.overflow_sub-most
overflow_sub-most c = count_within c.args.most c.args.r (sym c.is_past.ensures ∙ c.if-is_past.false)

pub copy_bytes-requires : goal.copy_bytes-requires
copy_bytes-requires c =
    let h = count_within c.args.most c.args.r (sym c.is_past.ensures ∙ c.if-is_past.false) in
    (omega arith, omega arith)

pub returns-then-kept-n : goal.returns-then-kept-n
returns-then-kept-n c =
    let a = c.args in
    keeps_front a.most a.r (sym c.is_past.ensures ∙ c.if-is_past.false) a.area.now a.piece.now _ _ (omega arith) c.copy_bytes.ensures c.if-kept-n.true

pub returns-else-kept-n : goal.returns-else-kept-n
returns-else-kept-n c =
    let a = c.args in
    keeps_whole a.most a.r (sym c.is_past.ensures ∙ c.if-is_past.false) a.area.now a.piece.now _ _ (omega arith) c.copy_bytes.ensures c.if-kept-n.false
