-- `rules::members::drop_one`: the members before the dropped one are moved over its record, the node's record is written before them with one member less
-- (`around_put`), and closed.
use Prim.Native.Nat.{◌+◌, ◌-◌, ◌*◌}
use mathlib.Core.Path.{◌≡◌, ap, ◌∙◌}
use mathlib.Core.List.{◌++◌}
use native.Mathlib.Omega.{arith}
use lib.ListN.{length}
use Rattle.paper.specs.Record.{mark_in}
use Rattle.paper.specs.Table.{record_of}
use Rattle.note.proofs.CloseLaws.{closable, closed_pending}
use Rattle.stretch.specs.Put.{put}
use Rattle.part.specs.Like.{node_of}
use Rattle.rules.proofs.Nodes.{more_node}
use Rattle.rules.proofs.Around.{around_long, around_light, around_put}
use Rattle.rules.proofs.members.drop_one.Goals as goal

pub count-n-requires : goal.count-n-requires
count-n-requires c = omega (arith, c.requires.3.place, around_long c.requires.3)

pub mark-mark-requires : goal.mark-mark-requires
mark-mark-requires c = omega (arith, c.requires.3.place, around_long c.requires.3)

pub overflow_add-p : goal.overflow_add-p
overflow_add-p c = omega (arith, c.requires.3.place, around_long c.requires.3)

pub overflow_mul-p : goal.overflow_mul-p
overflow_mul-p c = omega (arith, c.requires.3.place, around_long c.requires.3)

pub overflow_mul-p-2 : goal.overflow_mul-p-2
overflow_mul-p-2 c = omega (arith, c.requires.3.place, around_long c.requires.3)

pub overflow_sub-x : goal.overflow_sub-x
overflow_sub-x c = omega (arith, c.requires.3.place, around_long c.requires.3)

pub overflow_mul-x : goal.overflow_mul-x
overflow_mul-x c = omega (arith, c.requires.3.place, around_long c.requires.3)

pub shift_right-requires : goal.shift_right-requires
shift_right-requires c =
    let h = c.requires.3 in
    (omega (arith, h.place), omega (arith, h.place, around_long h))

pub write_record-requires : goal.write_record-requires
write_record-requires c = omega (arith, c.requires.3.place, around_long c.requires.3, c.shift_right.auto.d)

pub close-requires : goal.close-requires
close-requires c =
    let a = c.requires.0 in
    let b = c.requires.1 in
    let h = c.requires.3 in
    let g = c.args in
    let μ = mark_in g.work.now g.p in
    let kind = c.number in
    let made = node_of g.sum μ (a ++ b) in
    let less : c.count-n.result - 1 ≡ length (a ++ b) = omega (arith, c.count-n.ensures.0, h.counted) in
    let own = ap (λ m. put c.shift_right.new.d ((g.p + 1) * 16) (record_of kind.result (c.count-n.result - 1) m 0)) c.mark-mark.ensures.0 in
    let there = around_put h g.sum kind.result (c.count-n.result - 1) μ _ _ (kind.ensures ∙ c.node_kind.ensures) less c.shift_right.ensures
    (c.write_record.ensures ∙ own) in
    let light = around_light h g.sum μ (omega (arith, c.mark-mark.ensures.0, c.mark-mark.ensures.1)) in
    let node = more_node g.sum μ (a ++ b) h.more in
    (made, closable made light.0 node light.1 (record { after = c.requires.2; there = there.0 }))

pub returns : goal.returns
returns c =
    λ a b rest h.
    let g = c.args in
    let μ = mark_in g.work.now g.p in
    let kind = c.number in
    let made = node_of g.sum μ (a ++ b) in
    let less : c.count-n.result - 1 ≡ length (a ++ b) = omega (arith, c.count-n.ensures.0, h.counted) in
    let own = ap (λ m. put c.shift_right.new.d ((g.p + 1) * 16) (record_of kind.result (c.count-n.result - 1) m 0)) c.mark-mark.ensures.0 in
    let there = around_put h g.sum kind.result (c.count-n.result - 1) μ _ _ (kind.ensures ∙ c.node_kind.ensures) less c.shift_right.ensures
    (c.write_record.ensures ∙ own) in
    let light = around_light h g.sum μ (omega (arith, c.mark-mark.ensures.0, c.mark-mark.ensures.1)) in
    let node = more_node g.sum μ (a ++ b) h.more in
    let can_close = closable made light.0 node light.1 (record { after = rest; there = there.0 }) in
    (closed_pending made light.0 node _ _ rest _ there.1 there.0 (c.close.ensures made can_close)).0
