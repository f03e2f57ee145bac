-- `rules::members::put_back`: the tree of the members stands in `out`, from record d or the next up to record e, and is copied to before `end`; there is room
-- for it, since e is at most d + end.
use native.Mathlib.Omega.{arith}
use Rattle.rules.proofs.Puts.{put_back}
use Rattle.rules.proofs.members.put_back.Goals as goal

pub copy_back-requires : goal.copy_back-requires
copy_back-requires c =
    let q = c.requires in
    let h = c.collapse-from.ensures c.args.e q.0.0 q.0.1 q.0.2 q.0.3 in
    (omega (arith, h.end), omega (arith, h.end, h.low, q.1), omega (arith, q.0.1.within, c.collapse-from.auto.out), q.2)

pub returns : goal.returns
returns c =
    let g = c.args in
    let q = c.requires in
    let r = c.copy_back.ensures in
    λ l b n k.
    let h = c.collapse-from.ensures g.e l b n k in
    put_back g.sum g.mark l g.out.now _ g.work.now _ g.d g.e g.end _ _ h r.0 (omega (arith, h.end, h.low, q.1)) q.2 r.1
