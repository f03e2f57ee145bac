-- The tree's records are copied, and then the mark of the first of them is set, which makes them the records of the tree with that mark.
use Rattle.std.proofs.Common.{◌*◌, refl, arith}
use Rattle.paper.proofs.EncodeLaws.{records_pos}
use Rattle.rebuilt.proofs.Encoded.{mark_put}
use Rattle.rebuilt.proofs.copy_marked.Goals as goal

pub set_mark-requires : goal.set_mark-requires
set_mark-requires c =
    let q = c.requires in
    omega (arith, q.1, q.0.1.size, records_pos q.0.0, c.copy_tree.auto.out)

pub returns : goal.returns
returns c = λ t h.
    let g = c.args in
    mark_put g.out.now _ _ (g.m * 16) _ g.mark t refl (omega (arith, c.requires.1, h.size)) (c.copy_tree.ensures t h) c.set_mark.ensures
