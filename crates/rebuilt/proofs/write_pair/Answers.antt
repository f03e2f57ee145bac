-- The record of a product of two, the integer's record and the tree's records are put each where the one before it ends, so the three puts
-- are one put of the product, which is then closed. One tree stands at the record, so that any other is the light one that the contract
-- asks for.
use Rattle.std.proofs.Common.{subst, arith}
use Rattle.note.proofs.ToldLaws.{one_tree}
use Rattle.rebuilt.specs.Written.{Light, paired}
use Rattle.rebuilt.proofs.Closing.{put_closable, put_closed, product_node}
use Rattle.rebuilt.proofs.WriteLaws.{pair_written}
use Rattle.rebuilt.proofs.write_pair.Goals as goal

pub close-requires : goal.close-requires
close-requires c =
    let g = c.args in
    let q = c.requires.0 in (
      _,
      put_closable _ q.2 (product_node _ _) _ _ _ (omega (arith, c.requires.1))
          (pair_written g.out.now _ _ _ g.m g.n c.ranges.n.fits g.mark q.0 (omega (arith, q.1.size, c.requires.1)) c.write_record.ensures
          c.write_record-2.ensures (c.copy_tree.ensures q.0 q.1)),
    )

pub returns : goal.returns
returns c = λ t h.
    let g = c.args in
    let q = c.requires.0 in
    put_closed _ (subst (λ u. Light (paired g.mark g.n u)) (one_tree q.1.there h.there) q.2) (product_node _ _) _ _ _ (omega (arith, c.requires.1))
    (pair_written g.out.now _ _ _ g.m g.n c.ranges.n.fits g.mark t (omega (arith, h.size, c.requires.1)) c.write_record.ensures
    c.write_record-2.ensures (c.copy_tree.ensures t h))
    _ c.close.ensures
