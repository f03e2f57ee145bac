-- Each return is one case of the record's kind.
use Rattle.std.proofs.Common.{◌∙◌, arith}
use Rattle.walk.proofs.SpreadLaws.{leaf_share, product_share, head_share}
use Rattle.walk.proofs.spread.share.Goals as goal

pub returns-then-k-lt-SUM : goal.returns-then-k-lt-SUM
returns-then-k-lt-SUM c =
    let k = c.kind-k in
    let v = c.bits in
    c.stirred.ensures ∙ leaf_share _ _ k.result k.ensures v.result v.ensures c.if-k-lt-SUM.true

pub returns-then-k-eq-PRODUCT : goal.returns-then-k-eq-PRODUCT
returns-then-k-eq-PRODUCT c = product_share _ _ c.kind-k.result c.kind-k.ensures c.if-k-eq-PRODUCT.true

pub returns : goal.returns
returns c = head_share _ _ c.kind-k.result c.kind-k.ensures (omega (arith, c.if-k-lt-SUM.false)) c.if-k-eq-PRODUCT.false
