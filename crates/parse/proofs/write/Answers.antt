-- What `read_sum` lays is the tree of the text, where it has one that is not over the limit.
use Rattle.parse.proofs.WeighLaws.{text_laid}
use Rattle.parse.proofs.write.Goals as goal

pub returns : goal.returns
returns c =
    let a = c.args in
    text_laid a.text.now a.limit a.out.now _ c.read_sum.result c.read_sum.ensures
