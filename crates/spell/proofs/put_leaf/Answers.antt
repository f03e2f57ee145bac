-- The kind tells an integer from a symbol.
use Rattle.spell.proofs.TreeLaws.{inside, kind_as, symbol_as, integer_put, symbol_put}
use Rattle.spell.proofs.put_leaf.Goals as goal

pub at-requires : goal.at-requires
at-requires c = inside c.requires.0

pub bits-requires : goal.bits-requires
bits-requires c = inside c.requires.0

pub returns-in-Integer : goal.returns-in-Integer
returns-in-Integer c = λ t h. integer_put t h (kind_as c.requires.0 c.in-Integer.ensures.named) c.bits.ensures c.put_integer.ensures

pub symbol-requires : goal.symbol-requires
symbol-requires c = inside c.requires.0

pub returns-in_default : goal.returns-in_default
returns-in_default c =
    let k = symbol_as c.at.result c.requires.0 c.at.ensures.named c.requires.1 c.in_default.not-Integer in
    λ t h. symbol_put t h k c.symbol.ensures c.put_sign-b.ensures c.spell_number.ensures
