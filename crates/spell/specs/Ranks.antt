-- The ranks of trees as the document numbers them.
use Rattle.std.specs.Prelude.{ℕ}
use Rattle.spell.specs.declared.Rank.{Rank}
use Rattle.spell.specs.declared.Rank.TheVariants.{Leaf, Power, Product, Sum}

abbrev pub number_of : Rank → ℕ
number_of Leaf = 0
number_of Power = 1
number_of Product = 2
number_of Sum = 3
