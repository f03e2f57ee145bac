-- Well-formed trees that stand in a table: what code that reads them asks for, and what its promises speak of.
use Rattle.std.specs.Prelude.{ℕ, List}
use Rattle.paper.specs.Tree.{Tree, Forest, product}
pub use Rattle.note.specs.Told.{Told, ToldTrees, SomeTold}

-- some product stands at record i of the table s
pub record SomeProduct (s : List ℕ) (i : ℕ) : Type 0 where
  pub how : Tree → ℕ
  pub mark : ℕ
  pub members : Forest
  pub there : Told how s i (product mark members)
