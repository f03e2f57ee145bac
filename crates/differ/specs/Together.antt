-- Two tables whose trees are walked in step: what the walk asks for.
use Rattle.std.specs.Prelude.{ℕ, ◌*◌, ◌≡◌, List, length}
use Rattle.paper.specs.Tree.{Tree, records}
use Rattle.paper.specs.Standing.{TreeIn}
use Rattle.paper_differ.specs.Differ.{differences, differences_of}

-- a tree stands at record 0 of each, the first in all its records; the pairs are theirs
pub record Together (a b : List ℕ) : Type 0 where
  pub one : Tree
  pub other : Tree
  pub one_there : TreeIn a 0 one
  pub other_there : TreeIn b 0 other
  pub whole : length a ≡ 16 * records one
  pub theirs : differences_of a b ≡ differences one other 0 0
