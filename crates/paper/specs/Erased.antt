-- A tree without its marks. Marks decide nothing: such a tree is simplified by the same steps, openings and tries, to the same result
-- without its marks (proofs/Erased). So machines with and without marks agree on unmarked tables.
use Rattle.std.specs.Prelude.{◌≡◌, List}
use Rattle.paper.specs.Tree.{Tree, Forest, integer, symbol, sum, product, power, nil, cons}
use Rattle.paper.specs.Rules.{Rule}
use Rattle.paper.specs.Driver.{Ran, done, over, simplify}

-- every mark 0
unfoldable mutual
  pub erase : Tree → Tree
  erase (integer μ z) = integer 0 z
  erase (symbol μ s) = symbol 0 s
  erase (sum μ f) = sum 0 (erases f)
  erase (product μ f) = product 0 (erases f)
  erase (power μ b ξ e) = power 0 (erase b) 0 e

  pub erases : Forest → Forest
  erases nil = nil
  erases (cons t f) = cons (erase t) (erases f)

unfoldable pub erased : Ran → Ran
erased (done t s o n) = done (erase t) s o n
erased (over k) = over k

abbrev pub MarksDecideNothing : List Rule → Type 0
MarksDecideNothing rs = (t : Tree) → simplify rs (erase t) ≡ erased (simplify rs t)
