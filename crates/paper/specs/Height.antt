-- How many nodes of a tree stand one inside the other, on the longest way down: what a machine that goes down by calls needs of its stack. No rule of
-- the papers speaks of it.
use Rattle.std.specs.Prelude.{ℕ, ◌+◌, max}
use Rattle.paper.specs.Tree.{Tree, Forest, integer, symbol, sum, product, power, nil, cons}

unfoldable mutual
  pub height : Tree → ℕ
  height (integer μ z) = 0
  height (symbol μ s) = 0
  height (sum μ f) = 1 + tallest f
  height (product μ f) = 1 + tallest f
  height (power μ b ξ e) = 1 + height b

  pub tallest : Forest → ℕ
  tallest nil = 0
  tallest (cons t f) = max (height t) (tallest f)
