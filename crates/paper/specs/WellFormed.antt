-- The trees that tables hold: "an integer from -2^63 to 2^63 - 1, a symbol 0 to 255 ... Sums and products have two members or
-- more. The exponent of a power is an integer of at least 1."
use Rattle.std.specs.Prelude.{ℕ, ◌^◌, ◌≤◌, ◌<◌, List, [], ◌∷◌, ℤ}
use Rattle.std.specs.Int.Signed.{mag}
use Rattle.paper.specs.Tree.{Tree, Forest, integer, symbol, sum, product, power, nil, cons, count}

-- from -2^63 to 2^63 - 1 (`mag` is n both for n and for -(n + 1))
abbrev pub InRange : ℤ → Type 0
InRange z = mag z < 2 ^ 63

-- the mark of a record, in two bytes
abbrev pub Mark : ℕ → Type 0
Mark μ = μ < 65536

abbrev mutual
  pub WF : Tree → Type 0
  WF (integer μ z) = InRange z × Mark μ
  WF (symbol μ s) = (s < 256) × Mark μ
  WF (sum μ f) = (2 ≤ count f) × WFs f × Mark μ
  WF (product μ f) = (2 ≤ count f) × WFs f × Mark μ
  WF (power μ b ξ e) = WF b × (1 ≤ e) × (e < 2 ^ 63) × Mark μ × Mark ξ

  pub WFs : Forest → Type 0
  WFs nil = Unit {0}
  WFs (cons t f) = WF t × WFs f

-- the same of a list of trees
abbrev pub WFl : List Tree → Type 0
WFl [] = Unit {0}
WFl (t ∷ l) = WF t × WFl l
