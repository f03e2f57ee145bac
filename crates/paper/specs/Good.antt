-- What is asked of a rule: where it applies, it keeps the tree well-formed and the value under every assignment, and the weight
-- falls. Driver and weight argument are proved once, over any list of such rules.
use Rattle.std.specs.Prelude.{ℕ, ◌+◌, ◌≤◌, ◌≡◌, List, [], ◌∷◌}
use Rattle.paper.specs.Tree.{Tree, weight, value}
use Rattle.paper.specs.WellFormed.{WF}
use Rattle.paper.specs.Rules.{Rule, Tried, does_not_apply, applies, range_exceeded}

-- u has t's value under every assignment, and weighs at least k less
pub record Kept (k : ℕ) (t u : Tree) : Type 0 where
  pub value_kept : (ρ : ℕ → ℕ) → value u ρ ≡ value t ρ
  pub lighter : weight u + k ≤ weight t

-- what is asked of each answer of a rule at t
abbrev pub GoodAnswer : Tree → Tried → Type 0
GoodAnswer t does_not_apply = Unit {0}
GoodAnswer t (applies u) = WF u × Kept 1 t u
GoodAnswer t range_exceeded = Unit {0}

pub record Good (r : Rule) : Type 0 where
  pub good : (t : Tree) → WF t → GoodAnswer t (r.try t)

pub data Goods : List Rule → Type 0 where
  no_rules : Goods []
  a_rule : {r : Rule} {rs : List Rule} → Good r → Goods rs → Goods (r ∷ rs)
