-- What is asked of a rule beside Good, for the square of the weight as a bound on tries: that it is shallow. It may make a new node and new
-- members, but two levels down it makes nothing new: every member of a member of what it gives is an integer, or stood below the node before.
-- Said without naming places: whatever property goes down from a tree to its members, and holds of every integer, and holds of each member of the
-- node, holds of each member of each member of what the rule gives. And no rule is on an integer. Only a tool, for laws.
use Rattle.std.specs.Prelude.{ℕ, ◌≡◌, List, [], ◌∷◌, ℤ}
use Rattle.paper.specs.Tree.{Tree, integer}
use Rattle.paper.specs.Rules.{Rule, Tried, does_not_apply, applies, range_exceeded}
use Rattle.paper.specs.Driver.{members}

-- P holds of each tree of a list; of each member of t
abbrev pub Each : (Tree → Type 0) → List Tree → Type 0
Each P [] = Unit {0}
Each P (t ∷ l) = P t × Each P l

abbrev pub Under : (Tree → Type 0) → Tree → Type 0
Under P t = Each P (members t)

-- P goes down from a tree to its members, and holds of every integer
pub record GoesDown (P : Tree → Type 0) : Type 0 where
  pub down : (t : Tree) → P t → Under P t
  pub integers : (μ : ℕ) (z : ℤ) → P (integer μ z)

-- what is asked of each answer of a rule at a node of whose members P holds
abbrev pub ShallowAnswer : (Tree → Type 0) → Tried → Type 0
ShallowAnswer P does_not_apply = Unit {0}
ShallowAnswer P (applies u) = Under (Under P) u
ShallowAnswer P range_exceeded = Unit {0}

pub record Shallow (r : Rule) : Type 1 where
  pub on_no_integer : (μ : ℕ) (z : ℤ) → r.try (integer μ z) ≡ does_not_apply
  pub shallow : (P : Tree → Type 0) → GoesDown P → (t : Tree) → Under P t → ShallowAnswer P (r.try t)

pub data Shallows : List Rule → Type 1 where
  no_rules : Shallows []
  a_rule : {r : Rule} {rs : List Rule} → Shallow r → Shallows rs → Shallows (r ∷ rs)
