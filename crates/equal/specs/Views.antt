-- Trees and products without their integers, as they are compared: what the code asks for.
use Rattle.std.specs.Prelude.{ℕ, ◌+◌, ◌≤◌, ◌≡◌, Bool, true, false, cond, List, ltb}
use Rattle.paper.specs.Tree.{Tree, Forest, records}
use Rattle.split.specs.Standing.{Told, ToldTrees}
use Rattle.split.specs.Rest.{Lessened}
use Rattle.split.specs.declared.Rest.{Rest}
use Rattle.split.specs.declared.Rest.TheVariants.{One, At, Others}

-- a rest is 1
abbrev pub is_one : Rest → Bool
is_one One = true
is_one (At p) = false
is_one (Others p n) = false

-- t is the tree at record p of the table s, where x is 0; or the product there without its integers, of x members
pub data Viewed (how : Tree → ℕ) (s : List ℕ) (p x : ℕ) (t : Tree) : Type 0 where
  whole : x ≡ 0 → Told how s p t → Viewed how s p x t
  lessened : Lessened how s p x t → Viewed how s p x t

-- two such trees, one of them without its integers, and room for the ticks of the second
pub record Viewable (s : List ℕ) (p x q y room : ℕ) : Type 0 where
  pub how : Tree → ℕ
  pub one : Tree
  pub other : Tree
  pub one_seen : Viewed how s p x one
  pub other_seen : Viewed how s q y other
  pub less : 1 ≤ x + y
  pub full : Tree
  pub full_there : Told how s q full
  pub enough : records full ≤ room

-- m trees stand in the table, and there is room for their ticks
pub record Tickable (s : List ℕ) (i m room : ℕ) : Type 0 where
  pub how : Tree → ℕ
  pub trees : Forest
  pub there : ToldTrees how s i m trees
  pub enough : m ≤ room

-- how many of n members are left: x without the integers, all where x is 0
unfoldable pub remaining : ℕ → ℕ → ℕ
remaining n x = cond (ltb x 1) n x
