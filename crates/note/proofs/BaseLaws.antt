-- The key of a member's base: a power's base stands behind its record, any other tree is its own; an integer has the key 1, any other base
-- its note.
use Rattle.std.proofs.Common.{◌≡◌, ℕ, ◌+◌, ◌<◌, ◌≤◌, List, refl, arith}
use Rattle.paper.specs.Tree.{Tree, integer, symbol, sum, product, power}
use Rattle.paper.specs.Standing.{kind_number}
use Rattle.paper.specs.Rules.{factor, factor_of}
use Rattle.note.specs.Note.{note}
use Rattle.note.specs.Part.{base_key, factor_key}
use Rattle.note.specs.Noted.{TreeBy}
use Rattle.note.proofs.ToldLaws.{note_tells}
use Rattle.note.proofs.LightLaws.{power_base}

-- the key of a base
pub integer_base : (b : Tree) → kind_number b < 1 → 1 ≡ base_key b
unfolding kind_number base_key
integer_base (integer μ z) l = refl
integer_base (symbol μ v) l = absurd (omega arith)
integer_base (sum μ f) l = absurd (omega arith)
integer_base (product μ f) l = absurd (omega arith)
integer_base (power μ b ξ e) l = absurd (omega arith)

pub other_base : (b : Tree) → 1 ≤ kind_number b → note b ≡ base_key b
unfolding kind_number base_key
other_base (integer μ z) l = absurd (omega arith)
other_base (symbol μ v) l = refl
other_base (sum μ f) l = refl
other_base (product μ f) l = refl
other_base (power μ b ξ e) l = refl

-- a tree that is no power is its own base
pub own_base : (t : Tree) → kind_number t < 4 → base_key t ≡ factor_key (factor_of t)
unfolding kind_number factor_key factor_of factor
own_base (integer μ z) l = refl
own_base (symbol μ v) l = refl
own_base (sum μ f) l = refl
own_base (product μ f) l = refl
own_base (power μ b ξ e) l = absurd (omega arith)

-- the base of a power
pub record BaseBehind (s : List ℕ) (i : ℕ) (t : Tree) : Type 0 where
  pub base : Tree
  pub there : TreeBy note s (i + 1) base
  pub its : base_key base ≡ factor_key (factor_of t)

pub base_behind : {s : List ℕ} {i : ℕ} (t : Tree) → TreeBy note s i t → 4 ≤ kind_number t → BaseBehind s i t
unfolding kind_number factor_key factor_of factor
base_behind (integer μ z) h l = absurd (omega arith)
base_behind (symbol μ v) h l = absurd (omega arith)
base_behind (sum μ f) h l = absurd (omega arith)
base_behind (product μ f) h l = absurd (omega arith)
base_behind (power μ b ξ e) h l = record { base = b; there = power_base note_tells h; its = refl }
