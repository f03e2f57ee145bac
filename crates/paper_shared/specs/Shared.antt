-- Shared sub-formulas: "Up to 16 symbols may be defined by tables of their own, and the loader replaces each by its tree, again inside the
-- replacement, until none is left."
use Rattle.std.specs.Prelude.{ℕ, zero, suc, ◌%◌, cond, List, [], ◌∷◌, length, eqb, ◌≡◌, ◌⊎◌}
use Rattle.std.proofs.Math.Option.{Option, none, some}
use Rattle.paper.specs.Limits.{modulus}
use Rattle.paper.specs.Tree.{Tree, Forest, integer, symbol, sum, product, power, nil, cons, value}

-- a symbol and the tree that it stands for
pub record Definition : Type 0 where
  pub name : ℕ
  pub tree : Tree

-- the definition of a symbol, where it has one
unfoldable pub defined : List Definition → ℕ → Option Tree
defined [] s = none
defined (d ∷ ds) s = cond (eqb d.name s) (some d.tree) (defined ds s)

-- the two parts of an opened node, where both could be opened
unfoldable pub both : Option Tree → Option Forest → Option Forest
both none f = none
both (some t) none = none
both (some t) (some f) = some (cons t f)

-- what is made of an answer, where there is one
module _ {A B : Type 0} where
  unfoldable pub make : (A → B) → Option A → Option B
  make g none = none
  make g (some a) = some (g a)

-- a symbol by `again`, which opens what it stands for; a symbol's mark is lost where it is replaced
unfoldable pub replaced : (Tree → Option Tree) → ℕ → ℕ → Option Tree → Option Tree
replaced again μ s none = some (symbol μ s)
replaced again μ s (some t) = again t

-- every defined symbol replaced, all else as it is
unfoldable mutual
  pub open_by : List Definition → (Tree → Option Tree) → Tree → Option Tree
  open_by ds again (integer μ z) = some (integer μ z)
  open_by ds again (symbol μ s) = replaced again μ s (defined ds s)
  open_by ds again (sum μ f) = make (sum μ) (opens_by ds again f)
  open_by ds again (product μ f) = make (product μ) (opens_by ds again f)
  open_by ds again (power μ b ξ e) = make (λ u. power μ u ξ e) (open_by ds again b)

  pub opens_by : List Definition → (Tree → Option Tree) → Forest → Option Forest
  opens_by ds again nil = some nil
  opens_by ds again (cons t f) = both (open_by ds again t) (opens_by ds again f)

-- replaced at most n definitions deep; none where that leaves a defined symbol
unfoldable pub open_within : List Definition → ℕ → Tree → Option Tree
open_within ds zero t = open_by ds (λ u. none) t
open_within ds (suc n) t = open_by ds (λ u. open_within ds n u) t

-- what replaces a definition's tree where n more may be opened
unfoldable pub again_within : List Definition → ℕ → Tree → Option Tree
again_within ds zero t = none
again_within ds (suc n) t = open_within ds n t

-- the opened tree; none exactly when a definition reached leads back to itself
unfoldable pub opened : List Definition → Tree → Option Tree
opened ds t = open_within ds (length ds) t

-- the symbol s stands in a tree, among trees
abbrev mutual
  pub Stands : ℕ → Tree → Type 0
  Stands s (integer μ z) = ⊥
  Stands s (symbol μ r) = r ≡ s
  Stands s (sum μ f) = Among s f
  Stands s (product μ f) = Among s f
  Stands s (power μ b ξ e) = Stands s b

  pub Among : ℕ → Forest → Type 0
  Among s nil = ⊥
  Among s (cons t f) = Stands s t ⊎ Among s f

-- a defined symbol is reached from a tree: it stands there, or in the tree of one that is reached
pub data Reached (ds : List Definition) (t : Tree) : ℕ → Tree → Type 0 where
  stands : {s : ℕ} {u : Tree} → Stands s t → defined ds s ≡ some u → Reached ds t s u
  leads : {r s : ℕ} {v u : Tree} → Reached ds t r v → Stands s v → defined ds s ≡ some u → Reached ds t s u

-- 17: "a definition reached from the formula that leads back to itself"
pub record Circle (ds : List Definition) (t : Tree) : Type 0 where
  pub name : ℕ
  pub tree : Tree
  pub reached : Reached ds t name tree
  pub back : Reached ds tree name tree

-- "when the register of every defined symbol reached from the formula holds the value of its definition"
abbrev pub Holds : List Definition → Tree → (ℕ → ℕ) → Type 0
Holds ds t ρ = (s : ℕ) (u : Tree) → Reached ds t s u → ρ s % modulus ≡ value u ρ

-- "until none is left": no defined symbol stands in a tree
abbrev pub NoneLeft : List Definition → Tree → Type 0
NoneLeft ds v = (s : ℕ) → Stands s v → defined ds s ≡ none

-- P holds of the answer, where there is one
abbrev pub Tells : {A : Type 0} → (A → Type 0) → Option A → Type 0
Tells P none = Unit {0}
Tells P (some a) = P a
