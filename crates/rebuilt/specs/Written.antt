-- What is written when the turn of a current part is done: the member that it becomes, and whether that is in range.
use Rattle.std.specs.Prelude.{ℕ, ◌+◌, ◌*◌, ◌≤◌, ◌<◌, ◌≡◌, Bool, true, false, List, [], ◌∷◌, ◌++◌, length, pos, Result, Ok, Err}
use Rattle.paper.specs.Bytes.{signed}
use Rattle.paper.specs.Tree.{Tree, Forest, integer, product, to_list, of_list, records, weight}
use Rattle.paper.specs.WellFormed.{WF}
use Rattle.paper.specs.Equal.{eq_z}
use Rattle.paper.specs.Rules.{term, times_unless}
use Rattle.note.specs.Note.{note}
use Rattle.note.specs.Noted.{encode_by}
use Rattle.stretch.specs.Put.{put}
use Rattle.number.specs.declared.OutOfRange.{OutOfRange}

-- `Ok e`, the member is in range and its records stand from record m up to record e, nothing else is changed; `Err`, it is not in
-- range, and nothing is
abbrev pub WrittenIs : Tree × Bool → (out out' : List ℕ) (m : ℕ) → Result ℕ OutOfRange → Type 0
WrittenIs x out out' m (Ok e) = (x.1 ≡ true) × (e ≡ m + records x.0) × (out' ≡ put out (m * 16) (encode_by note x.0))
WrittenIs x out out' m (Err _) = (x.1 ≡ false) × (out' ≡ out)

-- there is room for the member, and its note can be made
pub record Fitting (x : Tree × Bool) (out : List ℕ) (m : ℕ) : Type 0 where
  pub room : (m + records x.0) * 16 ≤ length out
  pub light : weight x.0 < 65536

-- a node whose note can be made
abbrev pub Light : Tree → Type 0
Light t = WF t × (weight t < 65536)

-- the product of the integer with the bits n and the tree t, and the product of the members f and that integer; they have the mark μ
abbrev pub paired : ℕ → ℕ → Tree → Tree
paired μ n t = product μ (of_list (integer μ (signed n) ∷ t ∷ []))

abbrev pub lengthened : ℕ → ℕ → Forest → Tree
lengthened μ n f = product μ (of_list (to_list f ++ (integer μ (signed n) ∷ [])))

-- "its rest if the coefficient is 1, else coefficient times rest", for the mark μ and the coefficient with the bits n
unfoldable pub timed : ℕ → ℕ → Tree → Tree × Bool
timed μ n t = times_unless (eq_z (signed n) (pos 1)) (term μ (signed n) t)
