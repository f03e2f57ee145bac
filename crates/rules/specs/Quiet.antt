-- A gathered node, when its like members were combined: whether what came out is finished, as far as a look tells. A look is one-sided: where it
-- says no, nothing is said.
use Rattle.std.specs.Prelude.{ℕ, ◌+◌, ◌*◌, ◌≤◌, ◌≡◌, Bool, ◌&&◌, not, List, ◌++◌, eqb, leb, length, take, drop, Option}
use Rattle.paper.specs.Tree.{Tree, records, weight}
use Rattle.paper.specs.Standing.{kind_number}
use Rattle.paper.specs.Rules.{rules_of}
use Rattle.paper.specs.Driver.{members, opened}
use Rattle.paper.specs.Admits.{AdmitsNone, AllAdmitNone}
use Rattle.note.specs.Note.{note}
use Rattle.note.specs.Noted.{encode_by, TreeBy}
use Rattle.still.specs.Still.{still_by}
use Rattle.part.specs.Like.{node_of}
use Rattle.rebuilt.specs.Written.{Light}
use Rattle.walk.specs.Walked.{NewAt}
use Rattle.rules.specs.Alike.{step_of, inside_of}
use Rattle.rules.specs.Tried.{Built, PutBack}
use Rattle.rules.specs.declared.Combined.{Combined}
use Rattle.rules.specs.declared.Combined.TheVariants.{No, Nothing, Pending, Quiet}

-- a tree that has one record for each member and its own, so that its members are leaves, if it has any; and its keys tell that no rule applies
unfoldable pub calm : ℕ → Tree → Bool
calm edition t = leb (records t) (length (members t) + 1) && still_by edition t

-- the node u, whose members are finished but for x, which is calm and not opened in u; and u's keys tell that no rule applies
unfoldable pub quiet : ℕ → Tree → Tree → Bool
quiet edition u x = not (eqb (kind_number x) (kind_number u)) && (calm edition x && still_by edition u)

-- the trees u and x stand at records d and f of `out`, and `work` has scratch for a look at each before record `end`
pub record Looked (out work : List ℕ) (d f end : ℕ) (u x : Tree) : Type 0 where
  pub node : TreeBy note out d u
  pub new : TreeBy note out f x
  pub node_small : weight u ≤ end
  pub new_small : weight x ≤ end
  pub within : end * 16 ≤ length work

-- of the members l of a node with the mark μ, which ended at record `end` of `work`, `rest` after it, the n members m came out: they stand in `out`
-- behind record d, up to record e; where f names a record, the one there alone was no member before
pub record Emerged (b : Bool) (μ : ℕ) (l m : List Tree) (rest out work : List ℕ) (d e : ℕ) (f : Option ℕ) (end n : ℕ) : Type 0 where
  pub built : Built out d e m
  pub many : length m ≡ n
  pub light : Light (node_of b μ m)
  pub named : NewAt l m d f
  pub pending : drop (end * 16) work ≡ rest
  pub low : weight (node_of b μ m) ≤ end
  pub within : end * 16 ≤ length work

-- what each answer says of the node of m: `Pending k q`, it is pending from record q on; `Quiet k e`, it stands after what is done, up to record e, and
-- is finished where all of l are and none of them is opened. `No` and `Nothing` are no answers.
abbrev pub EmergedIs : (b : Bool) (μ ed : ℕ) (l m : List Tree) (rest out out' work' : List ℕ) (d end : ℕ) → Combined → Type 0
EmergedIs b μ ed l m rest out out' work' d end No = ⊥
EmergedIs b μ ed l m rest out out' work' d end Nothing = ⊥
EmergedIs b μ ed l m rest out out' work' d end (Pending k q) = (k ≡ step_of b) × PutBack b μ m rest out out' work' d q
EmergedIs b μ ed l m rest out out' work' d end (Quiet k e) =
    (k ≡ step_of b) × (e ≡ d + records (node_of b μ m)) × (take (e * 16) out' ≡ take (d * 16) out ++ encode_by note (node_of b μ m))
    × (drop (end * 16) work' ≡ rest)
    × (AllAdmitNone (rules_of ed) l → (opened (inside_of b) l).1 ≡ 0 → AdmitsNone (rules_of ed) (node_of b μ m))
