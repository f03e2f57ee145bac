-- What the walk over the members of a node answers: by the paper's rules `combine`, of a sum's members or of a product's.
use Rattle.std.specs.Prelude.{◌≡◌, ℕ, ◌+◌, ◌*◌, ◌<◌, ◌≤◌, Bool, true, false, cond, ◌&&◌, List, [], ◌∷◌, ◌++◌, map, length, take, drop, ◌==◌}
use Rattle.std.specs.Prelude.{nat_le, Option, None, Some, Result, Ok, Err}
use Rattle.paper.specs.Tree.{Tree, Forest, of_list, recordses, weights, records}
use Rattle.paper.specs.Walk.{walk}
use Rattle.paper.specs.Rules as paper
use Rattle.note.specs.Note.{note}
use Rattle.note.specs.Noted.{encode_by, encodes_by}
use Rattle.stretch.specs.Put.{put}
use Rattle.note.specs.Part.{term_key, factor_key}
use Rattle.part.specs.Like.{Like, node_of, split, merge, join}
use Rattle.part.specs.Part.{Shows}
use Rattle.part.specs.declared.Part.{Part}
use Rattle.rebuilt.specs.Written.{WrittenIs, Fitting}
use Rattle.walk.specs.Listed.{short_key, Entry, Listed, Listable}
use Rattle.walk.specs.Stays.{stays}
use Rattle.number.specs.declared.OutOfRange.{OutOfRange}
use Rattle.walk.specs.declared.Done.{Done}
use Rattle.walk.specs.declared.Finished.{Finished}
use Rattle.walk.specs.declared.Finished.TheVariants as finished

-- the members f of the node at record p can be listed, and `out` has room behind record d for all that they may become
pub record Standing (out work : List ℕ) (d p : ℕ) (f : Forest) : Type 0 where
  pub listable : Listable work p f
  pub room : (d + (1 + weights f)) * 16 ≤ length out

-- the members l are listed, and `out` has room behind record d for all that they may become, whose notes can be made
pub record Walkable (b : Bool) (out work : List ℕ) (d p n : ℕ) (l : List Tree) : Type 0 where
  pub listed : Listed b work p n l
  pub room : (d + (1 + weights (of_list l))) * 16 ≤ length out
  pub light : weights (of_list l) < 65536

-- the rule that walks over the members l of a node with the mark μ
abbrev pub combined : Bool → ℕ → List Tree → paper.Tried
combined b μ l = paper.combine (node_of b μ) (split b) (merge b) (join b) l

-- the members that come out of it
abbrev pub came_out : Bool → List Tree → List Tree
came_out b l = map (λ r. r.0) (map (join b) (walk (merge b) (length l) (map (split b) l)).parts)

-- the rule applies: the members that come out stand in out' behind record d, up to record e
pub record CameOut (b : Bool) (l : List Tree) (out out' : List ℕ) (d n e : ℕ) : Type 0 where
  pub applies : (μ : ℕ) → combined b μ l ≡ paper.applies (node_of b μ (came_out b l))
  pub many : length (came_out b l) ≡ n
  pub built : take (e * 16) out' ≡ take ((d + 1) * 16) out ++ encodes_by note (of_list (came_out b l))
  pub end : e ≡ d + 1 + recordses (of_list (came_out b l))
  pub small : e ≤ d + (1 + weights (of_list l))

-- t is one of l; and each of m is
pub data OneOf (t : Tree) : List Tree → Type 0 where
  here : {l : List Tree} → OneOf t (t ∷ l)
  there : {u : Tree} {l : List Tree} → OneOf t l → OneOf t (u ∷ l)

abbrev pub AllOf : List Tree → List Tree → Type 0
AllOf l [] = Unit {0}
AllOf l (t ∷ m) = OneOf t l × AllOf l m

-- of the trees m, which stand behind record d, one alone is none of l: the one at record f
pub record OneNew (l m : List Tree) (d f : ℕ) : Type 0 where
  pub before : List Tree
  pub new : Tree
  pub after : List Tree
  pub are : m ≡ before ++ (new ∷ after)
  pub place : f ≡ d + 1 + recordses (of_list before)
  pub kept : AllOf l before × AllOf l after

-- where a record is named, the tree there is the only one of m that is none of l; where none is, nothing is said of that
abbrev pub NewAt : (l m : List Tree) (d : ℕ) → Option ℕ → Type 0
NewAt l m d None = Unit {0}
NewAt l m d (Some f) = OneNew l m d f

-- whatever the node's mark is: `None`, nothing was removed; `Err`, something was, and the range is left; `Some r`, as many members as r says came out, and
-- stand up to its end, and where it names a record, the member there is the only one that was none before
abbrev pub Says : Bool → List Tree → (out out' : List ℕ) (d : ℕ) → Result (Option Done) OutOfRange → Type 0
Says b l out out' d (Ok None) = (μ : ℕ) → combined b μ l ≡ paper.does_not_apply
Says b l out out' d (Err _) = (μ : ℕ) → combined b μ l ≡ paper.range_exceeded
Says b l out out' d (Ok (Some r)) = CameOut b l out out' d r.count r.end × NewAt l (came_out b l) d r.new

-- what is pending and what is done stay
pub record WalkedIs (b : Bool) (l : List Tree) (out out' work work' : List ℕ) (d p : ℕ) (r : Result (Option Done) OutOfRange) : Type 0 where
  pub answers : Says b l out out' d r
  pub pending : drop (p * 16) work' ≡ drop (p * 16) work
  pub done : take (d * 16) out' ≡ take (d * 16) out

-- the key of a part, which it keeps where it takes up another
abbrev pub key_of : (b : Bool) → Like b → ℕ
key_of true c = term_key c
key_of false c = factor_key c

-- the current part, with 15 bits of its key, meets the member of entry j, with room for the ticks of a comparison
pub record Meeting (w : List ℕ) (c : Part) (key p j room : ℕ) : Type 0 where
  pub flag : Bool
  pub current : Like flag
  pub later : Tree
  pub shown : Shows flag w c current
  pub keyed : key ≡ short_key (key_of flag current)
  pub entry : Entry flag w p j later
  pub low : j * 4 + 4 ≤ length w
  pub enough : records later ≤ room

-- the turn of the member t of entry i is done: c shows what its part became, its own part where it is alone, and there is room for that
pub record Turned (b : Bool) (w : List ℕ) (p i : ℕ) (c : Part) (alone : Bool) (x : Like b) (t : Tree) : Type 0 where
  pub shown : Shows b w c x
  pub entry : Entry b w p i t
  pub own : alone ≡ true → x ≡ split b t

-- the member of entry i, with room for it at record e if it comes out as it stands; and what becomes of it then
pub record Keepable (b : Bool) (out : List ℕ) (e : ℕ) (w : List ℕ) (p i : ℕ) (alone : Bool) : Type 0 where
  pub member : Tree
  pub entry : Entry b w p i member
  pub low : i * 4 + 4 ≤ length w
  pub room : (alone && stays b member) ≡ true → (e + records member) * 16 ≤ length out

abbrev pub KeptIs : Bool → Tree → (out out' : List ℕ) (e : ℕ) → Option ℕ → Type 0
KeptIs true t out out' e (Some r) = (r ≡ e + records t) × (out' ≡ put out (e * 16) (encode_by note t))
KeptIs true t out out' e None = ⊥
KeptIs false t out out' e (Some r) = ⊥
KeptIs false t out out' e None = out' ≡ out

pub record Finishing (b : Bool) (out : List ℕ) (e : ℕ) (w : List ℕ) (p i : ℕ) (c : Part) (alone : Bool) : Type 0 where
  pub current : Like b
  pub member : Tree
  pub turned : Turned b w p i c alone current member
  pub low : i * 4 + 4 ≤ length w
  pub fitting : Fitting (join b current) out e

-- what the part becomes is written at record e: `Kept n`, up to record n, and it is the member t, which took up no other and stays;
-- `New n`, up to record n; `Err`, it is out of range, and nothing is
abbrev pub FinishedIs : Bool → Tree × Bool → Tree → (out out' : List ℕ) (e : ℕ) → Result Finished OutOfRange → Type 0
FinishedIs kept x t out out' e (Ok (finished.Kept n)) = (kept ≡ true) × (x.0 ≡ t) × WrittenIs x out out' e (Ok n)
FinishedIs kept x t out out' e (Ok (finished.New n)) = (kept ≡ false) × WrittenIs x out out' e (Ok n)
FinishedIs kept x t out out' e (Err u) = (kept ≡ false) × WrittenIs x out out' e (Err u)

-- the answer where n of `count` members came out, up to record e: none where all did; an error where one is out of range; else how many came out, with the
-- record f of the new one, where one alone is new
unfoldable pub answer_of : (count n e : ℕ) → Bool → (new f : ℕ) → Result (Option Done) OutOfRange
answer_of count n e late new f =
    cond (nat_le count n) (Ok None) (cond late (Err record {}) (Ok (Some (record { count = n; end = e; new = cond (new == 1) (Some f) None }))))
