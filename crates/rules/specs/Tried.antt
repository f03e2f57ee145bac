-- What a rule answers at a node of the pending records, by the paper's definition of that rule.
use Rattle.std.specs.Prelude.{ℕ, ◌+◌, ◌*◌, ◌≤◌, ◌<◌, ◌≡◌, Bool, cond, List, ◌++◌, pos, length, take, drop, Option, Some, None, Result, Ok, Err}
use Rattle.paper.specs.Tree.{Tree, Forest, nil, cons, weights, count, records, recordses, of_list}
use Rattle.paper.specs.WellFormed.{WFs, WFl}
use Rattle.paper.specs.Record.{count_in}
use Rattle.paper.specs.Standing.{Stands}
use Rattle.paper.specs.Rules as paper
use Rattle.note.specs.Note.{note}
use Rattle.note.specs.Noted.{encode_by, encodes_by}
use Rattle.note.specs.Told.{ToldMembers}
use Rattle.number.specs.declared.OutOfRange.{OutOfRange}
use Rattle.part.specs.Like.{node_of}

-- what each answer says of a rule's outcome x: `Ok None`, it does not apply, and what is pending from record p on is as it was; `Ok (Some q)`,
-- it applies, and its result is pending from record q on, `rest` after it; `Err`, it leaves the range. What is done stays.
abbrev pub Answers : paper.Tried → (rest out out' work work' : List ℕ) (d p : ℕ) → Result (Option ℕ) OutOfRange → Type 0
Answers x rest out out' work work' d p (Ok None) =
    (x ≡ paper.does_not_apply) × (drop (p * 16) work' ≡ drop (p * 16) work) × (take (d * 16) out' ≡ take (d * 16) out)
Answers x rest out out' work work' d p (Ok (Some q)) =
    (u : Tree) × (x ≡ paper.applies u) × (drop (q * 16) work' ≡ encode_by note u ++ rest) × (take (d * 16) out' ≡ take (d * 16) out)
Answers x rest out out' work work' d p (Err e) = x ≡ paper.range_exceeded

-- the members f of a sum or a product stand behind its record p of `work`, `rest` after them, and there is room
pub record Held (out work : List ℕ) (d p : ℕ) (f : Forest) (rest : List ℕ) : Type 0 where
  pub wf : WFs f
  pub two : 2 ≤ count f
  pub light : 1 + weights f < 65536
  pub counted : count_in work p ≡ count f
  pub stand : drop ((p + 1) * 16) work ≡ encodes_by note f ++ rest
  pub out_room : 16 * (d + (1 + weights f)) ≤ length out
  pub work_room : 20 * (1 + weights f) + length rest ≤ length work

-- of those members, what a function that only reads asks for
pub record MembersIn (s : List ℕ) (p : ℕ) (f : Forest) : Type 0 where
  pub seen : ToldMembers note s p f
  pub few : recordses f < 65536

-- the record of the last of the trees f that is not the integer z, the first of them standing at record i; `last` where all are
unfoldable pub last_kept : ℕ → (i last : ℕ) → Forest → ℕ
last_kept z i last nil = last
last_kept z i last (cons t f) = last_kept z (i + records t) (cond (paper.is_the (pos z) t) last i) f

-- the record of the last of them that is; `last` where none is
unfoldable pub last_dropped : ℕ → (i last : ℕ) → Forest → ℕ
last_dropped z i last nil = last
last_dropped z i last (cons t f) = last_dropped z (i + records t) (cond (paper.is_the (pos z) t) i last) f

-- the members a, a member of one record, x, and the members b stand behind the node's record p of `work`, `rest` after them; without that
-- one, two or more are left
pub record Around (work : List ℕ) (p x : ℕ) (a b : List Tree) (rest : List ℕ) : Type 0 where
  pub it : Tree
  pub one : records it ≡ 1
  pub wf : WFl (a ++ b)
  pub more : 2 ≤ length (a ++ b)
  pub light : 1 + weights (of_list (a ++ b)) < 65536
  pub counted : count_in work p ≡ length (a ++ b) + 1
  pub stand : drop ((p + 1) * 16) work ≡ encodes_by note (of_list a) ++ (encode_by note it ++ (encodes_by note (of_list b) ++ rest))
  pub place : x ≡ p + 1 + recordses (of_list a)

-- the members l stand in `out` behind record d, left free, up to record e
pub record Built (out : List ℕ) (d e : ℕ) (l : List Tree) : Type 0 where
  pub front : List ℕ
  pub free : length front ≡ (d + 1) * 16
  pub built : take (e * 16) out ≡ front ++ encodes_by note (of_list l)
  pub end : e ≡ d + 1 + recordses (of_list l)
  pub within : e * 16 ≤ length out

-- the sum or product of l with the mark μ stands in out' from record r up to record e, and what is done stays
pub record Collapsed (b : Bool) (μ : ℕ) (l : List Tree) (out out' : List ℕ) (d e r : ℕ) : Type 0 where
  pub stands : Stands out' r (encode_by note (node_of b μ l))
  pub low : d ≤ r
  pub end : e ≡ r + records (node_of b μ l)
  pub done : take (d * 16) out' ≡ take (d * 16) out

-- the sum or product of l with the mark μ is pending from record q on, and `rest` after it; what is done stays
pub record PutBack (b : Bool) (μ : ℕ) (l : List Tree) (rest out out' work' : List ℕ) (d q : ℕ) : Type 0 where
  pub stands : drop (q * 16) work' ≡ encode_by note (node_of b μ l) ++ rest
  pub done : take (d * 16) out' ≡ take (d * 16) out
