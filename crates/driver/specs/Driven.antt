-- The driver on records: what it needs around it, and what each of its answers says of the paper's runs. `out` holds the done
-- records, `take (d * 16) out`; `work` the pending ones, `drop (p * 16) work`; `steps` the steps so far, `take s steps`. Done and pending nodes
-- have their notes in them.
use Rattle.std.specs.Prelude.{ℕ, ◌+◌, ◌*◌, ◌≤◌, ◌<◌, ◌^◌, ◌≡◌, false, cond, ◌&&◌, List, [], ◌∷◌, ◌++◌, length, take, drop, eqb, pos}
use Rattle.std.specs.Prelude.{Option as Maybe, Some, None, Result, Ok, Err}
use Rattle.std.proofs.Math.Option.{Option, none}
unfoldable pub use Rattle.paper.specs.Standing.{kind_number}
use Rattle.paper.specs.Bytes.{word}
use Rattle.paper.specs.Tree.{Tree, integer, symbol, sum, product, power, of_list, count, mark_of, records, recordses, weight, weights}
use Rattle.paper.specs.WellFormed.{Mark, WF, WFl}
use Rattle.paper.specs.Record.{is_node}
use Rattle.paper.specs.Table.{record_of}
use Rattle.paper.specs.Rules.{Rule}
use Rattle.paper.specs.Admits.{openings_at, AdmitsNone, AllAdmitNone}
use Rattle.paper.specs.Driver.{ask, no_rule, step, out_of_range, members, Ran, done, over, Rans, dones, overs, as_sum, as_product, opened, base_from, gather}
use Rattle.note.specs.Note.{note}
use Rattle.note.specs.Noted.{encode_by, encodes_by}
use Rattle.driver.specs.declared.LeftRange.{LeftRange}
use Rattle.driver.specs.declared.Settled.{Settled}
use Rattle.driver.specs.declared.Eased.{Eased}
use Rattle.driver.specs.declared.Eased.TheVariants as eased
use Rattle.driver.specs.declared.TakenUp.{TakenUp}
use Rattle.driver.specs.declared.TakenUp.TheVariants as taken
use Rattle.rules.specs.Asked.{Ready}

-- ---- the records of a tree with their notes; and of trees that stand one after the other, as a node's members do, how many they are, and
-- their weight
abbrev pub with_notes : Tree → List ℕ
with_notes t = encode_by note t

abbrev pub encode_all : List Tree → List ℕ
encode_all l = encodes_by note (of_list l)

abbrev pub records_all : List Tree → ℕ
records_all l = recordses (of_list l)

abbrev pub weight_all : List Tree → ℕ
weight_all l = weights (of_list l)

-- ---- a node by its first record: its kind, and the record itself
unfoldable pub first_record : Tree → List ℕ
first_record (integer μ z) = record_of 0 0 μ (word z)
first_record (symbol μ s) = record_of 1 0 μ s
first_record (sum μ f) = record_of 2 (count f) μ (note (sum μ f))
first_record (product μ f) = record_of 3 (count f) μ (note (product μ f))
first_record (power μ b ξ e) = record_of 4 0 μ (note (power μ b ξ e))

-- the members of a tree that is opened among the members of a node of kind k: of a sum in a sum, of a product in a product
unfoldable pub inside : ℕ → Tree → Option (List Tree)
inside k t = cond (eqb k 2) (as_sum t) (cond (eqb k 3) (as_product t) none)

-- ---- what a pass over the members makes: the gathered members, and the gathered node
unfoldable pub opened_runs : (Tree → Option (List Tree)) → Rans → Rans
opened_runs ins (overs k) = overs k
opened_runs ins (dones l s o τ) = dones (opened ins l).0 s (o + (opened ins l).1) τ

unfoldable pub passed : Tree → Rans → Ran
passed t (overs k) = over k
passed t (dones l s o τ) = done (gather t l).0 s (o + (gather t l).1) τ

-- the node t with the gathered members l
unfoldable pub closed_over : Tree → List Tree → Tree
closed_over (integer μ z) l = integer μ z
closed_over (symbol μ s) l = symbol μ s
closed_over (sum μ f) l = sum μ (of_list l)
closed_over (product μ f) l = product μ (of_list l)
closed_over (power μ b ξ e) l = power μ (base_from b l) ξ e

-- ---- steps at one node
-- the rules rs, asked at t and again at what they make of it, take the steps ks and come to u
pub data Steps (rs : List Rule) : Tree → List ℕ → Tree → Type 0 where
  no_step : {t : Tree} → Steps rs t [] t
  then_step : {t u v : Tree} {ks : List ℕ} {k : ℕ} → Steps rs t ks u → ask rs u ≡ step k v → Steps rs t (ks ++ (k ∷ [])) v

-- ---- what is needed
-- the tree t with its notes is the first of what is pending, with room for the rules, for its result and for its steps
pub record Set (out work steps : List ℕ) (d p s : ℕ) (t : Tree) (rest : List ℕ) : Type 0 where
  pub ready : Ready out work d p t rest
  pub steps_room : s + weight t ≤ length steps

-- the node g, gathered with its notes, is the last of what is done, up to record e, and rest is pending from record q on
pub record Back (out work steps : List ℕ) (d e q s : ℕ) (g : Tree) (rest : List ℕ) : Type 0 where
  pub wf : WF g
  pub light : weight g < 65536
  pub end : e ≡ d + records g
  pub there : take (e * 16) out ≡ take (d * 16) out ++ with_notes g
  pub left : drop (q * 16) work ≡ rest
  pub place : q * 16 + length rest ≡ length work
  pub out_room : 16 * (d + weight g) ≤ length out
  pub work_room : 20 * weight g + length rest ≤ length work
  pub steps_room : s + weight g ≤ length steps

-- the same of trees that stand one after the other
pub record SetAll (out work steps : List ℕ) (d p s : ℕ) (l : List Tree) (rest : List ℕ) : Type 0 where
  pub wf : WFl l
  pub light : weight_all l < 65536
  pub stands : drop (p * 16) work ≡ encode_all l ++ rest
  pub place : p * 16 + length (encode_all l ++ rest) ≡ length work
  pub out_room : 16 * (d + weight_all l) ≤ length out
  pub work_room : 20 * weight_all l + length rest ≤ length work
  pub steps_room : s + weight_all l ≤ length steps

-- ---- what the answers say
-- steps from t came to u, which is pending from record q on; they are noted, and what is done stays
pub record Came (rs : List Rule) (t u : Tree) (rest out out' work' steps steps' : List ℕ) (d s q n : ℕ) : Type 0 where
  pub ks : List ℕ
  pub taken : Steps rs t ks u
  pub stands : drop (q * 16) work' ≡ with_notes u ++ rest
  pub kept : take (d * 16) out' ≡ take (d * 16) out
  pub noted_end : n ≡ s + length ks
  pub noted : take n steps' ≡ take s steps ++ ks

-- steps from t came to a tree at which a rule leaves the range: n of them are completed, with the s before
abbrev pub Burst : (rs : List Rule) (t : Tree) (s n : ℕ) → Type 0
Burst rs t s n = (u : Tree) × (ks : List ℕ) × Steps rs t ks u × (ask rs u ≡ out_of_range) × (n ≡ s + length ks)

-- no rule applies any more at a; or a rule left the range
abbrev pub SettledIs : (rs : List Rule) (t : Tree) (rest out out' work' steps steps' : List ℕ) (d s : ℕ) → Result Settled LeftRange → Type 0
SettledIs rs t rest out out' work' steps steps' d s (Ok a) =
    (u : Tree) × Came rs t u rest out out' work' steps steps' d s a.at a.noted × (ask rs u ≡ no_rule)
SettledIs rs t rest out out' work' steps steps' d s (Err l) = Burst rs t s l.steps

-- `Quiet e`, one step came from the gathered node t, at record p, to a tree that stands after what is done, up to record e, and what followed t is
-- pending; and where t's members admit no rule and no opening, and none of them opens, neither does that tree; else as of a tree that is settled
abbrev pub EasedIs : (rs : List Rule) (t : Tree) (rest out out' work' steps steps' : List ℕ) (d p s : ℕ) → Result Eased LeftRange → Type 0
EasedIs rs t rest out out' work' steps steps' d p s (Ok (eased.Quiet e)) =
    (k : ℕ) × (u : Tree) × (ask rs t ≡ step k u) × (e ≡ d + records u) × (take (e * 16) out' ≡ take (d * 16) out ++ with_notes u)
    × (drop ((p + records t) * 16) work' ≡ rest) × (take (s + 1) steps' ≡ take s steps ++ (k ∷ []))
    × (AllAdmitNone rs (members t) → openings_at t ≡ 0 → AdmitsNone rs u)
EasedIs rs t rest out out' work' steps steps' d p s (Ok (eased.Settled a)) = SettledIs rs t rest out out' work' steps steps' d s (Ok a)
EasedIs rs t rest out out' work' steps steps' d p s (Err l) = SettledIs rs t rest out out' work' steps steps' d s (Err l)

-- `Finished r`, no rule applies to the gathered node g: it stays among what is done, up to record e, and rest is pending from record r on; `Quiet f
-- q`, one step came from g to a tree that stands among what is done, up to record f, and rest is pending from record q on; it admits none where g's
-- parts do; `Stepped a`, steps came from g to a node to which no rule applies, and which is pending; `Err`, a rule left the range
abbrev pub TakenIs : (rs : List Rule) (g : Tree) (rest out out' work' steps steps' : List ℕ) (d e s : ℕ) → Result TakenUp LeftRange → Type 0
TakenIs rs g rest out out' work' steps steps' d e s (Ok (taken.Finished r)) =
    (ask rs g ≡ no_rule) × (take (e * 16) out' ≡ take (e * 16) out) × (drop (r * 16) work' ≡ rest) × (r * 16 + length rest ≡ length work')
    × (take s steps' ≡ take s steps)
TakenIs rs g rest out out' work' steps steps' d e s (Ok (taken.Quiet f q)) =
    (k : ℕ) × (u : Tree) × (ask rs g ≡ step k u) × (f ≡ d + records u) × (take (f * 16) out' ≡ take (d * 16) out ++ with_notes u)
    × (drop (q * 16) work' ≡ rest) × (q * 16 + length rest ≡ length work') × (take (s + 1) steps' ≡ take s steps ++ (k ∷ []))
    × (AllAdmitNone rs (members g) → openings_at g ≡ 0 → AdmitsNone rs u)
TakenIs rs g rest out out' work' steps steps' d e s (Ok (taken.Stepped a)) =
    (u : Tree) × Came rs g u rest out out' work' steps steps' d s a.at a.noted × (s < a.noted) × (ask rs u ≡ no_rule)
TakenIs rs g rest out out' work' steps steps' d e s (Err l) = Burst rs g s l.steps

-- of the pending tree t, a member of a node of kind k, and its n records: it admits no rule and no opening, is not opened in that node, and stands
-- after what is done, e records
pub record KeptWhole (rs : List Rule) (k : ℕ) (t : Tree) (out out' : List ℕ) (e n : ℕ) : Type 0 where
  pub none : AdmitsNone rs t
  pub shut : (eqb (kind_number t) k && is_node k) ≡ false
  pub size : n ≡ records t
  pub wrote : take ((e + n) * 16) out' ≡ take (e * 16) out ++ with_notes t

-- what the answer says: none, t is to be driven; else it is kept so. What is done stays.
abbrev pub KeptIs : (rs : List Rule) (k : ℕ) (t : Tree) (out out' : List ℕ) (e : ℕ) → Maybe ℕ → Type 0
KeptIs rs k t out out' e None = take (e * 16) out' ≡ take (e * 16) out
KeptIs rs k t out out' e (Some n) = (take (e * 16) out' ≡ take (e * 16) out) × KeptWhole rs k t out out' e n

-- the run r is done, after o openings and τ tries: its tree stands at the end of what is done, rest is what is pending, and its
-- steps are noted
pub record Drove (r : Ran) (rest out out' work' steps steps' : List ℕ) (d s e q n o τ : ℕ) : Type 0 where
  pub to : Tree
  pub ks : List ℕ
  pub ran : r ≡ done to ks o τ
  pub end : e ≡ d + records to
  pub wrote : take (e * 16) out' ≡ take (d * 16) out ++ with_notes to
  pub left : drop (q * 16) work' ≡ rest
  pub place : q * 16 + length rest ≡ length work'
  pub noted_end : n ≡ s + length ks
  pub noted : take n steps' ≡ take s steps ++ ks

-- the same of runs on members: m trees stand at the end of what is done
pub record Gave (r : Rans) (rest out out' work' steps steps' : List ℕ) (d s e q n o m τ : ℕ) : Type 0 where
  pub to : List Tree
  pub ks : List ℕ
  pub ran : r ≡ dones to ks o τ
  pub many : m ≡ length to
  pub end : e ≡ d + records_all to
  pub wrote : take (e * 16) out' ≡ take (d * 16) out ++ encode_all to
  pub left : drop (q * 16) work' ≡ rest
  pub place : q * 16 + length rest ≡ length work'
  pub noted_end : n ≡ s + length ks
  pub noted : take n steps' ≡ take s steps ++ ks

-- ---- the gathered node's first record
-- which lists t's members are gathered to: a leaf has none, a power its base's result and its exponent
abbrev pub Shape : Tree → List Tree → Type 0
Shape (integer μ z) l = l ≡ []
Shape (symbol μ s) l = l ≡ []
Shape (sum μ f) l = Unit {0}
Shape (product μ f) l = Unit {0}
Shape (power μ b ξ e) l = (e < 2 ^ 63) × ((u : Tree) × (l ≡ u ∷ integer ξ (pos e) ∷ []))

-- t's first record stands at d, and the m gathered members after it, up to e; with them t is well-formed, and light
pub record Gathers (t : Tree) (l : List Tree) (out : List ℕ) (d e k m : ℕ) : Type 0 where
  pub kind_is : k ≡ kind_number t
  pub mark_wf : Mark (mark_of t)
  pub wf : WF (closed_over t l)
  pub light : weight (closed_over t l) < 65536
  pub shape : Shape t l
  pub many : m ≡ length l
  pub end : e ≡ d + 1 + records_all l
  pub there : drop (d * 16) (take (e * 16) out) ≡ first_record t ++ encode_all l
  pub within : e * 16 ≤ length out

-- the tree u stands at d, up to r, and the records before it are as they were
pub record Closed (u : Tree) (out out' : List ℕ) (d r : ℕ) : Type 0 where
  pub end : r ≡ d + records u
  pub wrote : take (r * 16) out' ≡ take (d * 16) out ++ with_notes u
