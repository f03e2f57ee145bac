-- What the reader of a text answers, in the paper's terms: an item read, with its rank, the place after it, its weight and the record
-- after it; and what it writes.
use Rattle.std.specs.Prelude.{ℕ, ◌+◌, ◌-◌, ◌*◌, ◌≤◌, ◌<◌, ◌≡◌, cond, Bool, true, false, List, ◌∷◌, leb, ltb, length, drop, Some, None}
use Rattle.std.proofs.Math.Option.{Option, none, some}
use Rattle.paper.specs.Tree.{Tree, weight, records}
use Rattle.paper.specs.Table.{encode}
use Rattle.paper_text.specs.Text.{closes, Reading, then, begins, tail, power_sign, as_base, fits, raised_by, bare, grouped}
use Rattle.paper_text.specs.Text as paper
use Rattle.paper_text.specs.Levels.{rank, stand_in, skim_from, blocks, shallow}
use Rattle.parse.specs.Written.{Written}
use Rattle.parse.specs.declared.Item.{Item}
use Rattle.parse.specs.declared.Form.{Form}
use Rattle.std.specs.declared.option.Option as code
use Rattle.std.specs.declared.result.Result.{Result}
use Rattle.std.specs.declared.result.Result.TheVariants.{Ok, Err}
use Rattle.parse.specs.declared.Unread.{Unread}
use Rattle.parse.specs.declared.Unread.TheVariants.{NotWritten, Heavy}

-- the records of t stand in the area from record d on, where they lie in it, and end before q
pub record Laid (old : List ℕ) (d : ℕ) (new : List ℕ) (q : ℕ) (t : Tree) : Type 0 where
  pub next : q ≡ d + records t
  pub put_there : Written (encode t) old d new

-- the reading o of s from `at` on is a tree of rank k and weight w, as `wrap` has it, and ends before e; L holds of the tree
pub record Stands (s : List ℕ) (at : ℕ) (o : Reading paper.Item) (wrap : Tree → paper.Item) (L : Tree → Type 0) (k e w : ℕ) : Type 0 where
  pub tree : Tree
  pub read : o ≡ some (wrap tree, drop e s)
  pub ranked : k ≡ rank tree
  pub weighs : w ≡ weight tree
  pub ahead : at < e
  pub within : e ≤ length s
  pub light : w + 1 ≤ 2 * (e - at)
  pub laid : L tree

-- a tree in parentheses, or bare
abbrev pub wrap : Bool → Tree → paper.Item
wrap true = grouped
wrap false = bare

-- the reading o of s from `at` on is the item, of whose tree L holds
abbrev pub Found : List ℕ → ℕ → Reading paper.Item → (ℕ → Tree → Type 0) → Item → Type 0
Found s at o L i = Stands s at o (wrap i.form.grouped) (L i.end) i.form.rank i.next i.weight

abbrev pub ItemIs : List ℕ → ℕ → Reading paper.Item → (ℕ → Tree → Type 0) → code.Option Item → Type 0
ItemIs s at o L None = o ≡ none
ItemIs s at o L (Some i) = Found s at o L i

-- an item that stands bare
abbrev pub bare_item : ℕ → ℕ → ℕ → ℕ → Item
bare_item k e w q = record { form = record { grouped = false; rank = k }; next = e; weight = w; end = q }

-- a tree that is read stands bare
unfoldable pub bared : Reading Tree → Reading paper.Item
bared o = then o (λ t r. some (bare t, r))

-- a `^` may follow
unfoldable pub raising : paper.Item → List ℕ → Reading paper.Item
raising i r = cond (begins power_sign r) (raised_by (tail r) (fits as_base i)) (some (i, r))

-- what stands so may be a member at a place that puts parentheses from rank p on
abbrev pub fitted : ℕ → Form → Bool
fitted p f = cond f.grouped (leb p f.rank) (ltb f.rank p)

-- what the skim makes of one character
abbrev pub StepIs : ℕ → ℕ → ℕ → code.Option (ℕ × ℕ) → Type 0
StepIs c d k None = (s : List ℕ) → skim_from d k (c ∷ s) ≡ some (stand_in k, closes ∷ s)
StepIs c d k (Some r) = ((s : List ℕ) → skim_from d k (c ∷ s) ≡ skim_from r.0 r.1 s) × (r.0 ≤ d + 1) × (r.1 ≤ 3)

-- a weight, and a record after it, that a text of this length can have
abbrev pub Sized : List ℕ → ℕ → Item → Type 0
Sized s d i = (i.weight + 1 ≤ 2 * length s) × (d ≤ i.end) × (i.end + 1 ≤ 2 * i.next) × (i.next ≤ length s)

-- what the judge by blocks makes of the character at place i
abbrev pub TurnIs : List ℕ → ℕ → ℕ → ℕ → code.Option ℕ → Type 0
TurnIs s i left k None = blocks k left (drop i s) ≡ false
TurnIs s i left k (Some l) = (blocks k left (drop i s) ≡ blocks k l (drop (i + 1) s)) × (l ≤ k)

abbrev pub DiveIs : ℕ → ℕ → code.Option ℕ → Type 0
DiveIs c left None = (s : List ℕ) → shallow left (c ∷ s) ≡ false
DiveIs c left (Some l) = ((s : List ℕ) → shallow left (c ∷ s) ≡ shallow l s) × (l ≤ left + 1)

-- the answer for what a text is read as
abbrev pub weighed : ℕ → Option Tree → Result ℕ Unread
weighed limit none = Err NotWritten
weighed limit (some t) = cond (ltb limit (weight t)) (Err Heavy) (Ok (records t))
