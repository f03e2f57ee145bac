-- Members one after the other, as the loops of `sum` and `product` read them, and what the levels of the reader ask and tell.
use Rattle.std.specs.Prelude.{ℕ, zero, suc, ◌+◌, ◌-◌, ◌*◌, ◌^◌, ◌≤◌, ◌<◌, ◌≡◌, true, false, cond, ◌&&◌}
use Rattle.std.specs.Prelude.{List, ◌∷◌, ◌++◌, ltb, length, drop, Some, None}
use Rattle.std.proofs.Math.Option.{Option, none, some}
use Rattle.paper.specs.Tree.{Tree, Forest, of_list, weight, weights, recordses}
use Rattle.paper.specs.Table.{record_of, encodes}
use Rattle.paper_text.specs.Text.{Place, in_sum, in_product, as_base, Reading, then, begins, bare, fits, all_fit, leaving, closed, read_others}
use Rattle.paper_text.specs.Text.{read_power}
use Rattle.paper_text.specs.Text as paper
use Rattle.paper_text.specs.Levels.{rank, read_cut}
use Rattle.parse.specs.Written.{Written, Shifted}
use Rattle.std.specs.declared.option.Option as code
use Rattle.parse.specs.Parsed.{Laid, ItemIs, Found, bared, raising}
use Rattle.parse.specs.declared.Item.{Item}
use Rattle.parse.specs.declared.Form.{Form}
use Rattle.parse.specs.declared.Node.{Node}
use Rattle.parse.specs.declared.Node.TheVariants.{Sum, Product}
use Rattle.parse.specs.declared.Reader.{Reader}
use Rattle.parse.specs.declared.Read as level
use Rattle.parse.specs.declared.Read.TheVariants.{Nothing, Bare, Grouped, Another}

-- the members l after the first: their records from record i on, up to q; with the first they are c
pub record Rows (old : List ℕ) (i : ℕ) (new : List ℕ) (q c : ℕ) (l : List Tree) : Type 0 where
  pub next : q ≡ i + recordses (of_list l)
  pub put_there : Written (encodes (of_list l)) old i new
  pub counted : c ≡ 1 + length l

-- the rank from which a place puts parentheses
unfoldable pub bound : Place → ℕ
bound in_sum = 3
bound in_product = 2
bound as_base = 1

-- ---- nodes of one kind: members at place p, read by r, with a sign between two; `from` makes the node of items
pub record Nodes (r : List ℕ → Reading paper.Item) (p : Place) (sign : ℕ) (k : ℕ) (node : Forest → Tree)
    (from : paper.Item → List ℕ → List paper.Item → Reading paper.Item) : Type 0 where
  pub made : (i j : paper.Item) (l : List paper.Item) (z : List ℕ) → from i z (j ∷ l) ≡ leaving z (λ ts. bare (node (of_list ts))) (all_fit p (i ∷ j ∷ l))
  pub ranked : (f : Forest) → k ≡ rank (node f)
  pub weighs : (f : Forest) → weight (node f) ≡ 1 + weights f

-- ---- what the levels tell
-- what a level tells of an item that stands so, and how the item stands that it tells of
abbrev pub Is : Form → level.Read
Is f = cond f.grouped (Grouped f.rank) (Bare f.rank)

abbrev pub FormIs : level.Read → code.Option Form → Type 0
FormIs m None = (f : Form) → m ≡ Is f → ⊥
FormIs m (Some f) = m ≡ Is f

-- what a level tells of what it has read
abbrev pub told : code.Option Item → level.Read
told None = Nothing
told (Some i) = Is i.form

-- an item in the reader, w having been read before it
abbrev pub InReader : code.Option Item → ℕ → Reader → Type 0
InReader None w st = Unit {0}
InReader (Some i) w st = (i.form.rank ≤ 3) × (st.place ≡ i.next) × (st.weight ≡ w + i.weight) × (st.next ≡ i.end)

abbrev pub Gives : code.Option Item → level.Read → ℕ → Reader → Type 0
Gives i m w st = (m ≡ told i) × InReader i w st

-- an item that the reader can take up
abbrev pub InRank : code.Option Item → ℕ → Type 0
InRank None w = Unit {0}
InRank (Some i) w = (i.form.rank ≤ 3) × (w + i.weight < 2 ^ 64)

-- the item with nothing beside it, in a node of kind x, and what a level tells of it
abbrev pub lone_in : ℕ → Item → code.Option Item
lone_in x i = cond (ltb x 3 && i.form.grouped) None (Some i)

abbrev pub lone_as : ℕ → Form → level.Read
lone_as x f = cond (ltb x 3 && f.grouped) Nothing (Is f)

-- the reading o of s from `at` on, w having been read before it, its records from record d on, in the reader; m tells of it
pub record Read (s : List ℕ) (at : ℕ) (o : Reading paper.Item) (old : List ℕ) (d : ℕ) (new : List ℕ) (w : ℕ) (st : Reader) (m : level.Read) : Type 0 where
  pub item : code.Option Item
  pub given : Gives item m w st
  pub is : ItemIs s at o (Laid old d new) item

module _ {r : List ℕ → Reading paper.Item} {p : Place} {sign k : ℕ} {node : Forest → Tree} {from : paper.Item → List ℕ → List paper.Item → Reading paper.Item}
    (n : Nodes r p sign k node from) where
  unfoldable pub whole : List ℕ → Reading paper.Item
  whole s = then (r s) (λ i q. then (read_others r sign (length q) q) (λ l z. from i z l))

  -- the node of the trees `acc` and of the items l after them
  unfoldable pub finish : List Tree → List paper.Item → List ℕ → Reading paper.Item
  finish acc l z = leaving z (λ ts. bare (node (of_list (acc ++ ts)))) (all_fit p l)

  -- the tree that the first member is, where it fits
  unfoldable pub first_in : Reading paper.Item → Option Tree
  first_in none = none
  first_in (some x) = fits p x.0

  -- ---- the loop: the first member and those after it; A holds of those
  pub record Joining (s : List ℕ) (A : List Tree → Type 0) (at e w : ℕ) : Type 0 where
    pub first : Tree
    pub more : List Tree
    pub fuel : ℕ
    pub enough : length s ≤ e + fuel
    pub rest : whole (drop at s) ≡ then (read_others r sign fuel (drop e s)) (λ l z. finish (first ∷ more) l z)
    pub begun : first_in (r (drop at s)) ≡ some first
    pub rows : A more
    pub heavy : w ≡ 1 + weights (of_list (first ∷ more))
    pub ahead : at < e
    pub within : e ≤ length s
    pub light : w ≤ 2 * (e - at)
    pub several : begins sign (drop e s) ≡ false → w + 1 ≤ 2 * (e - at)

  -- ---- the loop with its area: the members after the first stand from record i on; q is the record after them, c the count with the first
  pub record Going (s old : List ℕ) (i : ℕ) (new : List ℕ) (at e w q c : ℕ) : Type 0 where
    pub joined : Joining s (Rows old i new q c) at e w
    pub low : q ≤ 2 * e
    pub few : c ≤ e
    pub same : length new ≡ length old

  -- before the first member
  pub record Start (old : List ℕ) (at d w : ℕ) (new : List ℕ) (st : Reader) : Type 0 where
    pub here : st.place ≡ at
    pub next : st.next ≡ d
    pub weighs : st.weight ≡ w
    pub same : new ≡ old

  -- behind the sign after the c-th member
  pub record On (s old : List ℕ) (at d w c : ℕ) (new : List ℕ) (st : Reader) : Type 0 where
    pub first_read : List ℕ
    pub area : List ℕ
    pub first_end : ℕ
    pub end : ℕ
    pub weighed : ℕ
    pub shifted : Shifted first_read d first_end area
    pub going : Going s area (first_end + 1) new at end weighed st.next c
    pub laid : Laid old d first_read first_end going.joined.first
    pub sign_there : begins sign (drop end s) ≡ true
    pub here : st.place ≡ end + 1
    pub weighs : st.weight ≡ w + weighed

  -- before a member, c having been read, of what is read from `at` on; its records go from record d on, and before it w was read
  abbrev pub Turn : List ℕ → List ℕ → ℕ → ℕ → ℕ → ℕ → List ℕ → Reader → Type 0
  Turn s old at d w zero new st = Start old at d w new st
  Turn s old at d w (suc c) new st = On s old at d w (suc c) new st

-- ---- nodes of the kind x: 2 for a sum, 3 for a product
abbrev pub kind_of : Node → ℕ
kind_of Sum = 2
kind_of Product = 3

pub record Kind (x : ℕ) {r : List ℕ → Reading paper.Item} {p : Place} {node : Forest → Tree} {from : paper.Item → List ℕ → List paper.Item → Reading paper.Item}
    (n : Nodes r p (45 - x) (5 - x) node from) : Type 0 where
  pub bounded : bound p ≡ 5 - x
  pub lays : {old o1 o2 o3 o4 : List ℕ} {d q0 q c : ℕ} → Shifted o1 d q0 o2 → Written (record_of x c 0 0) o3 d o4
      → (t : Tree) (l : List Tree) → Laid old d o1 q0 t
      → Rows o2 (q0 + 1) o3 q c l → Laid old d o4 q (node (of_list (t ∷ l)))
  pub alone : (s : List ℕ) (at : ℕ) (old : List ℕ) (d : ℕ) (new : List ℕ) (i : Item) → Found s at (r (drop at s)) (Laid old d new) i
      → begins (45 - x) (drop i.next s) ≡ false → ItemIs s at (whole n (drop at s)) (Laid old d new) (lone_in x i)

-- ---- what the parts of a level ask and tell
-- numbers that the reader of a text of this length can have
abbrev pub Held : List ℕ → Reader → Type 0
Held s st = (st.first ≤ st.next) × (st.next + 1 ≤ 2 * st.place) × (st.weight + 1 ≤ 2 * st.place) × (st.place ≤ length s)

abbrev pub AfterAsks : List ℕ → Reader → ℕ → level.Read → Type 0
AfterAsks s st c m = (c < 2 ^ 63) × ((f : Form) → m ≡ Is f → Held s st)

-- a member m of a node of kind x, read after c others: another follows, or this is what is read
abbrev pub AfterIs : ℕ → List ℕ → ℕ → level.Read → List ℕ → Reader → List ℕ → Reader → level.Read → Type 0
AfterIs x s c m out st out' st' a =
    (r : List ℕ → Reading paper.Item) (p : Place) (node : Forest → Tree) (from : paper.Item → List ℕ → List paper.Item → Reading paper.Item)
    (n : Nodes r p (45 - x) (5 - x) node from)
    → Kind x n → (old : List ℕ) (at d w : ℕ) (area : List ℕ) (was : Reader) → Turn n s old at d w c area was
    → Read s was.place (r (drop was.place s)) area was.next out was.weight st m → st.first ≡ d → length out ≡ length area
    → (a ≡ Another → ((f : Form) × (m ≡ Is f)) × (st'.place ≡ st.place + 1) × Turn n s old at d w (suc c) out' st')
    × ((a ≡ Another → ⊥) → Read s at (whole n (drop at s)) old d out' w st' a)

abbrev pub Followed : ℕ → List ℕ → ℕ → level.Read → List ℕ → Reader → List ℕ → Reader → level.Read → Type 0
Followed x s c m out st out' st' a = (st'.level ≡ st.level) × (st'.first ≡ st.first) × AfterIs x s c m out st out' st' a

-- the content of a group that begins at `at`, w having been read before it
pub record Inside (s : List ℕ) (at : ℕ) (o : Reading Tree) (old out : List ℕ) (st : Reader) (w : ℕ) (m : level.Read) : Type 0 where
  pub read : Read s (at + 1) (bared o) old st.first out w st m
  pub low : st.first ≤ 2 * at
  pub light : w ≤ 2 * at

abbrev pub RaiseAsks : List ℕ → List ℕ → Reader → ℕ → level.Read → Type 0
RaiseAsks s out st w m =
    (m ≡ Another → (st.next ≤ 2 * st.place) × (st.weight ≤ 2 * st.place))
    × ((m ≡ Another → ⊥) → (st.level + 1 < 2 ^ 64) × ((at : ℕ) × (o : Reading Tree) × (old : List ℕ) × Inside s at o old out st w m))

abbrev pub RaiseIs : List ℕ → List ℕ → Reader → ℕ → level.Read → List ℕ → Reader → level.Read → Type 0
RaiseIs s out st w m out' st' a =
    (m ≡ Another → (st'.level ≡ st.level)
    × Read s st.place (read_power (read_cut 0) (drop st.place s)) out st.next out' st.weight st' a)
    × ((m ≡ Another → ⊥) → (st'.level ≡ st.level + 1)
    × ((at : ℕ) (o : Reading Tree) (old : List ℕ) → Inside s at o old out st w m → Read s at (then (then o closed) raising) old st.first out' w st' a))

-- ---- a level
abbrev pub Ready : List ℕ → Reader → Type 0
Ready s st = (length s < 2 ^ 63) × (st.next ≤ 2 * st.place) × (st.weight ≤ 2 * st.place) × (st.level < 2 ^ 64)

-- what f reads, that many levels deep, from the reader's place on
abbrev pub ReadFrom : List ℕ → (ℕ → List ℕ → Reading paper.Item) → List ℕ → Reader → List ℕ → Reader → level.Read → Type 0
ReadFrom s f old st new st' m = Read s st.place (f st.level (drop st.place s)) old st.next new st.weight st' m
