-- A site, and a formula that shares sub-formulas, at the two limits, as paper's OldMachine has it of a table: what is up to the old limit has the
-- same answers and bytes at both, refused or not; what is not is refused at the old limit, by these numbers.
use Rattle.std.specs.Prelude.{ℕ, ◌%◌, ◌≤◌, ◌<◌, ◌≡◌, true, List, length, get_or}
use Rattle.std.proofs.Math.Option.{some}
use Rattle.paper.specs.Limits.{work_bytes}
use Rattle.paper.specs.Bytes.{Bytes}
use Rattle.paper.specs.Tree.{Tree, weight}
use Rattle.paper.specs.Verdict.{refused, records_in, table_weight}
use Rattle.paper.specs.Refusals.{Flawed}
use Rattle.paper.specs.Rules.{is_edition}
use Rattle.paper.specs.Answers.{Lent, Answer, refusal, simplified}
use Rattle.paper.specs.OldMachine.{old, higher, UpToOld, Alike}
use Rattle.paper_batch.specs.Batch.{in_turn, lengths_in, SiteCall, site_called}
use Rattle.paper_batch.specs.Sentences.{item}
use Rattle.paper_shared.specs.Answers.{Handed, table_at, opened_of, opens, judged_site, unopened, open_given, SharedGiven, unshared, shared_given}

-- ---- the areas of the two calls: the same bytes to write to, and the `work` that each limit asks for
pub record SameAreas (l l' : Lent) : Type 0 where
  pub same_out : l.out ≡ l'.out
  pub same_steps : l.steps ≡ l'.steps
  pub old_work : work_bytes old ≤ length l.work
  pub higher_work : work_bytes higher ≤ length l'.work

-- a table, refused or not
abbrev pub SameCalls : Type 0
SameCalls = (ed : ℕ) (s : List ℕ) → UpToOld s → (l l' : Lent) → SameAreas l l' → Alike (simplified old ed s l) (simplified higher ed s l')

-- ---- a whole site, each item of which is up to the old limit
abbrev pub ItemsUpToOld : List ℕ → List ℕ → Type 0
ItemsUpToOld ns s = (i : ℕ) → i < length ns → UpToOld (item ns s i)

pub record SameSite (c c' : SiteCall) : Type 0 where
  pub number : c.number ≡ c'.number
  pub answers : c.answers ≡ c'.answers
  pub out : c.lent.out ≡ c'.lent.out
  pub steps : c.lent.steps ≡ c'.lent.steps

abbrev pub SameSites : Type 0
SameSites =
    (ed : ℕ) (tables lengths : List ℕ) → Bytes tables → ItemsUpToOld (lengths_in lengths) tables → (l l' : Lent) → SameAreas l l' → (answers : List ℕ)
    → SameSite (site_called old ed tables lengths l answers) (site_called higher ed tables lengths l' answers)

-- an item that is not, at the old limit, whatever stands before it: over 49,152 bytes 1; of whole records without fault 2, but heavier, 3
abbrev pub ItemTooLong : Type 0
ItemTooLong =
    (ed : ℕ) → is_edition ed ≡ true → (ns s : List ℕ) (l : Lent) (i : ℕ) → i < length ns → 49152 < length (item ns s i)
    → (d : Answer) → get_or (in_turn (simplified old ed) ns s l).answers i d ≡ refusal 1 0

abbrev pub ItemTooHeavy : Type 0
ItemTooHeavy =
    (ed : ℕ) → is_edition ed ≡ true → (ns s : List ℕ) (l : Lent) (i : ℕ) → i < length ns → let t = item ns s i in
    0 < length t → length t % 16 ≡ 0 → length t ≤ 49152 → ((j : ℕ) → j < records_in t → ¬ Flawed t j) → old < table_weight t
    → (d : Answer) → get_or (in_turn (simplified old ed) ns s l).answers i d ≡ refusal 3 0

-- ---- a formula with definitions: it, each of them, and what it opens to
abbrev pub DefinitionsUpToOld : Handed → Type 0
DefinitionsUpToOld h = (i : ℕ) → i < length h.symbols → UpToOld (table_at h.lengths h.definitions i)

pub record SharedUpToOld (h : Handed) : Type 0 where
  pub formula : UpToOld h.table
  pub definitions : DefinitionsUpToOld h
  pub light : (v : Tree) → opened_of h ≡ some v → weight v ≤ old

-- the call that opens, and the call that opens and simplifies
pub record SameShared (g g' : SharedGiven) : Type 0 where
  pub given : Alike g.given g'.given
  pub area : g.area ≡ g'.area

abbrev pub SameOpenings : Type 0
SameOpenings = (h : Handed) → SharedUpToOld h → (area : List ℕ) → open_given old h area ≡ open_given higher h area

abbrev pub SharesAlike : Type 0
SharesAlike =
    (ed : ℕ) (h : Handed) → SharedUpToOld h → (area : List ℕ) (l l' : Lent) → SameAreas l l'
    → SameShared (shared_given old ed h area l) (shared_given higher ed h area l')

-- both calls refuse it with k at the old limit, and change nothing
pub record BothRefuse (h : Handed) (k : ℕ) : Type 0 where
  pub by_opening : (area : List ℕ) → open_given old h area ≡ unopened (refused k 0) area
  pub by_sharing : (ed : ℕ) → is_edition ed ≡ true → (area : List ℕ) (l : Lent) → shared_given old ed h area l ≡ unshared (refused k 0) area l

-- what opens to the tree v at the higher limit: 1 or 3 where the formula is over the old one; else 15 where a definition is; else 18 where v is
pub record OldRefuses (h : Handed) (v : Tree) : Type 0 where
  pub too_long : 49152 < length h.table → BothRefuse h 1
  pub too_heavy : length h.table ≤ 49152 → old < table_weight h.table → BothRefuse h 3
  pub definition : UpToOld h.table → (i : ℕ) → i < length h.symbols → ¬ UpToOld (table_at h.lengths h.definitions i) → BothRefuse h 15
  pub opened : UpToOld h.table → DefinitionsUpToOld h → old < weight v → BothRefuse h 18

abbrev pub OldRefusesShared : Type 0
OldRefusesShared = (h : Handed) (v : Tree) → judged_site higher h ≡ opens v → OldRefuses h v
