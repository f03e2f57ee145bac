-- What the statements about the two limits come to: at the very edge, a unit of weight or a byte over the old limit; and up to it, for what a machine
-- reads of a call. Each is the statement put to use.
use Prim.Native.Nat.{ℕ, ◌*◌, ◌<◌}
use mathlib.Core.Path.{◌≡◌, ap, ap₂}
use mathlib.Core.Bool.{true}
use mathlib.Core.List.{List}
use native.Mathlib.Omega.{arith}
use lib.ListN.{length, get_or, take}
use Rattle.paper.specs.Bytes.{Bytes}
use Rattle.paper.specs.Tree.{Tree, weight}
use Rattle.paper.specs.Verdict.{records_in, table_weight}
use Rattle.paper.specs.Refusals.{Flawed}
use Rattle.paper.specs.Rules.{is_edition}
use Rattle.paper.specs.Answers.{Lent, Answer, Given, refusal, simplified}
use Rattle.paper.specs.Demands.{result}
use Rattle.paper.specs.OldMachine.{UpToOld, Alike}
use Rattle.paper_batch.specs.Batch.{in_turn, lengths_in, SiteCall, site_called}
use Rattle.paper_batch.specs.Sentences.{item}
use Rattle.paper_shared.specs.Answers.{Handed, table_at, opens, judged_site, shared_given}
use Rattle.paper_takeover.specs.TakenOver.{answers_in}
use Rattle.paper_takeover.specs.SiteRestored.{restored_whole}
use Rattle.paper_takeover.specs.OtherLimit.{SameAreas, SameSite, ItemsUpToOld, ItemTooLong, ItemTooHeavy}
use Rattle.paper_takeover.specs.OtherLimit.{DefinitionsUpToOld, SharedUpToOld, BothRefuse, OldRefusesShared}
use Rattle.paper_takeover.proofs.OtherLimit.{same_calls, same_sites, item_too_long, item_too_heavy, shares_alike, old_refuses_shared}

-- ---- over the old limit
pub record JustOver : Type 0 where
  pub item_1 : (ed : ℕ) → is_edition ed ≡ true → (ns s : List ℕ) (l : Lent) (i : ℕ) → i < length ns → length (item ns s i) ≡ 49153
      → (d : Answer) → get_or (in_turn (simplified 3072 ed) ns s l).answers i d ≡ refusal 1 0
  pub item_3 : (ed : ℕ) → is_edition ed ≡ true → (ns s : List ℕ) (l : Lent) (i : ℕ) → i < length ns → length (item ns s i) ≡ 49152
      → ((j : ℕ) → j < records_in (item ns s i) → ¬ Flawed (item ns s i) j) → table_weight (item ns s i) ≡ 3073
      → (d : Answer) → get_or (in_turn (simplified 3072 ed) ns s l).answers i d ≡ refusal 3 0
  pub formula_1 : (h : Handed) (v : Tree) → judged_site 16384 h ≡ opens v → length h.table ≡ 49168 → BothRefuse h 1
  pub formula_3 : (h : Handed) (v : Tree) → judged_site 16384 h ≡ opens v → length h.table ≡ 49152 → table_weight h.table ≡ 3073 → BothRefuse h 3
  pub definition_15 : (h : Handed) (v : Tree) → judged_site 16384 h ≡ opens v → UpToOld h.table
      → (i : ℕ) → i < length h.symbols → table_weight (table_at h.lengths h.definitions i) ≡ 3073 → BothRefuse h 15
  pub opened_18 : (h : Handed) (v : Tree) → judged_site 16384 h ≡ opens v → UpToOld h.table → DefinitionsUpToOld h → weight v ≡ 3073 → BothRefuse h 18

just_over_by : ItemTooLong → ItemTooHeavy → OldRefusesShared → JustOver
just_over_by long heavy refuses =
    record {
      item_1 = λ ed known ns s l i h e d. long ed known ns s l i h (omega arith) d;
      item_3 = λ ed known ns s l i h e flawless w d. heavy ed known ns s l i h (omega arith) (omega arith) (omega arith) flawless (omega arith) d;
      formula_1 = λ h v e n. (refuses h v e).too_long (omega arith);
      formula_3 = λ h v e n w. (refuses h v e).too_heavy (omega arith) (omega arith);
      definition_15 = λ h v e u i k w. (refuses h v e).definition u i k (λ over. omega (arith, over.1));
      opened_18 = λ h v e u d w. (refuses h v e).opened u d (omega arith);
    }

pub just_over : JustOver
just_over = just_over_by item_too_long item_too_heavy old_refuses_shared

-- ---- up to it: the number, the bytes of the result and the steps that a caller reads
pub record ReadsAlike (g g' : Given) : Type 0 where
  pub number : g.answer.number ≡ g'.answer.number
  pub result_bytes : result g ≡ result g'
  pub noted : take g.answer.steps_taken g.lent.steps ≡ take g'.answer.steps_taken g'.lent.steps

reads_alike : {g g' : Given} → Alike g g' → ReadsAlike g g'
unfolding result
reads_alike s =
    record {
      number = ap (λ (x : Answer). x.number) s.answer;
      result_bytes = ap₂ (λ (x : Answer) (o : List ℕ). take (16 * x.records_written) o) s.answer s.out;
      noted = ap₂ (λ (x : Answer) (o : List ℕ). take x.steps_taken o) s.answer s.steps;
    }

-- of a site, what it returns, the steps and what is restored of it whole
pub record RestoresAlike (ns s : List ℕ) (c c' : SiteCall) : Type 0 where
  pub number : c.number ≡ c'.number
  pub noted : c.lent.steps ≡ c'.lent.steps
  pub restored_alike :
      let n = length ns in
      restored_whole ns s (answers_in n c.answers) c.lent.out ≡ restored_whole ns s (answers_in n c'.answers) c'.lent.out

restores_alike : (ns s : List ℕ) {c c' : SiteCall} → SameSite c c' → RestoresAlike ns s c c'
restores_alike ns s x =
    record {
      number = x.number;
      noted = x.steps;
      restored_alike = ap₂ (λ (p q : List ℕ). restored_whole ns s (answers_in (length ns) p) q) x.answers x.out;
    }

pub record UpToIt : Type 0 where
  pub table : (ed : ℕ) (s : List ℕ) → UpToOld s → (l l' : Lent) → SameAreas l l' → ReadsAlike (simplified 3072 ed s l) (simplified 16384 ed s l')
  pub site : (ed : ℕ) (tables lengths : List ℕ) → Bytes tables → ItemsUpToOld (lengths_in lengths) tables → (l l' : Lent) → SameAreas l l' → (answers : List ℕ)
      → RestoresAlike (lengths_in lengths) tables (site_called 3072 ed tables lengths l answers) (site_called 16384 ed tables lengths l' answers)
  pub shared : (ed : ℕ) (h : Handed) → SharedUpToOld h → (area : List ℕ) (l l' : Lent) → SameAreas l l'
      → let g = shared_given 3072 ed h area l in
      let g' = shared_given 16384 ed h area l' in
      ReadsAlike g.given g'.given × (g.area ≡ g'.area)

pub up_to_it : UpToIt
up_to_it =
    record {
      table = λ ed s u l l' a. reads_alike (same_calls ed s u l l' a);
      site = λ ed tables lengths b u l l' a answers.
          restores_alike (lengths_in lengths) tables (same_sites ed tables lengths b u l l' a answers);
      shared = λ ed h u area l l' a. let s = shares_alike ed h u area l l' a in (reads_alike s.given, s.area);
    }
