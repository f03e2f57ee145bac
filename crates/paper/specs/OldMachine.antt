-- The two limits, and a machine at the old one: "Stored tables up to the old limit have the same bytes and answers. A machine at the old
-- limit refuses a table over 49,152 bytes with 1, and a shorter table without fault 2 but of greater weight with 3." What is said of that machine is
-- said of any that one might put there, and then of the one of the definitions: so the sentences can be seen to turn a wrong one away (proofs/OldMachine).
use Rattle.std.specs.Prelude.{ℕ, ◌%◌, ◌≤◌, ◌<◌, ◌≡◌, List, length}
use Rattle.paper.specs.Verdict.{Verdict, accepted, refused, records_in, table_weight, verdict}
use Rattle.paper.specs.Refusals.{Flawed}
use Rattle.paper.specs.Answers.{Measured, weighed, valued, Compared, compared, Lent, Given, judgement, simplified}
use Rattle.paper.specs.Demands.{Simplifier}

abbrev pub old : ℕ
old = 3072

abbrev pub higher : ℕ
higher = 16384

-- the table is up to the old limit
abbrev pub UpToOld : List ℕ → Type 0
UpToOld s = (length s ≤ 49152) × (table_weight s ≤ old)

-- ---- what a machine answers of tables: the checker, the weight, the evaluator and the equality test
pub record Machine : Type 0 where
  pub checks : List ℕ → Verdict
  pub weighs : List ℕ → Measured
  pub values : List ℕ → List ℕ → Measured
  pub compares : List ℕ → List ℕ → Compared

abbrev pub machine : ℕ → Machine
machine lim = record { checks = verdict lim; weighs = weighed lim; values = valued lim; compares = compared lim }

module _ (m : Machine) where
  -- checker, weight and evaluator: the answers of the higher limit, refused or not
  abbrev pub Agrees : Type 0
  Agrees =
      (s : List ℕ) → UpToOld s
      → (m.checks s ≡ verdict higher s) × (m.weighs s ≡ weighed higher s) × ((regs : List ℕ) → m.values s regs ≡ valued higher s regs)

  -- the equality test of two such tables
  abbrev pub AgreesOnTwo : Type 0
  AgreesOnTwo = (a b : List ℕ) → UpToOld a → UpToOld b → m.compares a b ≡ compared higher a b

  -- "refuses a table over 49,152 bytes with 1"
  abbrev pub RefusesLong : Type 0
  RefusesLong = (s : List ℕ) → 49152 < length s → m.checks s ≡ refused 1 0

  -- "and a shorter table without fault 2 but of greater weight with 3": whole records, none of them flawed
  abbrev pub RefusesHeavy : Type 0
  RefusesHeavy =
      (s : List ℕ) → 0 < length s → length s % 16 ≡ 0 → length s ≤ 49152 → ((i : ℕ) → i < records_in s → ¬ Flawed s i)
      → old < table_weight s → m.checks s ≡ refused 3 0

-- and of the definitions
abbrev pub SameVerdicts : Type 0
SameVerdicts = Agrees (machine old)

abbrev pub SameComparison : Type 0
SameComparison = AgreesOnTwo (machine old)

abbrev pub OldTooLong : Type 0
OldTooLong = RefusesLong (machine old)

abbrev pub OldTooHeavy : Type 0
OldTooHeavy = RefusesHeavy (machine old)

-- what the old limit accepts, the higher accepts
abbrev pub AcceptedHigher : Type 0
AcceptedHigher = (s : List ℕ) → verdict old s ≡ accepted → verdict higher s ≡ accepted

-- ---- the simplifier: the same answer, and the same bytes in `out` and `steps`
pub record Alike (g h : Given) : Type 0 where
  pub answer : g.answer ≡ h.answer
  pub out : g.lent.out ≡ h.lent.out
  pub steps : g.lent.steps ≡ h.lent.steps

-- of one at the old limit, where its call and the call at the higher limit are both lent enough, or refused by the same number
abbrev pub AgreesOnCalls : (ℕ → Simplifier) → Type 0
AgreesOnCalls f =
    (ed : ℕ) (s : List ℕ) (l l' : Lent) → l.out ≡ l'.out → l.steps ≡ l'.steps → (judgement old ed s l).number ≡ (judgement higher ed s l').number
    → Alike (f ed s l) (simplified higher ed s l')

abbrev pub SameResults : Type 0
SameResults = AgreesOnCalls (simplified old)
