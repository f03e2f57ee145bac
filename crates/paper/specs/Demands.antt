-- The three demands as one record with named fields, over a limit, an edition and the behaviour of any simplifier: what it answers, and
-- what it leaves in the lent areas, for every table of bytes and all lent areas.
use Rattle.std.specs.Prelude.{ℕ, ◌+◌, ◌*◌, ◌≤◌, ◌≡◌, ◌↔◌, List, [], length, take}
use Rattle.std.proofs.Math.Option.{some}
use Rattle.paper.specs.Limits.{work_bytes}
use Rattle.paper.specs.Bytes.{Bytes, stretch}
use Rattle.paper.specs.Record.{sound}
use Rattle.paper.specs.Tree.{Tree, weight, value, records}
use Rattle.paper.specs.Table.{encode, tree_of}
use Rattle.paper.specs.Verdict.{Verdict, accepted, table_weight}
use Rattle.paper.specs.Rules.{rules_of}
use Rattle.paper.specs.Driver.{done, over, simplify}
use Rattle.paper.specs.Admits.{AdmitsNone}
use Rattle.paper.specs.Answers.{Lent, refused_by, refusal, Given, judgement}

abbrev pub Simplifier : Type 0
Simplifier = List ℕ → Lent → Given

-- the bytes of the result: the records written, which begin `out`
unfoldable pub result : Given → List ℕ
result g = take (16 * g.answer.records_written) g.lent.out

-- a simplifier for the limit lim and the edition ed
module _ (lim ed : ℕ) (f : Simplifier) where
  -- ---- demand 1: "gives each refusal exactly when the paper says so": each but 7, with its place, and after 2 what is wrong
  abbrev pub Refuses : Type 0
  Refuses =
      (s : List ℕ) → Bytes s → (l : Lent) (v : Verdict) → 1 ≤ v.number → ¬ (v.number ≡ 7)
      → ((f s l).answer ≡ refused_by v) ↔ (judgement lim ed s l ≡ v)

  -- "refusals 1 to 6 change no lent byte", and a number "that a later request adds" changes none
  abbrev pub LeavesAlone : Type 0
  LeavesAlone =
      (s : List ℕ) → Bytes s → (l : Lent) (v : Verdict) → 1 ≤ v.number → ¬ (v.number ≡ 7) → (f s l).answer ≡ refused_by v
      → (f s l).lent ≡ l

  -- "7 leaves the stated zeros", and bytes past the stretches as they were
  abbrev pub Clears : Type 0
  Clears =
      (s : List ℕ) → Bytes s → (l : Lent) (p : ℕ) → (f s l).answer ≡ refusal 7 p
      → (f s l).lent
      ≡ record {
        out = stretch (16 * table_weight s) [] l.out;
        steps = stretch (table_weight s) [] l.steps;
        work = stretch (work_bytes lim) [] l.work;
      }

  -- ---- demand 2: 7 exactly when the run on the table's tree meets an integer outside the range, p steps being completed
  abbrev pub RunsOver : Type 0
  RunsOver =
      (s : List ℕ) → Bytes s → (l : Lent) (p : ℕ)
      → ((f s l).answer ≡ refusal 7 p) ↔ ((judgement lim ed s l ≡ accepted) × ((t : Tree) × (tree_of s ≡ some t) × (simplify (rules_of ed) t ≡ over p)))

  -- "Records and trees translate as the paper says, both ways. Tree, steps and openings are those of its rules, followed in order."
  abbrev pub Follows : Type 0
  Follows =
      (s : List ℕ) → Bytes s → (l : Lent) → judgement lim ed s l ≡ accepted
      → (t u : Tree) (ks : List ℕ) (o n : ℕ) → tree_of s ≡ some t → simplify (rules_of ed) t ≡ done u ks o n
      → ((f s l).answer
      ≡ record {
        number = 0;
        place = 0;
        flaw = sound;
        records_written = records u;
        steps_taken = length ks;
        openings = o;
        weight_in = weight t;
        weight_out = weight u;
        tries = n;
      })
      × ((f s l).lent
      ≡ record {
        out = stretch (16 * weight t) (encode u) l.out;
        steps = stretch (weight t) ks l.steps;
        work = stretch (work_bytes lim) [] l.work;
      })

  -- ---- demand 3, of an accepted call: the table's tree being t, the result is the records of a tree u, and Q holds of the two
  abbrev pub Accepted : (List ℕ → Lent → Tree → Tree → Type 0) → Type 0
  Accepted Q =
      (s : List ℕ) → Bytes s → (l : Lent) → (f s l).answer.number ≡ 0
      → (t : Tree) → tree_of s ≡ some t → (u : Tree) × (tree_of (result (f s l)) ≡ some u) × Q s l t u

  -- "steps + openings ≤ weight in − weight out"
  abbrev pub Lightens : Type 0
  Lightens = Accepted (λ s l t u. (f s l).answer.steps_taken + (f s l).answer.openings + weight u ≤ weight t)

  -- "they are at most the cube of the weight going in"
  abbrev pub Bounded : Type 0
  Bounded = Accepted (λ s l t u. (f s l).answer.tries ≤ weight t * (weight t * weight t))

  -- "the output admits no rule and no opening"
  abbrev pub Finishes : Type 0
  Finishes = Accepted (λ s l t u. AdmitsNone (rules_of ed) u)

  -- "the value modulo 2^64 is kept under every assignment"
  abbrev pub KeepsValue : Type 0
  KeepsValue = Accepted (λ s l t u. (ρ : ℕ → ℕ) → value u ρ ≡ value t ρ)

pub record Demands (lim ed : ℕ) (f : Simplifier) : Type 0 where
  pub refuses : Refuses lim ed f
  pub leaves_alone : LeavesAlone lim ed f
  pub clears : Clears lim ed f
  pub runs_over : RunsOver lim ed f
  pub follows : Follows lim ed f
  pub lightens : Lightens lim ed f
  pub bounded : Bounded lim ed f
  pub finishes : Finishes lim ed f
  pub keeps_value : KeepsValue lim ed f
