-- The whole answer of each public function, and every lent byte afterwards, as functions of the bytes handed in.
use Rattle.std.specs.Prelude.{ℕ, ◌*◌, Bool, false, cond, ◌||◌, List, [], length, eqb, ltb}
use Rattle.std.proofs.Math.Option.{Option, none, some}
use Rattle.paper.specs.Limits.{is_limit, work_bytes, register_bytes}
use Rattle.paper.specs.Bytes.{le8, stretch}
use Rattle.paper.specs.Record.{Flaw, sound}
use Rattle.paper.specs.Tree.{Tree, weight, records, value}
use Rattle.paper.specs.Equal.{equal}
use Rattle.paper.specs.Table.{encode, tree_of}
use Rattle.paper.specs.Verdict.{Verdict, accepted, refused, is_accepted, table_weight, verdict}
use Rattle.paper.specs.Rules.{is_edition, rules_of}
use Rattle.paper.specs.Driver.{Ran, done, over, simplify}

-- ---- the checker of tables answers `verdict`

-- ---- weight and value: "answer 1 to 5 alike (weight and value 0 when refused)", and pass on what is wrong with the record after 2
pub record Measured : Type 0 where
  pub number : ℕ
  pub place : ℕ
  pub flaw : Flaw
  pub result : ℕ

unfoldable pub measured : Verdict → ℕ → Measured
measured v n = record { number = v.number; place = v.place; flaw = v.flaw; result = cond (is_accepted v) n 0 }

unfoldable pub weighed : ℕ → List ℕ → Measured
weighed lim s = measured (verdict lim s) (table_weight s)

-- "the registers come as 2,048 bytes, symbol 0 first, little-endian"
unfoldable pub register : List ℕ → ℕ → ℕ
register regs k = le8 regs (k * 8)

unfoldable pub tree_value : Option Tree → (ℕ → ℕ) → ℕ
tree_value none ρ = 0
tree_value (some t) ρ = value t ρ

-- "any other length is 6, place 0, after 1 to 5"
unfoldable pub registers_verdict : ℕ → List ℕ → List ℕ → Verdict
registers_verdict lim s regs = cond (is_accepted (verdict lim s)) (cond (eqb (length regs) register_bytes) accepted (refused 6 0)) (verdict lim s)

unfoldable pub valued : ℕ → List ℕ → List ℕ → Measured
valued lim s regs = measured (registers_verdict lim s regs) (tree_value (tree_of s) (register regs))

-- ---- "The equality test judges the first table by 1 to 5, then the second, and returns number, place and which table it
-- refuses (1 or 2, and 0 for neither); its yes or no is no after a refusal."
pub record Compared : Type 0 where
  pub number : ℕ
  pub place : ℕ
  pub flaw : Flaw
  pub which : ℕ
  pub yes : Bool

unfoldable pub turned_down_compared : Verdict → ℕ → Compared
turned_down_compared v k = record { number = v.number; place = v.place; flaw = v.flaw; which = k; yes = false }

unfoldable pub equal_trees : Option Tree → Option Tree → Bool
equal_trees none u = false
equal_trees (some t) none = false
equal_trees (some t) (some u) = equal t u

unfoldable pub compared_tables : ℕ → List ℕ → List ℕ → Compared
compared_tables lim a b =
    cond (is_accepted (verdict lim a))
    (cond (is_accepted (verdict lim b))
    (record { number = 0; place = 0; flaw = sound; which = 0; yes = equal_trees (tree_of a) (tree_of b) })
    (turned_down_compared (verdict lim b) 2))
    (turned_down_compared (verdict lim a) 1)

-- "another limit is 19, before all others", and is the fault of neither table
unfoldable pub compared : ℕ → List ℕ → List ℕ → Compared
compared lim a b = cond (is_limit lim) (compared_tables lim a b) (turned_down_compared (refused 19 0) 0)

-- ---- the simplifier: "is lent a table, and `out`, `steps` and `work` to write"
pub record Lent : Type 0 where
  pub out : List ℕ
  pub steps : List ℕ
  pub work : List ℕ

-- "the records written, the steps, the openings, and both weights"
pub record Answer : Type 0 where
  pub number : ℕ
  pub place : ℕ
  pub flaw : Flaw
  pub records_written : ℕ
  pub steps_taken : ℕ
  pub openings : ℕ
  pub weight_in : ℕ
  pub weight_out : ℕ
  pub tries : ℕ

-- 6: "`out` under 16 x W bytes, `steps` under W, or `work` under 65,536", or what the limit asks for
unfoldable pub cramped : ℕ → ℕ → Lent → Bool
cramped lim w l = ltb (length l.out) (16 * w) || ltb (length l.steps) w || ltb (length l.work) (work_bytes lim)

-- 1 to 6: "The lowest number wins."
unfoldable pub judged_call : ℕ → List ℕ → Lent → Verdict
judged_call lim s l = cond (is_accepted (verdict lim s)) (cond (cramped lim (table_weight s) l) (refused 6 0) accepted) (verdict lim s)

-- "an unknown edition, before 8 and 1, number 9", but "another limit is 19, before all others"; lim is the limit, ed the edition
unfoldable pub judgement : ℕ → ℕ → List ℕ → Lent → Verdict
judgement lim ed s l = cond (is_limit lim) (cond (is_edition ed) (judged_call lim s l) (refused 9 0)) (refused 19 0)

-- what becomes of a call: refused, but not with 7; or W, and the run on the table's tree
pub data Outcome : Type 0 where
  turned_down : Verdict → Outcome
  ran : ℕ → Ran → Outcome

-- (an accepted table always holds a tree: proofs/AcceptedLaws)
unfoldable pub run_on : (Tree → Ran) → ℕ → Option Tree → Outcome
run_on run w none = turned_down (refused 4 0)
run_on run w (some t) = ran w (run t)

unfoldable pub outcome_of : ℕ → ℕ → (Tree → Ran) → List ℕ → Lent → Outcome
outcome_of lim ed run s l = cond (is_accepted (judgement lim ed s l)) (run_on run (table_weight s) (tree_of s)) (turned_down (judgement lim ed s l))

-- "A refusal returns number and place, all other numbers zero", and after 2 what is wrong with the record
unfoldable pub refused_by : Verdict → Answer
refused_by v =
    record {
      number = v.number;
      place = v.place;
      flaw = v.flaw;
      records_written = 0;
      steps_taken = 0;
      openings = 0;
      weight_in = 0;
      weight_out = 0;
      tries = 0;
    }

-- one that says nothing of a record
abbrev pub refusal : ℕ → ℕ → Answer
refusal k p = refused_by (refused k p)

-- "An accepted call returns 0, place 0, the records written, the steps, the openings, and both weights."
unfoldable pub ran_answer : ℕ → Ran → Answer
ran_answer w (done u ks o n) =
    record {
      number = 0;
      place = 0;
      flaw = sound;
      records_written = records u;
      steps_taken = length ks;
      openings = o;
      weight_in = w;
      weight_out = weight u;
      tries = n;
    }
ran_answer w (over k) = refusal 7 k

unfoldable pub answer_of : Outcome → Answer
answer_of (turned_down v) = refused_by v
answer_of (ran w r) = ran_answer w r

-- "It writes the tree to `out` and the step numbers, one byte each, to `steps`, and zeros up to 16 x W and W bytes. After 7 these
-- two stretches are zeros throughout."
unfoldable pub written : Ran → List ℕ
written (done u ks o n) = encode u
written (over k) = []

unfoldable pub noted : Ran → List ℕ
noted (done u ks o n) = ks
noted (over k) = []

unfoldable pub out_after : Outcome → List ℕ → List ℕ
out_after (turned_down v) old = old
out_after (ran w r) old = stretch (16 * w) (written r) old

unfoldable pub steps_after : Outcome → List ℕ → List ℕ
steps_after (turned_down v) old = old
steps_after (ran w r) old = stretch w (noted r) old

-- "In both cases the first 65,536 bytes of `work` are zero", or what the limit asks for: "that stretch is what is zeroed"
unfoldable pub work_after : ℕ → Outcome → List ℕ → List ℕ
work_after lim (turned_down v) old = old
work_after lim (ran w r) old = stretch (work_bytes lim) [] old

unfoldable pub lent_after : ℕ → Outcome → Lent → Lent
lent_after lim x l = record { out = out_after x l.out; steps = steps_after x l.steps; work = work_after lim x l.work }

-- what a simplifier gives: its answer, and the lent areas afterwards
pub record Given : Type 0 where
  pub answer : Answer
  pub lent : Lent

-- a simplifier that judges, reads and writes as the paper says, around any run
unfoldable pub simplified_by : ℕ → ℕ → (Tree → Ran) → List ℕ → Lent → Given
simplified_by lim ed run s l = record { answer = answer_of (outcome_of lim ed run s l); lent = lent_after lim (outcome_of lim ed run s l) l }

-- the simplifier: the run is the driver's, over the rules of the edition
unfoldable pub simplified : ℕ → ℕ → List ℕ → Lent → Given
simplified lim ed = simplified_by lim ed (simplify (rules_of ed))
