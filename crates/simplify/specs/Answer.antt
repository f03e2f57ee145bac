-- The simplifier's answer in the paper's terms, and what a run leaves in the areas that it is lent.
use Rattle.std.specs.Prelude.{ℕ, ◌-◌, ◌*◌, ◌/◌, ◌≤◌, ◌<◌, ◌≡◌, Bool, cond, ◌||◌, List, [], ◌++◌, length, replicate, eqb, ltb}
use Rattle.paper.specs.Limits.{is_limit, work_bytes}
use Rattle.paper.specs.Bytes.{stretch}
use Rattle.paper.specs.Tree.{Tree, weight}
use Rattle.paper.specs.WellFormed.{WF}
use Rattle.paper.specs.Table.{encode}
use Rattle.paper.specs.Rules.{is_edition}
use Rattle.paper.specs.Driver.{Ran}
use Rattle.paper.specs.Answers as paper
use Rattle.record.specs.Flaw.{flaw_of}
use Rattle.simplify.specs.declared.Answer.{Answer}

-- the eight numbers and what is wrong with the record, field by field
abbrev pub says : Answer → paper.Answer
says a =
    record {
      number = a.number;
      place = a.place;
      flaw = flaw_of a.flaw;
      records_written = a.records;
      steps_taken = a.steps;
      openings = a.openings;
      weight_in = a.weight_in;
      weight_out = a.weight_out;
      tries = a.tries;
    }

abbrev pub lent : List ℕ → List ℕ → List ℕ → paper.Lent
lent out steps work = record { out = out; steps = steps; work = work }

-- an answer, and the areas afterwards, as the paper's
abbrev pub gives : Answer → List ℕ → List ℕ → List ℕ → paper.Given
gives a out steps work = record { answer = says a; lent = lent out steps work }

-- what is refused before a table is looked at: 19 of the limit, 9 of the edition, or 0
unfoldable pub call_number : ℕ → ℕ → ℕ
call_number lim ed = cond (is_limit lim) (cond (is_edition ed) 0 9) 19

-- 6, by the limit, the weight and the lengths of the three areas
unfoldable pub short : ℕ → ℕ → ℕ → ℕ → ℕ → Bool
short lim w out steps work = ltb out (16 * w) || ltb steps w || ltb work (work_bytes lim)

-- the number of an answer after a run, to its end or to 7
unfoldable pub has_run : ℕ → Bool
has_run k = eqb k 0 || eqb k 7

-- `work` after an answer with the number k, once it is cleared: zeros in front where there was a run, else as it is
unfoldable pub cleaned : ℕ → ℕ → List ℕ → List ℕ
cleaned lim k work = cond (has_run k) (stretch (work_bytes lim) [] work) work

-- an area of n bytes: xs, and zeros up to its end
unfoldable pub filled : ℕ → List ℕ → List ℕ
filled n xs = xs ++ replicate (n - length xs) 0

-- the table holds the tree t, of weight w, and the areas have room for a run on it
pub record Lending (table out steps work : List ℕ) (w : ℕ) (t : Tree) : Type 0 where
  pub wf : WF t
  pub light : weight t < 65536
  pub written : table ≡ encode t
  pub weighs : w ≡ weight t
  pub out_room : 16 * w ≤ length out
  pub steps_room : w ≤ length steps
  pub work_room : 20 * w ≤ length work
  pub work_records : length work ≡ 16 * (length work / 16)

-- what the run r, on a tree of weight w, answers and leaves in `out` and `steps`, which are its own from end to end
pub record Leaves (r : Ran) (w : ℕ) (a : Answer) (out out' steps steps' : List ℕ) : Type 0 where
  pub answer : says a ≡ paper.ran_answer w r
  pub out_is : out' ≡ filled (length out) (paper.written r)
  pub steps_is : steps' ≡ filled (length steps) (paper.noted r)
