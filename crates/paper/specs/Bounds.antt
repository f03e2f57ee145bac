-- The limits in figures, each from both sides: lines for words of the paper that a law speaking of `is_limit`, `work_bytes` and so on
-- would let pass, whatever these were. (The length of a table: Sayings, `lengths`; the answer slices: Slices.)
use Rattle.std.specs.Prelude.{ℕ, ◌*◌, ◌≤◌, ◌<◌, ◌≡◌, true, false, List, length, replicate}
use Rattle.paper.specs.Tree.{Tree, symbol, records, weight}
use Rattle.paper.specs.WellFormed.{WF}
use Rattle.paper.specs.Table.{encode}
use Rattle.paper.specs.Verdict.{accepted, refused, table_weight, verdict}
use Rattle.paper.specs.Rules.{is_edition}
use Rattle.paper.specs.Answers.{Lent, valued, cramped, judgement}

abbrev a : Tree
a = symbol 0 0

abbrev areas : List ℕ → List ℕ → List ℕ → Lent
areas out steps work = record { out = out; steps = steps; work = work }

-- 3: "W is over 3,072", or over 16,384, for the records of any tree that is no longer than a table may be
pub record Weights (lim : ℕ) : Type 0 where
  pub at_most : (t : Tree) → WF t → weight t ≤ lim → verdict lim (encode t) ≡ accepted
  pub over : (t : Tree) → WF t → lim < weight t → records t ≤ lim → verdict lim (encode t) ≡ refused 3 0

-- 6: "`out` under 16 x W bytes, `steps` under W, or `work` under 65,536", after 1 to 5, in each edition; `need` is what `work` needs
pub record Rooms (lim need : ℕ) : Type 0 where
  pub room : (ed : ℕ) → is_edition ed ≡ true → (s : List ℕ) (l : Lent) → verdict lim s ≡ accepted
      → 16 * table_weight s ≤ length l.out → table_weight s ≤ length l.steps → need ≤ length l.work → judgement lim ed s l ≡ accepted
  pub out_under : (ed : ℕ) → is_edition ed ≡ true → (s : List ℕ) (l : Lent) → verdict lim s ≡ accepted
      → length l.out < 16 * table_weight s → judgement lim ed s l ≡ refused 6 0
  pub steps_under : (ed : ℕ) → is_edition ed ≡ true → (s : List ℕ) (l : Lent) → verdict lim s ≡ accepted
      → length l.steps < table_weight s → judgement lim ed s l ≡ refused 6 0
  pub work_under : (ed : ℕ) → is_edition ed ≡ true → (s : List ℕ) (l : Lent) → verdict lim s ≡ accepted
      → length l.work < need → judgement lim ed s l ≡ refused 6 0
  pub table_first : (ed : ℕ) → is_edition ed ≡ true → (s : List ℕ) (l : Lent) → 0 < (verdict lim s).number → judgement lim ed s l ≡ verdict lim s

-- "At the limit 3,072, 6 asks for `work` as before; at 16,384 it asks for 524,288 bytes"
pub record AtBoth : Type 0 where
  pub weights : Weights 3072 × Weights 16384
  pub rooms : Rooms 3072 65536 × Rooms 16384 524288

-- the same of areas for a weight of 2: 32 bytes of `out` and 2 of `steps`, or one fewer
pub record Cramped : Type 0 where
  pub out_31 : (steps work : List ℕ) → cramped 3072 2 (areas (replicate 31 0) steps work) ≡ true
  pub steps_1 : (work : List ℕ) → cramped 3072 2 (areas (replicate 32 0) (replicate 1 0) work) ≡ true
  pub work_65535 : (work : List ℕ) → length work ≡ 65535 → cramped 3072 2 (areas (replicate 32 0) (replicate 2 0) work) ≡ true
  pub work_65536 : (work : List ℕ) → length work ≡ 65536 → cramped 3072 2 (areas (replicate 32 0) (replicate 2 0) work) ≡ false
  pub work_524287 : (work : List ℕ) → length work ≡ 524287 → cramped 16384 2 (areas (replicate 32 0) (replicate 2 0) work) ≡ true
  pub work_524288 : (work : List ℕ) → length work ≡ 524288 → cramped 16384 2 (areas (replicate 32 0) (replicate 2 0) work) ≡ false

-- 6 of the evaluator: "the registers come as 2,048 bytes ..; any other length is 6"
pub record RegisterBytes : Type 0 where
  pub one_fewer : (valued 3072 (encode a) (replicate 2047 0)).number ≡ 6
  pub exactly : (valued 3072 (encode a) (replicate 2048 0)).number ≡ 0
  pub one_more : (valued 3072 (encode a) (replicate 2049 0)).number ≡ 6
