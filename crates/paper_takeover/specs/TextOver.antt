-- A result that travels as text, told more fully: both calls return 0, what arrives has the value of the table that was handed in first, and a release
-- before marks accepts it; and all that on a machine at another limit, or the number that refuses it there. (TakenOver has `TextTakesOver`.)
use Rattle.std.specs.Prelude.{ℕ, ◌*◌, ◌≤◌, ◌<◌, ◌≡◌, true, List, ◌⊎◌, length}
use Rattle.std.proofs.Math.Option.{some}
use Rattle.paper.specs.Limits.{is_limit}
use Rattle.paper.specs.Tree.{Tree}
use Rattle.paper.specs.Table.{encode, tree_of}
use Rattle.paper.specs.Verdict.{accepted}
use Rattle.paper.specs.Erased.{erase}
use Rattle.paper.specs.BeforeMarks.{verdict_before}
use Rattle.paper.specs.Answers.{Lent, Given, valued, simplified}
use Rattle.paper.specs.Demands.{result}
use Rattle.paper.specs.Takeover.{Room, again}
use Rattle.paper_text.specs.Answers.{write_given, read_given}
use Rattle.paper_takeover.specs.TakenOver.{written_text, read_records}
use Rattle.paper_takeover.specs.LimitOver.{OfAccepted, Holds}

-- the text of a result, written at the limit lim, and the records that are read of it at the limit `there`
abbrev pub line_of : ℕ → Given → List ℕ → List ℕ
line_of lim g line = written_text lim (result g) line

abbrev pub arrives_at : ℕ → ℕ → Given → List ℕ → List ℕ → List ℕ
arrives_at lim there g line table = read_records there (line_of lim g line) table

pub record TextArrives (lim there ed : ℕ) (s : List ℕ) (g : Given) (line table : List ℕ) (l' : Lent) : Type 0 where
  pub written : (write_given lim (result g) line).answer.number ≡ 0
  pub read : (read_given there (line_of lim g line) table).answer.number ≡ 0
  pub same_records : (u : Tree) → tree_of (result g) ≡ some u → arrives_at lim there g line table ≡ encode (erase u)
  -- the evaluator says of it, whatever the registers, what it says of the first machine's table
  pub same_value : (regs : List ℕ) → valued there (arrives_at lim there g line table) regs ≡ valued lim s regs
  pub before_marks : verdict_before there (arrives_at lim there g line table) ≡ accepted
  pub same_answer : (simplified there ed (arrives_at lim there g line table) l').answer ≡ again g.answer
  pub same_bytes : result (simplified there ed (arrives_at lim there g line table) l') ≡ arrives_at lim there g line table

abbrev pub TextTakesOverAt : ℕ → ℕ → ℕ → Type 0
TextTakesOverAt lim there ed =
    OfAccepted lim ed (λ s g. let w = g.answer.weight_out in
    Holds there g → (line table : List ℕ) → 21 * w ≤ length line → 16 * w ≤ length table
    → (l' : Lent) → Room there w l' → TextArrives lim there ed s g line table l')

-- over the limit of the second machine it is refused by 3, and nothing is written, whatever area is lent
pub record TextRefused (lim there : ℕ) (g : Given) (line table : List ℕ) : Type 0 where
  pub by_three : (read_given there (line_of lim g line) table).answer ≡ record { number = 3; place = 0; records_written = 0 }
  pub unchanged : (read_given there (line_of lim g line) table).area ≡ table

abbrev pub TextTooHeavy : ℕ → ℕ → ℕ → Type 0
TextTooHeavy lim there ed =
    OfAccepted lim ed (λ s g. is_limit there ≡ true → there < g.answer.weight_out
    → (line table : List ℕ) → 21 * g.answer.weight_out ≤ length line → TextRefused lim there g line table)

-- so at each limit, whatever it is: it takes over or it is refused
abbrev pub TextNeverMisread : ℕ → ℕ → ℕ → Type 0
TextNeverMisread lim there ed =
    OfAccepted lim ed (λ s g. let w = g.answer.weight_out in
    is_limit there ≡ true → (line table : List ℕ) → 21 * w ≤ length line → 16 * w ≤ length table
    → (l' : Lent) → Room there w l' → TextArrives lim there ed s g line table l' ⊎ TextRefused lim there g line table)
