-- The link task's record and the answers of the code in the paper's terms, field by field.
use Rattle.std.specs.Prelude.{ℕ, List, cond, take, Result, Ok, Err}
use Rattle.paper.specs.Limits.{is_limit, max_bytes}
use Rattle.paper.specs.Verdict.{Verdict, refused, verdict}
use Rattle.paper_receiver.specs.Receiver.{is_short, is_past}
use Rattle.paper_receiver.specs.Receiver as paper
use Rattle.table.specs.declared.refusals.Refusal.{Refusal}
use Rattle.table.specs.declared.refusals.Refusal.TheVariants.{Room, Limit}
use Rattle.table.specs.Refusals.{stands_for}
use Rattle.receiver.specs.declared.Receiver.{Receiver}

abbrev pub says : Receiver → paper.Receiver
says r = record { count = r.count; past = r.past }

-- the record and the area
abbrev pub held : Receiver → List ℕ → paper.Held
held r area = record { state = says r; area = area }

-- the number of an answer, and what is held afterwards
abbrev pub gives : Result (Unit {0}) Refusal → Receiver → List ℕ → paper.Receipt
gives taken r area = paper.receipt (stands_for taken).number (held r area)

-- how many bytes of a table are kept, unless the limit is refused, or the area
abbrev pub most_of : ℕ → List ℕ → Result ℕ Refusal
most_of lim area = cond (is_limit lim) (cond (is_short lim area) (Err Room) (Ok (max_bytes lim))) (Err Limit)

-- the checker's answer on what was kept
abbrev pub kept_verdict : ℕ → ℕ → paper.Held → Verdict
kept_verdict lim m x = cond (is_past m x.state) (refused 1 0) (verdict lim (take x.state.count x.area))
