-- What a call refuses in the paper's terms: for each refusal its number and its place, and what is wrong with the record that it names.
use Rattle.std.specs.Prelude.{ℕ, Option, Some, None, Result, Ok, Err}
use Rattle.paper.specs.Verdict.{Verdict, accepted, told}
use Rattle.paper.specs.Answers as paper
use Rattle.record.specs.declared.Flaw.{Flaw}
use Rattle.record.specs.Flaw.{flaw_of}
use Rattle.table.specs.declared.refusals.Refusal.{Refusal}
use Rattle.table.specs.declared.refusals.Refusal.TheVariants.{Length, Record, Heavy, Shape, Exponent, Room, Range, Lists, Edition, Newer, Disorder}
use Rattle.table.specs.declared.refusals.Refusal.TheVariants.{Absent, Full, NoText, Definition, Defined, Endless, TooHeavy, Limit}
use Rattle.table.specs.declared.refusals.Which.{Which}
use Rattle.table.specs.declared.refusals.Which.TheVariants.{Neither, First, Second}

abbrev pub number_of : Refusal → ℕ
number_of Length = 1
number_of (Record p f) = 2
number_of Heavy = 3
number_of (Shape p) = 4
number_of (Exponent p) = 5
number_of Room = 6
number_of (Range n) = 7
number_of Lists = 8
number_of Edition = 9
number_of Newer = 10
number_of Disorder = 11
number_of Absent = 12
number_of Full = 13
number_of NoText = 14
number_of Definition = 15
number_of Defined = 16
number_of Endless = 17
number_of TooHeavy = 18
number_of Limit = 19

abbrev pub place_of : Refusal → ℕ
place_of (Record p f) = p
place_of (Shape p) = p
place_of (Exponent p) = p
place_of (Range n) = n
place_of Length = 0
place_of Heavy = 0
place_of Room = 0
place_of Lists = 0
place_of Edition = 0
place_of Newer = 0
place_of Disorder = 0
place_of Absent = 0
place_of Full = 0
place_of NoText = 0
place_of Definition = 0
place_of Defined = 0
place_of Endless = 0
place_of TooHeavy = 0
place_of Limit = 0

abbrev pub flaw_in : Refusal → Option Flaw
flaw_in (Record p f) = Some f
flaw_in Length = None
flaw_in Heavy = None
flaw_in (Shape p) = None
flaw_in (Exponent p) = None
flaw_in Room = None
flaw_in (Range n) = None
flaw_in Lists = None
flaw_in Edition = None
flaw_in Newer = None
flaw_in Disorder = None
flaw_in Absent = None
flaw_in Full = None
flaw_in NoText = None
flaw_in Definition = None
flaw_in Defined = None
flaw_in Endless = None
flaw_in TooHeavy = None
flaw_in Limit = None

abbrev pub verdict_of : Refusal → Verdict
verdict_of r = told (number_of r) (place_of r) (flaw_of (flaw_in r))

-- an answer that is there, or a refusal
abbrev pub stands_for : {T : Type 0} → Result T Refusal → Verdict
stands_for (Ok x) = accepted
stands_for (Err r) = verdict_of r

-- a verdict with a number beside it
abbrev pub with_result : Verdict → ℕ → paper.Measured
with_result v n = record { number = v.number; place = v.place; flaw = v.flaw; result = n }

-- a number, or a refusal, which has 0 beside it
abbrev pub says : Result ℕ Refusal → paper.Measured
says (Ok n) = with_result accepted n
says (Err r) = with_result (verdict_of r) 0

-- which of two tables is refused: "1 or 2, and 0 for neither"
abbrev pub which_of : Which → ℕ
which_of Neither = 0
which_of First = 1
which_of Second = 2
