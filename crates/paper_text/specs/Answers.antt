-- The writer and the reader of formulas as text: the whole answer of each, and the lent area afterwards, as functions of the bytes handed in;
-- and their calls from C. "1 to 5 for its table, then 6" for the writer; 14, then 3, then 6 for the reader; "all leave the area unchanged". lim is the
-- limit, which comes first.
use Rattle.std.specs.Prelude.{ℕ, ◌*◌, ◌≤◌, ◌<◌, ◌≡◌, true, false, cond, List, [], ◌∷◌, ◌++◌, length, drop, ltb}
use Rattle.std.proofs.Math.Option.{Option, none, some}
use Rattle.paper.specs.Limits.{is_limit}
use Rattle.paper.specs.Tree.{Tree, weight, records}
use Rattle.paper.specs.WellFormed.{WF}
use Rattle.paper.specs.Table.{encode, tree_of}
use Rattle.paper.specs.Verdict.{Verdict, accepted, refused, is_accepted, verdict}
use Rattle.paper.specs.Refusals.{Applies, Lowest}
use Rattle.paper.specs.Answers.{Measured, measured}
use Rattle.paper.specs.Calls.{measured_numbers, is_too_short, returned, answered}
use Rattle.paper_text.specs.Text.{text, read_text}

-- an answer, and the lent area afterwards
pub record Filled (A : Type 0) : Type 0 where
  pub answer : A
  pub area : List ℕ

-- the result stands at the area's front; the bytes past it stay, and after a refusal all do
unfoldable pub area_after : Verdict → List ℕ → List ℕ → List ℕ
area_after v result old = cond (is_accepted v) (result ++ drop (length result) old) old

-- 6: "a lent area too short for the whole result"
unfoldable pub room_for : List ℕ → List ℕ → Verdict
room_for result area = cond (ltb (length area) (length result)) (refused 6 0) accepted

-- ---- the writer: number, place, bytes written
-- (an accepted table always holds a tree: proofs/AcceptedLaws)
unfoldable pub text_in : Option Tree → List ℕ
text_in none = []
text_in (some t) = text t

unfoldable pub write_verdict : ℕ → List ℕ → List ℕ → Verdict
write_verdict lim s area = cond (is_accepted (verdict lim s)) (room_for (text_in (tree_of s)) area) (verdict lim s)

unfoldable pub write_answer : ℕ → List ℕ → List ℕ → Measured
write_answer lim s area = measured (write_verdict lim s area) (length (text_in (tree_of s)))

unfoldable pub write_given : ℕ → List ℕ → List ℕ → Filled Measured
write_given lim s area = record { answer = write_answer lim s area; area = area_after (write_verdict lim s area) (text_in (tree_of s)) area }

-- ---- the reader: number, place, records written
pub record Taken : Type 0 where
  pub number : ℕ
  pub place : ℕ
  pub records_written : ℕ

unfoldable pub taken : Verdict → ℕ → Taken
taken v n = record { number = v.number; place = v.place; records_written = cond (is_accepted v) n 0 }

unfoldable pub records_of : Option Tree → List ℕ
records_of none = []
records_of (some t) = encode t

unfoldable pub count_of : Option Tree → ℕ
count_of none = 0
count_of (some t) = records t

unfoldable pub read_judged : ℕ → Option Tree → List ℕ → Verdict
read_judged lim none area = refused 14 0
read_judged lim (some t) area = cond (ltb lim (weight t)) (refused 3 0) (room_for (encode t) area)

-- "another limit is 19, before all others"
unfoldable pub read_verdict : ℕ → Option Tree → List ℕ → Verdict
read_verdict lim o area = cond (is_limit lim) (read_judged lim o area) (refused 19 0)

unfoldable pub read_answer : ℕ → List ℕ → List ℕ → Taken
read_answer lim s area = taken (read_verdict lim (read_text s) area) (count_of (read_text s))

unfoldable pub read_given : ℕ → List ℕ → List ℕ → Filled Taken
read_given lim s area = record { answer = read_answer lim s area; area = area_after (read_verdict lim (read_text s) area) (records_of (read_text s)) area }

-- the reader's refusals in the paper's words, without the functions that find them
pub data ReadRefused (lim : ℕ) (s area : List ℕ) : ℕ → Type 0 where
  not_a_limit : is_limit lim ≡ false → ReadRefused lim s area 19
  not_of_the_form : is_limit lim ≡ true → ((t : Tree) → WF t → ¬ (text t ≡ s)) → ReadRefused lim s area 14
  too_heavy : is_limit lim ≡ true → (t : Tree) → WF t → text t ≡ s → lim < weight t → ReadRefused lim s area 3
  too_short : is_limit lim ≡ true → (t : Tree) → WF t → text t ≡ s → weight t ≤ lim → length area < 16 * records t → ReadRefused lim s area 6

-- and the writer's, with their places: those of the table as the paper has them, and then 6
pub data WriteRefused (lim : ℕ) (s area : List ℕ) : ℕ → ℕ → Type 0 where
  table_refused : {k p : ℕ} → Lowest (Applies lim s) k p → WriteRefused lim s area k p
  text_too_long : is_limit lim ≡ true → (t : Tree) → WF t → s ≡ encode t → weight t ≤ lim → length area < length (text t) → WriteRefused lim s area 6 0

-- ---- simmergate_write_text and simmergate_read_text: the area, too, is as it was where the answer slice is too short
unfoldable pub write_text_returns : ℕ → List ℕ → List ℕ → List ℕ → ℕ
write_text_returns lim s area slice = returned (measured_numbers (write_answer lim s area)) (write_answer lim s area).number slice

unfoldable pub write_text_answers : ℕ → List ℕ → List ℕ → List ℕ → List ℕ
write_text_answers lim s area slice = answered (measured_numbers (write_answer lim s area)) slice

unfoldable pub write_text_leaves : ℕ → List ℕ → List ℕ → List ℕ → List ℕ
write_text_leaves lim s area slice = cond (is_too_short (measured_numbers (write_answer lim s area)) slice) area (write_given lim s area).area

unfoldable pub taken_numbers : Taken → List ℕ
taken_numbers r = r.number ∷ r.place ∷ r.records_written ∷ []

unfoldable pub read_text_returns : ℕ → List ℕ → List ℕ → List ℕ → ℕ
read_text_returns lim s area slice = returned (taken_numbers (read_answer lim s area)) (read_answer lim s area).number slice

unfoldable pub read_text_answers : ℕ → List ℕ → List ℕ → List ℕ → List ℕ
read_text_answers lim s area slice = answered (taken_numbers (read_answer lim s area)) slice

unfoldable pub read_text_leaves : ℕ → List ℕ → List ℕ → List ℕ → List ℕ
read_text_leaves lim s area slice = cond (is_too_short (taken_numbers (read_answer lim s area)) slice) area (read_given lim s area).area
