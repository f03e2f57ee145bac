-- The takeover of a result that travels as text, from C: of four calls, as the contracts that the check reads from the source let them be: one
-- machine simplifies and writes what it has as text, the other reads that and simplifies, at the same limit or at another that holds the result.
-- The numbers of both answers on text fit in 8 bytes, so their slices tell them; so the takeover of the definitions (paper_takeover) is that of
-- the calls.
use Prim.Native.Nat.{ℕ, ◌*◌, ◌≤◌, ◌<◌}
use mathlib.Core.Path.{◌≡◌, sym, ap, ap₂, ◌∙◌, subst}
use mathlib.Core.Bool.{true}
use mathlib.Core.List.{List}
use mathlib.Core.Option.{some}
use native.Mathlib.Omega.{arith}
use lib.ListN.{length, take, drop}
use lib.Dec.{lit<}
use Rattle.paper.specs.Limits.{is_limit}
use Rattle.paper.specs.Bytes.{Bytes, le8}
use Rattle.paper.specs.Tree.{Tree}
use Rattle.paper.specs.Table.{encode, tree_of}
use Rattle.paper.specs.Verdict.{accepted}
use Rattle.paper.specs.Erased.{erase}
use Rattle.paper.specs.BeforeMarks.{verdict_before}
use Rattle.paper.specs.Answers.{Given, Measured, valued, simplified}
use Rattle.paper.specs.Calls.{measured_numbers}
use Rattle.paper.specs.Slices.{simplify_bytes}
use Rattle.paper.specs.Told.{FitEight}
use Rattle.paper.specs.Demands.{result}
use Rattle.paper.specs.Takeover.{Room, again}
use Rattle.paper.proofs.EncodeLaws.{encode_bytes}
use Rattle.paper.proofs.Slices.{measured_count}
use Rattle.paper.proofs.Told.{number_at}
use Rattle.paper.proofs.DemandLaws.{call_done}
use Rattle.paper_text.specs.Answers.{Filled, Taken, taken_numbers, write_given, read_given}
use Rattle.paper_text.proofs.Slices.{text_slices}
use Rattle.paper_takeover.specs.TakenOver.{written_text, read_records}
use Rattle.paper_takeover.specs.LimitOver.{Holds}
use Rattle.paper_takeover.specs.TextOver.{line_of, arrives_at, TextArrives}
use Rattle.paper_takeover.proofs.LimitTaken.{own_limit}
use Rattle.paper_takeover.proofs.TextOver.{write_fits, read_fits, text_takes_over_at, text_too_heavy}
use Rattle.simmergate.proofs.FromC.{FromC}
use Rattle.simmergate.proofs.Demanded.{CCall, limit, edition, table, areas, slice, given, call_gives}
use Rattle.simmergate.proofs.text_calls.simmergate_write_text.Reads as write-reads
use Rattle.simmergate.proofs.text_calls.simmergate_write_text.Kinds as write-kinds
use Rattle.simmergate.proofs.text_calls.simmergate_read_text.Reads as read-reads
use Rattle.simmergate.proofs.text_calls.simmergate_read_text.Kinds as read-kinds

-- ---- the two calls on text, as their contracts let them be
abbrev pub WriteCCall : Type 0
WriteCCall = FromC 3 write-kinds.ps write-kinds.r write-reads.Post

abbrev pub ReadCCall : Type 0
ReadCCall = FromC 3 read-kinds.ps read-kinds.r read-reads.Post

-- the text that is written, and the records that are read, as a caller finds them: as many as the third number of the slice says
abbrev pub sent : WriteCCall → List ℕ
sent c = take (le8 c.left.1.1.1.0.now 16) c.left.1.1.0.now

abbrev pub arrived : ReadCCall → List ℕ
arrived c = take (16 * le8 c.left.1.1.1.0.now 16) c.left.1.1.0.now

-- the limit, the table and the text that are handed in, the areas that are lent, and the slices
abbrev pub write_limit : WriteCCall → ℕ
write_limit c = c.handed.0

abbrev pub shown : WriteCCall → List ℕ
shown c = c.handed.1.0.now

abbrev pub text_area : WriteCCall → List ℕ
text_area c = c.handed.1.1.0.now

abbrev pub write_slice : WriteCCall → List ℕ
write_slice c = c.handed.1.1.1.0.now

abbrev pub read_limit : ReadCCall → ℕ
read_limit c = c.handed.0

abbrev pub typed : ReadCCall → List ℕ
typed c = c.handed.1.0.now

abbrev pub table_area : ReadCCall → List ℕ
table_area c = c.handed.1.1.0.now

abbrev pub table_left : ReadCCall → List ℕ
table_left c = c.left.1.1.0.now

abbrev pub read_slice : ReadCCall → List ℕ
read_slice c = c.handed.1.1.1.0.now

-- where the numbers fit, what a caller finds is what the definitions give
sent_is : (c : WriteCCall) → 40 ≤ length (write_slice c) → FitEight (measured_numbers (write_given (write_limit c) (shown c) (text_area c)).answer)
    → sent c ≡ written_text (write_limit c) (shown c) (text_area c)
unfolding written_text write_given measured_numbers
sent_is c room fit =
    let g = write_given (write_limit c) (shown c) (text_area c) in
    let told = (text_slices.writing (write_limit c) (shown c) (text_area c) (write_slice c)).1 room in
    let third : le8 c.left.1.1.1.0.now 16 ≡ g.answer.result =
    ap (λ (x : List ℕ). le8 x 16) (c.promised.answers ∙ told.1)
    ∙ number_at (measured_numbers g.answer) (drop 40 (write_slice c)) 2 (omega (arith, measured_count g.answer)) fit in
    ap₂ (λ (n : ℕ) (x : List ℕ). take n x) third
    (c.promised.leaves ∙ (text_slices.writing_area (write_limit c) (shown c) (text_area c) (write_slice c)).1 room)

-- what a call with room leaves in the area
reads_area : (c : ReadCCall) → 24 ≤ length (read_slice c) → table_left c ≡ (read_given (read_limit c) (typed c) (table_area c)).area
reads_area c room = c.promised.leaves ∙ (text_slices.reading_area (read_limit c) (typed c) (table_area c) (read_slice c)).1 room

arrived_is : (c : ReadCCall) → 24 ≤ length (read_slice c) → FitEight (taken_numbers (read_given (read_limit c) (typed c) (table_area c)).answer)
    → arrived c ≡ read_records (read_limit c) (typed c) (table_area c)
unfolding read_records read_given taken_numbers
arrived_is c room fit =
    let g = read_given (read_limit c) (typed c) (table_area c) in
    let told = (text_slices.reading (read_limit c) (typed c) (table_area c) (read_slice c)).1 room in
    let third : le8 c.left.1.1.1.0.now 16 ≡ g.answer.records_written =
    ap (λ (x : List ℕ). le8 x 16) (c.promised.answers ∙ told.1) ∙ number_at (taken_numbers g.answer) (drop 24 (read_slice c)) 2 (lit< tt) fit in
    ap₂ (λ (n : ℕ) (x : List ℕ). take (16 * n) x) third (reads_area c room)

-- ---- one machine simplifies (c) and writes its result (w), at one limit
pub record Written (c : CCall) (w : WriteCCall) : Type 0 where
  pub table_bytes : Bytes (table c)
  pub first_slice : simplify_bytes ≤ length (slice c)
  pub first_accepted : (given c).answer.number ≡ 0
  pub write_at : write_limit w ≡ limit c
  pub write_room : 40 ≤ length (write_slice w)
  pub handed_on : shown w ≡ result (given c)
  pub long : 21 * (given c).answer.weight_out ≤ length (text_area w)

-- the other reads that (r) and simplifies (d), at its own limit
pub record Texted (c d : CCall) (w : WriteCCall) (r : ReadCCall) : Type 0 where
  pub first : Written c w
  pub read_at : read_limit r ≡ limit d
  pub read_room : 24 ≤ length (read_slice r)
  pub typed_in : typed r ≡ sent w
  pub wide : 16 * (given c).answer.weight_out ≤ length (table_area r)
  pub same_edition : edition d ≡ edition c
  pub second_slice : simplify_bytes ≤ length (slice d)
  pub restored : table d ≡ arrived r
  pub room : Room (limit d) (given c).answer.weight_out (areas d)

-- both calls on text return 0; the second machine has the records of the result without their marks, of the value of the first table, whatever the registers; a
-- release before marks accepts them; and they are simplified without a step and an opening to the same bytes
pub record CTextRepeats (c d : CCall) (w : WriteCCall) (r : ReadCCall) : Type 0 where
  pub written : w.returned ≡ 0
  pub read : r.returned ≡ 0
  pub same_records : (u : Tree) → tree_of (result (given c)) ≡ some u → table d ≡ encode (erase u)
  pub same_value : (regs : List ℕ) → valued (limit d) (table d) regs ≡ valued (limit c) (table c) regs
  pub before_marks : verdict_before (limit d) (table d) ≡ accepted
  pub same_answer : (given d).answer ≡ again (given c).answer
  pub same_bytes : result (given d) ≡ table d

-- what a call with room returns
write_returns : (w : WriteCCall) → 40 ≤ length (write_slice w) → w.returned ≡ (write_given (write_limit w) (shown w) (text_area w)).answer.number
unfolding write_given
write_returns w room = w.promised.returns ∙ ((text_slices.writing (write_limit w) (shown w) (text_area w) (write_slice w)).1 room).0

read_returns : (r : ReadCCall) → 24 ≤ length (read_slice r) → r.returned ≡ (read_given (read_limit r) (typed r) (table_area r)).answer.number
unfolding read_given
read_returns r room = r.promised.returns ∙ ((text_slices.reading (read_limit r) (typed r) (table_area r) (read_slice r)).1 room).0

-- ---- what the first machine sends
module _ (c : CCall) (w : WriteCCall) (k : Written c w) where
  g : Given
  g = simplified (limit c) (edition c) (table c) (areas c)

  gives : given c ≡ g
  unfolding g
  gives = call_gives c k.table_bytes k.first_slice

  g_accepted : g.answer.number ≡ 0
  g_accepted = sym (ap (λ (x : Given). x.answer.number) gives) ∙ k.first_accepted

  g_long : 21 * g.answer.weight_out ≤ length (text_area w)
  g_long = subst (λ (x : Given). 21 * x.answer.weight_out ≤ length (text_area w)) gives k.long

  shows : shown w ≡ result g
  shows = k.handed_on ∙ ap result gives

  writes_at : write_given (write_limit w) (shown w) (text_area w) ≡ write_given (limit c) (result g) (text_area w)
  writes_at = ap₂ (λ (i : ℕ) (x : List ℕ). write_given i x (text_area w)) k.write_at shows

  sends : sent w ≡ line_of (limit c) g (text_area w)
  unfolding g
  sends =
      sent_is w k.write_room
      (subst (λ (x : Filled Measured). FitEight (measured_numbers x.answer)) (sym writes_at)
      (write_fits (limit c) (edition c) (table c) k.table_bytes (areas c) g_accepted (text_area w) g_long))
      ∙ ap₂ (λ (i : ℕ) (x : List ℕ). written_text i x (text_area w)) k.write_at shows

  -- the limit of the first machine holds its result
  own : Holds (limit c) (given c)
  unfolding g
  own = subst (Holds (limit c)) (sym gives) (own_limit (limit c) (edition c) (table c) k.table_bytes (areas c) g_accepted)

-- ---- what the second one gets of it, at a limit that holds the result
module _ (c d : CCall) (w : WriteCCall) (r : ReadCCall) (k : Texted c d w r) (h : Holds (limit d) (given c)) where
  abbrev p : Given
  p = g c w k.first

  p_is : given c ≡ p
  p_is = gives c w k.first

  p_holds : Holds (limit d) p
  p_holds = subst (Holds (limit d)) p_is h

  p_wide : 16 * p.answer.weight_out ≤ length (table_area r)
  p_wide = subst (λ (x : Given). 16 * x.answer.weight_out ≤ length (table_area r)) p_is k.wide

  repeats : TextArrives (limit c) (limit d) (edition c) (table c) p (text_area w) (table_area r) (areas d)
  unfolding g
  repeats =
      text_takes_over_at (limit c) (limit d) (edition c) (table c) k.first.table_bytes (areas c) (g_accepted c w k.first) p_holds
      (text_area w) (table_area r) (g_long c w k.first) p_wide (areas d)
      (subst (λ (x : Given). Room (limit d) x.answer.weight_out (areas d)) p_is k.room)

  reads_at : read_given (read_limit r) (typed r) (table_area r) ≡ read_given (limit d) (line_of (limit c) p (text_area w)) (table_area r)
  reads_at = ap₂ (λ (i : ℕ) (x : List ℕ). read_given i x (table_area r)) k.read_at (k.typed_in ∙ sends c w k.first)

  gets : table d ≡ arrives_at (limit c) (limit d) p (text_area w) (table_area r)
  unfolding g read_records
  gets =
      k.restored
      ∙ arrived_is r k.read_room
      (subst (λ (x : Filled Taken). FitEight (taken_numbers x.answer)) (sym reads_at)
      (read_fits (limit c) (edition c) (table c) k.first.table_bytes (areas c) (g_accepted c w k.first) (limit d) p_holds (text_area w) (table_area r)
      (g_long c w k.first) p_wide))
      ∙ ap (λ (x : Filled Taken). take (16 * x.answer.records_written) x.area) reads_at

  pub c_text_takeover_at : CTextRepeats c d w r
  unfolding g
  c_text_takeover_at =
      let u = call_done (limit c) (edition c) (table c) k.first.table_bytes (areas c) (g_accepted c w k.first) in
      let b : Bytes (table d) = subst Bytes (sym (gets ∙ repeats.same_records u.tree_out u.read_back)) (encode_bytes (erase u.tree_out)) in
      let second : given d ≡ simplified (limit d) (edition c) (arrives_at (limit c) (limit d) p (text_area w) (table_area r)) (areas d) =
      call_gives d b k.second_slice ∙ ap₂ (λ (i : ℕ) (x : List ℕ). simplified (limit d) i x (areas d)) k.same_edition gets in
      record {
        written =
            write_returns w k.first.write_room ∙ ap (λ (x : Filled Measured). x.answer.number) (writes_at c w k.first) ∙ repeats.written;
        read = read_returns r k.read_room ∙ ap (λ (x : Filled Taken). x.answer.number) reads_at ∙ repeats.read;
        same_records = λ t q. gets ∙ repeats.same_records t (ap (λ (x : Given). tree_of (result x)) (sym p_is) ∙ q);
        same_value = λ regs. ap (λ (x : List ℕ). valued (limit d) x regs) gets ∙ repeats.same_value regs;
        before_marks = ap (verdict_before (limit d)) gets ∙ repeats.before_marks;
        same_answer = ap (λ (x : Given). x.answer) second ∙ repeats.same_answer ∙ sym (ap (λ (x : Given). again x.answer) p_is);
        same_bytes = ap result second ∙ repeats.same_bytes ∙ sym gets;
      }

-- at the same limit
pub c_text_takeover : (c d : CCall) (w : WriteCCall) (r : ReadCCall) → Texted c d w r → limit d ≡ limit c → CTextRepeats c d w r
c_text_takeover c d w r k n = c_text_takeover_at c d w r k (subst (λ (i : ℕ). Holds i (given c)) (sym n) (own c w k.first))

-- over the limit of the second machine: the call that reads returns 3, and leaves the area as it was
pub c_text_too_heavy : (c : CCall) (w : WriteCCall) (r : ReadCCall) → Written c w → typed r ≡ sent w → 24 ≤ length (read_slice r)
    → is_limit (read_limit r) ≡ true → read_limit r < (given c).answer.weight_out → (r.returned ≡ 3) × (table_left r ≡ table_area r)
unfolding g
c_text_too_heavy c w r k typed_in room known heavy =
    let t =
    text_too_heavy (limit c) (read_limit r) (edition c) (table c) k.table_bytes (areas c) (g_accepted c w k) known
    (subst (λ (x : Given). read_limit r < x.answer.weight_out) (gives c w k) heavy) (text_area w) (table_area r) (g_long c w k) in
    let at : typed r ≡ line_of (limit c) (g c w k) (text_area w) = typed_in ∙ sends c w k in (
      read_returns r room ∙ ap (λ (x : List ℕ). (read_given (read_limit r) x (table_area r)).answer.number) at ∙ ap (λ (x : Taken). x.number) t.by_three,
      reads_area r room ∙ ap (λ (x : List ℕ). (read_given (read_limit r) x (table_area r)).area) at ∙ t.unchanged,
    )
