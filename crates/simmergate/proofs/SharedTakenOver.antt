-- The takeover of a formula that shares sub-formulas from C: of any two calls, as the contract that the check reads from the source lets them be,
-- the second of which is handed the result of the first with the same definitions. A call that is not refused is the simplifier's, so its
-- numbers fit in 8 bytes and its slice tells its answer; so the takeover of the definitions (paper_takeover) is that of the calls.
use Prim.Native.Nat.{ℕ, ◌*◌, ◌≤◌}
use mathlib.Core.Path.{◌≡◌, sym, ap, ap₂, ◌∙◌, subst}
use mathlib.Core.List.{List, ◌++◌}
use lib.ListN.{length, drop}
use Rattle.paper.specs.Bytes.{Bytes}
use Rattle.paper.specs.Table.{encode}
use Rattle.paper.specs.Answers.{Lent, Answer, Given}
use Rattle.paper.specs.Calls.{answer_numbers}
use Rattle.paper.specs.Slices.{simplify_bytes}
use Rattle.paper.specs.Told.{answer_in, FitEight}
use Rattle.paper.specs.Demands.{result}
use Rattle.paper.specs.Takeover.{Room, again, Repeats}
use Rattle.paper.proofs.EncodeLaws.{encode_bytes}
use Rattle.paper.proofs.Told.{numbers_fit, told_answer}
use Rattle.paper_shared.specs.Answers.{Handed, SharedGiven, shared_given}
use Rattle.paper_shared.proofs.Slices.{shared_slices}
use Rattle.paper_shared.proofs.Demands.{went}
use Rattle.paper_takeover.specs.TakenOver.{with_table, SharedRepeats}
use Rattle.paper_takeover.proofs.SharedTaken.{shared_call_takes_over}
use Rattle.simplify.specs.Answer.{lent}
use Rattle.replace.specs.Planned.{handed}
use Rattle.simmergate.proofs.FromC.{FromC}
use Rattle.simmergate.proofs.shared_calls.simmergate_simplify_shared.Reads as reads
use Rattle.simmergate.proofs.shared_calls.simmergate_simplify_shared.Kinds as kinds

-- a call, and what is handed in
abbrev pub SharedCCall : Type 0
SharedCCall = FromC 9 kinds.ps kinds.r reads.Post

abbrev pub limit : SharedCCall → ℕ
limit c = c.handed.0

abbrev pub edition : SharedCCall → ℕ
edition c = c.handed.1.0

-- the formula and its definitions, the area for the opened table, the simplifier's areas and the answer slice
abbrev pub formula : SharedCCall → Handed
formula c =
    let x = c.handed.1.1 in
    handed x.0.now x.1.0.now x.1.1.0.now x.1.1.1.0.now

abbrev pub opened_area : SharedCCall → List ℕ
opened_area c = c.handed.1.1.1.1.1.1.0.now

abbrev pub areas : SharedCCall → Lent
areas c =
    let x = c.handed.1.1.1.1.1.1.1 in
    lent x.0.now x.1.0.now x.1.1.0.now

abbrev pub slice : SharedCCall → List ℕ
slice c = c.handed.1.1.1.1.1.1.1.1.1.1.0.now

-- what the call gives: the answer that the slice tells, and the areas
abbrev pub given : SharedCCall → Given
given c =
    let x = c.left.1.1.1.1.1.1.1 in
    record { answer = answer_in x.1.1.1.0.now; lent = lent x.0.now x.1.0.now x.1.1.0.now }

-- the area for the opened table, afterwards
abbrev pub opened_after : SharedCCall → List ℕ
opened_after c = c.left.1.1.1.1.1.1.0.now

-- the definitions' call, with what is handed in
abbrev pub shares : SharedCCall → SharedGiven
shares c = shared_given (limit c) (edition c) (formula c) (opened_area c) (areas c)

-- the numbers of a call that is not refused fit in their 8 bytes, since it is the simplifier's
shared_fit : (lim ed : ℕ) (h : Handed) (area : List ℕ) (l : Lent) → (shared_given lim ed h area l).given.answer.number ≡ 0
    → FitEight (answer_numbers (shared_given lim ed h area l).given.answer)
shared_fit lim ed h area l z =
    let w = went lim ed h area l z in
    subst (λ (g : Given). FitEight (answer_numbers g.answer)) (sym w.given) (numbers_fit lim ed (encode w.tree) (encode_bytes w.tree) l)

pub shared_gives : (c : SharedCCall) → simplify_bytes ≤ length (slice c) → (shares c).given.answer.number ≡ 0 → given c ≡ (shares c).given
shared_gives c room z =
    let g = (shares c).given in
    let by = (shared_slices.shared (limit c) (edition c) (formula c) (opened_area c) (areas c) (slice c)).1 room in
    let areas-by = (shared_slices.shared_areas (limit c) (edition c) (formula c) (opened_area c) (areas c) (slice c)).1 room in
    let tells : (given c).answer ≡ g.answer =
    ap answer_in (c.promised.answers ∙ by.1)
    ∙ told_answer g.answer (drop simplify_bytes (slice c)) (shared_fit (limit c) (edition c) (formula c) (opened_area c) (areas c) z) in
    let leaves : (given c).lent ≡ g.lent = c.promised.leaves ∙ areas-by.1 in
    ap₂ (λ (a : Answer) (l : Lent). record { answer = a; lent = l }) tells leaves

-- the call returns the number of its answer, and leaves in the area for the opened table what the definitions' call leaves
pub shared_returns_lem : (c : SharedCCall) → simplify_bytes ≤ length (slice c) → c.returned ≡ (shares c).given.answer.number
shared_returns_lem c room =
    c.promised.returns ∙ ((shared_slices.shared (limit c) (edition c) (formula c) (opened_area c) (areas c) (slice c)).1 room).0

pub shared_holds : (c : SharedCCall) → simplify_bytes ≤ length (slice c) → opened_after c ≡ (shares c).area
shared_holds c room = c.promised.opens ∙ ((shared_slices.shared_areas (limit c) (edition c) (formula c) (opened_area c) (areas c) (slice c)).1 room).0

-- the second call repeats the first; the area for the opened table holds the result as it was handed in, and behind it what it held
pub record CSharedRepeats (c d : SharedCCall) : Type 0 where
  pub repeats : Repeats (given c) (given d)
  pub as_it_is : let r = result (given c) in opened_after d ≡ r ++ drop (length r) (opened_area d)

-- the takeover of a shared formula by the same call: its result, handed in with the same definitions, has nothing left to open and to shorten
module _ (c d : SharedCCall) (n : limit d ≡ limit c) (k : edition d ≡ edition c) (b : Bytes (formula c).table) (bd : Bytes (formula c).definitions)
    (r : simplify_bytes ≤ length (slice c)) (r' : simplify_bytes ≤ length (slice d)) (e : c.returned ≡ 0)
    (q : formula d ≡ with_table (formula c) (result (given c))) (wide : 16 * (given c).answer.weight_out ≤ length (opened_area d))
    (room : Room (limit c) (given c).answer.weight_out (areas d)) where
  accepted : (shares c).given.answer.number ≡ 0
  accepted = sym (shared_returns_lem c r) ∙ e

  gives : given c ≡ (shares c).given
  gives = shared_gives c r accepted

  second : shares d ≡ shared_given (limit c) (edition c) (with_table (formula c) (result (shares c).given)) (opened_area d) (areas d)
  second =
      ap₂ (λ (i j : ℕ). shared_given i j (formula d) (opened_area d) (areas d)) n k
      ∙ ap (λ (h : Handed). shared_given (limit c) (edition c) h (opened_area d) (areas d)) (q ∙ ap (λ (g : Given). with_table (formula c) (result g)) gives)

  repeated : SharedRepeats (limit c) (edition c) (formula c) (opened_area c) (areas c) (opened_area d) (areas d)
  repeated =
      shared_call_takes_over (limit c) (edition c) (formula c) b bd (opened_area c) (areas c) accepted (opened_area d) (areas d)
      (subst (λ (g : Given). 16 * g.answer.weight_out ≤ length (opened_area d)) gives wide)
      (subst (λ (g : Given). Room (limit c) g.answer.weight_out (areas d)) gives room)

  again_given : Repeats (shares c).given (shares d).given
  again_given = subst (λ (x : SharedGiven). Repeats (shares c).given x.given) (sym second) repeated.repeats

  pub c_shared_takeover : CSharedRepeats c d
  unfolding again
  c_shared_takeover =
      let accepted-too = ap (λ (a : Answer). a.number) again_given.same_answer in
      record {
        repeats =
            subst (λ (g : Given). Repeats g (given d)) (sym gives)
            (subst (λ (g : Given). Repeats (shares c).given g) (sym (shared_gives d r' accepted-too)) again_given);
        as_it_is =
            shared_holds d r' ∙ ap (λ (x : SharedGiven). x.area) second ∙ repeated.as_it_is
            ∙ ap (λ (g : Given). result g ++ drop (length (result g)) (opened_area d)) (sym gives);
      }
