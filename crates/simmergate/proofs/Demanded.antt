-- The demands and the takeover hold of `simmergate_simplify`, the call that the controllers make, at every limit and in every edition: of
-- what its answer slice and its areas tell after a call with room for the answer, as the contract that the check reads from the source lets
-- it be. Its numbers fit in their 8 bytes, so the slice tells the simplifier's answer.
use Prim.Native.Nat.{ℕ, ◌≤◌}
use mathlib.Core.Path.{◌≡◌, refl, sym, ap, ap₂, ◌∙◌}
use mathlib.Core.List.{List, []}
use lib.ListN.{length, drop, replicate}
use lib.Dec.{lit≤}
use denote.Ref.{Bor, MutBor}
use contract.Lifetimes.{Lfts}
use Rattle.paper.specs.Bytes.{Bytes}
use Rattle.paper.specs.Answers.{Lent, Answer, Given, simplified}
use Rattle.paper.specs.Calls.{simplify_returns, simplify_answers, simplify_leaves}
use Rattle.paper.specs.Slices.{simplify_bytes}
use Rattle.paper.specs.Told.{answer_in}
use Rattle.paper.specs.Demands.{Simplifier, Demands, result}
use Rattle.paper.specs.Takeover.{Room, Repeats, TakesOver, TakesOverInPlace}
use Rattle.paper.specs.Squared.{Squared, Budget}
use Rattle.paper.proofs.Slices.{slices}
use Rattle.paper.proofs.Told.{numbers_fit, told_answer}
use Rattle.paper.proofs.Squared.{demands_squared, budget_3072, budget_16384}
use Rattle.paper.proofs.AlikeLaws.{alike_meets, alike_takes_over, alike_takes_over_in_place}
use Rattle.simplify.specs.Answer.{lent}
use Rattle.simplify.proofs.Demanded.{of_calls, in_place_lem}
use Rattle.simmergate.proofs.FromC.{FromC}
use Rattle.simmergate.proofs.simmergate_simplify.Reads as reads
use Rattle.simmergate.proofs.simmergate_simplify.Kinds as kinds

abbrev pub CCall : Type 0
CCall = FromC 5 kinds.ps kinds.r reads.Post

-- the limit, the edition, the table, the areas and the answer slice that are handed in
abbrev pub limit : CCall → ℕ
limit c = c.handed.0

abbrev pub edition : CCall → ℕ
edition c = c.handed.1.0

abbrev pub table : CCall → List ℕ
table c = c.handed.1.1.0.now

abbrev pub areas : CCall → Lent
areas c = lent c.handed.1.1.1.0.now c.handed.1.1.1.1.0.now c.handed.1.1.1.1.1.0.now

abbrev pub slice : CCall → List ℕ
slice c = c.handed.1.1.1.1.1.1.0.now

-- what the call gives: the answer that the slice tells, and the areas
abbrev pub given : CCall → Given
given c =
    record {
      answer = answer_in c.left.1.1.1.1.1.1.0.now;
      lent = lent c.left.1.1.1.0.now c.left.1.1.1.1.0.now c.left.1.1.1.1.1.0.now;
    }

-- it is the simplifier's, where the table is bytes and the slice has room; and the return is its number
tells : (lim ed : ℕ) (s : List ℕ) → Bytes s → (l : Lent) (before after : List ℕ) → simplify_bytes ≤ length before → after ≡ simplify_answers lim ed s l before
    → answer_in after ≡ (simplified lim ed s l).answer
tells lim ed s b l before after room e =
    ap answer_in (e ∙ ((slices.simplify lim ed s l before).1 room).1)
    ∙ told_answer (simplified lim ed s l).answer (drop simplify_bytes before) (numbers_fit lim ed s b l)

pub call_gives : (c : CCall) → Bytes (table c) → simplify_bytes ≤ length (slice c) → given c ≡ simplified (limit c) (edition c) (table c) (areas c)
call_gives c b room =
    ap₂ (λ (a : Answer) (l : Lent). record { answer = a; lent = l })
    (tells (limit c) (edition c) (table c) b (areas c) (slice c) _ room c.promised.answers)
    (c.promised.leaves ∙ (slices.areas (limit c) (edition c) (table c) (areas c) (slice c)).1 room)

pub call_returns : (c : CCall) → Bytes (table c) → simplify_bytes ≤ length (slice c) → c.returned ≡ (given c).answer.number
call_returns c b room =
    c.promised.returns ∙ ((slices.simplify (limit c) (edition c) (table c) (areas c) (slice c)).1 room).0
    ∙ sym (ap (λ g. g.answer.number) (call_gives c b room))

-- the same where the limit is known to be lim, and the edition ed
pub gives_in : (lim ed : ℕ) (c : CCall) → limit c ≡ lim → edition c ≡ ed → Bytes (table c) → simplify_bytes ≤ length (slice c)
    → given c ≡ simplified lim ed (table c) (areas c)
gives_in lim ed c n e b room = call_gives c b room ∙ ap₂ (λ i k. simplified i k (table c) (areas c)) n e

-- references, at any place, to what is handed in and to what is left
at : List ℕ → Bor (List ℕ)
at s = record { ref_ptr = (0, 0); now = s }

at_mut : List ℕ → MutBor (List ℕ)
at_mut s = record { ref_ptr = (0, 0); ghost_name = 0; now = s }

κ : Lfts 5
κ = ([], ([], ([], ([], ([], tt)))))

-- any table and any areas may be handed in, with a slice that has room
blank : List ℕ
blank = replicate simplify_bytes 0

blank_room : simplify_bytes ≤ length blank
unfolding blank
blank_room = lit≤ tt

module _ (lim ed : ℕ) where
  -- f says of every such call with the limit lim and the edition ed what the contract lets it give
  abbrev pub Describes : Simplifier → Type 0
  Describes f = (c : CCall) → limit c ≡ lim → edition c ≡ ed → Bytes (table c) → simplify_bytes ≤ length (slice c) → f (table c) (areas c) ≡ given c

  pub simplified_describes : Describes (simplified lim ed)
  simplified_describes c n e b room = sym (gives_in lim ed c n e b room)

  called : List ℕ → Lent → CCall
  unfolding at at_mut κ
  called s l =
      let after = simplify_leaves lim ed s l blank in
      record {
        ends = κ;
        handed = (lim, (ed, (at s, (at_mut l.out, (at_mut l.steps, (at_mut l.work, (at_mut blank, tt)))))));
        returned = simplify_returns lim ed s l blank;
        left = (lim, (ed, (at s, (at_mut after.out, (at_mut after.steps, (at_mut after.work, (at_mut (simplify_answers lim ed s l blank), tt)))))));
        promised = record { returns = refl; answers = refl; leaves = refl };
      }

  -- so a simplifier that describes the call is the paper's on every table of bytes
  pub described : (f : Simplifier) → Describes f → (s : List ℕ) → Bytes s → (l : Lent) → f s l ≡ simplified lim ed s l
  unfolding at at_mut κ called
  described f h s b l = h (called s l) refl refl b blank_room ∙ call_gives (called s l) b blank_room

  -- the demands, of the call
  pub c_meets : (f : Simplifier) → Describes f → Demands lim ed f
  c_meets f h = alike_meets lim ed f (described f h)

  -- and, more than is asked, the tries of the call are at most the square of the weight going in
  pub c_squared : (f : Simplifier) → Describes f → Squared lim ed f
  c_squared f h = demands_squared lim ed f (c_meets f h)

  -- the takeover, of the call
  pub c_takes_over : (f : Simplifier) → Describes f → TakesOver lim f
  c_takes_over f h = alike_takes_over lim ed f (described f h)

  pub c_takes_over_in_place : (f : Simplifier) → Describes f → TakesOverInPlace lim f
  c_takes_over_in_place f h = alike_takes_over_in_place lim ed f (described f h)

-- so the limit that is handed in tells a budget, in either edition
pub c_budget_3072 : (ed : ℕ) (f : Simplifier) → Describes 3072 ed f → Budget 7080959 f
c_budget_3072 ed f h = budget_3072 ed f (c_meets 3072 ed f h)

pub c_budget_16384 : (ed : ℕ) (f : Simplifier) → Describes 16384 ed f → Budget 201342975 f
c_budget_16384 ed f h = budget_16384 ed f (c_meets 16384 ed f h)

-- the takeover of any two calls with one limit and one edition, the second of which is handed the result of the first: lent any areas with room for it
pub c_takeover : (c d : CCall) → limit d ≡ limit c → edition d ≡ edition c → Bytes (table c) → Bytes (table d)
    → simplify_bytes ≤ length (slice c) → simplify_bytes ≤ length (slice d)
    → (given c).answer.number ≡ 0 → table d ≡ result (given c) → Room (limit c) (given c).answer.weight_out (areas d) → Repeats (given c) (given d)
c_takeover c d n e b b' r r' =
    of_calls (limit c) (edition c) (table c) (areas c) (given c) (call_gives c b r) (table d) (areas d) (given d) (gives_in (limit c) (edition c) d n e b' r') b

-- or lent the areas as the first one left them
pub c_takeover_in_place : (c d : CCall) → limit d ≡ limit c → edition d ≡ edition c → Bytes (table c) → Bytes (table d)
    → simplify_bytes ≤ length (slice c) → simplify_bytes ≤ length (slice d)
    → (given c).answer.number ≡ 0 → table d ≡ result (given c) → areas d ≡ (given c).lent → Repeats (given c) (given d)
c_takeover_in_place c d n e b b' r r' =
    in_place_lem (limit c) (edition c) (table c) (areas c) (given c) (call_gives c b r) (table d) (areas d) (given d)
    (gives_in (limit c) (edition c) d n e b' r') b
