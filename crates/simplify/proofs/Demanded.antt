-- The demands and the takeover hold of the code, at every limit and in every edition: of any simplifier that says, on every call with these, what the
-- contract of `simplify` lets the function give, as the check reads that contract from the source. Such a one is the paper's, since any
-- table and any areas may be handed in.
use Prim.Native.Nat.{ℕ}
use mathlib.Core.Path.{◌≡◌, refl, sym, ap, ap₂, ◌∙◌, subst, fun_ext}
use mathlib.Core.List.{List, []}
use denote.Ref.{Bor, MutBor}
use borrow.Fn.Kinds.{Dens, ended_of}
use contract.Lifetimes.{Lfts}
use denote.Triple.Clauses.{AtExit}
use Rattle.paper.specs.Bytes.{Bytes}
use Rattle.paper.specs.Answers as paper
use Rattle.paper.specs.Answers.{Lent, Given, simplified}
use Rattle.paper.specs.Demands.{Simplifier, Demands, result}
use Rattle.paper.specs.Takeover.{Room, Repeats, TakesOver, TakesOverInPlace}
use Rattle.paper.specs.Squared.{Squared}
use Rattle.paper.proofs.DemandLaws.{simplified_meets}
use Rattle.paper.proofs.Takeover.{takeover, takeover_in_place}
use Rattle.paper.proofs.Squared.{demands_squared}
use Rattle.simplify.specs.declared.Answer.{Answer}
use Rattle.simplify.specs.Answer.{lent, gives}
use Rattle.simplify.proofs.Unique.{answer_of, says_answer}
use Rattle.simplify.proofs.simplify.Reads as reads
use Rattle.simplify.proofs.simplify.Kinds as kinds

-- two calls with one limit and one edition, the second of which is handed the result of the first
module _
    (lim ed : ℕ) (s : List ℕ) (l : Lent) (g : Given) (first : g ≡ simplified lim ed s l) (s' : List ℕ) (l' : Lent) (g' : Given)
    (second : g' ≡ simplified lim ed s' l') (b : Bytes s) (accepts : g.answer.number ≡ 0) (handed : s' ≡ result g) where
  pub of_calls : Room lim g.answer.weight_out l' → Repeats g g'
  of_calls room = rw (first, second, handed, first) (takeover lim ed s b l (rw first at accepts) l' (rw first at room))

  pub in_place_lem : l' ≡ g.lent → Repeats g g'
  in_place_lem e = rw (first, second, handed, e, first) (takeover_in_place lim ed s b l (rw first at accepts))

-- a call of the code: what is handed in, the answer, and what the references lead to afterwards, as the contract lets it be
pub record CodeCall : Type 0 where
  pub ends : Lfts 4
  pub handed : Dens ends kinds.ps
  pub answer : Answer
  pub left : AtExit (ended_of 4 kinds.ps kinds.r) ends
  pub promised : reads.Post ends handed answer left

-- the limit, the edition, the table and the areas that are handed in, and what the call gives
abbrev pub limit : CodeCall → ℕ
limit c = c.handed.0

abbrev pub edition : CodeCall → ℕ
edition c = c.handed.1.0

abbrev pub table : CodeCall → List ℕ
table c = c.handed.1.1.0.now

abbrev pub areas : CodeCall → Lent
areas c = lent c.handed.1.1.1.0.now c.handed.1.1.1.1.0.now c.handed.1.1.1.1.1.0.now

abbrev pub given : CodeCall → Given
given c = gives c.answer c.left.1.1.1.0.now c.left.1.1.1.1.0.now c.left.1.1.1.1.1.0.now

-- references, at any place, to what is handed in and to what is given
at : List ℕ → Bor (List ℕ)
at s = record { ref_ptr = (0, 0); now = s }

at_mut : List ℕ → MutBor (List ℕ)
at_mut s = record { ref_ptr = (0, 0); ghost_name = 0; now = s }

κ : Lfts 4
κ = ([], ([], ([], ([], tt))))

module _ (lim ed : ℕ) where
  -- f says of every call with the limit lim and the edition ed what the contract lets the function give
  abbrev pub Describes : Simplifier → Type 0
  Describes f = (c : CodeCall) → limit c ≡ lim → edition c ≡ ed → f (table c) (areas c) ≡ given c

  pub simplified_describes : Describes (simplified lim ed)
  simplified_describes c n e = ap₂ (λ i k. simplified i k (table c) (areas c)) (sym n) (sym e) ∙ sym c.promised

  -- what the paper gives, told back by the code's answer
  as_given : (s : List ℕ) (l : Lent) → let g = simplified lim ed s l in gives (answer_of g.answer) g.lent.out g.lent.steps g.lent.work ≡ g
  as_given s l = let g = simplified lim ed s l in ap (λ (a : paper.Answer). record { answer = a; lent = g.lent }) (says_answer g.answer)

  called : List ℕ → Lent → CodeCall
  unfolding at at_mut κ
  called s l =
      let g = simplified lim ed s l in
      record {
        ends = κ;
        handed = (lim, (ed, (at s, (at_mut l.out, (at_mut l.steps, (at_mut l.work, tt))))));
        answer = answer_of g.answer;
        left = (lim, (ed, (at s, (at_mut g.lent.out, (at_mut g.lent.steps, (at_mut g.lent.work, tt))))));
        promised = as_given s l;
      }

  -- so a simplifier that describes the code is the paper's
  pub described : (f : Simplifier) → Describes f → (s : List ℕ) (l : Lent) → f s l ≡ simplified lim ed s l
  unfolding at at_mut κ called
  described f h s l = h (called s l) refl refl ∙ as_given s l

  pub described_is : (f : Simplifier) → Describes f → simplified lim ed ≡ f
  described_is f h = sym (fun_ext (λ s. fun_ext (λ l. described f h s l)))

  -- the demands, of the code
  pub code_meets : (f : Simplifier) → Describes f → Demands lim ed f
  code_meets f h = subst (Demands lim ed) (described_is f h) (simplified_meets lim ed)

  -- and, more than is asked, its tries are at most the square of the weight going in
  pub code_squared : (f : Simplifier) → Describes f → Squared lim ed f
  code_squared f h = demands_squared lim ed f (code_meets f h)

  -- the takeover, of the code
  pub code_takes_over : (f : Simplifier) → Describes f → TakesOver lim f
  code_takes_over f h = subst (TakesOver lim) (described_is f h) (takeover lim ed)

  pub code_takes_over_in_place : (f : Simplifier) → Describes f → TakesOverInPlace lim f
  code_takes_over_in_place f h = subst (TakesOverInPlace lim) (described_is f h) (takeover_in_place lim ed)

-- the second of two calls, where its limit and its edition are those of the first
as_first : (c d : CodeCall) → limit d ≡ limit c → edition d ≡ edition c → given d ≡ simplified (limit c) (edition c) (table d) (areas d)
as_first c d n e = d.promised ∙ ap₂ (λ i k. simplified i k (table d) (areas d)) n e

-- the same of any two calls of the code with one limit and one edition, the second of which is handed the result of the first: lent any
-- areas with room for it
pub code_takeover : (c d : CodeCall) → limit d ≡ limit c → edition d ≡ edition c → Bytes (table c) → (given c).answer.number ≡ 0
    → table d ≡ result (given c) → Room (limit c) (given c).answer.weight_out (areas d) → Repeats (given c) (given d)
code_takeover c d n e = of_calls (limit c) (edition c) (table c) (areas c) (given c) c.promised (table d) (areas d) (given d) (as_first c d n e)

-- or lent the areas as the first one left them
pub code_takeover_in_place : (c d : CodeCall) → limit d ≡ limit c → edition d ≡ edition c → Bytes (table c) → (given c).answer.number ≡ 0
    → table d ≡ result (given c) → areas d ≡ (given c).lent → Repeats (given c) (given d)
code_takeover_in_place c d n e = in_place_lem (limit c) (edition c) (table c) (areas c) (given c) c.promised (table d) (areas d) (given d) (as_first c d n e)
