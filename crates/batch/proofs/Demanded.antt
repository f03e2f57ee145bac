-- The request's sentences hold of the code: of any call that is not refused, as the contract that the check reads from the source lets it be, each item
-- has the answer of its separate call in its place, and meets demand 3 in what stands in `out`.
use Prim.Native.Nat.{ℕ, ◌<◌}
use mathlib.Core.Path.{◌≡◌}
use mathlib.Core.List.{List}
use lib.ListN.{length}
use borrow.Fn.Kinds.{Dens, ended_of}
use contract.Lifetimes.{Lfts}
use denote.Triple.Clauses.{AtExit}
use Rattle.std.specs.Prelude.{Result}
use Rattle.paper.specs.Bytes.{Bytes}
use Rattle.paper.specs.Answers.{Lent}
use Rattle.paper_batch.specs.Batch.{lengths_in, SiteCall}
use Rattle.paper_batch.specs.Sentences.{ItemTold}
use Rattle.table.specs.declared.refusals.Refusal.{Refusal}
use Rattle.table.specs.Refusals.{stands_for}
use Rattle.simplify.specs.Answer.{lent}
use Rattle.batch.specs.Turn.{called}
use Rattle.batch.proofs.ToldLaws.{item_told}
use Rattle.batch.proofs.batch.Reads as reads
use Rattle.batch.proofs.batch.Kinds as kinds

-- a call of the code: what is handed in, the return, and what the references lead to afterwards, as the contract lets it be
pub record CodeCall : Type 0 where
  pub ends : Lfts 6
  pub handed : Dens ends kinds.ps
  pub returned : Result (Unit {0}) Refusal
  pub left : AtExit (ended_of 6 kinds.ps kinds.r) ends
  pub promised : reads.Post ends handed returned left

-- the limit, the edition, the tables, the list of lengths, the areas and the list for the answers that are handed in, the number of the
-- refusal, 0 where there is none, and what the call gives
abbrev pub limit : CodeCall → ℕ
limit c = c.handed.0

abbrev pub edition : CodeCall → ℕ
edition c = c.handed.1.0

abbrev pub tables : CodeCall → List ℕ
tables c = c.handed.1.1.0.now

abbrev pub lengths : CodeCall → List ℕ
lengths c = c.handed.1.1.1.0.now

abbrev pub areas : CodeCall → Lent
areas c = lent c.handed.1.1.1.1.0.now c.handed.1.1.1.1.1.0.now c.handed.1.1.1.1.1.1.0.now

abbrev pub answers : CodeCall → List ℕ
answers c = c.handed.1.1.1.1.1.1.1.0.now

abbrev pub number : CodeCall → ℕ
number c = (stands_for c.returned).number

abbrev pub given : CodeCall → SiteCall
given c =
    called (number c) c.left.1.1.1.1.0.now c.left.1.1.1.1.1.0.now c.left.1.1.1.1.1.1.0.now
    c.left.1.1.1.1.1.1.1.0.now

pub code_tells : (c : CodeCall) → number c ≡ 0 → Bytes (tables c) → (i : ℕ) → i < length (lengths_in (lengths c))
    → ItemTold (limit c) (edition c) (tables c) (lengths c) (areas c) (given c) i
code_tells c e = item_told (limit c) (edition c) (tables c) (lengths c) (areas c) (answers c) (given c) c.promised e
