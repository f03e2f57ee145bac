-- The call on a whole site from C. Two returns that meet its contract, as the check reads it from the source, are the same, and so is every lent
-- byte afterwards; and after a call that returns 0 each item's place tells the answer of its separate call, which meets demand 3: its contract
-- is that of `batch::batch`.
use Prim.Native.Nat.{ℕ, ◌<◌}
use mathlib.Core.Path.{◌≡◌, sym, ap, ◌∙◌}
use mathlib.Core.List.{List}
use lib.ListN.{length}
use borrow.Fn.Kinds.{ended_of}
use contract.Lifetimes.{Lfts}
use denote.Triple.Clauses.{AtExit}
use Rattle.paper.specs.Bytes.{Bytes}
use Rattle.paper.specs.Answers.{Lent}
use Rattle.paper.specs.Once.{OnceLeft}
use Rattle.paper_batch.specs.Batch.{lengths_in, SiteCall}
use Rattle.paper_batch.specs.Sentences.{ItemTold}
use Rattle.simplify.specs.Answer.{lent}
use Rattle.batch.specs.Turn.{called}
use Rattle.batch.proofs.Unique.{Left, left_of}
use Rattle.batch.proofs.ToldLaws.{item_told}
use Rattle.simmergate.proofs.FromC.{FromC}
use Rattle.simmergate.proofs.site_calls.simmergate_batch.Reads as reads
use Rattle.simmergate.proofs.site_calls.simmergate_batch.Kinds as kinds

-- what the references lead to at exit
abbrev pub given_by : ℕ → (κs : Lfts 6) → AtExit (ended_of 6 kinds.ps kinds.r) κs → SiteCall
given_by r κs x =
    called r x.1.1.1.1.0.now x.1.1.1.1.1.0.now x.1.1.1.1.1.1.0.now x.1.1.1.1.1.1.1.0.now

pub site_once : OnceLeft 6 kinds.ps kinds.r reads.Pre reads.Post Left (λ κs x. left_of (given_by 0 κs x))
site_once κs a v v' x x' q p p' = let e = p ∙ sym p' in (ap (λ (c : SiteCall). c.number) e, ap left_of e)

-- a call, and what is handed in
abbrev pub SiteCCall : Type 0
SiteCCall = FromC 6 kinds.ps kinds.r reads.Post

abbrev pub limit : SiteCCall → ℕ
limit c = c.handed.0

abbrev pub edition : SiteCCall → ℕ
edition c = c.handed.1.0

abbrev pub tables : SiteCCall → List ℕ
tables c = c.handed.1.1.0.now

abbrev pub lengths : SiteCCall → List ℕ
lengths c = c.handed.1.1.1.0.now

abbrev pub areas : SiteCCall → Lent
areas c = lent c.handed.1.1.1.1.0.now c.handed.1.1.1.1.1.0.now c.handed.1.1.1.1.1.1.0.now

abbrev pub answers : SiteCCall → List ℕ
answers c = c.handed.1.1.1.1.1.1.1.0.now

pub c_tells : (c : SiteCCall) → c.returned ≡ 0 → Bytes (tables c) → (i : ℕ) → i < length (lengths_in (lengths c))
    → ItemTold (limit c) (edition c) (tables c) (lengths c) (areas c) (given_by c.returned c.ends c.left) i
c_tells c e =
    item_told (limit c) (edition c) (tables c) (lengths c) (areas c) (answers c) (given_by c.returned c.ends c.left) c.promised e
