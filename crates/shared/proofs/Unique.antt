-- Two answers that meet the contract of `open`, or of `simplify`, as the check reads it from the source, are the same, and so are the areas
-- afterwards: each contract is an equation with a function of what is handed in.
use Prim.Native.Nat.{ℕ}
use mathlib.Core.Path.{◌≡◌, sym, ap, ◌∙◌}
use mathlib.Core.List.{List}
use native.Mathlib.Omega.{arith}
use Rattle.paper.specs.Verdict.{Verdict, told}
use Rattle.table.proofs.RefusalLaws.{some_number}
use Rattle.table.proofs.Unique.{refusal_told}
use borrow.Fn.Kinds.{ended_of}
use contract.Lifetimes.{Lfts}
use denote.Triple.Clauses.{AtExit}
use Rattle.paper.specs.Answers as base
use Rattle.paper.specs.Once.{OnceLeft}
use Rattle.std.specs.Prelude.{Result, Ok, Err}
use Rattle.table.specs.declared.refusals.Refusal.{Refusal}
use Rattle.simplify.specs.Answer.{lent}
use Rattle.simplify.proofs.Unique.{says_once}
use Rattle.paper_shared.specs.Answers as paper
use Rattle.shared.specs.Answer.{says}
use Rattle.shared.specs.declared.Opened.{Opened}
use Rattle.shared.proofs.open.Reads as open-reads
use Rattle.shared.proofs.open.Kinds as open-kinds
use Rattle.shared.proofs.simplify.Reads as simplify-reads
use Rattle.shared.proofs.simplify.Kinds as simplify-kinds

-- the area at exit
abbrev pub area_left : (κs : Lfts 5) → AtExit (ended_of 5 open-kinds.ps open-kinds.r) κs → List ℕ
area_left κs x = x.1.1.1.1.1.0.now

verdict_in : paper.OpenAnswer → Verdict
verdict_in a = told a.number a.place a.flaw

opened_once : (v v' : Result Opened Refusal) → says v ≡ says v' → v ≡ v'
unfolding verdict_in
opened_once (Ok o) (Ok q) e = ap (λ (a : paper.OpenAnswer). Ok (record { records = a.records_written; weight = a.opened_weight })) e
opened_once (Ok o) (Err r) e = absurd (omega (arith, some_number r, ap (λ (a : paper.OpenAnswer). a.number) e))
opened_once (Err r) (Ok o) e = absurd (omega (arith, some_number r, ap (λ (a : paper.OpenAnswer). a.number) e))
opened_once (Err r) (Err q) e = ap Err (refusal_told r q (ap verdict_in e))

pub open_once : OnceLeft 5 open-kinds.ps open-kinds.r open-reads.Pre open-reads.Post (List ℕ) area_left
open_once κs a v v' x x' q p p' =
    let e = p ∙ sym p' in
    (opened_once v v' (ap (λ (g : paper.OpenGiven). g.answer) e), ap (λ (g : paper.OpenGiven). g.area) e)

-- the four areas at exit
abbrev pub areas_left : (κs : Lfts 8) → AtExit (ended_of 8 simplify-kinds.ps simplify-kinds.r) κs → List ℕ × base.Lent
areas_left κs x =
    let out = x.1.1.1.1.1.1.1.0.now in
    let steps = x.1.1.1.1.1.1.1.1.0.now in
    let work = x.1.1.1.1.1.1.1.1.1.0.now in
    (x.1.1.1.1.1.1.0.now, lent out steps work)

pub shared_once : OnceLeft 8 simplify-kinds.ps simplify-kinds.r simplify-reads.Pre simplify-reads.Post (List ℕ × base.Lent) areas_left
shared_once κs a v v' x x' q p p' =
    let e = p ∙ sym p' in (
      says_once v v' (ap (λ (g : paper.SharedGiven). g.given.answer) e),
      ap (λ (g : paper.SharedGiven). (g.area, g.given.lent)) e,
    )
