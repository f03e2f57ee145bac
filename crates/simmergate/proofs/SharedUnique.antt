-- Two returns, and what the lent slices hold at exit, that meet the contract of a call on shared sub-formulas, as the check reads it from the
-- source, are the same: each contract gives the return and every lent byte.
use mathlib.Core.Path.{◌≡◌, sym, ◌∙◌}
use mathlib.Core.List.{List}
use Prim.Native.Nat.{ℕ}
use borrow.Fn.Kinds.{ended_of}
use contract.Lifetimes.{Lfts}
use denote.Triple.Clauses.{AtExit}
use Rattle.paper.specs.Answers.{Lent}
use Rattle.paper.specs.Once.{OnceLeft}
use Rattle.simplify.specs.Answer.{lent}
use Rattle.simmergate.proofs.shared_calls.simmergate_open.Reads as open-reads
use Rattle.simmergate.proofs.shared_calls.simmergate_open.Kinds as open-kinds
use Rattle.simmergate.proofs.shared_calls.simmergate_simplify_shared.Reads as shared-reads
use Rattle.simmergate.proofs.shared_calls.simmergate_simplify_shared.Kinds as shared-kinds

-- the answer slice and the area at exit
pub record Opened : Type 0 where
  pub slice : List ℕ
  pub area : List ℕ

abbrev pub opened : (κs : Lfts 6) → AtExit (ended_of 6 open-kinds.ps open-kinds.r) κs → Opened
opened κs x = record { slice = x.1.1.1.1.1.1.0.now; area = x.1.1.1.1.1.0.now }

pub open_once : OnceLeft 6 open-kinds.ps open-kinds.r open-reads.Pre open-reads.Post Opened opened
open_once κs a v v' x x' q p p' =
    (p.returns ∙ sym p'.returns, both (p.answers ∙ sym p'.answers) (p.leaves ∙ sym p'.leaves))
  where
    both : {s s' l l' : List ℕ} → s ≡ s' → l ≡ l' → ◌≡◌ {A = Opened} (record { slice = s; area = l }) (record { slice = s'; area = l' })
    both e h = cc

-- and the three areas of the simplifier besides
pub record Shared : Type 0 where
  pub slice : List ℕ
  pub area : List ℕ
  pub areas : Lent

abbrev pub shared : (κs : Lfts 9) → AtExit (ended_of 9 shared-kinds.ps shared-kinds.r) κs → Shared
shared κs x =
    let out = x.1.1.1.1.1.1.1.0.now in
    let steps = x.1.1.1.1.1.1.1.1.0.now in
    let work = x.1.1.1.1.1.1.1.1.1.0.now in
    record { slice = x.1.1.1.1.1.1.1.1.1.1.0.now; area = x.1.1.1.1.1.1.0.now; areas = lent out steps work }

pub simplify_shared_once : OnceLeft 9 shared-kinds.ps shared-kinds.r shared-reads.Pre shared-reads.Post Shared shared
simplify_shared_once κs a v v' x x' q p p' =
    (p.returns ∙ sym p'.returns, all (p.answers ∙ sym p'.answers) (p.opens ∙ sym p'.opens) (p.leaves ∙ sym p'.leaves))
  where
    all : {s s' a a' : List ℕ} {l l' : Lent} → s ≡ s' → a ≡ a' → l ≡ l'
        → ◌≡◌ {A = Shared} (record { slice = s; area = a; areas = l }) (record { slice = s'; area = a'; areas = l' })
    all e f g = cc
