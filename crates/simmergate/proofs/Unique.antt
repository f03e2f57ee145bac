-- Two returns and two answer slices that meet the contract of a call, as the check reads it from the source, are the same: each
-- contract gives the return and every byte of the slice.
use Prim.Native.Nat.{ℕ}
use mathlib.Core.Path.{◌≡◌, sym, ◌∙◌}
use mathlib.Core.List.{List}
use borrow.Fn.Kinds.{ended_of}
use contract.Lifetimes.{Lfts}
use denote.Triple.Clauses.{AtExit}
use Rattle.paper.specs.Answers.{Lent}
use Rattle.paper.specs.Once.{OnceLeft}
use Rattle.simplify.specs.Answer.{lent}
use Rattle.simmergate.proofs.simmergate_check.Reads as check-reads
use Rattle.simmergate.proofs.simmergate_check.Kinds as check-kinds
use Rattle.simmergate.proofs.simmergate_weight.Reads as weight-reads
use Rattle.simmergate.proofs.simmergate_weight.Kinds as weight-kinds
use Rattle.simmergate.proofs.simmergate_value.Reads as value-reads
use Rattle.simmergate.proofs.simmergate_value.Kinds as value-kinds
use Rattle.simmergate.proofs.simmergate_equal.Reads as equal-reads
use Rattle.simmergate.proofs.simmergate_equal.Kinds as equal-kinds
use Rattle.simmergate.proofs.simmergate_simplify.Reads as simplify-reads
use Rattle.simmergate.proofs.simmergate_simplify.Kinds as simplify-kinds

pub check_once : OnceLeft 2 check-kinds.ps check-kinds.r check-reads.Pre check-reads.Post (List ℕ) (λ κs x. x.1.1.0.now)
check_once κs a v v' x x' q p p' = (p.returns ∙ sym p'.returns, p.answers ∙ sym p'.answers)

pub weight_once : OnceLeft 2 weight-kinds.ps weight-kinds.r weight-reads.Pre weight-reads.Post (List ℕ) (λ κs x. x.1.1.0.now)
weight_once κs a v v' x x' q p p' = (p.returns ∙ sym p'.returns, p.answers ∙ sym p'.answers)

pub value_once : OnceLeft 3 value-kinds.ps value-kinds.r value-reads.Pre value-reads.Post (List ℕ) (λ κs x. x.1.1.1.0.now)
value_once κs a v v' x x' q p p' = (p.returns ∙ sym p'.returns, p.answers ∙ sym p'.answers)

pub equal_once : OnceLeft 3 equal-kinds.ps equal-kinds.r equal-reads.Pre equal-reads.Post (List ℕ) (λ κs x. x.1.1.1.0.now)
equal_once κs a v v' x x' q p p' = (p.returns ∙ sym p'.returns, p.answers ∙ sym p'.answers)

-- the simplifier's call: the answer slice and the three areas at exit
pub record Left : Type 0 where
  pub slice : List ℕ
  pub areas : Lent

abbrev pub left : (κs : Lfts 5) → AtExit (ended_of 5 simplify-kinds.ps simplify-kinds.r) κs → Left
left κs x =
    let out = x.1.1.1.0.now in
    let steps = x.1.1.1.1.0.now in
    let work = x.1.1.1.1.1.0.now in
    let answer = x.1.1.1.1.1.1.0.now in
    record { slice = answer; areas = lent out steps work }

pub simplify_once : OnceLeft 5 simplify-kinds.ps simplify-kinds.r simplify-reads.Pre simplify-reads.Post Left left
simplify_once κs a v v' x x' q p p' =
    (p.returns ∙ sym p'.returns, cong_left (p.answers ∙ sym p'.answers) (p.leaves ∙ sym p'.leaves))
  where
    cong_left : {s s' : List ℕ} {l l' : Lent} → s ≡ s' → l ≡ l' → ◌≡◌ {A = Left} (record { slice = s; areas = l }) (record { slice = s'; areas = l' })
    cong_left e h = cc
