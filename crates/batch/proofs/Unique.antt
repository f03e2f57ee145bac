-- Two returns that meet the contract of `batch`, as the check reads it from the source, are the same, and so is every lent byte
-- afterwards: the contract is an equation with a function of what is handed in.
use mathlib.Core.Path.{◌≡◌, refl, sym, ap, ◌∙◌}
use mathlib.Core.Bool.{Bool, true, false, cond}
use native.Mathlib.Omega.{arith}
use lib.Dec.{eqb}
use Rattle.paper.specs.Limits.{is_limit}
use Rattle.paper.specs.Once.{OnceLeft}
use Rattle.paper.specs.Rules.{is_edition}
use Rattle.paper.specs.Answers.{simplified}
use Rattle.table.proofs.RefusalLaws.{Plain, stands_plain}
use Rattle.table.proofs.Unique.{stands_once}
use mathlib.Core.List.{List}
use Prim.Native.Nat.{ℕ}
use borrow.Fn.Kinds.{ended_of}
use contract.Lifetimes.{Lfts}
use denote.Triple.Clauses.{AtExit}
use Rattle.paper.specs.Answers.{Lent}
use Rattle.simplify.specs.Answer.{lent}
use Rattle.paper_batch.specs.Batch.{SiteCall, site_number, site_called, carried_out, untouched, lengths_in, in_turn, turns_down}
use Rattle.batch.proofs.batch.Reads as reads
use Rattle.batch.proofs.batch.Kinds as kinds

-- the areas and the list for the answers at exit
pub record Left : Type 0 where
  pub areas : Lent
  pub answers : List ℕ

abbrev pub left : (κs : Lfts 6) → AtExit (ended_of 6 kinds.ps kinds.r) κs → Left
left κs x =
    record {
      areas = lent x.1.1.1.1.0.now x.1.1.1.1.1.0.now x.1.1.1.1.1.1.0.now;
      answers = x.1.1.1.1.1.1.1.0.now;
    }

-- a site's call tells its return, and what it leaves
abbrev pub left_of : SiteCall → Left
left_of c = record { areas = c.lent; answers = c.answers }

-- the return is 0, 8, 9 or 19
cond_plain : (b : Bool) (x y : ℕ) → Plain x → Plain y → Plain (cond b x y)
cond_plain true x y h k = h
cond_plain false x y h k = k

site_plain : (lim ed : ℕ) (tables lengths answers : List ℕ) → Plain (site_number lim ed tables lengths answers)
unfolding site_number
site_plain lim ed tables lengths answers =
    cond_plain (is_limit lim) _ 19
    (cond_plain (is_edition ed) _ 9
    (cond_plain (turns_down tables lengths answers) 8 0
    (record { flawed = λ e. omega arith; shape = λ e. omega arith; exponent = λ e. omega arith; range = λ e. omega arith })
    (record { flawed = λ e. omega arith; shape = λ e. omega arith; exponent = λ e. omega arith; range = λ e. omega arith }))
    (record { flawed = λ e. omega arith; shape = λ e. omega arith; exponent = λ e. omega arith; range = λ e. omega arith }))
    (record { flawed = λ e. omega arith; shape = λ e. omega arith; exponent = λ e. omega arith; range = λ e. omega arith })

called_number : (lim ed : ℕ) (tables lengths : List ℕ) (l : Lent) (answers : List ℕ)
    → (site_called lim ed tables lengths l answers).number ≡ site_number lim ed tables lengths answers
unfolding site_called carried_out untouched
called_number lim ed tables lengths l answers = by (eqb k 0)
  where
    k : ℕ
    k = site_number lim ed tables lengths answers

    by : (b : Bool) → (cond b (carried_out k (lengths_in lengths) (in_turn (simplified lim ed) (lengths_in lengths) tables l) answers)
        (untouched k l answers)).number ≡ k
    by true = refl
    by false = refl

pub batch_once : OnceLeft 6 kinds.ps kinds.r reads.Pre reads.Post Left left
batch_once κs a v v' x x' q p p' =
    let l = lent a.1.1.1.1.0.now a.1.1.1.1.1.0.now a.1.1.1.1.1.1.0.now in
    let number = called_number a.0 a.1.0 a.1.1.0.now a.1.1.1.0.now l a.1.1.1.1.1.1.1.0.now in
    let plain = site_plain a.0 a.1.0 a.1.1.0.now a.1.1.1.0.now a.1.1.1.1.1.1.1.0.now in (
      stands_once v v' _ (stands_plain v _ plain (ap (λ (c : SiteCall). c.number) p ∙ number))
          (stands_plain v' _ plain (ap (λ (c : SiteCall). c.number) p' ∙ number)),
      ap left_of (p ∙ sym p'),
    )
