-- Two answers that meet the contract of `differ`, as the check reads it from the source, are the same, and so are the lists afterwards: the
-- contract is an equation with a function of what is handed in.
use Prim.Native.Nat.{ℕ}
use mathlib.Core.Path.{◌≡◌, sym, ap, ◌∙◌}
use mathlib.Core.List.{List}
use native.Mathlib.Omega.{arith}
use Rattle.std.specs.Prelude.{Result, Ok, Err}
use Rattle.paper.specs.Once.{OnceLeft}
use Rattle.paper.specs.Verdict.{Verdict, told}
use Rattle.paper_differ.specs.Differ as paper
use Rattle.paper_differ.specs.Differ.{differing}
use Rattle.table.specs.declared.refusals.Refused.{Refused}
use Rattle.table.proofs.RefusalLaws.{some_number}
use Rattle.table.proofs.Unique.{refused_told}
use Rattle.differ.specs.Differed.{says}
use Rattle.differ.proofs.differ.Reads as reads
use Rattle.differ.proofs.differ.Kinds as kinds

said : paper.Differed → Verdict
said d = told d.number d.place d.flaw

says_once : (r r' : Result ℕ Refused) (d : paper.Differed) → says r ≡ d → says r' ≡ d → r ≡ r'
unfolding said
says_once (Ok n) (Ok m) d e q = ap (λ (x : paper.Differed). Ok x.pairs) (e ∙ sym q)
says_once (Ok n) (Err r) d e q = absurd (omega (arith, some_number r.refusal, ap (λ (x : paper.Differed). x.number) (e ∙ sym q)))
says_once (Err r) (Ok n) d e q = absurd (omega (arith, some_number r.refusal, ap (λ (x : paper.Differed). x.number) (e ∙ sym q)))
says_once (Err r) (Err r') d e q =
    ap Err (refused_told r r' (ap said (e ∙ sym q))
    (ap (λ (x : paper.Differed). x.which) (e ∙ sym q)))

pub differ_once : OnceLeft 3 kinds.ps kinds.r reads.Pre reads.Post (List ℕ) (λ κs x. x.1.1.1.0.now)
unfolding differing
differ_once κs a v v' x x' q p p' =
    (says_once v v' _ (ap (λ g. g.0) p) (ap (λ g. g.0) p'), ap (λ g. g.1) (p ∙ sym p'))
