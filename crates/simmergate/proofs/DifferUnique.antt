-- Two returns, two answer slices and two lists that meet the contract of the call that lists what differs, as the check reads it from the
-- source, are the same: the contract gives the return and every lent byte.
use Prim.Native.Nat.{ℕ}
use mathlib.Core.Path.{sym, ap₂, ◌∙◌}
use mathlib.Core.List.{List}
use Rattle.paper.specs.Once.{OnceLeft}
use Rattle.simmergate.proofs.differ_calls.simmergate_differ.Reads as reads
use Rattle.simmergate.proofs.differ_calls.simmergate_differ.Kinds as kinds

-- the answer slice and the list at exit
pub differ_once : OnceLeft 4 kinds.ps kinds.r reads.Pre reads.Post (List ℕ × List ℕ) (λ κs x. (x.1.1.1.1.0.now, x.1.1.1.0.now))
differ_once κs a v v' x x' q p p' =
    (p.returns ∙ sym p'.returns, ap₂ (λ (s l : List ℕ). (s, l)) (p.answers ∙ sym p'.answers) (p.leaves ∙ sym p'.leaves))
