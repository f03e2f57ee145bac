-- `rules::ask`: asking all the rules is asking those from the i-th on, and all is ready for them (AskLaws).
use Prim.Native.Nat.{ℕ}
use mathlib.Core.List.{List}
use Rattle.paper.specs.Tree.{Tree}
use Rattle.rules.specs.Asked.{Ready}
use Rattle.rules.proofs.AskLaws.{Going}
use Rattle.rules.proofs.ask.Given as goal

abbrev pub invariant-loop-i : goal.invariant-loop-i
invariant-loop-i l = (t : Tree) (rest : List ℕ) → Ready l.fn.out l.fn.work l.d l.p t rest → Going l.edition t rest l.fn.out l.d l.p l.i l.out l.work
