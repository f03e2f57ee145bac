-- The evaluator says the same of the result of an accepted call as of its table, whatever registers it is given: the result is the
-- records of a tree that is accepted and has the value of the table's tree.
use Prim.Native.Nat.{ℕ, ◌≤◌}
use mathlib.Core.Path.{◌≡◌, refl, ap, ◌∙◌}
use mathlib.Core.List.{List}
use mathlib.Core.Option.{some}
use native.Mathlib.Omega.{arith}
use Rattle.paper.specs.Bytes.{Bytes}
use Rattle.paper.specs.Tree.{Tree, weight, value}
use Rattle.paper.specs.Table.{tree_of}
use Rattle.paper.specs.Verdict.{accepted, verdict}
use Rattle.paper.specs.Answers.{Lent, register, tree_value, registers_verdict, valued, simplified}
use Rattle.paper.specs.Demands.{result}
use Rattle.paper.proofs.TableLaws.{written_accepted}
use Rattle.paper.proofs.CallLaws.{judgement_accepted}
use Rattle.paper.proofs.DemandLaws.{call_done}

-- two accepted tables whose trees have the same value
valued_alike : (lim : ℕ) (s r regs : List ℕ) (t u : Tree) → verdict lim s ≡ accepted → verdict lim r ≡ accepted → tree_of s ≡ some t → tree_of r ≡ some u
    → value u (register regs) ≡ value t (register regs) → valued lim r regs ≡ valued lim s regs
unfolding valued registers_verdict tree_value
valued_alike lim s r regs t u a b p q e = rw (a, b, p, q, e) refl

pub value_after : (lim ed : ℕ) (s : List ℕ) → Bytes s → (l : Lent) → (simplified lim ed s l).answer.number ≡ 0
    → (regs : List ℕ) → valued lim (result (simplified lim ed s l)) regs ≡ valued lim s regs
value_after lim ed s b l e regs =
    let d = call_done lim ed s b l e in
    let light : weight d.tree_out ≤ lim = omega (arith, d.finished.lightens, d.holds.light) in
    valued_alike lim s _ regs d.holds.tree d.tree_out (judgement_accepted lim ed s l d.accepts).0
    (ap (verdict lim) d.written_bytes ∙ written_accepted lim d.holds.known d.tree_out d.finished.result_wf light)
    d.holds.read d.read_back (d.finished.keeps_value (register regs))
