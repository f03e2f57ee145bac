-- The tries of either edition are at most the square of the weight going in: its rules are good and shallow. So are those of the simplifier of the
-- definitions, on every accepted table without refusal 7, and of every simplifier that meets the demands, since it answers alike. And since an accepted
-- table weighs no more than the limit, they are within a budget that the limit alone tells.
use Prim.Native.Nat.{ℕ, ◌+◌, ◌*◌, ◌≤◌}
use mathlib.Core.Path.{◌≡◌, ap, subst}
use mathlib.Core.List.{List}
use native.Mathlib.Omega.{arith}
use native.Mathlib.Nat.{mul-le-mul}
use Rattle.paper.specs.Tree.{Tree, weight}
use Rattle.paper.specs.WellFormed.{WF}
use Rattle.paper.specs.Rules.{rules_of}
use Rattle.paper.specs.Driver.{done, simplify}
use Rattle.paper.specs.Answers.{ran_answer, simplified}
use Rattle.paper.specs.Demands.{Simplifier, result, Demands}
use Rattle.paper.specs.Squared.{Squared, Budget}
use Rattle.paper.proofs.EditionTwo.{edition_good}
use Rattle.paper.proofs.CallLaws.{same_tree}
use Rattle.paper.proofs.DemandLaws.{call_done, simplified_meets, demands_once}
use Rattle.paper.proofs.ShallowRules.{edition_shallow}
use Rattle.paper.proofs.SquareLaws.{tries_three_quarters, tries_square}

-- of a tree, in either edition
pub edition_square : (ed : ℕ) (t u : Tree) (s : List ℕ) (o n : ℕ) → WF t → simplify (rules_of ed) t ≡ done u s o n → n ≤ weight t * weight t
edition_square ed = tries_square (edition_good ed) (edition_shallow ed)

pub edition_three_quarters : (ed : ℕ) (t u : Tree) (s : List ℕ) (o n : ℕ) → WF t → simplify (rules_of ed) t ≡ done u s o n
    → 4 * n + 3 ≤ 3 * (weight t * weight t) + 4 * weight t
edition_three_quarters ed = tries_three_quarters (edition_good ed) (edition_shallow ed)

-- of a call of the simplifier of the definitions
pub simplified_squared : (lim ed : ℕ) → Squared lim ed (simplified lim ed)
unfolding ran_answer
simplified_squared lim ed s b l e t p =
    let d = call_done lim ed s b l e in
    let a : (simplified lim ed s l).answer.tries ≡ d.tries = ap (λ x. x.tries) d.answer in
    let n = edition_square ed d.holds.tree d.tree_out d.steps d.opened d.tries d.holds.wf d.runs in (
      d.tree_out,
      d.read_back,
      subst (λ i. (simplified lim ed s l).answer.tries ≤ weight i * weight i) (same_tree d.holds.read p) (omega arith),
    )

-- of every simplifier that meets the demands
pub demands_squared : (lim ed : ℕ) (f : Simplifier) → Demands lim ed f → Squared lim ed f
unfolding result
demands_squared lim ed f d s b l e t p =
    let alike : f s l ≡ simplified lim ed s l = demands_once lim ed f (simplified lim ed) d (simplified_meets lim ed) s b l in
    rw alike (simplified_squared lim ed s b l (rw alike at e) t p)

-- a budget for the limit lim
simplified_budget : (lim ed most : ℕ) → 3 * (lim * lim) + 4 * lim ≤ 4 * most + 6 → Budget most (simplified lim ed)
unfolding ran_answer
simplified_budget lim ed most h s b l e =
    let d = call_done lim ed s b l e in
    let a : (simplified lim ed s l).answer.tries ≡ d.tries = ap (λ x. x.tries) d.answer in
    let n = edition_three_quarters ed d.holds.tree d.tree_out d.steps d.opened d.tries d.holds.wf d.runs in
    let w : weight d.holds.tree * weight d.holds.tree ≤ lim * lim = mul-le-mul d.holds.light d.holds.light in
    omega (arith, d.holds.light)

demands_budget : (lim ed most : ℕ) → 3 * (lim * lim) + 4 * lim ≤ 4 * most + 6 → (f : Simplifier) → Demands lim ed f → Budget most f
demands_budget lim ed most h f d s b l e =
    let alike : f s l ≡ simplified lim ed s l = demands_once lim ed f (simplified lim ed) d (simplified_meets lim ed) s b l in
    rw alike (simplified_budget lim ed most h s b l (rw alike at e))

-- at the two limits, in figures
pub budget_3072 : (ed : ℕ) (f : Simplifier) → Demands 3072 ed f → Budget 7080959 f
budget_3072 ed = demands_budget 3072 ed 7080959 (omega arith)

pub budget_16384 : (ed : ℕ) (f : Simplifier) → Demands 16384 ed f → Budget 201342975 f
budget_16384 ed = demands_budget 16384 ed 201342975 (omega arith)
