-- The count of tries never leaves its range, whatever the run comes to: `cost w` bounds the tries of any run on a tree of weight w, and a
-- pass that changed something, with its own tries, costs no more than the lighter tree saves.
use Prim.Native.Nat.{ℕ, suc, ◌+◌, ◌-◌, ◌*◌, ◌^◌, ◌<◌, ◌≤◌}
use mathlib.Core.Path.{◌≡◌, ap}
use mathlib.Core.List.{List, [], ◌∷◌}
use native.Mathlib.Omega.{arith}
use native.Mathlib.Nat.{mul-le-mul_right}
use lib.ListN.{length}
use Rattle.paper.specs.Tree.{Tree, weight}
use Rattle.paper.specs.WellFormed.{WF}
use Rattle.paper.specs.Driver.{Ran, done, over, Rans, dones, overs, and_then, each, members, gather, simplify}
use Rattle.paper.specs.Cost.{cost}
use Rattle.paper.proofs.Value.{total, weight_pos}
use Rattle.paper.proofs.EditionTwo.{edition_good}
use Rattle.paper.proofs.GatherLaws.{members_wf}
use Rattle.paper.proofs.DriverLaws.{RunsKept, each_kept, gathered_tree}
use Rattle.paper.proofs.Fuel.{members_lighter}
use Rattle.paper.proofs.Squares.{pass_cost}
use Rattle.paper.proofs.TryLaws.{RunTries, RunsTries, run_tries, each_tries, gather_weight}
use Rattle.driver.specs.Driven.{inside, opened_runs, passed}
use Rattle.driver.proofs.Runs.{drives, drives_kept}

-- ---- the cost of a weight
pub cost_least : (w : ℕ) → w ≤ cost w
unfolding cost
cost_least w = omega arith

pub cost_both : (a b : ℕ) → cost a + cost b ≤ cost (a + b)
unfolding cost
cost_both a b = omega arith

pub cost_steps : (k u w : ℕ) → k + u ≤ w → k + cost u ≤ cost w
cost_steps k u w h =
    let all : u + (w - u) ≡ w = omega arith in
    omega (arith, ap cost all, cost_both u (w - u), cost_least (w - u))

pub cost_small : (w : ℕ) → w < 65536 → cost w < 2 ^ 62
cost_small w h =
    let all : w + (65536 - w) ≡ 65536 = omega arith in
    let most : cost 65536 < 2 ^ 62 = unfold cost in omega arith in
    omega (arith, ap cost all, cost_both w (65536 - w))

-- ---- the tries of a run, and of a member's
drives_tries : (ed : ℕ) (t : Tree) → WF t → RunTries t (drives ed t)
unfolding simplify
drives_tries ed t w = run_tries (edition_good ed) (weight t) t w

one_tries : (k : ℕ) (t : Tree) (r : Ran) → RunTries t r → (l : List Tree) (ks : List ℕ) (o τ : ℕ)
    → opened_runs (inside k) (and_then r (dones [] [] 0 0)) ≡ dones l ks o τ → τ ≤ cost (weight t)
unfolding opened_runs and_then cost
one_tries k t (over j) h l ks o τ e = absurd (let z : ◌≡◌ {A = ℕ} 0 1 = cc in omega arith)
one_tries k t (done u s n υ) h l ks o τ e = let a : υ + 0 ≡ τ = cc in omega (arith, h)

pub member_tries : (ed : ℕ) (k : ℕ) (t : Tree) → WF t → (l : List Tree) (ks : List ℕ) (o τ : ℕ)
    → opened_runs (inside k) (each (drives ed) (t ∷ [])) ≡ dones l ks o τ → τ ≤ cost (weight t)
unfolding each
member_tries ed k t w l ks o τ e = one_tries k t (drives ed t) (drives_tries ed t w) l ks o τ e

-- ---- the tries of a pass
module _ (t : Tree) (w : WF t) where
  -- the weight that the members have at the most
  abbrev x : ℕ
  x = weight t - 1

  is : suc x ≡ weight t
  is = omega (arith, weight_pos t)

  members_tries : (l : List Tree) (s : List ℕ) (o τ : ℕ) → RunsTries x (members t) (dones l s o τ) → τ + total weight l * (x * x) ≤ x + x * (x * x)
  members_tries l s o τ h =
      let small : total weight (members t) ≤ x = omega (arith, members_lighter t) in
      let z : total weight (members t) * (x * x) ≤ x * (x * x) = mul-le-mul_right (x * x) small in
      omega (arith, h)

  module _ (u : Tree) (s : List ℕ) (o τ : ℕ) where
    pays : (r : Rans) → passed t r ≡ done u s o τ → RunsKept (members t) r → RunsTries x (members t) r → 1 ≤ length s + o
        → τ + 1 + cost (weight u) ≤ cost (weight t)
    unfolding passed
    pays (overs k) e p h c = absurd (let z : ◌≡◌ {A = ℕ} 0 1 = cc in omega arith)
    pays (dones l s' o' τ') e p h c =
        let tree : (gather t l).0 ≡ u = cc in
        let steps : s' ≡ s = cc in
        let openings : o' + (gather t l).1 ≡ o = cc in
        let tries : τ' ≡ τ = cc in
        let long : length s' ≡ length s = ap length steps in
        let weighs : weight (gather t l).0 ≡ weight u = ap weight tree in
        let up : weight (gather t l).0 ≤ 1 + total weight l = gather_weight t l (length s' + o') p.1 (omega arith) in
        let less = (gathered_tree t l s' o' τ' w p).1.lighter in
        let b = pass_cost x (total weight l) τ' (weight u) (members_tries l s' o' τ' h) (omega arith) (omega (arith, is)) in
        omega (arith, ap cost is)

    module _ (ed : ℕ) (e : passed t (each (drives ed) (members t)) ≡ done u s o τ) where
      all_tries : RunsTries x (members t) (each (drives ed) (members t))
      all_tries = each_tries (drives ed) x (drives_kept ed) (drives_tries ed) (members t) (members_wf t w) (omega (arith, members_lighter t))

      -- "begin again": the pass and what may come after it cost no more than the tree
      pub pass_pays : 1 ≤ length s + o → τ + 1 + cost (weight u) ≤ cost (weight t)
      pass_pays = pays (each (drives ed) (members t)) e (each_kept (drives ed) (drives_kept ed) (members t) (members_wf t w)) all_tries
