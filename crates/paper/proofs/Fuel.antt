-- The weight is fuel enough: with fuel of at least the weight, a run does not depend on the fuel. Every recursive call is on a
-- tree that weighs less: a rule lowers the weight, members weigh less than their node, and a node that is begun again has lost
-- a step's or an opening's worth.
use Prim.Native.Nat.{ℕ, zero, suc, ◌+◌, ◌≤◌, ◌<◌}
use mathlib.Core.Path.{◌≡◌, refl, sym, ap, ◌∙◌}
use mathlib.Core.Bool.{Bool, true, false}
use mathlib.Core.List.{List, [], ◌∷◌}
use native.Mathlib.Omega.{arith}
use lib.ListN.{length}
use lib.Dec.{eqb}
use borrow.Author.Tests.{eqb-false}
use Rattle.paper.specs.Tree.{Tree, integer, symbol, sum, product, power, of_list, records, recordses, weight}
use Rattle.paper.specs.WellFormed.{WF, WFl}
use Rattle.paper.specs.Rules.{Rule}
use Rattle.paper.specs.Driver.{Asked, no_rule, step, out_of_range, ask, Ran, Rans, dones, overs, after, tried, and_then, each, members}
use Rattle.paper.specs.Driver.{gather, settle, gathered, visit, run, simplify}
use Rattle.paper.specs.Good.{Goods}
use Rattle.paper.proofs.Value.{total, weights_list, weight_pos}
use Rattle.paper.proofs.WFLaws.{of_to_list}
use Rattle.paper.proofs.GatherLaws.{members_wf}
use Rattle.paper.proofs.DriverLaws.{RunKept, RunsKept, AskedKept, ask_kept, each_kept, gathered_tree, run_kept}

pub members_lighter : (t : Tree) → total weight (members t) < weight t
unfolding members weight total
members_lighter (integer μ z) = omega arith
members_lighter (symbol μ s) = omega arith
members_lighter (sum μ f) = omega (arith, weights_list f)
members_lighter (product μ f) = omega (arith, weights_list f)
members_lighter (power μ b ξ e) = omega arith

-- the records of a tree are its own and its members'
pub records_first : (t : Tree) → records t ≡ 1 + recordses (of_list (members t))
unfolding records members of_list
records_first (integer μ z) = refl
records_first (symbol μ s) = refl
records_first (sum μ f) = ap (λ g. 1 + recordses g) (sym (of_to_list f))
records_first (product μ f) = ap (λ g. 1 + recordses g) (sym (of_to_list f))
records_first (power μ b ξ e) = omega arith

-- a node that is begun again weighs less than before
pub gathered_lighter : (t : Tree) (l : List Tree) (s : List ℕ) (o n : ℕ) → WF t → RunsKept (members t) (dones l s o n)
    → eqb (length s + (o + (gather t l).1)) 0 ≡ false → weight (gather t l).0 < weight t
gathered_lighter t l s o n w p e = go (length s + (o + (gather t l).1)) refl
  where
    go : (k : ℕ) → length s + (o + (gather t l).1) ≡ k → weight (gather t l).0 < weight t
    go zero q = absurd (eqb-false (length s + (o + (gather t l).1)) 0 e q)
    go (suc k) q = omega (arith, (gathered_tree t l s o n w p).1.lighter)

each_same : (f g : Tree → Ran) (b : ℕ) → ((t : Tree) → WF t → weight t < b → f t ≡ g t)
    → (l : List Tree) → WFl l → total weight l < b → each f l ≡ each g l
unfolding each total
each_same f g b h [] v w = refl
each_same f g b h (t ∷ l) v w =
    ap (λ r. and_then r (each f l)) (h t v.0 (omega arith)) ∙ ap (and_then (g t)) (each_same f g b h l v.1 (omega arith))

gathered_same : (t : Tree) → WF t → (f g : Tree → Ran) → ((u : Tree) → WF u → weight u < weight t → f u ≡ g u)
    → (r : Rans) → RunsKept (members t) r → gathered f t r ≡ gathered g t r
unfolding gathered settle
gathered_same t v f g h (overs k) p = refl
gathered_same t v f g h (dones l s o n) p = go (eqb (length s + (o + (gather t l).1)) 0) refl
  where
    u : Tree
    u = (gather t l).0

    k : ℕ
    k = o + (gather t l).1

    go : (b : Bool) → eqb (length s + k) 0 ≡ b → settle f s k n u b ≡ settle g s k n u b
    go true e = refl
    go false e = ap (after s k n) (h u (gathered_tree t l s o n v p).0 (gathered_lighter t l s o n v p e))

-- a visit depends on what the driver does with lighter trees only
visit_same : {rs : List Rule} → Goods rs → (f g : Tree → Ran) → ((u : Tree) → WF u → RunKept u (f u))
    → (t : Tree) → WF t → ((u : Tree) → WF u → weight u < weight t → f u ≡ g u)
    → (a : Asked) → AskedKept t a → visit f t a ≡ visit g t a
unfolding visit
visit_same gs f g kept t v h (step k u) p = ap (after (k ∷ []) 0 0) (h u p.0 (omega (arith, p.1.lighter)))
visit_same gs f g kept t v h out_of_range p = refl
visit_same gs f g kept t v h no_rule p =
    gathered_same t v f g h (each f (members t)) (each_kept f kept (members t) (members_wf t v))
    ∙ ap (gathered g t) (each_same f g (weight t) h (members t) (members_wf t v) (members_lighter t))

module _ {rs : List Rule} (gs : Goods rs) where
  -- the fuel always suffices: more than the weight changes nothing
  pub run_fuel : (n m : ℕ) (t : Tree) → WF t → weight t ≤ n → weight t ≤ m → run rs n t ≡ run rs m t
  unfolding run
  run_fuel zero m t v a b = absurd (omega (arith, weight_pos t))
  run_fuel (suc n) zero t v a b = absurd (omega (arith, weight_pos t))
  run_fuel (suc n) (suc m) t v a b =
      ap tried
      (visit_same gs (λ u. run rs n u) (λ u. run rs m u) (λ u x. run_kept gs n u x) t v
      (λ u x w. run_fuel n m u x (omega arith) (omega arith)) (ask rs t) (ask_kept gs t v))

  -- the driver in the paper's words, with no fuel: at a node, ask the rules, and go on with the driver itself
  pub simplify_visits : (t : Tree) → WF t → simplify rs t ≡ tried (visit (simplify rs) t (ask rs t))
  unfolding simplify run
  simplify_visits t v =
      run_fuel (weight t) (suc (weight t)) t v (omega arith) (omega arith)
      ∙ ap tried
      (visit_same gs (λ u. run rs (weight t) u) (λ u. run rs (weight u) u) (λ u x. run_kept gs (weight t) u x) t v
      (λ u x w. run_fuel (weight t) (weight u) u x (omega arith) (omega arith)) (ask rs t) (ask_kept gs t v))
