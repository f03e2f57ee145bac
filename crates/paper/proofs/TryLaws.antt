-- How many tries a run takes, over any list of good rules: a run from weight w to weight v takes n with n + v·w² ≤ w + w·w², so at most the
-- cube of the weight going in. By induction on the fuel: a step loses weight; members that did not change take a try for each record;
-- members that did are gathered to a lighter tree (Squares has the arithmetic).
use Prim.Native.Nat.{ℕ, zero, suc, ◌+◌, ◌*◌, ◌-◌, ◌≤◌}
use mathlib.Core.Path.{◌≡◌, refl, sym, ap, subst}
use mathlib.Core.Bool.{Bool, true, false}
use mathlib.Core.List.{List, [], ◌∷◌}
use native.Mathlib.Omega.{arith}
use native.Mathlib.Nat.{mul-le-mul_right}
use lib.ListN.{length}
use lib.IntN.{pos}
use lib.Dec.{eqb}
use borrow.Author.Tests.{eqb-true, eqb-false}
use Rattle.paper.specs.Tree.{Tree, integer, symbol, sum, product, power, weight}
use Rattle.paper.specs.WellFormed.{WF, WFl}
use Rattle.paper.specs.Rules.{Rule}
use Rattle.paper.specs.Driver.{Asked, no_rule, step, out_of_range, ask, Ran, done, over, Rans, dones, overs, after, tried, and_then, each, members}
use Rattle.paper.specs.Driver.{as_sum, as_product, opened, base_from, gather, settle, gathered, visit, run, simplify}
use Rattle.paper.specs.Good.{Goods}
use Rattle.paper.proofs.Value.{total, weight_pos, list_weights}
use Rattle.paper.proofs.GatherLaws.{Kepts, more, no_members, kepts_weight, members_wf, opened_weight, sums_open, products_open}
use Rattle.paper.proofs.DriverLaws.{RunKept, RunsKept, AskedKept, ask_kept, each_kept, gathered_tree, run_kept}
use Rattle.paper.proofs.Fuel.{members_lighter, gathered_lighter}
use Rattle.paper.proofs.FinishedLaws.{Still, Stills, each_still, run_still}
use Rattle.paper.proofs.Squares.{Within, under, step_within, still_within, again_within_lem, cube}

abbrev pub RunTries : Tree → Ran → Type 0
RunTries t (done u s o n) = Within (weight t) (weight u) n
RunTries t (over k) = Unit {0}

-- of members, each weighing b at the most
abbrev pub RunsTries : ℕ → List Tree → Rans → Type 0
RunsTries b l (dones m s o n) = n + total weight m * (b * b) ≤ total weight l + total weight l * (b * b)
RunsTries b l (overs k) = Unit {0}

and_then_tries : (b : ℕ) (t : Tree) (l : List Tree) (r : Ran) (q : Rans) → weight t ≤ b → RunKept t r → RunTries t r → RunsTries b l q
    → RunsTries b (t ∷ l) (and_then r q)
unfolding and_then total
and_then_tries b t l (over k) q h p x y = tt
and_then_tries b t l (done u s o n) (overs k) h p x y = tt
and_then_tries b t l (done u s o n) (dones m s' o' n') h p x y =
    omega (arith, under (weight t) (weight u) n b (omega (arith, p.1.lighter)) h x, y)

pub each_tries : (f : Tree → Ran) (b : ℕ) → ((t : Tree) → WF t → RunKept t (f t)) → ((t : Tree) → WF t → RunTries t (f t))
    → (l : List Tree) → WFl l → total weight l ≤ b → RunsTries b l (each f l)
unfolding each total
each_tries f b kept h [] w e = omega arith
each_tries f b kept h (t ∷ l) w e =
    and_then_tries b t l (f t) (each f l) (omega arith) (kept t w.0) (h t w.0) (each_tries f b kept h l w.1 (omega arith))

-- a gathered node in which something changed weighs at most one more than the members' results
power_weight : (μ : ℕ) (b x : Tree) (ξ e k : ℕ) (l : List Tree) → Kepts k (b ∷ x ∷ []) l → weight (power μ (base_from b l) ξ e) ≤ 1 + total weight l
unfolding base_from weight total
power_weight μ b x ξ e k l (more {u = u} h (more {u = y} h' r)) = omega (arith, weight_pos y)

pub gather_weight : (t : Tree) (l : List Tree) (k : ℕ) → Kepts k (members t) l → 1 ≤ k + (gather t l).1 → weight (gather t l).0 ≤ 1 + total weight l
unfolding gather members weight
gather_weight (integer μ z) l k h c = absurd (omega (arith, no_members h))
gather_weight (symbol μ s) l k h c = absurd (omega (arith, no_members h))
gather_weight (sum μ f) l k h c = omega (arith, list_weights (opened as_sum l).0, opened_weight sums_open l)
gather_weight (product μ f) l k h c = omega (arith, list_weights (opened as_product l).0, opened_weight products_open l)
gather_weight (power μ b ξ e) l k h c = power_weight μ b (integer ξ (pos e)) ξ e k l h

-- where nothing changed the weights did not either
pub kepts_lighter : {k : ℕ} {l m : List Tree} → Kepts k l m → total weight m ≤ total weight l
kepts_lighter h = omega (arith, kepts_weight h)

after_tries : (s : List ℕ) (o n w : ℕ) (r : Ran) → ((u : Tree) (s' : List ℕ) (o' m : ℕ) → r ≡ done u s' o' m → Within w (weight u) (suc (n + m)))
    → (t : Tree) → weight t ≡ w → RunTries t (tried (after s o n r))
unfolding after tried
after_tries s o n w (over k) h t e = tt
after_tries s o n w (done u s' o' m) h t e = subst (λ x. Within x (weight u) (1 + (n + m))) (sym e) (omega (arith, h u s' o' m refl))

module _ (t : Tree) (w : WF t) (again : Tree → Ran) (kept : (u : Tree) → WF u → RunKept u (again u)) (tries : (u : Tree) → WF u → RunTries u (again u))
    (stills : (u : Tree) → WF u → Still u (again u)) where
  is : weight t ≡ suc (weight t - 1)
  is = omega (arith, weight_pos t)

  again_run : (u : Tree) (s' : List ℕ) (o' m : ℕ) (v : Tree) → WF u → again u ≡ done v s' o' m → (weight v ≤ weight u) × Within (weight u) (weight v) m
  again_run u s' o' m v p e =
      let k : RunKept u (done v s' o' m) = subst (RunKept u) e (kept u p) in
      let h : RunTries u (done v s' o' m) = subst (RunTries u) e (tries u p) in
      (omega (arith, k.1.lighter), h)

  gathered_tries : (r : Rans) → RunsKept (members t) r → RunsTries (weight t - 1) (members t) r → Stills (members t) r → RunTries t (tried (gathered again t r))
  unfolding gathered settle tried after
  gathered_tries (overs k) p h still = tt
  gathered_tries (dones l s o n) p h still = go (eqb (length s + (o + (gather t l).1)) 0) refl
    where
      u : Tree
      u = (gather t l).0

      k : ℕ
      k = o + (gather t l).1

      y : ℕ
      y = total weight l

      m : ℕ
      m = total weight (members t)

      changed : eqb (length s + k) 0 ≡ false → 1 ≤ length s + o + (gather t l).1
      changed e = step_up (length s + k) refl
        where
          step_up : (i : ℕ) → length s + k ≡ i → 1 ≤ length s + o + (gather t l).1
          step_up zero q = absurd (eqb-false (length s + k) 0 e q)
          step_up (suc i) q = omega arith

      small : m ≤ weight t - 1
      small = omega (arith, members_lighter t)

      by : n + y * ((weight t - 1) * (weight t - 1)) ≤ (weight t - 1) + (weight t - 1) * ((weight t - 1) * (weight t - 1))
      by =
          let z : m * ((weight t - 1) * (weight t - 1)) ≤ (weight t - 1) * ((weight t - 1) * (weight t - 1)) = mul-le-mul_right _ small in
          omega (arith, h, small)

      still_going : length s + k ≡ 0 → Within (weight t) (weight u) (1 + n)
      still_going e =
          let same : l ≡ members t = still (omega arith) in
          let a : y ≡ m = ap (total weight) same in
          let b : n ≤ weight t - 1 = omega (arith, h, small, ap (λ i. i * ((weight t - 1) * (weight t - 1))) a) in
          let c : Within (suc (weight t - 1)) (suc (weight t - 1)) (suc n) = still_within (weight t - 1) n b in
          let d : Within (weight t) (weight t) (suc n) = subst (λ i. Within i i (suc n)) (sym is) c in
          let f : weight u * (weight t * weight t) ≤ weight t * (weight t * weight t) =
          mul-le-mul_right _ (omega (arith, (gathered_tree t l s o n w p).1.lighter)) in
          omega arith

      go : (b : Bool) → eqb (length s + k) 0 ≡ b → RunTries t (tried (settle again s k n u b))
      go true e = still_going (eqb-true (length s + k) 0 e)
      go false e =
          after_tries s k n (suc (weight t - 1)) (again u)
          (λ v s' o' i q.
          let r = again_run u s' o' i v (gathered_tree t l s o n w p).0 q in
          again_within_lem (weight t - 1) y n (weight u) (weight v) i by
          (omega (arith, gather_weight t l (length s + o) p.1 (changed e)))
          (omega (arith, gathered_lighter t l s o n w p e)) r.0 r.1)
          t is

  visit_tries : (a : Asked) → AskedKept t a → RunTries t (tried (visit again t a))
  unfolding visit tried after
  visit_tries (step k u) p =
      after_tries (k ∷ []) 0 0 (suc (weight t - 1)) (again u)
      (λ v s' o' i q.
      let r = again_run u s' o' i v p.0 q in
      omega (arith, step_within (weight t - 1) (weight u) (weight v) i (omega (arith, p.1.lighter)) r.0 r.1))
      t (omega (arith, weight_pos t))
  visit_tries out_of_range p = tt
  visit_tries no_rule p =
      gathered_tries (each again (members t)) (each_kept again kept (members t) (members_wf t w))
      (each_tries again (weight t - 1) kept tries (members t) (members_wf t w) (omega (arith, members_lighter t)))
      (each_still again stills (members t) (members_wf t w))

-- the run's law of tries, whatever the fuel
pub run_tries : {rs : List Rule} → Goods rs → (n : ℕ) (t : Tree) → WF t → RunTries t (run rs n t)
unfolding run
run_tries gs zero t w = omega arith
run_tries {rs} gs (suc n) t w =
    visit_tries t w (λ u. run rs n u) (λ u v. run_kept gs n u v) (λ u v. run_tries gs n u v) (run_still rs n) (ask rs t) (ask_kept gs t w)

-- "at most the cube of the weight going in"
pub tries_cube : {rs : List Rule} → Goods rs → (t u : Tree) (s : List ℕ) (o n : ℕ) → WF t → simplify rs t ≡ done u s o n
    → n ≤ weight t * (weight t * weight t)
unfolding simplify
tries_cube gs t u s o n w e =
    cube (weight t) (weight u) n (weight_pos t) (weight_pos u) (subst (RunTries t) e (run_tries gs (weight t) t w))
