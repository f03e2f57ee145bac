-- `driver::first`: from the beginning the tree is settled and a pass begun, each by a law of Driving and of Between.
use Prim.Native.Nat.{ℕ, ◌+◌, ◌-◌}
use mathlib.Core.Path.{◌≡◌, refl, sym, subst}
use mathlib.Core.List.{List}
use native.Mathlib.Omega.{arith}
use lib.ListN.{length}
use Rattle.std.specs.Prelude.{None, Ok}
use Rattle.std.proofs.lemmas.Result.{err_from_is_err_and}
use Rattle.paper.specs.Tree.{Tree}
use Rattle.paper.specs.Record.{arity}
use Rattle.paper.specs.Rules.{rules_of}
use Rattle.driver.specs.declared.Settled.{Settled}
use Rattle.driver.specs.declared.Stand.{Stand}
use Rattle.driver.specs.Driven.{Set, Burst, SettledIs}
use Rattle.driver.specs.Paused.{begun_at, Call, call, Called, Come, Fell, Midway, GoesOn}
use Rattle.driver.proofs.Stepping.{steps_burst}
use Rattle.driver.proofs.Driving.{settled_come}
use Rattle.driver.proofs.Between.{begin_fits, begun}
use Rattle.driver.proofs.first.Goals as goal

-- the call as it stands
module _ {x : Call} {out work steps : List ℕ} {s : Stand} (b : GoesOn x out work steps s None) where
  called : Called (call out work steps s x.tree x.rest)
  called = subst Called b.0 b.1

  fell : (n : ℕ) → ((t : Tree) (r : List ℕ) → Set out work steps s.node s.place s.noted t r → Burst (rules_of s.edition) t s.noted n) → Fell x n
  fell n says = subst (λ y. Fell y n) (sym b.0) (steps_burst s.edition s.noted n called.set.ready.wf (says x.tree x.rest called.set))

  module _ {out' work' steps' : List ℕ} {a : Settled}
      (says : (t : Tree) (r : List ℕ) → Set out work steps s.node s.place s.noted t r
      → SettledIs (rules_of s.edition) t r out out' work' steps steps' s.node s.noted (Ok a))
      (lo : length out' ≡ length out) (lw : length work' ≡ length work) (lz : length steps' ≡ length steps) where
    come : Come s.edition x.tree x.rest out work steps s.node s.place s.noted out' work' steps' a.at a.noted 0 (a.noted - s.noted)
    come = settled_come s.edition called.set (says x.tree x.rest called.set) lo lw lz

pub returns-in_err-settled-clause-begun : goal.returns-in_err-settled-clause-begun
returns-in_err-settled-clause-begun c =
    let left = err_from_is_err_and c.from_residual.result c.from_residual.ensures.1 in
    λ x v.
    let b = rw c.in_default.is at v in
    rw (left.1, left.2) (fell b c.in_err-settled.field-0.0.steps c.in_err-settled.ensures)

pub begin-requires : goal.begin-requires
begin-requires c =
    let b = rw c.in_default.is at c.requires.1 in
    let k = c.settle.auto in
    let fits = begin_fits (called b) (come b c.in_ok-settled.ensures k.out k.work k.steps) in
    (fits.0, fits.1, omega (arith, fits.2))

pub returns-clause-begun : goal.returns-clause-begun
returns-clause-begun c =
    let g = c.args in
    let s = g.s in
    let a = c.in_ok-settled.settled in
    let r = c.settle in
    let started = c.begin in
    let tries : ℕ = s.tries + (a.noted - s.noted) in
    let e : started.result ≡ begun_at s a.at a.noted tries (arity r.new.work a.at) = started.ensures.0 in
    λ x v.
    let b = rw c.in_default.is at v in
    subst (λ y. Midway x started.new.out r.new.work r.new.steps y) (sym e)
    (subst (λ y. Midway y started.new.out r.new.work r.new.steps (begun_at s a.at a.noted tries (arity r.new.work a.at))) (sym b.0)
    (begun (called b) (come b c.in_ok-settled.ensures r.auto.out r.auto.work r.auto.steps) s refl refl (omega arith) tries refl
    started.new.out started.ensures.1 started.auto.out))
