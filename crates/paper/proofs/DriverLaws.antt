-- What a run keeps, over any list of good rules: its result is well-formed, has the value of the tree it began with, and weighs
-- less by at least one for each step and each opening. By induction on the fuel: a rule that applies is good, members are runs
-- themselves, and gathering keeps (GatherLaws). Where the fuel is out the tree is kept as it is.
use Prim.Native.Nat.{ℕ, zero, suc, ◌+◌}
use mathlib.Core.Path.{◌≡◌, refl, subst}
use mathlib.Core.Bool.{Bool, true, false}
use mathlib.Core.List.{List, [], ◌∷◌}
use native.Mathlib.Omega.{arith}
use lib.ListN.{length, length-append}
use lib.Dec.{eqb}
use borrow.Author.Tests.{eqb-true}
use Rattle.paper.specs.Tree.{Tree}
use Rattle.paper.specs.WellFormed.{WF, WFl}
use Rattle.paper.specs.Rules.{Rule, Tried, does_not_apply, applies, range_exceeded}
use Rattle.paper.specs.Driver.{Asked, no_rule, step, out_of_range, ask, Ran, done, over, Rans, dones, overs, after, tried, and_then, each, members}
use Rattle.paper.specs.Driver.{gather, settle, gathered, visit, run}
use Rattle.paper.specs.Good.{Kept, GoodAnswer, Goods, no_rules, a_rule}
use Rattle.paper.proofs.KeptLaws.{kept_refl, kept_then, kept_of}
use Rattle.paper.proofs.GatherLaws.{Kepts, nothing, more, gather_kept, gather_wf, kepts_length, members_wf}

-- what is shown of a run, and of the runs of members
abbrev pub RunKept : Tree → Ran → Type 0
RunKept t (done u s o n) = WF u × Kept (length s + o) t u
RunKept t (over k) = Unit {0}

abbrev pub RunsKept : List Tree → Rans → Type 0
RunsKept l (dones m s o n) = WFl m × Kepts (length s + o) l m
RunsKept l (overs k) = Unit {0}

-- what is shown of the rules' answer at t
abbrev pub AskedKept : Tree → Asked → Type 0
AskedKept t no_rule = Unit {0}
AskedKept t (step k u) = WF u × Kept 1 t u
AskedKept t out_of_range = Unit {0}

pub ask_kept : {rs : List Rule} → Goods rs → (t : Tree) → WF t → AskedKept t (ask rs t)
unfolding ask
ask_kept no_rules t w = tt
ask_kept (a_rule {r = r} {rs = rs} g gs) t w = go (r.try t) (g.good t w) (ask_kept gs t w)
  where
    go : (a : Tried) → GoodAnswer t a → AskedKept t (ask rs t)
        → AskedKept t (elim a [ does_not_apply ↦ ask rs t | applies u ↦ step r.number u | range_exceeded ↦ out_of_range ])
    go does_not_apply p h = h
    go (applies u) p h = p
    go range_exceeded p h = tt

after_kept : (t u : Tree) (s : List ℕ) (o n : ℕ) (r : Ran) → Kept (length s + o) t u → RunKept u r → RunKept t (after s o n r)
unfolding after
after_kept t u s o n (over k) h p = tt
after_kept t u s o n (done v s' o' n') h p = (p.0, kept_of (rw length-append (omega arith)) (kept_then h p.1))

and_then_kept : (t : Tree) (l : List Tree) (r : Ran) (rs : Rans) → RunKept t r → RunsKept l rs → RunsKept (t ∷ l) (and_then r rs)
unfolding and_then
and_then_kept t l (over k) rs p q = tt
and_then_kept t l (done u s o n) (overs k) p q = tt
and_then_kept t l (done u s o n) (dones m s' o' n') p q =
    ((p.0, q.0), subst (λ n. Kepts n (t ∷ l) (u ∷ m)) (rw length-append (omega arith)) (more p.1 q.1))

pub each_kept : (f : Tree → Ran) → ((t : Tree) → WF t → RunKept t (f t)) → (l : List Tree) → WFl l → RunsKept l (each f l)
unfolding each
each_kept f h [] w = (tt, nothing)
each_kept f h (t ∷ l) w = and_then_kept t l (f t) (each f l) (h t w.0) (each_kept f h l w.1)

-- what gathering the results of a node's members gives: well-formed, and kept
pub gathered_tree : (t : Tree) (l : List Tree) (s : List ℕ) (o n : ℕ) → WF t → RunsKept (members t) (dones l s o n)
    → WF (gather t l).0 × Kept (length s + (o + (gather t l).1)) t (gather t l).0
gathered_tree t l s o n w p = (gather_wf t l w (kepts_length p.1) p.0, kept_of (omega arith) (gather_kept t l (length s + o) p.1))

gathered_kept : (t : Tree) → WF t → (again : Tree → Ran) → ((u : Tree) → WF u → RunKept u (again u))
    → (r : Rans) → RunsKept (members t) r → RunKept t (gathered again t r)
unfolding gathered settle
gathered_kept t w again h (overs k) p = tt
gathered_kept t w again h (dones l s o n) p = go (eqb (length s + (o + (gather t l).1)) 0) refl
  where
    u : Tree
    u = (gather t l).0

    k : ℕ
    k = o + (gather t l).1

    kept : WF u × Kept (length s + k) t u
    kept = gathered_tree t l s o n w p

    go : (b : Bool) → eqb (length s + k) 0 ≡ b → RunKept t (settle again s k n u b)
    go true e = (kept.0, kept_of (eqb-true (length s + k) 0 e) kept.1)
    go false e = after_kept t u s k n (again u) kept.1 (h u kept.0)

visit_kept : (again : Tree → Ran) → ((u : Tree) → WF u → RunKept u (again u)) → (t : Tree) → WF t → (a : Asked) → AskedKept t a
    → RunKept t (visit again t a)
unfolding visit
visit_kept again h t w (step k u) p = after_kept t u (k ∷ []) 0 0 (again u) p.1 (h u p.0)
visit_kept again h t w out_of_range p = tt
visit_kept again h t w no_rule p =
    gathered_kept t w again h (each again (members t)) (each_kept again h (members t) (members_wf t w))

tried_kept : (t : Tree) (r : Ran) → RunKept t r → RunKept t (tried r)
unfolding tried after
tried_kept t (over k) h = tt
tried_kept t (done u s o n) h = (h.0, kept_of (omega arith) h.1)

-- the run's law: "steps + openings ≤ weight in − weight out", and the value is kept, whatever the fuel
pub run_kept : {rs : List Rule} → Goods rs → (n : ℕ) (t : Tree) → WF t → RunKept t (run rs n t)
unfolding run
run_kept {rs} gs zero t w = (w, kept_refl)
run_kept {rs} gs (suc n) t w =
    tried_kept t _ (visit_kept (λ u. run rs n u) (λ u v. run_kept gs n u v) t w (ask rs t) (ask_kept gs t w))
