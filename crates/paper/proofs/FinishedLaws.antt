-- A run that ends leaves a tree that admits no rule and no opening, at any node: a node is finished only where the rules were
-- asked in vain and its members, finished themselves, came back unchanged and unopened; and a run with no step and no opening
-- leaves its tree as it was. Conversely, a tree that admits none is finished at once.
use Prim.Native.Nat.{ℕ, zero, suc, ◌+◌, ◌≤◌, ◌<◌}
use mathlib.Core.Path.{◌≡◌, refl, sym, ap, ◌∙◌, subst}
use mathlib.Core.Bool.{Bool, true, false}
use mathlib.Core.List.{List, [], ◌∷◌}
use native.Mathlib.Omega.{arith}
use lib.ListN.{length, length-append}
use lib.Dec.{eqb}
use borrow.Author.Tests.{eqb-true, eqb-false, eq-eqb}
use Rattle.paper.specs.Tree.{Tree, integer, symbol, sum, product, power, weight, records}
use Rattle.paper.specs.WellFormed.{WF, WFl}
use Rattle.paper.specs.Rules.{Rule}
use Rattle.paper.specs.Driver.{Asked, no_rule, step, out_of_range, ask, Ran, done, over, Rans, dones, overs, after, tried, and_then, each, members}
use Rattle.paper.specs.Driver.{gather, settle, gathered, visit, run, simplify}
use Rattle.paper.specs.Admits.{openings_at, AdmitsNone, admits_none, AllAdmitNone, no_more, and_more}
use Rattle.paper.specs.Good.{Goods}
use Rattle.paper.proofs.Value.{total, weight_pos}
use Rattle.paper.proofs.EqualView.{recordses_list}
use Rattle.paper.proofs.GatherLaws.{members_wf, gather_same}
use Rattle.paper.proofs.DriverLaws.{RunKept, RunsKept, AskedKept, ask_kept, each_kept, gathered_tree, run_kept}
use Rattle.paper.proofs.Fuel.{members_lighter, gathered_lighter}

-- ---- a run with no step and no opening leaves the tree as it was
abbrev pub Still : Tree → Ran → Type 0
Still t (done u s o n) = length s + o ≡ 0 → u ≡ t
Still t (over k) = Unit {0}

abbrev pub Stills : List Tree → Rans → Type 0
Stills l (dones m s o n) = length s + o ≡ 0 → m ≡ l
Stills l (overs k) = Unit {0}

and_then_still : (t : Tree) (l : List Tree) (r : Ran) (q : Rans) → Still t r → Stills l q → Stills (t ∷ l) (and_then r q)
unfolding and_then
and_then_still t l (over k) q a b = tt
and_then_still t l (done u s o n) (overs k) a b = tt
and_then_still t l (done u s o n) (dones m s' o' n') a b = λ e.
    let x : length s + o ≡ 0 = omega (arith, length-append s s') in
    let y : length s' + o' ≡ 0 = omega (arith, length-append s s') in
    ap (λ v. v ∷ m) (a x) ∙ ap (λ k. t ∷ k) (b y)

pub each_still : (f : Tree → Ran) → ((t : Tree) → WF t → Still t (f t)) → (l : List Tree) → WFl l → Stills l (each f l)
unfolding each
each_still f h [] w = λ e. refl
each_still f h (t ∷ l) w = and_then_still t l (f t) (each f l) (h t w.0) (each_still f h l w.1)

after_still : (t : Tree) (s : List ℕ) (o n : ℕ) (r : Ran) → (length s + o ≡ 0 → ⊥) → Still t (after s o n r)
unfolding after
after_still t s o n (over k) h = tt
after_still t s o n (done u s' o' n') h = λ e. absurd (h (omega (arith, length-append s s')))

gathered_still : (t : Tree) → WF t → (again : Tree → Ran) (r : Rans) → Stills (members t) r → Still t (gathered again t r)
unfolding gathered settle
gathered_still t w again (overs k) q = tt
gathered_still t w again (dones l s o n) q = go (eqb (length s + (o + (gather t l).1)) 0) refl
  where
    k : ℕ
    k = o + (gather t l).1

    go : (b : Bool) → eqb (length s + k) 0 ≡ b → Still t (settle again s k n (gather t l).0 b)
    go true e = λ z.
        let n : length s + k ≡ 0 = eqb-true (length s + k) 0 e in
        let same : l ≡ members t = q (omega arith) in
        let none : (gather t (members t)).1 ≡ 0 = subst (λ m. (gather t m).1 ≡ 0) same (omega arith) in
        ap (λ m. (gather t m).0) same ∙ gather_same t w none
    go false e = after_still t s k n (again (gather t l).0) (eqb-false (length s + k) 0 e)

visit_still : (again : Tree → Ran) → ((u : Tree) → WF u → Still u (again u)) → (t : Tree) → WF t → (a : Asked) → Still t (visit again t a)
unfolding visit
visit_still again h t w (step k u) = after_still t (k ∷ []) 0 0 (again u) (λ e. omega arith)
visit_still again h t w out_of_range = tt
visit_still again h t w no_rule = gathered_still t w again (each again (members t)) (each_still again h (members t) (members_wf t w))

tried_still : (t : Tree) (r : Ran) → Still t r → Still t (tried r)
unfolding tried after
tried_still t (over k) h = tt
tried_still t (done u s o n) h = λ e. h (omega arith)

pub run_still : (rs : List Rule) (n : ℕ) (t : Tree) → WF t → Still t (run rs n t)
unfolding run
run_still rs zero t w = λ e. refl
run_still rs (suc n) t w = tried_still t _ (visit_still (λ u. run rs n u) (run_still rs n) t w (ask rs t))

-- ---- a run with fuel enough ends in a tree that admits none
module _ (rs : List Rule) where
  abbrev pub Ended : Ran → Type 0
  Ended (done u s o n) = AdmitsNone rs u
  Ended (over k) = Unit {0}

  abbrev pub Endeds : Rans → Type 0
  Endeds (dones l s o n) = AllAdmitNone rs l
  Endeds (overs k) = Unit {0}

  after_ended : (s : List ℕ) (o n : ℕ) (r : Ran) → Ended r → Ended (after s o n r)
  unfolding after
  after_ended s o n (over k) h = tt
  after_ended s o n (done u s' o' n') h = h

  and_then_ended : (r : Ran) (q : Rans) → Ended r → Endeds q → Endeds (and_then r q)
  unfolding and_then
  and_then_ended (over k) q a b = tt
  and_then_ended (done u s o n) (overs k) a b = tt
  and_then_ended (done u s o n) (dones m s' o' n') a b = and_more a b

  pub each_ended : (f : Tree → Ran) (b : ℕ) → ((t : Tree) → WF t → weight t < b → Ended (f t))
      → (l : List Tree) → WFl l → total weight l < b → Endeds (each f l)
  unfolding each total
  each_ended f b h [] v w = no_more
  each_ended f b h (t ∷ l) v w = and_then_ended (f t) (each f l) (h t v.0 (omega arith)) (each_ended f b h l v.1 (omega arith))

  -- nothing changed and nothing opened: the gathered node is the node, and admits none; else the driver begins again
  gathered_ended : (t : Tree) → WF t → (again : Tree → Ran) → ask rs t ≡ no_rule
      → ((u : Tree) → WF u → weight u < weight t → Ended (again u))
      → (r : Rans) → RunsKept (members t) r → Stills (members t) r → Endeds r → Ended (gathered again t r)
  unfolding gathered settle openings_at
  gathered_ended t v again a h (overs k) p q f = tt
  gathered_ended t v again a h (dones l s o n) p q f = go (eqb (length s + (o + (gather t l).1)) 0) refl
    where
      u : Tree
      u = (gather t l).0

      k : ℕ
      k = o + (gather t l).1

      go : (b : Bool) → eqb (length s + k) 0 ≡ b → Ended (settle again s k n u b)
      go true e =
          let n : length s + k ≡ 0 = eqb-true (length s + k) 0 e in
          let same : l ≡ members t = q (omega arith) in
          let none : (gather t (members t)).1 ≡ 0 = subst (λ m. (gather t m).1 ≡ 0) same (omega arith) in
          let back : u ≡ t = ap (λ m. (gather t m).0) same ∙ gather_same t v none in
          subst (AdmitsNone rs) (sym back) (admits_none a none (subst (AllAdmitNone rs) same f))
      go false e = after_ended s k n (again u) (h u (gathered_tree t l s o n v p).0 (gathered_lighter t l s o n v p e))

  module _ (gs : Goods rs) where
    visit_ended : (again : Tree → Ran) (t : Tree) → WF t → ((u : Tree) → WF u → weight u < weight t → Ended (again u))
        → ((u : Tree) → WF u → RunKept u (again u)) → ((u : Tree) → WF u → Still u (again u))
        → (a : Asked) → ask rs t ≡ a → AskedKept t a → Ended (visit again t a)
    unfolding visit
    visit_ended again t v h kept still (step k u) e p = after_ended (k ∷ []) 0 0 (again u) (h u p.0 (omega (arith, p.1.lighter)))
    visit_ended again t v h kept still out_of_range e p = tt
    visit_ended again t v h kept still no_rule e p =
        gathered_ended t v again e h (each again (members t))
        (each_kept again kept (members t) (members_wf t v))
        (each_still again still (members t) (members_wf t v))
        (each_ended again (weight t) h (members t) (members_wf t v) (members_lighter t))

    pub run_ended : (n : ℕ) (t : Tree) → WF t → weight t ≤ n → Ended (run rs n t)
    unfolding run tried
    run_ended zero t v w = absurd (omega (arith, weight_pos t))
    run_ended (suc n) t v w =
        after_ended [] 0 1 _
        (visit_ended (λ u. run rs n u) t v (λ u x h. run_ended n u x (omega arith)) (λ u x. run_kept gs n u x) (run_still rs n)
        (ask rs t) refl (ask_kept gs t v))

    -- "the output admits no rule and no opening"
    pub simplify_ended : (t : Tree) → WF t → Ended (simplify rs t)
    unfolding simplify
    simplify_ended t v = run_ended (weight t) t v (omega arith)

-- ---- a tree that admits none is finished at once: each of its records is asked once
module _ (again : Tree → Ran) where
  finished_visit : (t : Tree) (n : ℕ) → WF t → openings_at t ≡ 0 → each again (members t) ≡ dones (members t) [] 0 n
      → visit again t no_rule ≡ done t [] 0 n
  unfolding visit gathered settle openings_at
  finished_visit t n w o e =
      let k : ℕ = 0 + (gather t (members t)).1 in
      let z : 0 + k ≡ 0 = omega (arith, o) in
      ap (gathered again t) e
      ∙ ap (settle again [] k n (gather t (members t)).0) (eq-eqb (0 + k) 0 z)
      ∙ ap (λ u. done u [] 0 n) (gather_same t w o)

node_records : (t : Tree) → suc (total records (members t)) ≡ records t
unfolding members total records
node_records (integer μ z) = refl
node_records (symbol μ s) = refl
node_records (sum μ f) = omega (arith, recordses_list f)
node_records (product μ f) = omega (arith, recordses_list f)
node_records (power μ b ξ e) = omega arith

mutual
  unfolding run each and_then total tried after

  pub run_finished : {rs : List Rule} {t : Tree} → AdmitsNone rs t → WF t → (n : ℕ) → weight t ≤ n → run rs n t ≡ done t [] 0 (records t)
  run_finished {rs} {t} (admits_none a o ms) w zero h = absurd (omega (arith, weight_pos t))
  run_finished {rs} {t} (admits_none a o ms) w (suc n) h =
      ap (λ (x : Asked). tried (visit (λ u. run rs n u) t x)) a
      ∙ ap tried (finished_visit (λ u. run rs n u) t (total records (members t)) w o (each_finished ms (members_wf t w) n (omega (arith, members_lighter t))))
      ∙ ap (done t [] 0) (omega (arith, node_records t))

  pub each_finished : {rs : List Rule} {l : List Tree} → AllAdmitNone rs l → WFl l → (n : ℕ) → total weight l ≤ n
      → each (λ u. run rs n u) l ≡ dones l [] 0 (total records l)
  each_finished no_more w n h = refl
  each_finished {rs} (and_more {t = t} {l = l} x hs) w n h =
      ap (λ r. and_then r (each (λ u. run rs n u) l)) (run_finished x w.0 n (omega arith))
      ∙ ap (and_then (done t [] 0 (records t))) (each_finished hs w.1 n (omega arith))
