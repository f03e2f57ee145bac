-- How many tries a run takes, over any list of rules that are good and shallow: at most the square of the weight going in, and more sharply n tries from
-- weight w take 4n + 3 ≤ 3w² + 4w. By induction on the fuel, first of trees that are quiet from level k + 1 on (QuietLaws), then of any tree:
-- a step loses weight, and costs one level of quietness at the most, since the rule is shallow;
-- where no rule applies, the members are driven. If they are finished, they take a try for each record and do not change, so that the node is begun again
-- only after an opening, which loses weight; else what is shown of runs holds of theirs;
-- and where the node is begun again, the members' results are finished: it is quiet from level 1 on, whatever it was before. That is why members are driven
-- in earnest once, and begun again at little cost.
-- (HalfSquares has the arithmetic.)
use Prim.Native.Nat.{ℕ, zero, suc, ◌+◌, ◌*◌, ◌≤◌, ◌<◌}
use mathlib.Core.Path.{◌≡◌, refl, sym, ap, ◌∙◌, subst}
use mathlib.Core.Bool.{Bool, true, false}
use mathlib.Core.List.{List, [], ◌∷◌}
use native.Mathlib.Omega.{arith}
use lib.ListN.{length}
use lib.Dec.{eqb}
use borrow.Author.Tests.{eqb-true, eqb-false}
use Rattle.paper.specs.Tree.{Tree, integer, symbol, sum, product, power, to_list, weight, records}
use Rattle.paper.specs.WellFormed.{WF, WFl}
use Rattle.paper.specs.Rules.{Rule}
use Rattle.paper.specs.Driver.{Asked, no_rule, step, out_of_range, ask, Ran, done, over, Rans, dones, overs, after, tried, and_then, each, members}
use Rattle.paper.specs.Driver.{gather, settle, gathered, visit, run, simplify}
use Rattle.paper.specs.Good.{Goods}
use Rattle.paper.specs.Shallow.{Each, Shallows}
use Rattle.paper.proofs.Value.{total, weight_pos}
use Rattle.paper.proofs.WFLaws.{count_list}
use Rattle.paper.proofs.GatherLaws.{members_wf, kepts_length, gather_same}
use Rattle.paper.proofs.DriverLaws.{RunKept, RunsKept, AskedKept, ask_kept, each_kept, gathered_tree, run_kept}
use Rattle.paper.proofs.Fuel.{members_lighter, gathered_lighter}
use Rattle.paper.proofs.FinishedLaws.{Stills, each_still, run_still, Endeds, each_ended, run_ended, each_finished}
use Rattle.paper.proofs.EncodeLaws.{records_weight}
use Rattle.paper.proofs.TryLaws.{gather_weight, kepts_lighter}
use Rattle.paper.proofs.QuietLaws.{Quiet, each_of_all, all_of_each, quiet_goes, AskedShallow, ask_shallow, gather_under}
use Rattle.paper.proofs.HalfSquares.{Inside, Members, beside_inside, step_inside, still_inside, again_inside}
use Rattle.paper.proofs.HalfSquares.{Whole, Wholes, beside_whole, step_whole, still_whole, again_whole, two_squares, three_quarters, square}

-- I holds of the weight that a run ends with, and of its tries; M of the members' results, and of their tries
abbrev RunHas : (ℕ → ℕ → Type 0) → Ran → Type 0
RunHas I (done u s o n) = I (weight u) n
RunHas I (over j) = Unit {0}

abbrev RunsHave : (List Tree → ℕ → Type 0) → Rans → Type 0
RunsHave M (dones l s o n) = M l n
RunsHave M (overs j) = Unit {0}

after_has : (I : ℕ → ℕ → Type 0) (s : List ℕ) (o n : ℕ) (r : Ran) → RunHas (λ v m. I v (1 + (n + m))) r → RunHas I (tried (after s o n r))
unfolding after tried
after_has I s o n (over j) h = tt
after_has I s o n (done u s' o' m) h = h

run_map : {I J : ℕ → ℕ → Type 0} → ((v n : ℕ) → I v n → J v n) → (r : Ran) → RunHas I r → RunHas J r
run_map h (over j) p = tt
run_map h (done u s o n) p = h (weight u) n p

-- of a run on t that is quiet from level k + 1 on
abbrev pub RunInside : ℕ → Tree → Ran → Type 0
RunInside k t r = RunHas (λ v n. Inside (weight t) v k n) r

-- of a run on any t
abbrev pub RunWhole : Tree → Ran → Type 0
RunWhole t r = RunHas (λ v n. Whole (weight t) v n) r

module _ {rs : List Rule} (gs : Goods rs) (hs : Shallows rs) where
  -- ---- once the members have been driven, whatever is shown of the run
  module _ (n : ℕ) (t : Tree) (w : WF t) (fuel : weight t ≤ suc n)
      (inside : (u : Tree) (k : ℕ) → WF u → weight u ≤ n → Quiet rs (suc k) u → RunInside k u (run rs n u))
      (I : ℕ → ℕ → Type 0) (M : List Tree → ℕ → Type 0) (still : (m : ℕ) → M (members t) m → I (weight t) (1 + m))
      (begun : (l : List Tree) (m v j : ℕ) → total weight l ≤ total weight (members t) → weight (gather t l).0 < weight t
      → weight (gather t l).0 ≤ suc (total weight l) → M l m → Inside (weight (gather t l).0) v 0 j → I v (1 + (m + j))) where
    abbrev again : Tree → Ran
    again u = run rs n u

    gathered_has : (r : Rans) → RunsKept (members t) r → Stills (members t) r → Endeds rs r → RunsHave M r → RunHas I (tried (gathered again t r))
    unfolding gathered settle tried after
    gathered_has (overs j) p q f h = tt
    gathered_has (dones l s o m) p q f h = go (eqb (length s + (o + (gather t l).1)) 0) refl
      where
        u : Tree
        u = (gather t l).0

        k : ℕ
        k = o + (gather t l).1

        go : (b : Bool) → eqb (length s + k) 0 ≡ b → RunHas I (tried (settle again s k m u b))
        go true e =
            let none : length s + k ≡ 0 = eqb-true (length s + k) 0 e in
            let same : l ≡ members t = q (omega arith) in
            let shut : (gather t (members t)).1 ≡ 0 = subst (λ i. (gather t i).1 ≡ 0) same (omega arith) in
            let back : u ≡ t = ap (λ i. (gather t i).0) same ∙ gather_same t w shut in
            subst (λ i. I (weight i) (1 + m)) (sym back) (still m (subst (λ i. M i m) same h))
        go false e =
            let lighter : weight u < weight t = gathered_lighter t l s o m w p e in
            let changed : 1 ≤ length s + o + (gather t l).1 = omega (arith, eqb-false (length s + k) 0 e) in
            let quiet : Quiet rs 1 u = gather_under (quiet_goes hs 0) t l (kepts_length p.1) (each_of_all f) in
            let small : weight u ≤ suc (total weight l) = omega (arith, gather_weight t l (length s + o) p.1 changed) in
            after_has I s k m (again u)
            (run_map (λ v j. begun l m v j (kepts_lighter p.1) lighter small h) (again u)
            (inside u 0 (gathered_tree t l s o m w p).0 (omega arith) quiet))

    members_driven : RunsHave M (each again (members t)) → RunHas I (tried (gathered again t (each again (members t))))
    members_driven =
        let light : total weight (members t) < weight t = members_lighter t in
        gathered_has (each again (members t))
        (each_kept again (λ u v. run_kept gs n u v) (members t) (members_wf t w))
        (each_still again (run_still rs n) (members t) (members_wf t w))
        (each_ended rs again (weight t) (λ u v l. run_ended rs gs n u v (omega arith)) (members t) (members_wf t w) light)

  -- ---- of trees that are quiet from a level on
  total_records : (l : List Tree) → total records l ≤ total weight l
  unfolding total
  total_records [] = omega arith
  total_records (t ∷ l) = omega (arith, records_weight t, total_records l)

  abbrev Inner : ℕ → List Tree → List Tree → ℕ → Type 0
  Inner k l m n = Members k (total weight l) (total weight m) n

  and_inside : (k : ℕ) (t : Tree) (l : List Tree) (r : Ran) (q : Rans) → RunKept t r → RunsKept l q → RunInside k t r → RunsHave (Inner (suc k) l) q
      → RunsHave (Inner (suc k) (t ∷ l)) (and_then r q)
  unfolding and_then total
  and_inside k t l (over j) q a b x y = tt
  and_inside k t l (done u s o n) (overs j) a b x y = tt
  and_inside k t l (done u s o n) (dones m s' o' n') a b x y =
      beside_inside (weight t) (weight u) n (total weight l) (total weight m) n' k (omega (arith, a.1.lighter)) (kepts_lighter b.1) x y

  module _ (n : ℕ) (inside : (u : Tree) (k : ℕ) → WF u → weight u ≤ n → Quiet rs (suc k) u → RunInside k u (run rs n u)) where
    each_inside : (k : ℕ) (l : List Tree) → WFl l → total weight l ≤ n → Each (Quiet rs k) l → RunsHave (Inner k l) (each (λ u. run rs n u) l)
    unfolding each total
    each_inside zero l w e q = rw (each_finished (all_of_each rs l q) w n e) (total_records l)
    each_inside (suc k) [] w e q = omega arith
    each_inside (suc k) (t ∷ l) w e q =
        and_inside k t l (run rs n t) (each (λ u. run rs n u) l) (run_kept gs n t w.0)
        (each_kept (λ u. run rs n u) (λ u v. run_kept gs n u v) l w.1)
        (inside t k w.0 (omega arith) q.0) (each_inside (suc k) l w.1 (omega arith) q.1)

    visit_inside : (t : Tree) (k : ℕ) → WF t → weight t ≤ suc n → Quiet rs (suc k) t → (a : Asked) → AskedKept t a → AskedShallow (Quiet rs k) a
        → RunInside k t (tried (visit (λ u. run rs n u) t a))
    unfolding visit tried after
    visit_inside t k w fuel q (step j u) p h =
        let light : weight u < weight t = omega (arith, p.1.lighter) in
        after_has (λ v i. Inside (weight t) v k i) (j ∷ []) 0 0 (run rs n u)
        (run_map (λ v m. step_inside (weight t) (weight u) v k m light) (run rs n u) (inside u (suc k) p.0 (omega arith) h))
    visit_inside t k w fuel q out_of_range p h = tt
    visit_inside t k w fuel q no_rule p h =
        let light : total weight (members t) < weight t = members_lighter t in
        members_driven n t w fuel inside (λ v i. Inside (weight t) v k i) (Inner k (members t))
        (λ m. still_inside (weight t) k (total weight (members t)) m light)
        (λ l m v j a b c. again_inside (weight t) k (total weight (members t)) (total weight l) m (weight (gather t l).0) v j light a b c)
        (each_inside k (members t) (members_wf t w) (omega arith) q)

  pub run_inside : (n : ℕ) (t : Tree) (k : ℕ) → WF t → weight t ≤ n → Quiet rs (suc k) t → RunInside k t (run rs n t)
  unfolding run
  run_inside zero t k w h q = absurd (omega (arith, weight_pos t))
  run_inside (suc n) t k w h q =
      visit_inside n (run_inside n) t k w h q (ask rs t) (ask_kept gs t w) (ask_shallow hs (Quiet rs k) (quiet_goes hs k) t q)

  -- ---- of any tree
  squared : Tree → ℕ
  squared t = weight t * weight t

  abbrev Outer : List Tree → List Tree → ℕ → Type 0
  Outer l m n = Wholes (length l) (total squared l) (total weight l) (total weight m) n

  and_whole : (t : Tree) (l : List Tree) (r : Ran) (q : Rans) → RunKept t r → RunsKept l q → RunWhole t r → RunsHave (Outer l) q
      → RunsHave (Outer (t ∷ l)) (and_then r q)
  unfolding and_then total squared
  and_whole t l (over j) q a b x y = tt
  and_whole t l (done u s o n) (overs j) a b x y = tt
  and_whole t l (done u s o n) (dones m s' o' n') a b x y =
      beside_whole (weight t) (weight u) n (length l) (total squared l) (total weight l) (total weight m) n'
      (omega (arith, a.1.lighter)) (kepts_lighter b.1) x y

  squares_small : (l : List Tree) → total squared l ≤ total weight l * total weight l
  unfolding total squared
  squares_small [] = omega arith
  squares_small (t ∷ l) = omega (arith, squares_small l)

  -- one member weighs at most all but one
  spread : (l : List Tree) → 2 ≤ length l → total squared l + 2 * total weight l ≤ total weight l * total weight l + 2
  unfolding total squared
  spread [] h = absurd (omega arith)
  spread (t ∷ []) h = absurd (omega arith)
  spread (t ∷ u ∷ l) h = two_squares (weight t) _ _ (weight_pos t) (omega (arith, weight_pos u)) (squares_small (u ∷ l))

  -- a node has two members or more, and a leaf none
  members_spread : (t : Tree) → WF t
      → total squared (members t) + 2 * total weight (members t) ≤ total weight (members t) * total weight (members t) + 3 * length (members t)
  unfolding members total
  members_spread (integer μ z) w = omega arith
  members_spread (symbol μ s) w = omega arith
  members_spread (sum μ f) w = let two : 2 ≤ length (to_list f) = omega (arith, count_list f, w.0) in omega (arith, spread (to_list f) two)
  members_spread (product μ f) w = let two : 2 ≤ length (to_list f) = omega (arith, count_list f, w.0) in omega (arith, spread (to_list f) two)
  members_spread (power μ b ξ e) w = omega (arith, spread (members (power μ b ξ e)) (omega arith))

  two_members : (t : Tree) (l : List Tree) → WF t → weight (gather t l).0 < weight t → 2 ≤ length (members t)
  unfolding members gather
  two_members (integer μ z) l w h = absurd (omega arith)
  two_members (symbol μ s) l w h = absurd (omega arith)
  two_members (sum μ f) l w h = omega (arith, count_list f, w.0)
  two_members (product μ f) l w h = omega (arith, count_list f, w.0)
  two_members (power μ b ξ e) l w h = omega arith

  module _ (n : ℕ) (whole : (u : Tree) → WF u → weight u ≤ n → RunWhole u (run rs n u)) where
    each_whole : (l : List Tree) → WFl l → total weight l ≤ n → RunsHave (Outer l) (each (λ u. run rs n u) l)
    unfolding each total
    each_whole [] w e = omega arith
    each_whole (t ∷ l) w e =
        and_whole t l (run rs n t) (each (λ u. run rs n u) l) (run_kept gs n t w.0)
        (each_kept (λ u. run rs n u) (λ u v. run_kept gs n u v) l w.1)
        (whole t w.0 (omega arith)) (each_whole l w.1 (omega arith))

    visit_whole : (t : Tree) → WF t → weight t ≤ suc n → (a : Asked) → AskedKept t a → RunWhole t (tried (visit (λ u. run rs n u) t a))
    unfolding visit tried after
    visit_whole t w fuel (step j u) p =
        let light : weight u < weight t = omega (arith, p.1.lighter) in
        after_has (λ v i. Whole (weight t) v i) (j ∷ []) 0 0 (run rs n u)
        (run_map (λ v m. step_whole (weight t) (weight u) v m light) (run rs n u) (whole u p.0 (omega arith)))
    visit_whole t w fuel out_of_range p = tt
    visit_whole t w fuel no_rule p =
        let light : total weight (members t) < weight t = members_lighter t in
        members_driven n t w fuel (run_inside n) (λ v i. Whole (weight t) v i) (Outer (members t))
        (λ m. still_whole (weight t) (length (members t)) (total squared (members t)) (total weight (members t)) m light (members_spread t w))
        (λ l m v j a b c.
        let two : 2 ≤ length (members t) = two_members t l w b in
        again_whole (weight t) (length (members t)) (total squared (members t)) (total weight (members t)) (total weight l) m (weight (gather t l).0) v j
        light a c two (spread (members t) two))
        (each_whole (members t) (members_wf t w) (omega arith))

  -- the run's law of tries, with fuel enough
  pub run_whole : (n : ℕ) (t : Tree) → WF t → weight t ≤ n → RunWhole t (run rs n t)
  unfolding run
  run_whole zero t w h = absurd (omega (arith, weight_pos t))
  run_whole (suc n) t w h = visit_whole n (run_whole n) t w h (ask rs t) (ask_kept gs t w)

  pub tries_three_quarters : (t u : Tree) (s : List ℕ) (o n : ℕ) → WF t → simplify rs t ≡ done u s o n
      → 4 * n + 3 ≤ 3 * (weight t * weight t) + 4 * weight t
  unfolding simplify
  tries_three_quarters t u s o n w e =
      three_quarters (weight t) (weight u) n (weight_pos u) (subst (RunWhole t) e (run_whole (weight t) t w (omega arith)))

  -- at most the square of the weight going in
  pub tries_square : (t u : Tree) (s : List ℕ) (o n : ℕ) → WF t → simplify rs t ≡ done u s o n → n ≤ weight t * weight t
  tries_square t u s o n w e = square (weight t) n (tries_three_quarters t u s o n w e)
