-- Runs of members, and what a pass makes of them. The members are gathered one by one: what is gathered of a list is what is
-- gathered of its first tree, and then of the rest. A pass then ends as the driver's visit does: refused, finished where nothing
-- changed, or begun again.
use Prim.Native.Nat.{ℕ, ◌+◌, ◌≤◌, ◌<◌}
use mathlib.Core.Path.{◌≡◌, refl, sym, ap, ◌∙◌, subst}
use mathlib.Core.Bool.{Bool, true, false, cond}
use mathlib.Core.List.{List, [], ◌∷◌, ◌++◌, append_assoc, append-nil}
use mathlib.Core.Option.{Option, none, some}
use native.Mathlib.Omega.{arith}
use native.Mathlib.Nat.{zero-add}
use lib.ListN.{length, length-append}
use lib.Dec.{eqb}
use borrow.Author.Tests.{eq-eqb, ne_eqb}
use Rattle.paper.specs.Tree.{Tree, integer, symbol, sum, product, power, weight}
use Rattle.paper.specs.WellFormed.{WF}
use Rattle.paper.specs.Rules.{edition_one, edition_two, rules_of, add_zero, combine_like_terms, multiply_zero, multiply_one, combine_like_factors}
use Rattle.paper.specs.Rules.{power_one, power_constant, power_power, on_sum_members, on_product_members, on_power_parts}
use Rattle.paper.specs.Driver.{no_rule, step, out_of_range, ask, Ran, done, over, Rans, dones, overs, after, tried, and_then, each, members}
use Rattle.paper.specs.Driver.{open_one, opened, gather, settle, gathered, visit, simplify}
use Rattle.paper.proofs.EditionTwo.{edition_good}
use Rattle.paper.proofs.GatherLaws.{members_wf, opened_none}
use Rattle.paper.proofs.FinishedLaws.{Still, Stills, each_still, run_still}
use Rattle.paper.proofs.DriverLaws.{RunKept, RunsKept, AskedKept, ask_kept, each_kept, gathered_tree, run_kept}
use Rattle.paper.proofs.Simplified.{edition_visits}
use Rattle.driver.specs.Driven.{kind_number, inside, opened_runs, passed, closed_over}
use Rattle.driver.specs.Paused.{before}

-- the driver of an edition
abbrev pub drives : ℕ → Tree → Ran
drives ed = simplify (rules_of ed)

-- no rule of either edition is on a leaf
pub no_rule_on : (ed : ℕ) (t : Tree) → kind_number t < 2 → ask (rules_of ed) t ≡ no_rule
unfolding ask rules_of edition_one edition_two add_zero combine_like_terms multiply_zero multiply_one combine_like_factors power_one
    power_constant power_power on_sum_members on_product_members on_power_parts kind_number
no_rule_on ed = go (eqb ed 2)
  where
    go : (x : Bool) (t : Tree) → kind_number t < 2 → ask (cond x edition_two edition_one) t ≡ no_rule
    go true (integer μ z) h = refl
    go false (integer μ z) h = refl
    go true (symbol μ s) h = refl
    go false (symbol μ s) h = refl
    go x (sum μ f) h = absurd (omega arith)
    go x (product μ f) h = absurd (omega arith)
    go x (power μ b ξ e) h = absurd (omega arith)

-- ---- members gathered before others
-- what was gathered, and then what follows it
unfoldable pub joined : Rans → Rans → Rans
joined (overs k) r = overs k
joined (dones g ks o τ) r = before g ks o τ r

pub same_dones : {l m : List Tree} {s t : List ℕ} {o n τ υ : ℕ} → l ≡ m → s ≡ t → o ≡ n → τ ≡ υ → dones l s o τ ≡ dones m t n υ
same_dones a b c d = cc

pub before_none : (r : Rans) → before [] [] 0 0 r ≡ r
unfolding before
before_none (overs k) = ap overs (zero-add k)
before_none (dones l s n τ) = same_dones refl refl (zero-add n) (zero-add τ)

pub before_joined : (g : List Tree) (ks : List ℕ) (o τ : ℕ) (h : List Tree) (js : List ℕ) (n υ : ℕ) (r : Rans)
    → before g ks o τ (before h js n υ r) ≡ before (g ++ h) (ks ++ js) (o + n) (τ + υ) r
unfolding before
before_joined g ks o τ h js n υ (overs k) = ap overs (omega (arith, length-append ks js))
before_joined g ks o τ h js n υ (dones l s m φ) =
    same_dones (sym (append_assoc g h l)) (sym (append_assoc ks js s)) (omega arith) (omega arith)

module _ (ins : Tree → Option (List Tree)) where
  open_first : (u : Tree) (x : Option (List Tree)) (r : List Tree × ℕ)
      → ((open_one x u r).0 ≡ (open_one x u ([], 0)).0 ++ r.0) × ((open_one x u r).1 ≡ (open_one x u ([], 0)).1 + r.1)
  unfolding open_one
  open_first u none r = (refl, omega arith)
  open_first u (some l) r = (ap (λ m. m ++ r.0) (sym (append-nil l)), omega arith)

  one_first : (a : Ran) (r : Rans) → opened_runs ins (and_then a r) ≡ joined (opened_runs ins (and_then a (dones [] [] 0 0))) (opened_runs ins r)
  unfolding opened_runs and_then joined before opened
  one_first (over k) r = refl
  one_first (done u s o τ) (overs k) = ap (λ (x : List ℕ). overs (length x + k)) (sym (append-nil s))
  one_first (done u s o τ) (dones l s' o' τ') =
      let f = open_first u (ins u) (opened ins l) in
      let f1 = f.1 in
      same_dones f.0 (ap (λ (x : List ℕ). x ++ s') (sym (append-nil s))) (omega arith) (omega arith)

  -- gathering the runs of a list: those of its first tree, and then the rest
  pub gather_first : (ed : ℕ) (t : Tree) (l : List Tree)
      → opened_runs ins (each (drives ed) (t ∷ l)) ≡ joined (opened_runs ins (each (drives ed) (t ∷ []))) (opened_runs ins (each (drives ed) l))
  unfolding each
  gather_first ed t l = one_first (drives ed t) (each (drives ed) l)

  pub gather_none : (ed : ℕ) → opened_runs ins (each (drives ed) []) ≡ dones [] [] 0 0
  unfolding opened_runs each opened
  gather_none ed = refl

opened_nothing : (ins : Tree → Option (List Tree)) → ((t : Tree) → ins t ≡ none) → (l : List Tree) → opened ins l ≡ (l, 0)
unfolding opened open_one
opened_nothing ins h [] = refl
opened_nothing ins h (t ∷ l) = ap (λ x. open_one x t (opened ins l)) (h t) ∙ ap (λ (r : List Tree × ℕ). (t ∷ r.0, r.1)) (opened_nothing ins h l)

-- ---- a pass, by what its members are gathered to
unfoldable pub closed_runs : Tree → Rans → Ran
closed_runs t (overs k) = over k
closed_runs t (dones g s o τ) = done (closed_over t g) s o τ

still : (k : ℕ) (u : Tree) (s : List ℕ) (o τ : ℕ) (l : List Tree) → opened (inside k) l ≡ (l, 0)
    → done u s (o + 0) τ ≡ done u s (o + (opened (inside k) l).1) τ
still k u s o τ l e = ap (λ (r : List Tree × ℕ). done u s (o + r.1) τ) (sym e)

pub pass_closed : (t : Tree) (r : Rans) → passed t r ≡ closed_runs t (opened_runs (inside (kind_number t)) r)
unfolding passed closed_runs opened_runs gather closed_over kind_number inside
pass_closed t (overs k) = refl
pass_closed (integer μ z) (dones l s o τ) = still 0 (integer μ z) s o τ l (opened_nothing (inside 0) (λ t. refl) l)
pass_closed (symbol μ v) (dones l s o τ) = still 1 (symbol μ v) s o τ l (opened_nothing (inside 1) (λ t. refl) l)
pass_closed (sum μ f) (dones l s o τ) = refl
pass_closed (product μ f) (dones l s o τ) = refl
pass_closed (power μ b ξ e) (dones l s o τ) =
    ap (λ (r : List Tree × ℕ). done (closed_over (power μ b ξ e) r.0) s (o + r.1) τ) (sym (opened_nothing (inside 4) (λ t. refl) l))

-- ---- what a pass keeps, and how the visit goes on from it
pub drives_kept : (ed : ℕ) (t : Tree) → WF t → RunKept t (drives ed t)
unfolding simplify
drives_kept ed t w = run_kept (edition_good ed) (weight t) t w

-- members that are run with no step, and none of them opened, come back as they were
drives_still : (ed : ℕ) (t : Tree) → WF t → Still t (drives ed t)
unfolding simplify
drives_still ed t w = run_still (rules_of ed) (weight t) t w

opened_still : (ins : Tree → Option (List Tree)) (l : List Tree) (r : Rans) → Stills l r → (g : List Tree) (ks : List ℕ) (o τ : ℕ)
    → opened_runs ins r ≡ dones g ks o τ → length ks + o ≡ 0 → g ≡ l
unfolding opened_runs
opened_still ins l (overs k) h g ks o τ e z = absurd (let x : ◌≡◌ {A = ℕ} 0 1 = cc in omega arith)
opened_still ins l (dones m s n υ) h g ks o τ e z =
    let trees : (opened ins m).0 ≡ g = cc in
    let steps : s ≡ ks = cc in
    let openings : n + (opened ins m).1 ≡ o = cc in
    let long : length s ≡ length ks = ap length steps in
    sym trees ∙ opened_none ins m (omega arith) ∙ h (omega arith)

pub members_still : (ed : ℕ) (ins : Tree → Option (List Tree)) (t : Tree) → WF t → (g : List Tree) (ks : List ℕ) (o τ : ℕ)
    → opened_runs ins (each (drives ed) (members t)) ≡ dones g ks o τ → length ks + o ≡ 0 → g ≡ members t
members_still ed ins t w = opened_still ins (members t) (each (drives ed) (members t)) (each_still (drives ed) (drives_still ed) (members t) (members_wf t w))

passed_kept : (t : Tree) → WF t → (r : Rans) → RunsKept (members t) r → RunKept t (passed t r)
unfolding passed
passed_kept t w (overs k) h = tt
passed_kept t w (dones l s o τ) h = gathered_tree t l s o τ w h

pub pass_kept : (ed : ℕ) (t : Tree) → WF t → RunKept t (passed t (each (drives ed) (members t)))
pass_kept ed t w = passed_kept t w (each (drives ed) (members t)) (each_kept (drives ed) (drives_kept ed) (members t) (members_wf t w))

abbrev concluded : ℕ → Ran → Ran
concluded ed (over k) = over k
concluded ed (done u s o τ) = settle (drives ed) s o τ u (eqb (length s + o) 0)

gathered_passed : (ed : ℕ) (t : Tree) (r : Rans) → gathered (drives ed) t r ≡ concluded ed (passed t r)
unfolding gathered passed settle
gathered_passed ed t (overs k) = refl
gathered_passed ed t (dones l s o τ) = refl

pub after_none : (r : Ran) → after [] 0 0 r ≡ r
unfolding after
after_none (over k) = ap over (zero-add k)
after_none (done u s o τ) = ap (λ i. done u s i (0 + τ)) (zero-add o) ∙ ap (done u s o) (zero-add τ)

pub after_after : (s : List ℕ) (o τ : ℕ) (s' : List ℕ) (o' τ' : ℕ) (r : Ran)
    → after s o τ (after s' o' τ' r) ≡ after (s ++ s') (o + o') (τ + τ') r
unfolding after
after_after s o τ s' o' τ' (over k) = ap over (omega (arith, length-append s s'))
after_after s o τ s' o' τ' (done u s'' o'' τ'') =
    let a : s ++ (s' ++ s'') ≡ (s ++ s') ++ s'' = sym (append_assoc s s' s'') in
    let b : o + (o' + o'') ≡ o + o' + o'' = omega arith in
    let c : τ + (τ' + τ'') ≡ τ + τ' + τ'' = omega arith in
    cc

-- where a node was asked and then its members were run, the tries are the members' and its own
asked_before : (s : List ℕ) (o τ : ℕ) (r : Ran) → tried (after s o τ r) ≡ after s o (τ + 1) r
unfolding tried
asked_before s o τ r =
    after_after [] 0 1 s o τ r ∙ ap (λ i. after s i (1 + τ) r) (zero-add o) ∙ ap (λ i. after s o i r) (omega arith)

module _ (ed : ℕ) (t : Tree) (w : WF t) where
  pub visit_step : (k : ℕ) (u : Tree) → ask (rules_of ed) t ≡ step k u → drives ed t ≡ after (k ∷ []) 0 1 (drives ed u)
  unfolding visit
  visit_step k u e = edition_visits ed t w ∙ ap (λ a. tried (visit (drives ed) t a)) e ∙ asked_before (k ∷ []) 0 0 (drives ed u)

  pub visit_over : ask (rules_of ed) t ≡ out_of_range → drives ed t ≡ over 0
  unfolding visit tried after
  visit_over e = edition_visits ed t w ∙ ap (λ a. tried (visit (drives ed) t a)) e

  module _ (e : ask (rules_of ed) t ≡ no_rule) where
    visit_pass : drives ed t ≡ tried (concluded ed (passed t (each (drives ed) (members t))))
    unfolding visit
    visit_pass =
        edition_visits ed t w ∙ ap (λ a. tried (visit (drives ed) t a)) e ∙ ap tried (gathered_passed ed t (each (drives ed) (members t)))

    pub pass_over : (k : ℕ) → passed t (each (drives ed) (members t)) ≡ over k → drives ed t ≡ over k
    unfolding tried after
    pass_over k h = visit_pass ∙ ap (λ r. tried (concluded ed r)) h ∙ ap over (zero-add k)

    module _ (u : Tree) (s : List ℕ) (o τ : ℕ) (h : passed t (each (drives ed) (members t)) ≡ done u s o τ) where
      pub pass_done : length s + o ≡ 0 → drives ed t ≡ done u [] 0 (τ + 1)
      unfolding settle tried after
      pass_done z =
          visit_pass ∙ ap (λ r. tried (concluded ed r)) h ∙ ap (λ b. tried (settle (drives ed) s o τ u b)) (eq-eqb (length s + o) 0 z)
          ∙ ap (done u [] 0) (omega arith)

      pub pass_again : 0 < length s + o → drives ed t ≡ after s o (τ + 1) (drives ed u)
      unfolding settle
      pass_again z =
          visit_pass ∙ ap (λ r. tried (concluded ed r)) h
          ∙ ap (λ b. tried (settle (drives ed) s o τ u b)) (ne_eqb (length s + o) 0 (λ x. omega arith)) ∙ asked_before s o τ (drives ed u)

-- a run that is done took a try
tried_one : (r : Ran) (u : Tree) (s : List ℕ) (o τ : ℕ) → tried r ≡ done u s o τ → 1 ≤ τ
unfolding tried after
tried_one (over k) u s o τ e = absurd (let z : ◌≡◌ {A = ℕ} 0 1 = cc in omega arith)
tried_one (done v s' o' τ') u s o τ e = let h : 1 + τ' ≡ τ = cc in omega arith

pub drives_tried : (ed : ℕ) (t : Tree) → WF t → (u : Tree) (s : List ℕ) (o τ : ℕ) → drives ed t ≡ done u s o τ → 1 ≤ τ
drives_tried ed t w u s o τ e = tried_one (visit (drives ed) t (ask (rules_of ed) t)) u s o τ (sym (edition_visits ed t w) ∙ e)

pub step_kept : (ed : ℕ) (t : Tree) → WF t → (k : ℕ) (u : Tree) → ask (rules_of ed) t ≡ step k u → WF u × (weight u + 1 ≤ weight t)
step_kept ed t w k u e =
    let h : AskedKept t (step k u) = subst (AskedKept t) e (ask_kept (edition_good ed) t w) in
    (h.0, h.1.lighter)

pub run_lighter : (t u : Tree) (s : List ℕ) (o τ : ℕ) (r : Ran) → RunKept t r → r ≡ done u s o τ → WF u × (length s + o + weight u ≤ weight t)
run_lighter t u s o τ r h e =
    let k : RunKept t (done u s o τ) = subst (RunKept t) e h in
    (k.0, omega (arith, k.1.lighter))
