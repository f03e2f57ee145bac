-- The worthless simplifiers are turned away, each at the field that the paper names for it: one small table apiece that breaks
-- the field. The tables are the records of a tree (TableLaws), the lent areas have just the room that 6 asks for, and what the
-- simplifier makes of them is read off the cases of a call (CallLaws).
use Prim.Native.Nat.{ℕ, zero, suc, ◌+◌, ◌*◌, ◌≤◌, ◌<◌}
use mathlib.Core.Path.{◌≡◌, refl, sym, ap, ◌∙◌, subst}
use mathlib.Core.Bool.{Bool, true, false, cond}
use mathlib.Core.List.{List, [], ◌∷◌}
use mathlib.Core.Option.{some}
use mathlib.Core.Logic.{◌⊎◌, inl, inr}
use native.Mathlib.Omega.{arith}
use lib.ListN.{replicate, length-replicate}
use lib.IntN.{pos, negsuc}
use lib.Dec.{eqb, lit<, lit≤}
use borrow.Author.Tests.{eqb-true, eqb-false}
use Rattle.paper.specs.Limits.{is_limit, work_bytes}
use Rattle.paper.specs.Bytes.{Bytes}
use Rattle.paper.specs.Tree.{Tree, integer, symbol, sum, product, power, nil, cons, weight, value}
use Rattle.paper.specs.WellFormed.{WF}
use Rattle.paper.specs.Table.{encode, tree_of}
use Rattle.paper.specs.Verdict.{Verdict, accepted, refused}
use Rattle.paper.specs.Rules.{Rule, edition_one, edition_two, is_edition, rules_of}
use Rattle.paper.specs.Driver.{Ran, done, over, no_rule, step, out_of_range, ask, after, tried, members, simplify}
use Rattle.paper.specs.Admits.{openings_at, AdmitsNone, admits_none, AllAdmitNone, and_more}
use Rattle.paper.specs.Answers.{Lent, Answer, ran, judgement, cramped, refused_by, refusal, ran_answer, written, out_after, lent_after, simplified_by}
use Rattle.paper.specs.Demands.{Simplifier, result, Refuses, LeavesAlone, RunsOver, Follows, Lightens, Bounded, Finishes, KeepsValue, Accepted}
use Rattle.paper.specs.Takeover.{Room}
use Rattle.paper.specs.Worthless.{RefusesEverything, RefusesInForm, refuses_all, returns_zero, returns_input, first_pass, passes_once, root_only, stays_at_root}
use Rattle.paper.specs.Worthless.{one_step_more, one_opening_more, invents_steps, invents_openings, one_try_less, hides_tries, takes_cube}
use Rattle.paper.specs.WorthlessKinds.{Makes, ReturnsZero, ReturnsInput, StopsAfterPass, NeverEnters, Invents}
use Rattle.paper.proofs.LimitLaws.{limit_least, limit_small}
use Rattle.paper.proofs.EncodeLaws.{encode_bytes}
use Rattle.paper.proofs.TableLaws.{encode_weight, written_accepted}
use Rattle.paper.proofs.ReadLaws.{tree_of_written}
use Rattle.paper.proofs.CallLaws.{Call, is_turned_down, is_run, call, accepted_judgement, result_written, same_tree}
use Rattle.paper.proofs.JudgementLaws.{of_room}
use Rattle.paper.proofs.Computes.{trees_compute, driver_computes}

-- areas with just enough room for a weight
areas : ℕ → ℕ → Lent
areas lim w = record { out = replicate (16 * w) 0; steps = replicate w 0; work = replicate (work_bytes lim) 0 }

areas_room : (lim w : ℕ) → Room lim w (areas lim w)
unfolding areas
areas_room lim w =
    record {
      out_room = omega (arith, length-replicate {A = ℕ} (16 * w) 0);
      steps_room = omega (arith, length-replicate {A = ℕ} w 0);
      work_room = omega (arith, length-replicate {A = ℕ} (work_bytes lim) 0);
    }

-- in a known edition the table of a well-formed, light tree, with such areas, is accepted
module _ (lim ed : ℕ) (limited : is_limit lim ≡ true) (known : is_edition ed ≡ true) (t : Tree) (w : WF t) (light : weight t ≤ 16) where
  tree_accepted : judgement lim ed (encode t) (areas lim (weight t)) ≡ accepted
  tree_accepted =
      accepted_judgement lim ed (encode t) (areas lim (weight t)) limited known (written_accepted lim limited t w (omega (arith, limit_least lim limited)))
      (ap (λ n. cramped lim n (areas lim (weight t))) (encode_weight t) ∙ of_room lim (weight t) (areas lim (weight t)) (areas_room lim (weight t)))

-- ---- the tables: 1; a + (-1)*a, which takes two steps
one : Tree
one = integer 0 (pos 1)

one_wf : WF one
unfolding one
one_wf = (lit< tt, lit< tt)

one_light : weight one ≤ 16
unfolding one weight
one_light = lit≤ tt

difference : Tree
difference = sum 0 (cons (symbol 0 0) (cons (product 0 (cons (integer 0 (negsuc 0)) (cons (symbol 0 0) nil))) nil))

difference_wf : WF difference
unfolding difference trees_compute
difference_wf = (lit≤ tt, ((lit< tt, lit< tt), ((lit≤ tt, ((lit< tt, lit< tt), ((lit< tt, lit< tt), tt)), lit< tt), tt)), lit< tt)

difference_light : weight difference ≤ 16
unfolding difference weight
difference_light = lit≤ tt

-- what the first step makes of it
once : Tree
once = product 0 (cons (integer 0 (pos 0)) (cons (symbol 0 0) nil))

-- ---- what holds of the rules of both editions holds in each
in_each : (ed : ℕ) (P : List Rule → Type 0) → P edition_one → P edition_two → P (rules_of ed)
unfolding rules_of
in_each ed P p q = go (eqb ed 2)
  where
    go : (b : Bool) → P (cond b edition_two edition_one)
    go true = q
    go false = p

ran_one : (ed : ℕ) → simplify (rules_of ed) one ≡ done one [] 0 1
ran_one ed = in_each ed (λ rs. simplify rs one ≡ done one [] 0 1) (unfold one driver_computes in refl) (unfold one driver_computes in refl)

-- ---- the call of the table 1: what demand 2 says of it, and what a simplifier around a run answers
module _ (lim ed : ℕ) (limited : is_limit lim ≡ true) (known : is_edition ed ≡ true) where
  abbrev lent_one : Lent
  lent_one = areas lim (weight one)

  one_read : tree_of (encode one) ≡ some one
  one_read = tree_of_written one one_wf (omega (arith, one_light))

  one_accepted : judgement lim ed (encode one) lent_one ≡ accepted
  one_accepted = tree_accepted lim ed limited known one one_wf one_light

  follows_one : (f : Simplifier) → Follows lim ed f → (f (encode one) lent_one).answer ≡ ran_answer (weight one) (done one [] 0 1)
  unfolding ran_answer
  follows_one f k = (k (encode one) (encode_bytes one) lent_one one_accepted one one [] 0 1 one_read (ran_one ed)).0

  runs_one : (run : Tree → Ran) → (simplified_by lim ed run (encode one) lent_one).answer ≡ ran_answer (weight one) (run one)
  runs_one run = go (call lim ed run (encode one) lent_one (encode_bytes one))
    where
      go : Call lim ed run (encode one) lent_one → (simplified_by lim ed run (encode one) lent_one).answer ≡ ran_answer (weight one) (run one)
      go (is_turned_down d) = absurd (let z = ap (λ v. v.number) one_accepted in omega (arith, z, d.number))
      go (is_run r) = r.answer ∙ ap (λ y. ran_answer (weight y) (run y)) (same_tree r.holds.read one_read)

  -- one that tells of the driver's run what is not so falls to demand 2
  told_alike : (changed : Ran → Ran) (told : Answer → ℕ) → Follows lim ed (simplified_by lim ed (λ t. changed (simplify (rules_of ed) t)))
      → told (ran_answer (weight one) (done one [] 0 1)) ≡ told (ran_answer (weight one) (changed (done one [] 0 1)))
  told_alike changed told k =
      ap told
      (sym (follows_one _ k) ∙ runs_one (λ t. changed (simplify (rules_of ed) t)) ∙ ap (λ y. ran_answer (weight one) (changed y)) (ran_one ed))

  -- "Invented steps or openings fall to demand 2, since both are those of the driver."
  pub steps_are_refused : ¬ Follows lim ed (invents_steps lim ed)
  unfolding invents_steps one_step_more ran_answer
  steps_are_refused k = let z : ◌≡◌ {A = ℕ} 0 1 = told_alike one_step_more (λ y. y.steps_taken) k in omega arith

  pub openings_are_refused : ¬ Follows lim ed (invents_openings lim ed)
  unfolding invents_openings one_opening_more ran_answer
  openings_are_refused k = let z : ◌≡◌ {A = ℕ} 0 1 = told_alike one_opening_more (λ y. y.openings) k in omega arith

  -- and so does a hidden try
  pub tries_are_refused : ¬ Follows lim ed (hides_tries lim ed)
  unfolding hides_tries one_try_less ran_answer
  tries_are_refused k = let z : ◌≡◌ {A = ℕ} 1 0 = told_alike one_try_less (λ y. y.tries) k in omega arith

-- ---- "One that refuses everything: by the exact conditions of 1 to 6 in demand 1 and of 7 in demand 2." The table 1 is accepted, and
-- its run meets no integer outside the range.
module _ (lim ed : ℕ) (limited : is_limit lim ≡ true) (known : is_edition ed ≡ true) (f : Simplifier) where
  abbrev Refused : Verdict → Type 0
  Refused v = (f (encode one) (areas lim (weight one))).answer ≡ refused_by v

  not_but_7 : (v : Verdict) → 1 ≤ v.number → ¬ (v.number ≡ 7) → Refused v → ¬ Refuses lim ed f
  not_but_7 v h g e r =
      let j = (r (encode one) (encode_bytes one) (areas lim (weight one)) v h g).0 e in
      let z : 0 ≡ v.number = ap (λ v. v.number) (sym (one_accepted lim ed limited known) ∙ j) in
      omega arith

  not_by_7 : (p : ℕ) → Refused (refused 7 p) → ¬ RunsOver lim ed f
  not_by_7 p e r =
      let x = (r (encode one) (encode_bytes one) (areas lim (weight one)) p).0 e in
      let t : x.1.0 ≡ one = same_tree x.1.1 (one_read lim ed limited known) in
      no (sym (ran_one ed) ∙ sym (ap (simplify (rules_of ed)) t) ∙ x.1.2)
    where
      no : done one [] 0 1 ≡ over p → ⊥
      no e = let z : ◌≡◌ {A = ℕ} 0 1 = cc in omega arith

  pub refusing_in_form_is_refused : RefusesInForm f → (¬ Refuses lim ed f) ⊎ (¬ RunsOver lim ed f)
  refusing_in_form_is_refused h = go (h (encode one) (encode_bytes one) (areas lim (weight one)))
    where
      go : ((v : Verdict) × (1 ≤ v.number) × (¬ (v.number ≡ 7)) × Refused v) ⊎ ((p : ℕ) × Refused (refused 7 p))
          → (¬ Refuses lim ed f) ⊎ (¬ RunsOver lim ed f)
      go (inl x) = inl (not_but_7 x.0 x.1 x.2 x.3)
      go (inr x) = inr (not_by_7 x.0 x.1)

  -- whatever else it answers: demand 2 has an answer for this call
  pub refusing_is_refused : RefusesEverything f → ¬ Follows lim ed f
  unfolding ran_answer
  refusing_is_refused h k =
      omega (arith, h (encode one) (encode_bytes one) (areas lim (weight one)), ap (λ a. a.number) (follows_one lim ed limited known f k))

pub in_form_refuses : (f : Simplifier) → RefusesInForm f → RefusesEverything f
unfolding refused_by
in_form_refuses f h s b l = go (h s b l)
  where
    go : ((v : Verdict) × (1 ≤ v.number) × (¬ (v.number ≡ 7)) × ((f s l).answer ≡ refused_by v)) ⊎ ((p : ℕ) × ((f s l).answer ≡ refusal 7 p))
        → 1 ≤ (f s l).answer.number
    go (inl x) = omega (arith, x.1, ap (λ a. a.number) x.3)
    go (inr x) = omega (arith, ap (λ a. a.number) x.1)

-- always the same refusal: it refuses everything, and falls to demand 1 for all but 7, to demand 2 for 7
pub always_refuses : (k : ℕ) → 1 ≤ k → RefusesInForm (refuses_all k)
unfolding refuses_all
always_refuses k h s b l = go (eqb k 7) refl
  where
    go : (x : Bool) → eqb k 7 ≡ x
        → ((v : Verdict) × (1 ≤ v.number) × (¬ (v.number ≡ 7)) × (refusal k 0 ≡ refused_by v)) ⊎ ((p : ℕ) × (refusal k 0 ≡ refusal 7 p))
    go true e = inr (0, ap (λ n. refusal n 0) (eqb-true k 7 e))
    go false e = inl (refused k 0, h, eqb-false k 7 e, refl)

pub always_k_is_refused : (lim ed : ℕ) → is_limit lim ≡ true → is_edition ed ≡ true → (k : ℕ) → 1 ≤ k → ¬ (k ≡ 7) → ¬ Refuses lim ed (refuses_all k)
unfolding refuses_all
always_k_is_refused lim ed limited known k h g = not_but_7 lim ed limited known (refuses_all k) (refused k 0) h g refl

pub always_7_is_refused : (lim ed : ℕ) → is_limit lim ≡ true → is_edition ed ≡ true → ¬ RunsOver lim ed (refuses_all 7)
unfolding refuses_all
always_7_is_refused lim ed limited known = not_by_7 lim ed limited known (refuses_all 7) 0 refl

-- ---- a tree that admits a rule is no finished one, nor is one whose rule would leave the range, nor one with an opening
pub admits_a_rule : {rs : List Rule} (t u : Tree) (k : ℕ) → ask rs t ≡ step k u → ¬ AdmitsNone rs t
admits_a_rule t u k e (admits_none a o ms) = let z : step k u ≡ no_rule = sym e ∙ a in let y : ◌≡◌ {A = ℕ} 0 1 = cc in omega arith

pub admits_out_of_range : {rs : List Rule} (t : Tree) → ask rs t ≡ out_of_range → ¬ AdmitsNone rs t
admits_out_of_range t e (admits_none a o ms) = let z : out_of_range ≡ no_rule = sym e ∙ a in let y : ◌≡◌ {A = ℕ} 0 1 = cc in omega arith

pub admits_an_opening : {rs : List Rule} (t : Tree) → ¬ (openings_at t ≡ 0) → ¬ AdmitsNone rs t
admits_an_opening t e (admits_none a o ms) = e o

-- (a + a)^2: no rule applies to it, but step 2 to its base
twice : Tree
twice = sum 0 (cons (symbol 0 0) (cons (symbol 0 0) nil))

inside : Tree
inside = power 0 twice 0 2

-- ---- the same of any simplifier that does as they do. What such a one gives for the table of t is the table of u; so what demand 3 says
-- of its result is said of u.
module _ (lim ed : ℕ) (limited : is_limit lim ≡ true) (known : is_edition ed ≡ true) {P : Tree → Tree → Type 0} (f : Simplifier)
    (g : Makes lim ed P f) (t u : Tree) (p : P t u) where
  said_of : WF t → weight t ≤ 16 → WF u → weight u ≤ 16 → (Q : Tree → Tree → Type 0) → Accepted lim ed f (λ s l. Q) → Q t u
  said_of w h v k Q demand =
      let r = tree_of_written t w (omega arith) in
      let x = g (encode t) (encode_bytes t) (areas lim (weight t)) (tree_accepted lim ed limited known t w h) t u r p in
      let y = demand (encode t) (encode_bytes t) (areas lim (weight t)) x.0 t r in
      let e : y.0 ≡ u = same_tree y.1 (ap tree_of x.1 ∙ tree_of_written u v (omega arith)) in
      subst (Q t) e y.2

pub returning_zero_is_refused : (lim ed : ℕ) → is_limit lim ≡ true → is_edition ed ≡ true → (f : Simplifier) → ReturnsZero lim ed f → ¬ KeepsValue lim ed f
unfolding one trees_compute
returning_zero_is_refused lim ed limited known f g k =
    let x =
    said_of lim ed limited known f g one (integer 0 (pos 0)) refl one_wf one_light (lit< tt, lit< tt) (lit≤ tt)
    (λ t u. (ρ : ℕ → ℕ) → value u ρ ≡ value t ρ) k in
    let z : ◌≡◌ {A = ℕ} 0 1 = x (λ n. 0) in omega arith

module _ (lim ed : ℕ) (limited : is_limit lim ≡ true) (known : is_edition ed ≡ true) where
  first_step : ask (rules_of ed) difference ≡ step 2 once
  first_step =
      in_each ed (λ rs. ask rs difference ≡ step 2 once) (unfold difference once driver_computes in refl) (unfold difference once driver_computes in refl)

  pub returning_input_is_refused : (f : Simplifier) → ReturnsInput lim ed f → ¬ Finishes lim ed f
  returning_input_is_refused f g k =
      admits_a_rule difference once 2 first_step
      (said_of lim ed limited known f g difference difference refl difference_wf difference_light difference_wf difference_light
      (λ t u. AdmitsNone (rules_of ed) u) k)

  second_step : ask (rules_of ed) once ≡ step 3 (integer 0 (pos 0))
  second_step = in_each ed (λ rs. ask rs once ≡ step 3 (integer 0 (pos 0))) (unfold once driver_computes in refl) (unfold once driver_computes in refl)

  passed_once : first_pass (rules_of ed) (weight difference) difference ≡ done once (2 ∷ []) 0 1
  passed_once =
      in_each ed (λ rs. first_pass rs (weight difference) difference ≡ done once (2 ∷ []) 0 1)
      (unfold difference once first_pass driver_computes trees_compute in refl)
      (unfold difference once first_pass driver_computes trees_compute in refl)

  once_wf : WF once
  once_wf = unfold once trees_compute in (lit≤ tt, ((lit< tt, lit< tt), ((lit< tt, lit< tt), tt)), lit< tt)

  once_light : weight once ≤ 16
  once_light = unfold once weight in (lit≤ tt)

  pub stopping_is_refused : (f : Simplifier) → StopsAfterPass lim ed f → ¬ Finishes lim ed f
  stopping_is_refused f g k =
      admits_a_rule once (integer 0 (pos 0)) 3 second_step
      (said_of lim ed limited known f g difference once
      (2 ∷ [], 0, 1, passed_once) difference_wf difference_light once_wf once_light (λ t u. AdmitsNone (rules_of ed) u) k)

  inside_is_wf : WF inside
  inside_is_wf = unfold inside twice trees_compute in ((lit≤ tt, ((lit< tt, lit< tt), ((lit< tt, lit< tt), tt)), lit< tt), lit≤ tt, lit< tt, lit< tt, lit< tt)

  inside_is_light : weight inside ≤ 16
  inside_is_light = unfold inside twice weight in (lit≤ tt)

  no_rule_outside : ask (rules_of ed) inside ≡ no_rule
  no_rule_outside = in_each ed (λ rs. ask rs inside ≡ no_rule) (unfold inside twice driver_computes in refl) (unfold inside twice driver_computes in refl)

  double : Tree
  double = product 0 (cons (integer 0 (pos 2)) (cons (symbol 0 0) nil))

  step_inside : ask (rules_of ed) twice ≡ step 2 double
  step_inside =
      in_each ed (λ rs. ask rs twice ≡ step 2 double) (unfold twice double driver_computes in refl) (unfold twice double driver_computes in refl)

  its_members : members inside ≡ twice ∷ integer 0 (pos 2) ∷ []
  its_members = unfold inside members in refl

  first_of : {t : Tree} {l : List Tree} → AllAdmitNone (rules_of ed) (t ∷ l) → AdmitsNone (rules_of ed) t
  first_of (and_more h hs) = h

  inside_admits : ¬ AdmitsNone (rules_of ed) inside
  inside_admits (admits_none a o ms) =
      admits_a_rule twice double 2 step_inside (first_of (subst (AllAdmitNone (rules_of ed)) its_members ms))

  pub never_entering_is_refused : (f : Simplifier) → NeverEnters lim ed f → ¬ Finishes lim ed f
  never_entering_is_refused f g k =
      inside_admits
      (said_of lim ed limited known f g inside inside
      (no_rule_outside, refl) inside_is_wf inside_is_light inside_is_wf inside_is_light (λ t u. AdmitsNone (rules_of ed) u) k)

-- told another number of steps or of openings than the driver has
pub inventing_is_refused : (lim ed : ℕ) (f : Simplifier) (told : ℕ → ℕ → ℕ) → Invents lim ed f told → ¬ Follows lim ed f
inventing_is_refused lim ed f told i k =
    let x = (k i.table i.bytes i.areas i.accepts i.tree i.end i.steps i.openings i.tries i.read i.ran).0 in
    i.other (ap (λ a. told a.steps_taken a.openings) x)

-- ---- there are such simplifiers: each of the programs above is one of its kind
module _ (lim ed : ℕ) (run : Tree → Ran) (P : Tree → Tree → Type 0)
    (ends : (t u : Tree) → P t u → (ks : List ℕ) × (o : ℕ) × (n : ℕ) × (run t ≡ done u ks o n)) where
  run_makes : Makes lim ed P (simplified_by lim ed run)
  unfolding ran_answer lent_after out_after written
  run_makes s b l j t u r p = go (call lim ed run s l b)
    where
      go : Call lim ed run s l → ((simplified_by lim ed run s l).answer.number ≡ 0) × (result (simplified_by lim ed run s l) ≡ encode u)
      go (is_turned_down d) = absurd (let z : (judgement lim ed s l).number ≡ 0 = ap (λ v. v.number) j in omega (arith, d.number))
      go (is_run c) =
          let v = c.holds.tree in
          let e : run v ≡ done u (ends t u p).0 (ends t u p).1 (ends t u p).2 = ap run (same_tree c.holds.read r) ∙ (ends t u p).3 in
          let x = c.answer ∙ ap (ran_answer (weight v)) e in
          let y = c.lent ∙ ap (λ z. lent_after lim (ran (weight v) z) l) e in (
            ap (λ z. z.number) x,
            result_written (simplified_by lim ed run s l) (weight v) u l.out (ap (λ z. z.records_written) x) (ap (λ z. z.out) y),
          )

pub zero_returns_zero : (lim ed : ℕ) → ReturnsZero lim ed (returns_zero lim ed)
unfolding returns_zero
zero_returns_zero lim ed = run_makes lim ed _ _ (λ t u e. ([], 0, 0, ap (λ y. done y [] 0 0) (sym e)))

pub input_returns_input : (lim ed : ℕ) → ReturnsInput lim ed (returns_input lim ed)
unfolding returns_input
input_returns_input lim ed = run_makes lim ed _ _ (λ t u e. ([], 0, 0, ap (λ y. done y [] 0 0) (sym e)))

pub pass_stops : (lim ed : ℕ) → StopsAfterPass lim ed (passes_once lim ed)
unfolding passes_once
pass_stops lim ed = run_makes lim ed _ _ (λ t u e. e)

pub root_never_enters : (lim ed : ℕ) → NeverEnters lim ed (stays_at_root lim ed)
unfolding stays_at_root
root_never_enters lim ed = run_makes lim ed _ _ (λ t u e. let s = stays t (weight t) e.0 in ([], 0, s.0, s.1 ∙ ap (λ y. done y [] 0 s.0) (sym e.1)))
  where
    stays : (t : Tree) (n : ℕ) → ask (rules_of ed) t ≡ no_rule → (m : ℕ) × (root_only (rules_of ed) n t ≡ done t [] 0 m)
    stays t zero e = (0, unfold root_only in refl)
    stays t (suc n) e = (1, unfold root_only tried after in rw (e, root_only) refl)

-- so these fall where the paper says: "One that returns 0 for all: by the value in demand 3"
module _ (lim ed : ℕ) (limited : is_limit lim ≡ true) (known : is_edition ed ≡ true) where
  pub zero_is_refused : ¬ KeepsValue lim ed (returns_zero lim ed)
  zero_is_refused = returning_zero_is_refused lim ed limited known _ (zero_returns_zero lim ed)

  -- "One that returns its input: by "admits no rule""
  pub input_is_refused : ¬ Finishes lim ed (returns_input lim ed)
  input_is_refused = returning_input_is_refused lim ed limited known _ (input_returns_input lim ed)

  -- "One that makes a first pass and then stops: the same clause, over the rules above"
  pub pass_is_refused : ¬ Finishes lim ed (passes_once lim ed)
  pass_is_refused = stopping_is_refused lim ed limited known _ (pass_stops lim ed)

  -- and one that never enters a member, by the same clause at a member
  pub root_is_refused : ¬ Finishes lim ed (stays_at_root lim ed)
  root_is_refused = never_entering_is_refused lim ed limited known _ (root_never_enters lim ed)

-- told more steps and openings than the weight that is lost, on some accepted call: it fails `lightens`
pub overcounting_is_refused : (lim ed : ℕ) (f : Simplifier) (s : List ℕ) → Bytes s → (l : Lent) → (f s l).answer.number ≡ 0 → (t : Tree) → tree_of s ≡ some t
    → ((u : Tree) → tree_of (result (f s l)) ≡ some u → weight t < (f s l).answer.steps_taken + (f s l).answer.openings + weight u) → ¬ Lightens lim ed f
overcounting_is_refused lim ed f s b l n t r more k = let x = k s b l n t r in omega (arith, x.2, more x.0 x.1)

-- told more tries than the cube of the weight going in, on some accepted call: it fails `bounded`
pub overtrying_is_refused : (lim ed : ℕ) (f : Simplifier) (s : List ℕ) → Bytes s → (l : Lent) → (f s l).answer.number ≡ 0 → (t : Tree) → tree_of s ≡ some t
    → weight t * (weight t * weight t) < (f s l).answer.tries → ¬ Bounded lim ed f
overtrying_is_refused lim ed f s b l n t r more k = omega (arith, (k s b l n t r).2, more)

-- but the cube itself is allowed
pub cube_is_allowed : (lim ed : ℕ) → Bounded lim ed (takes_cube lim ed)
unfolding takes_cube ran_answer refused_by lent_after out_after written
cube_is_allowed lim ed s b l n t r = go (call lim ed slow s l b)
  where
    cube : Tree → ℕ
    cube t = weight t * (weight t * weight t)

    slow : Tree → Ran
    slow t = done t [] 0 (cube t)

    go : Call lim ed slow s l → (u : Tree) × (tree_of (result (simplified_by lim ed slow s l)) ≡ some u) ×
        ((simplified_by lim ed slow s l).answer.tries ≤ cube t)
    go (is_turned_down d) = absurd (let z = ap (λ a. a.number) d.answer in omega (arith, d.number))
    go (is_run c) =
        let v = c.holds.tree in
        let w = result_written (simplified_by lim ed slow s l) (weight v) v l.out (ap (λ a. a.records_written) c.answer) (ap (λ a. a.out) c.lent) in (
          v,
          ap tree_of w ∙ tree_of_written v c.holds.wf (omega (arith, c.holds.light, limit_small lim c.holds.known)),
          subst (λ x. (simplified_by lim ed slow s l).answer.tries ≤ cube x) (same_tree c.holds.read r) (omega (arith, ap (λ a. a.tries) c.answer)),
        )

-- one whose result has another value than the table under some assignment, on some accepted call: it fails `keeps_value`
pub straying_is_refused : (lim ed : ℕ) (f : Simplifier) (s : List ℕ) → Bytes s → (l : Lent) → (f s l).answer.number ≡ 0 → (t : Tree) → tree_of s ≡ some t
    → (ρ : ℕ → ℕ) → ((u : Tree) → tree_of (result (f s l)) ≡ some u → ¬ (value u ρ ≡ value t ρ)) → ¬ KeepsValue lim ed f
straying_is_refused lim ed f s b l n t r ρ other k = let x = k s b l n t r in other x.0 x.1 (x.2 ρ)

-- one that changes a lent byte though it refuses by another number than 7, on some call: it fails `leaves_alone`
pub scribbling_is_refused : (lim ed : ℕ) (f : Simplifier) (s : List ℕ) → Bytes s → (l : Lent) (v : Verdict) → 1 ≤ v.number → ¬ (v.number ≡ 7)
    → (f s l).answer ≡ refused_by v → ¬ ((f s l).lent ≡ l) → ¬ LeavesAlone lim ed f
scribbling_is_refused lim ed f s b l v h g e changed alone = changed (alone s b l v h g e)
