-- After a pass every member is finished and none is of the node's kind: results admit none, and so do the members of a result that
-- is opened, none of which is of its kind again. So where the rules are then asked in vain, the node admits none, and the driver
-- would leave it as it is. A power's exponent is an integer, and comes back unchanged.
use Prim.Native.Nat.{ℕ, ◌+◌}
use mathlib.Core.Path.{◌≡◌, refl, sym, ap, ◌∙◌, subst}
use mathlib.Core.List.{List, [], ◌∷◌, ◌++◌}
use mathlib.Core.Option.{Option, none, some}
use native.Mathlib.Omega.{arith}
use lib.ListN.{length}
use lib.IntN.{ℤ, pos}
use Rattle.paper.specs.Tree.{Tree, integer, symbol, sum, product, power, records, to_list, of_list}
use Rattle.paper.specs.WellFormed.{WF, WFl}
use Rattle.paper.specs.Rules.{rules_of}
use Rattle.paper.specs.Driver.{no_rule, ask, Ran, done, over, Rans, dones, overs, and_then, each, members}
use Rattle.paper.specs.Driver.{as_sum, as_product, open_one, opened, base_from, gather}
use Rattle.paper.specs.Admits.{openings_at, AdmitsNone, admits_none, AllAdmitNone, no_more, and_more}
use Rattle.paper.proofs.EditionTwo.{edition_good}
use Rattle.paper.proofs.WFLaws.{to_of_list}
use Rattle.paper.proofs.GatherLaws.{members_wf, kepts_length}
use Rattle.paper.proofs.DriverLaws.{RunsKept, each_kept}
use Rattle.paper.proofs.FinishedLaws.{Ended, simplify_ended}
use Rattle.paper.proofs.Simplified.{simplify_again}
use Rattle.rules.proofs.Finished.{both_none, integer_none}
use Rattle.driver.specs.Driven.{kind_number, inside, opened_runs, passed, Shape}
use Rattle.driver.proofs.Runs.{drives, drives_kept}

module _ (ed : ℕ) where
  abbrev None : Tree → Type 0
  None = AdmitsNone (rules_of ed)

  abbrev Nones : List Tree → Type 0
  Nones = AllAdmitNone (rules_of ed)

  -- ---- an integer is finished
  pub integer_drives : (μ : ℕ) (z : ℤ) → WF (integer μ z) → drives ed (integer μ z) ≡ done (integer μ z) [] 0 1
  unfolding records
  integer_drives μ z w = simplify_again (integer μ z) w (integer_none ed μ z)

  -- ---- to which lists a node's members are gathered
  power_shape : (b : Tree) (ξ e : ℕ) (g : List Tree) (ks : List ℕ) (o τ : ℕ) (a : Ran)
      → opened_runs (inside 4) (and_then a (and_then (done (integer ξ (pos e)) [] 0 1) (dones [] [] 0 0))) ≡ dones g ks o τ
      → (u : Tree) × (g ≡ u ∷ integer ξ (pos e) ∷ [])
  unfolding opened_runs and_then opened open_one inside
  power_shape b ξ e g ks o τ (over k) h = absurd (let z : ◌≡◌ {A = ℕ} 0 1 = cc in omega arith)
  power_shape b ξ e g ks o τ (done u s n υ) h = (u, cc)

  pub shape : (t : Tree) → WF t → (g : List Tree) (ks : List ℕ) (o τ : ℕ)
      → opened_runs (inside (kind_number t)) (each (drives ed) (members t)) ≡ dones g ks o τ → Shape t g
  unfolding kind_number members each opened_runs opened
  shape (integer μ z) w g ks o τ h = cc
  shape (symbol μ s) w g ks o τ h = cc
  shape (sum μ f) w g ks o τ h = tt
  shape (product μ f) w g ks o τ h = tt
  shape (power μ b ξ e) w g ks o τ h = (
    w.2,
    power_shape b ξ e g ks o τ (drives ed b)
        (ap (λ (r : Ran). opened_runs (inside 4) (and_then (drives ed b) (and_then r (dones [] [] 0 0)))) (sym (integer_drives ξ (pos e) (w.2, w.4))) ∙ h),
  )

  -- ---- the results of members admit none
  abbrev EndedAll : Rans → Type 0
  EndedAll (overs k) = Unit {0}
  EndedAll (dones l s o τ) = Nones l

  then_ended : (a : Ran) (r : Rans) → Ended (rules_of ed) a → EndedAll r → EndedAll (and_then a r)
  unfolding and_then
  then_ended (over k) r x y = tt
  then_ended (done u s o τ) (overs k) x y = tt
  then_ended (done u s o τ) (dones l s' o' τ') x y = and_more x y

  each_ended : (l : List Tree) → WFl l → EndedAll (each (drives ed) l)
  unfolding each
  each_ended [] w = no_more
  each_ended (t ∷ l) w = then_ended (drives ed t) (each (drives ed) l) (simplify_ended (rules_of ed) (edition_good ed) t w.0) (each_ended l w.1)

  -- ---- opening among finished members: those of a node of the kind are finished, and none of them is of the kind
  module _ (ins : Tree → Option (List Tree)) (node : (t : Tree) (l : List Tree) → ins t ≡ some l → None t → Nones l × ((opened ins l).1 ≡ 0)) where
    opened_both : (l m : List Tree) → (opened ins (l ++ m)).1 ≡ (opened ins l).1 + (opened ins m).1
    unfolding opened open_one
    opened_both [] m = omega arith
    opened_both (t ∷ l) m = go (ins t) (opened_both l m)
      where
        go : (x : Option (List Tree)) → (opened ins (l ++ m)).1 ≡ (opened ins l).1 + (opened ins m).1
            → (open_one x t (opened ins (l ++ m))).1 ≡ (open_one x t (opened ins l)).1 + (opened ins m).1
        go none ih = ih
        go (some k) ih = omega arith

    pub opened_none : (l : List Tree) → Nones l → Nones (opened ins l).0 × ((opened ins (opened ins l).0).1 ≡ 0)
    unfolding opened open_one
    opened_none [] h = (no_more, refl)
    opened_none (t ∷ l) (and_more x h) = go (ins t) refl (opened_none l h)
      where
        m : List Tree
        m = (opened ins l).0

        go : (o : Option (List Tree)) → ins t ≡ o → Nones m × ((opened ins m).1 ≡ 0)
            → Nones (open_one o t (opened ins l)).0 × ((opened ins (open_one o t (opened ins l)).0).1 ≡ 0)
        go none e ih = (and_more x ih.0, ap (λ o. (open_one o t (opened ins m)).1) e ∙ ih.1)
        go (some k) e ih =
            let n = node t k e x in
            let n1 = n.1 in
            let i1 = ih.1 in
            (both_none k m n.0 ih.0, opened_both k m ∙ omega arith)

  none_some : {X : Type 0} {l : List Tree} → none ≡ some l → X
  none_some e = absurd (let z : ◌≡◌ {A = ℕ} 0 1 = cc in omega arith)

  sum_node : (t : Tree) (l : List Tree) → as_sum t ≡ some l → None t → Nones l × ((opened as_sum l).1 ≡ 0)
  unfolding as_sum members openings_at gather
  sum_node (integer μ z) l e h = none_some e
  sum_node (symbol μ s) l e h = none_some e
  sum_node (sum μ f) l e (admits_none a o ms) = let k : to_list f ≡ l = cc in (subst Nones k ms, subst (λ m. (opened as_sum m).1 ≡ 0) k o)
  sum_node (product μ f) l e h = none_some e
  sum_node (power μ b ξ x) l e h = none_some e

  product_node : (t : Tree) (l : List Tree) → as_product t ≡ some l → None t → Nones l × ((opened as_product l).1 ≡ 0)
  unfolding as_product members openings_at gather
  product_node (integer μ z) l e h = none_some e
  product_node (symbol μ s) l e h = none_some e
  product_node (sum μ f) l e h = none_some e
  product_node (product μ f) l e (admits_none a o ms) = let k : to_list f ≡ l = cc in (subst Nones k ms, subst (λ m. (opened as_product m).1 ≡ 0) k o)
  product_node (power μ b ξ x) l e h = none_some e

  -- ---- the gathered node
  first_none : (b : Tree) (l : List Tree) → length l ≡ 2 → Nones l → None (base_from b l)
  unfolding base_from
  first_none b [] e h = absurd (omega arith)
  first_none b (u ∷ l) e (and_more x h) = x

  -- its members are finished, and none of them opens
  gathered_parts : (t : Tree) (l : List Tree) (s : List ℕ) (o τ : ℕ) → WF t → RunsKept (members t) (dones l s o τ) → Nones l
      → Nones (members (gather t l).0) × (openings_at (gather t l).0 ≡ 0)
  unfolding gather members openings_at
  gathered_parts (integer μ z) l s o τ w k h = (no_more, refl)
  gathered_parts (symbol μ v) l s o τ w k h = (no_more, refl)
  gathered_parts (sum μ f) l s o τ w k h =
      let m = (opened as_sum l).0 in
      let n = opened_none as_sum sum_node l h in
      let b : to_list (of_list m) ≡ m = to_of_list m in
      (subst Nones (sym b) n.0, subst (λ i. (opened as_sum i).1 ≡ 0) (sym b) n.1)
  gathered_parts (product μ f) l s o τ w k h =
      let m = (opened as_product l).0 in
      let n = opened_none as_product product_node l h in
      let b : to_list (of_list m) ≡ m = to_of_list m in
      (subst Nones (sym b) n.0, subst (λ i. (opened as_product i).1 ≡ 0) (sym b) n.1)
  gathered_parts (power μ b ξ e) l s o τ w k h = (and_more (first_none b l (kepts_length k.1) h) (and_more (integer_none ed ξ (pos e)) no_more), refl)

  pub parts_finished : (t u : Tree) (s : List ℕ) (o τ : ℕ) → WF t
      → passed t (each (drives ed) (members t)) ≡ done u s o τ → Nones (members u) × (openings_at u ≡ 0)
  unfolding passed
  parts_finished t u s o τ w e =
      go (each (drives ed) (members t)) e (each_kept (drives ed) (drives_kept ed) (members t) (members_wf t w)) (each_ended (members t) (members_wf t w))
    where
      go : (r : Rans) → passed t r ≡ done u s o τ → RunsKept (members t) r → EndedAll r → Nones (members u) × (openings_at u ≡ 0)
      go (overs k) e k' h = absurd (let z : ◌≡◌ {A = ℕ} 0 1 = cc in omega arith)
      go (dones l s' o' τ') e k h =
          let q : (gather t l).0 ≡ u = cc in
          subst (λ x. Nones (members x) × (openings_at x ≡ 0)) q (gathered_parts t l s' o' τ' w k h)

  pub settled : (t u : Tree) (s : List ℕ) (o τ : ℕ) → WF t → passed t (each (drives ed) (members t)) ≡ done u s o τ → ask (rules_of ed) u ≡ no_rule → None u
  settled t u s o τ w e a = let p = parts_finished t u s o τ w e in admits_none a p.1 p.0
