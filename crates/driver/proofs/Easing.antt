-- A gathered node whose like members are combined first: where that says nothing, the node is settled as it stands; where it says that no rule applies,
-- the node is settled already; where it is a step, what is settled after it comes after that step.
use Prim.Native.Nat.{ℕ, ◌+◌, ◌<◌}
use mathlib.Core.Path.{◌≡◌, sym, ap, ◌∙◌}
use mathlib.Core.List.{List, [], ◌∷◌, ◌++◌, append-nil, append_assoc}
use native.Mathlib.Omega.{arith}
use lib.ListN.{length, take, set, length-set}
use Rattle.paper.specs.Tree.{Tree}
use Rattle.paper.specs.Rules.{rules_of}
use Rattle.paper.proofs.Value.{weight_pos}
use Rattle.rules.specs.declared.Combined.TheVariants.{No, Nothing, Pending}
use Rattle.rules.specs.Asked.{CombinedIs}
use Rattle.std.specs.Prelude.{Result, Ok, Err}
use Rattle.driver.specs.declared.LeftRange.{LeftRange}
use Rattle.driver.specs.declared.Settled.{Settled}
use Rattle.driver.specs.Driven.{no_step, Set, SettledIs}
use Rattle.driver.proofs.Places.{noted_one}
use Rattle.driver.proofs.Runs.{step_kept}
use Rattle.driver.proofs.Stepping.{step_first}

module _ (ed : ℕ) {out work steps : List ℕ} {d p s : ℕ} {t : Tree} {rest : List ℕ} (h : Set out work steps d p s t rest) where
  pub step_room : s < length steps
  step_room = omega (arith, h.steps_room, weight_pos t)

  module _ (out' work' : List ℕ) (lo : length out' ≡ length out) (lw : length work' ≡ length work) where
    -- nothing is said
    module _ (a : CombinedIs (rules_of ed) t rest out out' work' d p No) where
      pub set_same : Set out' work' steps d p s t rest
      set_same =
          let r = h.ready in
          record {
            ready = record { wf = r.wf; light = r.light; stands = a.0; out_room = omega (arith, r.out_room); work_room = omega (arith, r.work_room) };
            steps_room = h.steps_room;
          }

      pub eased_same : (out'' work'' steps'' : List ℕ) (x : Result Settled LeftRange)
          → SettledIs (rules_of ed) t rest out' out'' work'' steps steps'' d s x → SettledIs (rules_of ed) t rest out out'' work'' steps steps'' d s x
      eased_same out'' work'' steps'' (Ok x) y =
          let c = y.1 in
          (y.0, record { ks = c.ks; taken = c.taken; stands = c.stands; kept = c.kept ∙ a.1; noted_end = c.noted_end; noted = c.noted }, y.2)
      eased_same out'' work'' steps'' (Err l) y = y

    -- no rule applies
    pub eased_none : CombinedIs (rules_of ed) t rest out out' work' d p Nothing
        → SettledIs (rules_of ed) t rest out out' work' steps steps d s (Ok (record { at = p; noted = s }))
    eased_none a =
        (t, record { ks = []; taken = no_step; stands = a.1; kept = a.2; noted_end = omega arith; noted = sym (append-nil (take s steps)) }, a.0)

    -- it is a step
    module _ (k q : ℕ) (a : CombinedIs (rules_of ed) t rest out out' work' d p (Pending k q)) where
      pub set_stepped : Set out' work' (set steps s k) d q (s + 1) a.0 rest
      set_stepped =
          let r = h.ready in
          let u = step_kept ed t r.wf k a.0 a.1 in
          let u1 = u.1 in
          record {
            ready =
                record {
                  wf = u.0;
                  light = omega (arith, r.light);
                  stands = a.2;
                  out_room = omega
                      (arith, r.out_room);
                  work_room = omega (arith, r.work_room);
                };
            steps_room = omega (arith, h.steps_room, length-set steps s k);
          }

      noted_first : (ks : List ℕ) → take (s + 1) (set steps s k) ++ ks ≡ take s steps ++ (k ∷ ks)
      noted_first ks = ap (λ (i : List ℕ). i ++ ks) (noted_one steps s k step_room) ∙ append_assoc (take s steps) (k ∷ []) ks

      pub eased_step : (out'' work'' steps'' : List ℕ) (x : Result Settled LeftRange)
          → SettledIs (rules_of ed) a.0 rest out' out'' work'' (set steps s k) steps'' d (s + 1) x
          → SettledIs (rules_of ed) t rest out out'' work'' steps steps'' d s x
      eased_step out'' work'' steps'' (Ok x) y =
          let c = y.1 in (
            y.0,
            record {
              ks = k ∷ c.ks;
              taken = step_first a.1 c.taken;
              stands = c.stands;
              kept = c.kept ∙ a.3;
              noted_end = c.noted_end ∙ omega arith;
              noted = c.noted ∙ noted_first c.ks;
            },
            y.2,
          )
      eased_step out'' work'' steps'' (Err l) y = let y4 = y.4 in (y.0, k ∷ y.1, step_first a.1 y.2, y.3, y4 ∙ omega arith)
