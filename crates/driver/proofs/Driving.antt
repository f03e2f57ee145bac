-- How the driver goes on from a tree to which it has come. `Come` says in continuation style what is still to do: the run of the tree that stood
-- there is the run of the tree that stands there now, after the steps, openings and tries so far; no rule applies to that tree; it weighs less by
-- the steps and openings, and what it may still cost, with the tries so far, is within what the first may cost. Each way that a pass ends is one
-- law: a refusal, nothing changed, finished, finished after one step more, begun again after steps.
use Prim.Native.Nat.{ℕ, ◌+◌, ◌-◌, ◌*◌, ◌<◌, ◌≤◌}
use mathlib.Core.Path.{◌≡◌, refl, sym, ap, ◌∙◌}
use mathlib.Core.List.{List, [], ◌∷◌, ◌++◌, append-nil, append_assoc}
use native.Mathlib.Omega.{arith}
use native.Mathlib.Nat.{add-zero}
use lib.ListN.{length, take, length-append}
use Rattle.paper.specs.Tree.{Tree, records, weight}
use Rattle.paper.specs.WellFormed.{WF}
use Rattle.paper.specs.Rules.{rules_of}
use Rattle.paper.specs.Driver.{done, over, no_rule, ask, after, each, members}
use Rattle.paper.proofs.Simplified.{simplify_again}
use Rattle.std.specs.Prelude.{Ok}
use Rattle.driver.specs.declared.Settled.{Settled}
use Rattle.driver.specs.declared.TakenUp.TheVariants as taken
use Rattle.driver.specs.Driven.{with_notes, passed, Set, Back, Came, Burst, TakenIs, Drove}
use Rattle.driver.specs.Paused.{Come}
use Rattle.driver.proofs.Forests.{front_long}
use Rattle.driver.proofs.Places.{none_of, front_of_lem}
use Rattle.driver.proofs.Runs.{drives, pass_over, pass_done, pass_again, pass_kept, visit_step, step_kept, run_lighter, after_after}
use Rattle.driver.proofs.Stepping.{Kept, steps_keep, steps_burst}
use Rattle.driver.proofs.Finishing.{settled, parts_finished}
use Rattle.driver.proofs.Counting.{cost_steps, pass_pays}

after_done : (ks : List ℕ) (o τ : ℕ) (u : Tree) (υ : ℕ) → after ks o τ (done u [] 0 υ) ≡ done u ks o (τ + υ)
unfolding after
after_done ks o τ u υ = ap (λ (x : List ℕ). done u x (o + 0) (τ + υ)) (append-nil ks) ∙ ap (λ i. done u ks i (τ + υ)) (add-zero o)

after_over : (ks : List ℕ) (o τ k : ℕ) → after ks o τ (over k) ≡ over (length ks + k)
unfolding after
after_over ks o τ k = refl

module _ {ed : ℕ} {t : Tree} {rest out₀ work₀ steps₀ : List ℕ} {d p s : ℕ} {out work steps : List ℕ} {at n o τ : ℕ}
    (v : Come ed t rest out₀ work₀ steps₀ d p s out work steps at n o τ) where
  pub set_now : Set out work steps d at n v.u rest
  set_now =
      let r = v.set_up.ready in
      record {
        ready =
            record {
              wf = v.wf;
              light = omega (arith, r.light, v.lighter);
              stands = v.stands;
              out_room = omega (arith, r.out_room, v.lighter, v.out_long);
              work_room = omega (arith, r.work_room, v.lighter, v.work_long);
            };
        steps_room = omega (arith, v.set_up.steps_room, v.lighter, v.noted_end, v.steps_long);
      }

  -- the pass was refused
  pub pass_burst : (m : ℕ) → (k : ℕ) × (passed v.u (each (drives ed) (members v.u)) ≡ over k) × (m ≡ n + k)
      → (k : ℕ) × (drives ed t ≡ over k) × (m ≡ s + k)
  pass_burst m b = (
    length v.ks + b.0,
    v.goes_on ∙ ap (after v.ks o τ) (pass_over ed v.u v.wf v.none b.0 b.1) ∙ after_over v.ks o τ b.0,
    let b2 = b.2 in omega (arith, v.noted_end),
  )

  -- a pass that is done
  module _ {out' work' steps' : List ℕ} {e q j b υ : ℕ}
      (a : Drove (passed v.u (each (drives ed) (members v.u))) rest out out' work' steps steps' d n e q j b υ)
      (lo : length out' ≡ length out) (lw : length work' ≡ length work) (lz : length steps' ≡ length steps) where
    pub less : WF a.to × (length a.ks + b + weight a.to ≤ weight v.u)
    less = run_lighter v.u a.to a.ks b υ _ (pass_kept ed v.u v.wf) a.ran

    -- nothing changed: the node is finished
    pub nothing_changed : j - n + b < 1 → Drove (drives ed t) rest out₀ out' work' steps₀ steps' d s e q n o (τ + (υ + 1))
    nothing_changed h =
        let z : length a.ks + b ≡ 0 = omega (arith, a.noted_end) in
        let jn : j ≡ n = omega (arith, a.noted_end) in
        record {
          to = a.to;
          ks = v.ks;
          ran = v.goes_on ∙ ap (after v.ks o τ) (pass_done ed v.u v.wf v.none a.to a.ks b υ a.ran z)
              ∙ after_done v.ks o τ a.to (υ + 1);
          end = a.end;
          wrote = a.wrote ∙ ap (λ (x : List ℕ). x ++ with_notes a.to) v.kept;
          left = a.left;
          place = a.place;
          noted_end = v.noted_end;
          noted =
              ap (λ i. take i steps') (sym jn) ∙ a.noted ∙ ap (λ (x : List ℕ). take n steps ++ x) (none_of a.ks (omega arith))
              ∙ append-nil (take n steps) ∙ v.noted;
        }

    front_same : take (d * 16) out' ≡ take (d * 16) out
    front_same =
        front_of_lem out' (take (d * 16) out) (with_notes a.to) (d * 16) (e * 16) a.wrote (front_long set_now) (omega (arith, a.end))

    -- something changed: the gathered node is taken up
    module _ (h : 1 ≤ j - n + b) where
      changed : 1 ≤ length a.ks + b
      changed = omega (arith, a.noted_end)

      pub gathered : Back out' work' steps' d e q j a.to rest
      gathered =
          let l = less.1 in
          let r = set_now.ready in
          record {
            wf = less.0;
            light = omega (arith, r.light);
            end = a.end;
            there = a.wrote ∙ ap (λ (x : List ℕ). x ++ with_notes a.to) (sym front_same);
            left = a.left;
            place = a.place;
            out_room = omega (arith, r.out_room);
            work_room = omega (arith, r.work_room);
            steps_room = omega (arith, set_now.steps_room, a.noted_end);
          }

      -- the run so far, and then that of the gathered node
      runs_on : drives ed t ≡ after (v.ks ++ a.ks) (o + b) (τ + (υ + 1)) (drives ed a.to)
      runs_on =
          v.goes_on ∙ ap (after v.ks o τ) (pass_again ed v.u v.wf v.none a.to a.ks b υ a.ran changed)
          ∙ after_after v.ks o τ a.ks b (υ + 1) (drives ed a.to)

      so_far : take j steps' ≡ take s steps₀ ++ (v.ks ++ a.ks)
      so_far = a.noted ∙ ap (λ (x : List ℕ). x ++ a.ks) v.noted ∙ append_assoc (take s steps₀) v.ks a.ks

      -- a rule left the range
      pub burst : (m : ℕ) → Burst (rules_of ed) a.to j m → (k : ℕ) × (drives ed t ≡ over k) × (m ≡ s + k)
      burst m x =
          let b' = steps_burst ed j m less.0 x in
          let b2 = b'.2 in (
            length (v.ks ++ a.ks) + b'.0,
            runs_on ∙ ap (after (v.ks ++ a.ks) (o + b) (τ + (υ + 1))) b'.1 ∙ after_over (v.ks ++ a.ks) (o + b) (τ + (υ + 1)) b'.0,
            omega (arith, v.noted_end, a.noted_end, length-append v.ks a.ks),
          )

      -- it is finished: the driver would ask each of its records once more
      pub finished : {out'' work'' steps'' : List ℕ} {r : ℕ} → TakenIs (rules_of ed) a.to rest out' out'' work'' steps' steps'' d e j (Ok (taken.Finished r))
          → Drove (drives ed t) rest out₀ out'' work'' steps₀ steps'' d s e r j (o + b) (τ + (υ + 1) + (e - d))
      finished x =
          let size : records a.to ≡ e - d = omega (arith, a.end) in
          let again : drives ed a.to ≡ done a.to [] 0 (e - d)
          = simplify_again a.to less.0 (settled ed v.u a.to a.ks b υ v.wf a.ran x.0) ∙ ap (done a.to [] 0) size in
          record {
            to = a.to;
            ks = v.ks ++ a.ks;
            ran =
                runs_on ∙ ap (after (v.ks ++ a.ks) (o + b) (τ + (υ + 1))) again
                ∙ after_done (v.ks ++ a.ks) (o + b) (τ + (υ + 1)) a.to (e - d);
            end = a.end;
            wrote = x.1 ∙ a.wrote ∙ ap (λ (y : List ℕ). y ++ with_notes a.to) v.kept;
            left = x.2;
            place = x.3;
            noted_end = omega (arith, v.noted_end, a.noted_end, length-append v.ks a.ks);
            noted = x.4 ∙ so_far;
          }

      -- one step was taken, to a tree that admits none: the driver would ask each of its records once more
      pub quieted : {out'' work'' steps'' : List ℕ} {f r : ℕ} → TakenIs (rules_of ed) a.to rest out' out'' work'' steps' steps'' d e j (Ok (taken.Quiet f r))
          → Drove (drives ed t) rest out₀ out'' work'' steps₀ steps'' d s f r (j + 1) (o + b) (τ + (υ + 1) + 1 + (f - d))
      quieted {f = f} x =
          let k = x.0 in
          let y = x.1 in
          let last = k ∷ [] in
          let before = v.ks ++ a.ks in
          let tries = τ + (υ + 1) in
          let end = x.3 in
          let kept = step_kept ed a.to less.0 k y x.2 in
          let parts = parts_finished ed v.u a.to a.ks b υ v.wf a.ran in
          let size : records y ≡ f - d = omega arith in
          let still : drives ed y ≡ done y [] 0 (f - d) = simplify_again y kept.0 (x.8 parts.0 parts.1) ∙ ap (done y [] 0) size in
          record {
            to = y;
            ks = before ++ last;
            ran =
                runs_on ∙ ap (after before (o + b) tries) (visit_step ed a.to less.0 k y x.2 ∙ ap (after last 0 1) still)
                ∙ after_after before (o + b) tries last 0 1 (done y [] 0 (f - d)) ∙ after_done (before ++ last) (o + b + 0) (tries + 1) y (f - d)
                ∙ ap (λ i. done y (before ++ last) i (tries + 1 + (f - d))) (add-zero (o + b));
            end = x.3;
            wrote = x.4 ∙ ap (λ (z : List ℕ). z ++ with_notes y) (front_same ∙ v.kept);
            left = x.5;
            place = x.6;
            noted_end = omega (arith, v.noted_end, a.noted_end, length-append v.ks a.ks, length-append before last);
            noted = x.7 ∙ ap (λ (z : List ℕ). z ++ last) so_far ∙ append_assoc (take s steps₀) before last;
          }

      -- steps were taken, and the driver begins again
      module _ {out'' work'' steps'' : List ℕ} {z : Settled}
          (x : TakenIs (rules_of ed) a.to rest out' out'' work'' steps' steps'' d e j (Ok (taken.Stepped z))) where
        stepped_kept : Kept ed a.to x.1.ks x.0
        stepped_kept = steps_keep ed less.0 x.1.taken

        pub again : length out'' ≡ length out' → length work'' ≡ length work' → length steps'' ≡ length steps'
            → Come ed t rest out₀ work₀ steps₀ d p s out'' work'' steps'' z.at z.noted (o + b) (τ + (υ + 1) + (z.noted - j))
        again lo' lw' lz' =
            let c = x.1 in
            let k = stepped_kept in
            let l = less.1 in
            let before = v.ks ++ a.ks in
            let tries : length c.ks ≡ z.noted - j = omega (arith, c.noted_end) in
            record {
              set_up = v.set_up;
              u = x.0;
              ks = before ++ c.ks;
              wf = k.wf;
              none = x.3;
              stands = c.stands;
              kept = c.kept ∙ front_same ∙ v.kept;
              noted_end = omega (arith, c.noted_end, v.noted_end, a.noted_end, length-append v.ks a.ks, length-append before c.ks);
              noted = c.noted ∙ ap (λ (y : List ℕ). y ++ c.ks) so_far ∙ append_assoc (take s steps₀) before c.ks;
              goes_on =
                  runs_on ∙ ap (after before (o + b) (τ + (υ + 1))) k.runs_on
                  ∙ after_after before (o + b) (τ + (υ + 1)) c.ks 0 (length c.ks) (drives ed x.0)
                  ∙ ap (λ i. after (before ++ c.ks) i (τ + (υ + 1) + length c.ks) (drives ed x.0)) (add-zero (o + b))
                  ∙ ap (λ i. after (before ++ c.ks) (o + b) (τ + (υ + 1) + i) (drives ed x.0)) tries;
              lighter = omega (arith, v.lighter, k.lighter, length-append v.ks a.ks, length-append before c.ks);
              tried_bound =
                  omega (
                    arith,
                    v.tried_bound,
                    pass_pays v.u v.wf a.to a.ks b υ ed a.ran changed,
                    cost_steps (length c.ks) (weight x.0) (weight a.to) k.lighter,
                  );
              out_long = lo' ∙ lo ∙ v.out_long;
              work_long = lw' ∙ lw ∙ v.work_long;
              steps_long = lz' ∙ lz ∙ v.steps_long;
            }

-- ---- a tree that is settled first
module _ (ed : ℕ) {out work steps : List ℕ} {d p s : ℕ} {t : Tree} {rest : List ℕ} (h : Set out work steps d p s t rest) {out' work' steps' : List ℕ} {q n : ℕ}
    (a : (u : Tree) × Came (rules_of ed) t u rest out out' work' steps steps' d s q n × (ask (rules_of ed) u ≡ no_rule)) where
  first_kept : Kept ed t a.1.ks a.0
  first_kept = steps_keep ed h.ready.wf a.1.taken

  pub settled_come : length out' ≡ length out → length work' ≡ length work → length steps' ≡ length steps
      → Come ed t rest out work steps d p s out' work' steps' q n 0 (n - s)
  settled_come lo lw lz =
      let c = a.1 in
      let k = first_kept in
      let tries : length c.ks ≡ n - s = omega (arith, c.noted_end) in
      record {
        set_up = h;
        u = a.0;
        ks = c.ks;
        wf = k.wf;
        none = a.2;
        stands = c.stands;
        kept = c.kept;
        noted_end = c.noted_end;
        noted = c.noted;
        goes_on = k.runs_on ∙ ap (λ i. after c.ks 0 i (drives ed a.0)) tries;
        lighter = omega (arith, k.lighter);
        tried_bound = omega (arith, cost_steps (length c.ks) (weight a.0) (weight t) k.lighter);
        out_long = lo;
        work_long = lw;
        steps_long = lz;
      }
