-- Steps at one node: they keep the run, the tries being one for each, and each makes the tree lighter. The loop that asks the rules again and again:
-- its invariant is that steps came from the tree that stood there to the one that stands there now.
use Prim.Native.Nat.{ℕ, ◌+◌, ◌*◌, ◌<◌, ◌≤◌}
use mathlib.Core.Path.{◌≡◌, refl, sym, ap, ◌∙◌}
use mathlib.Core.List.{List, [], ◌∷◌, ◌++◌, append-nil, append_assoc}
use native.Mathlib.Omega.{arith}
use lib.ListN.{length, take, set, length-append, length-set}
use Rattle.paper.specs.Tree.{Tree, weight}
use Rattle.paper.specs.WellFormed.{WF}
use Rattle.paper.specs.Rules.{Rule, rules_of}
use Rattle.paper.specs.Driver.{over, no_rule, step, out_of_range, ask, after}
use Rattle.paper.proofs.Value.{weight_pos}
use Rattle.std.specs.Prelude.{Some, None, Ok}
use Rattle.rules.specs.declared.Applied.{Applied}
use Rattle.rules.specs.Asked.{AskedIs}
use Rattle.note.specs.Note.{note}
use Rattle.note.specs.Noted.{TreeBy}
use Rattle.still.specs.Keys.{Scratched}
use Rattle.driver.specs.Driven.{Steps, no_step, then_step, Set, Came, Burst}
use Rattle.driver.proofs.Places.{noted_one}
use Rattle.driver.proofs.Runs.{drives, visit_step, visit_over, step_kept, after_none, after_after}

-- no step leaves the tree as it is
pub nothing_taken : {rs : List Rule} {t u : Tree} {ks : List ℕ} → Steps rs t ks u → length ks ≡ 0 → t ≡ u
nothing_taken no_step e = refl
nothing_taken (then_step {ks = ks} {k = k} h a) e = absurd (omega (arith, length-append ks (k ∷ [])))

-- a step, and then steps
pub step_first : {rs : List Rule} {t u v : Tree} {ks : List ℕ} {k : ℕ} → ask rs t ≡ step k u → Steps rs u ks v → Steps rs t (k ∷ ks) v
step_first a no_step = then_step no_step a
step_first a (then_step h b) = then_step (step_first a h) b

-- what steps from t to u keep
pub record Kept (ed : ℕ) (t : Tree) (ks : List ℕ) (u : Tree) : Type 0 where
  pub runs_on : drives ed t ≡ after ks 0 (length ks) (drives ed u)
  pub wf : WF u
  pub lighter : length ks + weight u ≤ weight t

pub steps_keep : (ed : ℕ) {t u : Tree} {ks : List ℕ} → WF t → Steps (rules_of ed) t ks u → Kept ed t ks u
steps_keep ed {t} w no_step = record { runs_on = sym (after_none (drives ed t)); wf = w; lighter = omega arith }
steps_keep ed {t} w (then_step {u = u} {v = v} {ks = ks} {k = k} h a) =
    let i = steps_keep ed w h in
    let s = step_kept ed u i.wf k v a in
    let long : length ks + 1 ≡ length (ks ++ (k ∷ [])) = sym (length-append ks (k ∷ [])) in
    let l = s.1 in
    record {
      runs_on =
          i.runs_on ∙ ap (after ks 0 (length ks)) (visit_step ed u i.wf k v a)
          ∙ after_after ks 0 (length ks) (k ∷ []) 0 1 (drives ed v) ∙ ap (λ n. after (ks ++ (k ∷ [])) 0 n (drives ed v)) long;
      wf = s.0;
      lighter = omega (arith, i.lighter, length-append ks (k ∷ []));
    }

-- a rule left the range after steps
pub steps_burst : (ed s n : ℕ) {t : Tree} → WF t → Burst (rules_of ed) t s n → (k : ℕ) × (drives ed t ≡ over k) × (n ≡ s + k)
unfolding after
steps_burst ed s n w b =
    let h = steps_keep ed w b.2 in
    (length b.1 + 0, h.runs_on ∙ ap (after b.1 0 (length b.1)) (visit_over ed b.0 h.wf b.3), let z = b.4 in omega arith)

-- ---- the rules asked again and again
pub record CInv (ed : ℕ) (out₀ work₀ steps₀ : List ℕ) (d p s : ℕ) (out work steps : List ℕ) (at n : ℕ) : Type 0 where
  pub t : Tree
  pub rest : List ℕ
  pub set_up : Set out₀ work₀ steps₀ d p s t rest
  pub u : Tree
  pub came : Came (rules_of ed) t u rest out₀ out work steps₀ steps d s at n
  pub out_long : length out ≡ length out₀
  pub work_long : length work ≡ length work₀
  pub steps_long : length steps ≡ length steps₀

pub start : {ed : ℕ} {out work steps : List ℕ} {d p s : ℕ} {t : Tree} {rest : List ℕ} → Set out work steps d p s t rest
    → CInv ed out work steps d p s out work steps p s
start {steps = steps} {s = s} {t = t} {rest = rest} h =
    record {
      t = t;
      rest = rest;
      set_up = h;
      u = t;
      came =
          record {
            ks = [];
            taken = no_step;
            stands = h.ready.stands;
            kept = refl;
            noted_end = omega arith;
            noted = sym (append-nil (take s steps));
          };
      out_long = refl;
      work_long = refl;
      steps_long = refl;
    }

module _ {ed : ℕ} {out₀ work₀ steps₀ : List ℕ} {d p s : ℕ} {out work steps : List ℕ} {at n : ℕ} (v : CInv ed out₀ work₀ steps₀ d p s out work steps at n) where
  kept_now : Kept ed v.t v.came.ks v.u
  kept_now = steps_keep ed v.set_up.ready.wf v.came.taken

  pub set_now : Set out work steps d at n v.u v.rest
  set_now =
      let r = v.set_up.ready in
      let l = kept_now.lighter in
      record {
        ready =
            record {
              wf = kept_now.wf;
              light = omega (arith, r.light);
              stands = v.came.stands;
              out_room = omega (arith, r.out_room, v.out_long);
              work_room = omega (arith, r.work_room, v.work_long);
            };
        steps_room = omega (arith, v.set_up.steps_room, v.came.noted_end, v.steps_long);
      }

  pub step_fits : n < length steps
  step_fits = omega (arith, set_now.steps_room, weight_pos v.u)

  -- the keys are looked at first: what they were kept in is no record that is done
  pub tree_there : TreeBy note work at v.u
  tree_there = record { wf = kept_now.wf; light = set_now.ready.light; stands = record { after = v.rest; there = v.came.stands } }

  pub scratch_fits : d * 16 + 16 * weight v.u ≤ length out
  scratch_fits = omega (arith, set_now.ready.out_room)

  abbrev pub looked_at : (out' : List ℕ) → Scratched out out' (d * 16) (16 * weight v.u) → CInv ed out₀ work₀ steps₀ d p s out' work steps at n
  looked_at out' x =
      let c = v.came in
      record {
        t = v.t;
        rest = v.rest;
        set_up = v.set_up;
        u = v.u;
        came = record { ks = c.ks; taken = c.taken; stands = c.stands; kept = x.before ∙ c.kept; noted_end = c.noted_end; noted = c.noted };
        out_long = x.long ∙ v.out_long;
        work_long = v.work_long;
        steps_long = v.steps_long;
      }

  pub burst : ask (rules_of ed) v.u ≡ out_of_range → Burst (rules_of ed) v.t s n
  burst e = (v.u, v.came.ks, v.came.taken, e, v.came.noted_end)

  module _ (out' work' : List ℕ) (lo : length out' ≡ length out) (lw : length work' ≡ length work) where
    pub stepped : (x : Applied) → AskedIs (rules_of ed) v.u v.rest out out' work' d at (Ok (Some x))
        → CInv ed out₀ work₀ steps₀ d p s out' work' (set steps n x.step) x.at (n + 1)
    stepped x a =
        let k = x.step in
        let c = v.came in
        record {
          t = v.t;
          rest = v.rest;
          set_up = v.set_up;
          u = a.0;
          came =
              record {
                ks = c.ks ++ (k ∷ []);
                taken = then_step c.taken a.1;
                stands = a.2;
                kept = a.3 ∙ c.kept;
                noted_end = omega (arith, c.noted_end, length-append c.ks (k ∷ []));
                noted = noted_one steps n k step_fits ∙ ap (λ (y : List ℕ). y ++ (k ∷ [])) c.noted ∙ append_assoc (take s steps₀) c.ks (k ∷ []);
              };
          out_long = lo ∙ v.out_long;
          work_long = lw ∙ v.work_long;
          steps_long = length-set steps n k ∙ v.steps_long;
        }

    pub idle : AskedIs (rules_of ed) v.u v.rest out out' work' d at (Ok None)
        → (u : Tree) × Came (rules_of ed) v.t u v.rest out₀ out' work' steps₀ steps d s at n × (ask (rules_of ed) u ≡ no_rule)
    idle a =
        let c = v.came in (
          v.u,
          record { ks = c.ks; taken = c.taken; stands = a.1; kept = a.2 ∙ c.kept; noted_end = c.noted_end; noted = c.noted },
          a.0,
        )
