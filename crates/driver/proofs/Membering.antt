-- The members of a node, one after the other. `Gathering` says in continuation style: what is gathered of all the members is what was gathered so
-- far, before what will be gathered of those left; and all together weigh less by the steps and openings so far; those left pay
-- for their tries.
use Prim.Native.Nat.{ℕ, ◌+◌, ◌-◌, ◌*◌, ◌<◌, ◌≤◌}
use mathlib.Core.Path.{◌≡◌, refl, sym, ap, ◌∙◌, subst}
use mathlib.Core.List.{List, [], ◌∷◌, ◌++◌, append-nil, append_assoc}
use native.Mathlib.Omega.{arith}
use lib.ListN.{length, take, drop, length-append}
use Rattle.paper.specs.Tree.{Tree, of_list, records, weight}
use Rattle.paper.specs.WellFormed.{WF, WFl}
use Rattle.paper.specs.Driver.{overs, each}
use Rattle.paper.specs.Cost.{cost}
use Rattle.paper.proofs.EncodeLaws.{recordses_weights}
use Rattle.note.proofs.NotedLaws.{encodes_by_length}
use Rattle.note.specs.Note.{note}
use Rattle.note.specs.Noted.{encode_by}
use Rattle.driver.specs.Driven.{with_notes, encode_all, weight_all, inside, opened_runs, Set, SetAll, Gave}
use Rattle.driver.specs.Paused.{before, Gathering}
use Rattle.driver.proofs.Forests.{encode_both, recordses_append, weight_both, all_many}
use Rattle.driver.proofs.Runs.{drives, drives_kept, run_lighter, joined, before_none, before_joined, gather_first, gather_none, same_dones}
use Rattle.driver.proofs.Places.{none_of}
use Rattle.driver.proofs.Opening.{member_weighs}
use Rattle.driver.proofs.Counting.{cost_both, member_tries}

pub start : {ed : ℕ} {out work steps : List ℕ} {d p s : ℕ} {l : List Tree} {rest : List ℕ} (k : ℕ) → SetAll out work steps d p s l rest
    → Gathering ed l rest out work steps k d p s out work steps (length l) d p s 0 0 0
unfolding encode_by records weight of_list
start {ed = ed} {out = out} {steps = steps} {d = d} {s = s} {l = l} k h =
    record {
      set_up = h;
      g = [];
      r = l;
      ks = [];
      wf = h.wf;
      stands = h.stands;
      place = h.place;
      to_go = refl;
      gathered = refl;
      end = omega arith;
      wrote = sym (append-nil (take (d * 16) out));
      noted_end = omega arith;
      noted = sym (append-nil (take s steps));
      goes_on = sym (before_none (opened_runs (inside k) (each (drives ed) l)));
      lighter = omega arith;
      tried_bound = omega arith;
      out_long = refl;
      work_long = refl;
      steps_long = refl;
    }

-- a list that is not empty, by its first tree
pub record First (r : List Tree) : Type 0 where
  pub x : Tree
  pub xs : List Tree
  pub is : r ≡ x ∷ xs

pub first : (r : List Tree) → 0 < length r → First r
first [] h = absurd (omega arith)
first (t ∷ l) h = record { x = t; xs = l; is = refl }

module _ {ed : ℕ} {l : List Tree} {rest out₀ work₀ steps₀ : List ℕ} {k d p s : ℕ} {out work steps : List ℕ} {left e q n o m τ : ℕ}
    (v : Gathering ed l rest out₀ work₀ steps₀ k d p s out work steps left e q n o m τ) where
  pub small : (o < 65536) × (m < 65536) × (left < 65536)
  small =
      let a = recordses_weights (of_list v.g) in
      let b = all_many v.g in
      let f = recordses_weights (of_list v.r) in
      let j = all_many v.r in (
        omega (arith, v.lighter, v.set_up.light),
        omega (arith, v.gathered, v.lighter, v.set_up.light),
        omega (arith, v.to_go, v.lighter, v.set_up.light),
      )

  -- what stands past the gathered members does not matter
  pub past_changed : {out' : List ℕ} → take (e * 16) out' ≡ take (e * 16) out → length out' ≡ length out
      → Gathering ed l rest out₀ work₀ steps₀ k d p s out' work steps left e q n o m τ
  past_changed same lo =
      record {
        set_up = v.set_up;
        g = v.g;
        r = v.r;
        ks = v.ks;
        wf = v.wf;
        stands = v.stands;
        place = v.place;
        to_go = v.to_go;
        gathered = v.gathered;
        end = v.end;
        wrote = same ∙ v.wrote;
        noted_end = v.noted_end;
        noted = v.noted;
        goes_on = v.goes_on;
        lighter = v.lighter;
        tried_bound = v.tried_bound;
        out_long = lo ∙ v.out_long;
        work_long = v.work_long;
        steps_long = v.steps_long;
      }

  -- the next member
  module _ {x : Tree} {xs : List Tree} (is : v.r ≡ x ∷ xs) where
    abbrev pub rest_after : List ℕ
    rest_after = encode_all xs ++ rest

    pub weight_next : weight_all v.r ≡ weight x + weight_all xs
    unfolding weight of_list
    weight_next = ap weight_all is

    stands_next : drop (q * 16) work ≡ with_notes x ++ rest_after
    unfolding encode_by of_list
    stands_next = v.stands ∙ ap (λ r. encode_all r ++ rest) is ∙ append_assoc (with_notes x) (encode_all xs) rest

    wf_next : WF x × WFl xs
    wf_next = subst WFl is v.wf

    pub set_next : Set out work steps e q n x rest_after
    set_next =
        let a = recordses_weights (of_list v.g) in
        let b = weight_next in
        let w = recordses_weights (of_list xs) in
        let y = encodes_by_length note (of_list xs) in
        let z : length rest_after ≡ length (encode_all xs) + length rest = length-append (encode_all xs) rest in
        let u = v.set_up in
        record {
          ready =
              record {
                wf = wf_next.0;
                light = omega (arith, u.light, v.lighter);
                stands = stands_next;
                out_room = omega (arith, u.out_room, v.lighter, v.out_long, v.end);
                work_room = omega (arith, u.work_room, v.lighter, v.work_long);
              };
          steps_room = omega (arith, u.steps_room, v.lighter, v.noted_end, v.steps_long);
        }

    goes_next : opened_runs (inside k) (each (drives ed) l)
        ≡ before v.g v.ks o τ (joined (opened_runs (inside k) (each (drives ed) (x ∷ []))) (opened_runs (inside k) (each (drives ed) xs)))
    goes_next = v.goes_on ∙ ap (before v.g v.ks o τ) (ap (λ r. opened_runs (inside k) (each (drives ed) r)) is ∙ gather_first (inside k) ed x xs)

    -- the member was refused
    pub burst : (j : ℕ) → (b : ℕ) × (opened_runs (inside k) (each (drives ed) (x ∷ [])) ≡ overs b) × (j ≡ n + b)
        → (b : ℕ) × (opened_runs (inside k) (each (drives ed) l) ≡ overs b) × (j ≡ s + b)
    unfolding before joined
    burst j b = (
      length v.ks + b.0,
      goes_next ∙ ap (λ r. before v.g v.ks o τ (joined r (opened_runs (inside k) (each (drives ed) xs)))) b.1,
      let b2 = b.2 in omega (arith, v.noted_end),
    )

    -- the member is gathered
    module _ {out' work' steps' : List ℕ} {e' q' n' o' m' τ' : ℕ}
        (a : Gave (opened_runs (inside k) (each (drives ed) (x ∷ []))) rest_after out out' work' steps steps' e n e' q' n' o' m' τ')
        (lo : length out' ≡ length out) (lw : length work' ≡ length work) (lz : length steps' ≡ length steps) where
      weighs : weight_all a.to + (length a.ks + o') ≤ weight x
      weighs =
          member_weighs ed k x (λ u s o υ r. (run_lighter x u s o υ (drives ed x) (drives_kept ed x wf_next.0) r).1) a.to a.ks o' τ' a.ran

      -- what may still come pays for its tries
      paid : τ' + cost (weight_all xs) ≤ cost (weight_all v.r)
      paid =
          let both = cost_both (weight x) (weight_all xs) in
          omega (arith, ap cost weight_next, member_tries ed k x wf_next.0 a.to a.ks o' τ' a.ran)

      pub next : Gathering ed l rest out₀ work₀ steps₀ k d p s out' work' steps' (left - 1) e' q' n' (o + o') (m + m') (τ + τ')
      unfolding joined
      next =
          let w = weighs in
          let z = weight_next in
          record {
            set_up = v.set_up;
            g = v.g ++ a.to;
            r = xs;
            ks = v.ks ++ a.ks;
            wf = wf_next.1;
            stands = a.left;
            place = a.place;
            to_go = let y : length v.r ≡ 1 + length xs = ap length is ∙ omega arith in omega (arith, v.to_go);
            gathered = omega (arith, v.gathered, a.many, length-append v.g a.to);
            end = omega (arith, v.end, a.end, recordses_append v.g a.to);
            wrote =
                a.wrote ∙ ap (λ (y : List ℕ). y ++ encode_all a.to) v.wrote
                ∙ append_assoc (take (d * 16) out₀) (encode_all v.g) (encode_all a.to)
                ∙ ap (λ (y : List ℕ). take (d * 16) out₀ ++ y) (sym (encode_both v.g a.to));
            noted_end = omega (arith, v.noted_end, a.noted_end, length-append v.ks a.ks);
            noted = a.noted ∙ ap (λ (y : List ℕ). y ++ a.ks) v.noted ∙ append_assoc (take s steps₀) v.ks a.ks;
            goes_on =
                goes_next ∙ ap (λ r. before v.g v.ks o τ (joined r (opened_runs (inside k) (each (drives ed) xs)))) a.ran
                ∙ before_joined v.g v.ks o τ a.to a.ks o' τ' (opened_runs (inside k) (each (drives ed) xs));
            lighter = omega (arith, v.lighter, weight_both v.g a.to, length-append v.ks a.ks);
            tried_bound = omega (arith, v.tried_bound, paid);
            out_long = lo ∙ v.out_long;
            work_long = lw ∙ v.work_long;
            steps_long = lz ∙ v.steps_long;
          }

  -- all members are gathered
  pub finish : left ≤ 0 → Gave (opened_runs (inside k) (each (drives ed) l)) rest out₀ out work steps₀ steps d s e q n o m τ
  unfolding before encode_by of_list
  finish h =
      let z : v.r ≡ [] = none_of v.r (omega (arith, v.to_go)) in
      record {
        to = v.g;
        ks = v.ks;
        ran =
            v.goes_on ∙ ap (λ r. before v.g v.ks o τ (opened_runs (inside k) (each (drives ed) r))) z
            ∙ ap (before v.g v.ks o τ) (gather_none (inside k) ed)
            ∙ same_dones (append-nil v.g) (append-nil v.ks) (omega arith) (omega arith);
        many = v.gathered;
        end = v.end;
        wrote = v.wrote;
        left = v.stands ∙ ap (λ r. encode_all r ++ rest) z;
        place = subst (λ r. q * 16 + length (encode_all r ++ rest) ≡ length work) z v.place;
        noted_end = v.noted_end;
        noted = v.noted;
      }
