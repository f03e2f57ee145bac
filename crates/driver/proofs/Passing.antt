-- A pass: the first record of the node goes to what is done, its members stand after it and are gathered behind it, and the gathered
-- node is closed up.
use Prim.Native.Nat.{ℕ, ◌+◌, ◌-◌, ◌*◌, ◌<◌, ◌≤◌}
use mathlib.Core.Path.{◌≡◌, refl, sym, ap, ◌∙◌}
use mathlib.Core.List.{List, ◌++◌, append_assoc}
use native.Mathlib.Omega.{arith}
use lib.ListN.{length, take, drop, length-append}
use lib.Seq.{drop_at}
use Rattle.paper.specs.Tree.{Tree, integer, symbol, sum, product, power, of_list, records, weight}
use Rattle.paper.specs.WellFormed.{WF}
use Rattle.paper.specs.Record.{kind, arity}
use Rattle.paper.specs.Driver.{done, over, overs, each, members, base_from}
use Rattle.paper.proofs.EncodeLaws.{records_pos, records_weight}
use Rattle.note.proofs.NotedLaws.{wf_mark, encode_by_length, encodes_by_length}
use Rattle.paper.proofs.GatherLaws.{members_wf}
use Rattle.paper.proofs.WFLaws.{of_to_list}
use Rattle.note.specs.Note.{note}
use Rattle.stretch.specs.Put.{part, put}
use Rattle.stretch.proofs.Laws.{take_put_end}
use Rattle.driver.specs.Driven.{with_notes, encode_all, records_all, kind_number, first_record, inside, opened_runs, passed, closed_over}
use Rattle.driver.specs.Driven.{Set, SetAll, Drove, Gave, Gathers, Closed}
use Rattle.driver.proofs.Forests.{front_long, few_records, encode_first, records_first, first_length, members_weigh}
use Rattle.driver.proofs.Places.{advance, part_there, ends_after, front_of_lem, front_fits}
use Rattle.driver.proofs.Runs.{drives, closed_runs, pass_closed, pass_kept, run_lighter, members_still}
use Rattle.driver.proofs.Finishing.{shape}
use Rattle.driver.proofs.FirstRecords.{kind_first, arity_first}

-- a node with its own members is itself
closed_same : (t : Tree) → WF t → closed_over t (members t) ≡ t
unfolding closed_over members base_from
closed_same (integer μ z) w = refl
closed_same (symbol μ v) w = refl
closed_same (sum μ f) w = ap (sum μ) (of_to_list f)
closed_same (product μ f) w = ap (product μ) (of_to_list f)
closed_same (power μ b ξ e) w = refl

module _ {out work steps : List ℕ} {d p s : ℕ} {t : Tree} {rest : List ℕ} (h : Set out work steps d p s t rest) where
  small : records t < 65536
  small = few_records t h.ready.light

  long : length (with_notes t ++ rest) ≡ 16 * records t + length rest
  long = length-append (with_notes t) rest ∙ ap (λ n. n + length rest) (encode_by_length note t)

  ends : p * 16 + length (with_notes t ++ rest) ≡ length work
  ends = ends_after work (with_notes t ++ rest) (p * 16) h.ready.stands (omega (arith, long, records_pos t))

  pub record_fits : (p * 16 + 16 ≤ length work) × (d * 16 + 16 ≤ length out)
  record_fits = (omega (arith, ends, long, records_pos t), omega (arith, h.ready.out_room, records_pos t, records_weight t))

  pub kind_is : kind work p ≡ kind_number t
  kind_is = kind_first work p t rest h.ready.stands

  pub arity_is : arity work p ≡ length (members t)
  arity_is = arity_first work p t rest h.ready.stands small

  stands : drop (p * 16) work ≡ first_record t ++ (encode_all (members t) ++ rest)
  stands =
      h.ready.stands ∙ ap (λ (x : List ℕ). x ++ rest) (encode_first t h.ready.wf) ∙ append_assoc (first_record t) (encode_all (members t)) rest

  members_stand : drop ((p + 1) * 16) work ≡ encode_all (members t) ++ rest
  members_stand = advance work (first_record t) (encode_all (members t) ++ rest) p 1 stands (first_length t)

  -- the first record is copied
  module _ (out' : List ℕ) (c : out' ≡ put out (d * 16) (part work (p * 16) 16)) where
    pub front_now : take ((d + 1) * 16) out' ≡ take (d * 16) out ++ first_record t
    front_now =
        let f = record_fits.1 in
        let l = first_length t in
        let e : (d + 1) * 16 ≡ d * 16 + length (first_record t) = omega arith in
        ap (take ((d + 1) * 16)) (c ∙ ap (put out (d * 16)) (part_there work (first_record t) (encode_all (members t) ++ rest) (p * 16) 16 stands l))
        ∙ take_put_end out (d * 16) (first_record t) ((d + 1) * 16) e (omega arith)

    pub members_set : length out' ≡ length out → SetAll out' work steps (d + 1) (p + 1) s (members t) rest
    members_set lo =
        let w = members_weigh t in
        let r = h.ready in
        let x : length (encode_all (members t) ++ rest) ≡ 16 * records_all (members t) + length rest
        = length-append (encode_all (members t)) rest ∙ ap (λ n. n + length rest) (encodes_by_length note (of_list (members t))) in
        record {
          wf = members_wf t r.wf;
          light = omega (arith, r.light);
          stands = members_stand;
          place = omega (arith, ends, long, records_first t);
          out_room = omega (arith, r.out_room);
          work_room = omega (arith, r.work_room);
          steps_room = omega (arith, h.steps_room);
        }

    -- the members were refused
    pub burst : (ed k : ℕ) → k ≡ kind_number t → (n : ℕ) → (b : ℕ) × (opened_runs (inside k) (each (drives ed) (members t)) ≡ overs b) × (n ≡ s + b)
        → (b : ℕ) × (passed t (each (drives ed) (members t)) ≡ over b) × (n ≡ s + b)
    unfolding closed_runs
    burst ed k e n b = (
      b.0,
      pass_closed t (each (drives ed) (members t)) ∙ ap (λ j. closed_runs t (opened_runs (inside j) (each (drives ed) (members t)))) (sym e)
          ∙ ap (closed_runs t) b.1,
      b.2,
    )

    -- the members are gathered
    module _ (ed : ℕ) {k : ℕ} (e : k ≡ kind_number t) {out'' work'' steps'' : List ℕ} {e' q n o m τ : ℕ}
        (a : Gave (opened_runs (inside k) (each (drives ed) (members t))) rest out' out'' work'' steps steps'' (d + 1) s e' q n o m τ)
        (lo : length out' ≡ length out) (lo' : length out'' ≡ length out') where
      gathered_all : take (e' * 16) out'' ≡ take (d * 16) out ++ (first_record t ++ encode_all a.to)
      gathered_all = a.wrote ∙ ap (λ (x : List ℕ). x ++ encode_all a.to) front_now ∙ append_assoc (take (d * 16) out) (first_record t) (encode_all a.to)

      close_fits : e' * 16 ≤ length out''
      close_fits =
          let l = first_length t in
          let g = a.end in
          front_fits out'' (take (d * 16) out ++ (first_record t ++ encode_all a.to)) (e' * 16) gathered_all
          (length-append (take (d * 16) out) (first_record t ++ encode_all a.to)
          ∙ omega (arith, front_long h, length-append (first_record t) (encode_all a.to), encodes_by_length note (of_list a.to)))

      -- the run of the pass, and what it keeps
      ran : passed t (each (drives ed) (members t)) ≡ done (closed_over t a.to) a.ks o τ
      unfolding closed_runs
      ran =
          pass_closed t (each (drives ed) (members t)) ∙ ap (λ j. closed_runs t (opened_runs (inside j) (each (drives ed) (members t)))) (sym e)
          ∙ ap (closed_runs t) a.ran

      less : WF (closed_over t a.to) × (length a.ks + o + weight (closed_over t a.to) ≤ weight t)
      less = run_lighter t (closed_over t a.to) a.ks o τ _ (pass_kept ed t h.ready.wf) ran

      pub gathers : Gathers t a.to out'' d e' k m
      gathers =
          let l = less.1 in
          record {
            kind_is = e;
            mark_wf = wf_mark t h.ready.wf;
            wf = less.0;
            light = omega (arith, h.ready.light);
            shape = shape ed t h.ready.wf a.to a.ks o τ (ap (λ j. opened_runs (inside j) (each (drives ed) (members t))) (sym e) ∙ a.ran);
            many = a.many;
            end = a.end;
            there = ap (drop (d * 16)) gathered_all ∙ drop_at (take (d * 16) out) (first_record t ++ encode_all a.to) (d * 16) (front_long h);
            within = close_fits;
          }

      pub closed_up_lem : {out3 : List ℕ} {r : ℕ} → Closed (closed_over t a.to) out'' out3 d r
          → Drove (passed t (each (drives ed) (members t))) rest out out3 work'' steps steps'' d s r q n o τ
      closed_up_lem b =
          record {
            to = closed_over t a.to;
            ks = a.ks;
            ran = ran;
            end = b.end;
            wrote =
                b.wrote ∙ ap (λ (x : List ℕ). x ++ with_notes (closed_over t a.to))
                (front_of_lem out'' (take (d * 16) out) (first_record t ++ encode_all a.to) (d * 16)
                (e' * 16) gathered_all (front_long h) (omega (arith, a.end)));
            left = a.left;
            place = a.place;
            noted_end = a.noted_end;
            noted = a.noted;
          }

      -- nothing changed: the members came back as they were, and so the node's record is right as it stands
      pub as_it_was : n - s + o < 1 → Drove (passed t (each (drives ed) (members t))) rest out out'' work'' steps steps'' d s e' q n o τ
      as_it_was z =
          let same : a.to ≡ members t
          = members_still ed (inside k) t h.ready.wf a.to a.ks o τ a.ran (omega (arith, a.noted_end)) in
          record {
            to = t;
            ks = a.ks;
            ran = ran ∙ ap (λ u. done u a.ks o τ) (ap (closed_over t) same ∙ closed_same t h.ready.wf);
            end = a.end ∙ ap (λ l. d + 1 + records_all l) same ∙ omega (arith, records_first t);
            wrote =
                gathered_all
                ∙ ap (λ (x : List ℕ). take (d * 16) out ++ x) (ap (λ l. first_record t ++ encode_all l) same ∙ sym (encode_first t h.ready.wf));
            left = a.left;
            place = a.place;
            noted_end = a.noted_end;
            noted = a.noted;
          }
