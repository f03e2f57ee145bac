-- One member: what the driver gave is kept as it is, or opened where it is of the node's kind, by moving its members over its first
-- record.
use Prim.Native.Nat.{ℕ, ◌+◌, ◌-◌, ◌*◌, ◌<◌, ◌≤◌}
use mathlib.Core.Path.{◌≡◌, refl, sym, ap, ◌∙◌, subst}
use mathlib.Core.Bool.{true, false, ◌&&◌}
use mathlib.Core.List.{List, [], ◌∷◌, ◌++◌, append-nil, append_assoc}
use mathlib.Core.Option.{Option, none, some}
use native.Mathlib.Omega.{arith}
use lib.Dec.{eqb}
use lib.ListN.{length, take, drop, length-append, take-append-drop}
use lib.Seq.{drop_at}
use Rattle.paper.specs.Tree.{Tree, of_list, records, weight}
use Rattle.paper.specs.Record.{kind, count_in, is_node}
use Rattle.paper.specs.WellFormed.{WF}
use Rattle.paper.specs.Driver.{Ran, done, over, dones, overs, and_then, each, members, open_one, opened}
use Rattle.paper.proofs.EncodeLaws.{records_pos, records_weight}
use Rattle.note.proofs.NotedLaws.{encodes_by_length}
use Rattle.paper.proofs.Value.{total, list_weights}
use Rattle.paper.proofs.GatherLaws.{opened_weight}
use Rattle.note.specs.Note.{note}
use Rattle.note.specs.Noted.{encode_by}
use Rattle.stretch.specs.Put.{part, put}
use Rattle.stretch.proofs.Laws.{take_put_end}
use Rattle.driver.specs.Driven.{with_notes, encode_all, records_all, weight_all, kind_number, first_record, inside, opened_runs, Set, Drove, Gave}
use Rattle.driver.proofs.Forests.{encode_first, records_first, first_length, front_long}
use Rattle.driver.proofs.Places.{part_end, front_of_lem}
use Rattle.driver.proofs.Runs.{drives, drives_kept, run_lighter, same_dones}
use Rattle.driver.proofs.FirstRecords.{kind_first, Open, is_opened, is_kept, inside_opens}

-- ---- the runs of one member, gathered
module _ (ed k : ℕ) (t : Tree) where
  pub one_over : (j : ℕ) → drives ed t ≡ over j → opened_runs (inside k) (each (drives ed) (t ∷ [])) ≡ overs j
  unfolding opened_runs each and_then
  one_over j e = ap (λ r. opened_runs (inside k) (and_then r (dones [] [] 0 0))) e

  module _ (u : Tree) (ks : List ℕ) (o τ : ℕ) (e : drives ed t ≡ done u ks o τ) where
    one_done : (x : Option (List Tree)) → inside k u ≡ x
        → opened_runs (inside k) (each (drives ed) (t ∷ [])) ≡ dones (open_one x u ([], 0)).0 (ks ++ []) (o + 0 + (open_one x u ([], 0)).1) (τ + 0)
    unfolding opened_runs each and_then opened
    one_done x h =
        ap (λ r. opened_runs (inside k) (and_then r (dones [] [] 0 0))) e
        ∙ ap (λ x. dones (open_one x u ([], 0)).0 (ks ++ []) (o + 0 + (open_one x u ([], 0)).1) (τ + 0)) h

    pub one_kept : inside k u ≡ none → opened_runs (inside k) (each (drives ed) (t ∷ [])) ≡ dones (u ∷ []) ks o τ
    unfolding open_one
    one_kept h = one_done none h ∙ same_dones refl (append-nil ks) (omega arith) (omega arith)

    pub one_opened : (l : List Tree) → inside k u ≡ some l → opened_runs (inside k) (each (drives ed) (t ∷ [])) ≡ dones l ks (o + 1) τ
    unfolding open_one
    one_opened l h = one_done (some l) h ∙ same_dones (append-nil l) (append-nil ks) (omega arith) (omega arith)

-- a member's results weigh less than it by its steps and openings
one_weighs : (k : ℕ) (t : Tree) (r : Ran) → ((u : Tree) (s : List ℕ) (o τ : ℕ) → r ≡ done u s o τ → length s + o + weight u ≤ weight t)
    → (l : List Tree) (ks : List ℕ) (n τ : ℕ) → opened_runs (inside k) (and_then r (dones [] [] 0 0)) ≡ dones l ks n τ
    → weight_all l + (length ks + n) ≤ weight t
unfolding opened_runs and_then
one_weighs k t (over j) h l ks n τ e = absurd (let z : ◌≡◌ {A = ℕ} 0 1 = cc in omega arith)
one_weighs k t (done u s o υ) h l ks n τ e =
    let w = h u s o υ refl in
    let a : (opened (inside k) (u ∷ [])).0 ≡ l = cc in
    let b : s ++ [] ≡ ks = cc in
    let c : o + 0 + (opened (inside k) (u ∷ [])).1 ≡ n = cc in
    let d : total weight (opened (inside k) (u ∷ [])).0 + (opened (inside k) (u ∷ [])).1 ≡ weight u + 0
    = opened_weight (inside_opens k) (u ∷ []) ∙ unfold total in refl in
    let f : weight_all l ≡ total weight (opened (inside k) (u ∷ [])).0 = list_weights l ∙ ap (total weight) (sym a) in
    let g : length ks ≡ length s + 0 = ap length (sym b) ∙ length-append s [] in
    omega arith

pub member_weighs : (ed k : ℕ) (t : Tree) → ((u : Tree) (s : List ℕ) (o τ : ℕ) → drives ed t ≡ done u s o τ → length s + o + weight u ≤ weight t)
    → (l : List Tree) (ks : List ℕ) (n τ : ℕ) → opened_runs (inside k) (each (drives ed) (t ∷ [])) ≡ dones l ks n τ
    → weight_all l + (length ks + n) ≤ weight t
unfolding each
member_weighs ed k t h l ks n τ e = one_weighs k t (drives ed t) h l ks n τ e

-- ---- the member's result stands at the end of what is done
module _ (ed : ℕ) {t : Tree} {rest out out' work steps work' steps' : List ℕ} {d p s e q n o τ : ℕ}
    (h : Set out work steps d p s t rest) (a : Drove (drives ed t) rest out out' work' steps steps' d s e q n o τ) (lo : length out' ≡ length out) where
  lighter : length a.ks + o + weight a.to ≤ weight t
  lighter = (run_lighter t a.to a.ks o τ (drives ed t) (drives_kept ed t h.ready.wf) a.ran).1

  result_wf : WF a.to
  result_wf = (run_lighter t a.to a.ks o τ (drives ed t) (drives_kept ed t h.ready.wf) a.ran).0

  small : records a.to < 65536
  small = omega (arith, lighter, records_weight a.to, h.ready.light)

  pub member_fits : (d + 1 ≤ e) × (e * 16 ≤ length out') × (o < 65536)
  member_fits =
      let l = lighter in
      let r = records_weight a.to in
      let c = records_pos a.to in
      (omega (arith, a.end), omega (arith, a.end, h.ready.out_room), omega (arith, h.ready.light))

  stands : drop (d * 16) out' ≡ with_notes a.to ++ drop (e * 16) out'
  stands =
      let past = drop (e * 16) out' in
      ap (drop (d * 16))
      (sym (take-append-drop (e * 16) out') ∙ ap (λ (x : List ℕ). x ++ past) a.wrote ∙ append_assoc (take (d * 16) out) (with_notes a.to) past)
      ∙ drop_at (take (d * 16) out) (with_notes a.to ++ past) (d * 16) (front_long h)

  pub member_kind : kind out' d ≡ kind_number a.to
  member_kind = kind_first out' d a.to (drop (e * 16) out') stands

  module _ (k : ℕ) where
    -- it is not of the node's kind
    pub as_it_is : (eqb (kind out' d) k && is_node k) ≡ false
        → Gave (opened_runs (inside k) (each (drives ed) (t ∷ []))) rest out out' work' steps steps' d s e q n o 1 τ
    unfolding encode_by records of_list
    as_it_is b =
        record {
          to = a.to ∷ [];
          ks = a.ks;
          ran = one_kept ed k t a.to a.ks o τ a.ran (is_kept k a.to (subst (λ j. (eqb j k && is_node k) ≡ false) member_kind b));
          many = refl;
          end = a.end ∙ omega arith;
          wrote = a.wrote ∙ ap (λ (x : List ℕ). take (d * 16) out ++ x) (sym (append-nil (with_notes a.to)));
          left = a.left;
          place = a.place;
          noted_end = a.noted_end;
          noted = a.noted;
        }

    -- it is, and is opened
    module _ (b : (eqb (kind out' d) k && is_node k) ≡ true) where
      is_open : Open k a.to
      is_open = is_opened k a.to (subst (λ j. (eqb j k && is_node k) ≡ true) member_kind b)

      pub opened_up : (out'' : List ℕ) → out'' ≡ put out' (d * 16) (part out' (d * 16 + 16) ((e - d - 1) * 16))
          → Gave (opened_runs (inside k) (each (drives ed) (t ∷ []))) rest out out'' work' steps steps' d s (e - 1) q n (o + 1) (count_in out' d) τ
      opened_up out'' c =
          let l : List Tree = members a.to in
          let f0 = member_fits.0 in
          let f1 = member_fits.1 in
          let r : records a.to ≡ 1 + records_all l = records_first a.to in
          let g : take (e * 16) out' ≡ (take (d * 16) out ++ first_record a.to) ++ encode_all l
          = a.wrote ∙ ap (λ (x : List ℕ). take (d * 16) out ++ x) (encode_first a.to result_wf)
          ∙ sym (append_assoc (take (d * 16) out) (first_record a.to) (encode_all l)) in
          let x : length (take (d * 16) out ++ first_record a.to) ≡ d * 16 + 16
          = length-append (take (d * 16) out) (first_record a.to) ∙ omega (arith, front_long h, first_length a.to) in
          let y : length (encode_all l) ≡ (e - d - 1) * 16 = omega (arith, encodes_by_length note (of_list l), a.end) in
          let m : e * 16 ≡ d * 16 + 16 + (e - d - 1) * 16 = omega arith in
          let i : (e - 1) * 16 ≡ d * 16 + length (encode_all l) = omega arith in
          record {
            to = l;
            ks = a.ks;
            ran = one_opened ed k t a.to a.ks o τ a.ran l is_open.opens_to;
            many = is_open.counted out' d (drop (e * 16) out') stands small;
            end = omega (arith, a.end);
            wrote =
                ap (take ((e - 1) * 16))
                (c ∙ ap (put out' (d * 16)) (part_end out' (take (d * 16) out ++ first_record a.to) (encode_all l) (d * 16 + 16)
                ((e - d - 1) * 16) (e * 16) g m x y (omega arith)))
                ∙ take_put_end out' (d * 16) (encode_all l) ((e - 1) * 16) i (omega arith)
                ∙ ap (λ (z : List ℕ). z ++ encode_all l)
                (front_of_lem out' (take (d * 16) out) (with_notes a.to) (d * 16) (e * 16) a.wrote (front_long h) (omega arith));
            left = a.left;
            place = a.place;
            noted_end = a.noted_end;
            noted = a.noted;
          }
