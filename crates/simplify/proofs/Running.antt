-- A run in areas of its own: the table's tree stands at the end of `work` and gets its notes there, the driver takes it, the notes are taken out of
-- the result, and clearing leaves the result, the steps, and zeros after them; after a refusal, zeros alone.
use Prim.Native.Nat.{ℕ, ◌+◌, ◌-◌, ◌*◌, ◌/◌, ◌%◌, ◌<◌, ◌≤◌}
use mathlib.Core.Path.{◌≡◌, refl, sym, ap, ◌∙◌, subst}
use mathlib.Core.List.{List, [], ◌++◌, append-nil}
use mathlib.Core.Option.{Option, some}
use native.Mathlib.Omega.{arith}
use lib.ListN.{length, take, drop, replicate, length-replicate, drop_of_length-le, take-append-drop}
use Rattle.paper.specs.Tree.{Tree, records, weight}
use Rattle.paper.specs.Table.{encode, tree_of}
use Rattle.paper.specs.Driver.{over}
use Rattle.paper.specs.Answers as paper
use Rattle.paper.proofs.EncodeLaws.{encode_length, records_weight}
use Rattle.paper.proofs.ReadLaws.{tree_of_written}
use Rattle.stretch.specs.Put.{part, put}
use Rattle.stretch.proofs.Laws.{drop_put_at, part_whole, take_put_end}
use Rattle.note.specs.Note.{note}
use Rattle.note.specs.Noted.{encode_by, Whole}
use Rattle.note.proofs.KeyLaws.{note_weight}
use Rattle.note.proofs.NotedLaws.{plain_encode, encode_by_length}
use Rattle.std.specs.Prelude.{None}
use Rattle.simplify.specs.declared.Answer.{Answer}
use Rattle.simplify.specs.Answer.{says, filled, Lending, Leaves}
use Rattle.driver.specs.Driven.{Set, Drove}
use Rattle.driver.specs.Paused.{first_stand, call, Called}
use Rattle.driver.proofs.Counting.{cost_small}
use Rattle.driver.proofs.Places.{put_there}
use Rattle.driver.proofs.Runs.{drives, drives_kept, run_lighter}

-- an area cleared from a place on
pub clear_end : (d xs : List ℕ) (a : ℕ) → take a d ≡ xs → length xs ≡ a → a ≤ length d → put d a (replicate (length d - a) 0) ≡ filled (length d) xs
unfolding put filled
clear_end d xs a e l h =
    let s : List ℕ = replicate (length d - a) 0 in
    let z : length s ≡ length d - a = length-replicate (length d - a) 0 in
    let n : length d ≤ a + length s = omega arith in
    ap (λ (i : List ℕ). take a d ++ (s ++ i)) (drop_of_length-le d n)
    ∙ ap (λ (i : List ℕ). take a d ++ i) (append-nil (replicate (length d - a) 0))
    ∙ ap (λ (i : List ℕ). i ++ replicate (length d - a) 0) e
    ∙ ap (λ i. xs ++ replicate (length d - i) 0) (sym l)

pub clear_all : (d : List ℕ) → put d 0 (replicate (length d) 0) ≡ filled (length d) []
clear_all d = let z : length d - 0 ≡ length d = omega arith in ap (λ i. put d 0 (replicate i 0)) (sym z) ∙ clear_end d [] 0 refl refl (omega arith)

-- the driver is called with no record done, no step noted, and no opening and no try so far
pub called_on : (ed : ℕ) {out work steps : List ℕ} {p : ℕ} {t : Tree} {rest : List ℕ} → Set out work steps 0 p 0 t rest
    → Called (call out work steps (first_stand ed p) t rest)
called_on ed {t = t} h = record { set = h; few = omega (arith, h.ready.light); few_tries = omega (arith, cost_small (weight t) h.ready.light) }

-- two trees of one table are one
pub lending_once : {table out steps work : List ℕ} {w : ℕ} {t u : Tree} → Lending table out steps work w t → Lending table out steps work w u → t ≡ u
lending_once {t = t} {u = u} a b =
    let same : ◌≡◌ {A = Option Tree} (some t) (some u)
    = sym (tree_of_written t a.wf a.light) ∙ ap tree_of (sym a.written ∙ b.written) ∙ tree_of_written u b.wf b.light in
    cc

module _ {table out steps work : List ℕ} {w : ℕ} {t : Tree} (h : Lending table out steps work w t) where
  pub for_every : (Q : Tree → Type 0) → Q t → (u : Tree) → Lending table out steps work w u → Q u
  for_every Q q u g = subst Q (lending_once h g) q

  long : length table ≡ 16 * records t
  long = ap length h.written ∙ encode_length t

  pub table_fits : (length table / 16 ≤ length work / 16) × ((length work / 16 - length table / 16) * 16 + length table ≡ length work)
  table_fits =
      let l = long in
      let r = records_weight t in
      (omega (arith, h.work_room, h.weighs), omega (arith, h.work_room, h.weighs, h.work_records))

  -- the table is copied
  module _ {work' : List ℕ} (c : work' ≡ put work ((length work / 16 - length table / 16) * 16) (part table 0 (length table)))
      (lw : length work' ≡ length work) where
    abbrev p : ℕ
    p = length work / 16 - length table / 16

    copied : drop (p * 16) work' ≡ encode t ++ []
    copied =
        let f = table_fits.1 in
        let e = c ∙ ap (put work (p * 16)) (part_whole table (length table) refl ∙ h.written) in
        let past : length work ≤ p * 16 + length (encode t) = omega (arith, long, encode_length t) in
        ap (drop (p * 16)) e ∙ drop_put_at work (p * 16) (encode t) (omega arith) ∙ ap (λ (i : List ℕ). encode t ++ i) (drop_of_length-le work past)

    pub whole_table : Whole (λ u. 0) work' p (length table / 16) t
    whole_table =
        record {
          there =
              record {
                wf = h.wf;
                light = h.light;
                stands = record { after = []; there = copied ∙ ap (λ (x : List ℕ). x ++ []) (sym (plain_encode t)) };
              };
          size = omega (arith, long);
        }

    -- and noted
    pub set_up : (work'' : List ℕ) → work'' ≡ put work' (p * 16) (encode_by note t) → length work'' ≡ length work' → Set out work'' steps 0 p 0 t []
    set_up work'' e l =
        let f = table_fits.1 in
        record {
          ready =
              record {
                wf = h.wf;
                light = h.light;
                stands =
                    ap (drop (p * 16)) e
                    ∙ put_there work' (encode t) (encode_by note t) [] (p * 16) copied (encode_by_length note t ∙ sym (encode_length t)) (omega (arith, lw));
                out_room = omega (arith, h.out_room, h.weighs);
                work_room = omega (arith, h.work_room, h.weighs);
              };
          steps_room = omega (arith, h.steps_room, h.weighs);
        }

  -- the run was refused, k steps being completed
  pub left_over : (ed : ℕ) (a : Answer) (k : ℕ) (out' steps' : List ℕ) {out'' steps'' : List ℕ}
      → (b : ℕ) × (drives ed t ≡ over b) × (k ≡ 0 + b) → says a ≡ paper.refusal 7 k
      → out'' ≡ put out' 0 (replicate (length out') 0) → steps'' ≡ put steps' 0 (replicate (length steps') 0)
      → length out' ≡ length out → length steps' ≡ length steps
      → Leaves (drives ed t) w a out out'' steps steps''
  unfolding paper.ran_answer paper.written paper.noted
  left_over ed a k out' steps' b s o z lo lz =
      let b2 = b.2 in
      let kb : k ≡ b.0 = omega arith in
      record {
        answer = s ∙ ap (paper.refusal 7) kb ∙ ap (paper.ran_answer w) (sym b.1);
        out_is = o ∙ clear_all out' ∙ ap (λ i. filled i []) lo ∙ ap (λ r. filled (length out) (paper.written r)) (sym b.1);
        steps_is = z ∙ clear_all steps' ∙ ap (λ i. filled i []) lz ∙ ap (λ r. filled (length steps) (paper.noted r)) (sym b.1);
      }

  -- the run is done
  module _ (ed : ℕ) {out' steps' work' : List ℕ} {e q n o τ : ℕ} (a : Drove (drives ed t) [] out out' work' steps steps' 0 0 e q n o τ)
      (lo : length out' ≡ length out) (lz : length steps' ≡ length steps) (lw : length work' ≡ length work) where
    lighter : length a.ks + o + weight a.to ≤ weight t
    lighter = (run_lighter t a.to a.ks o τ (drives ed t) (drives_kept ed t h.wf) a.ran).1

    pub done_fits : (e * 16 ≤ length out') × (n ≤ length steps') × (e < 65536)
    done_fits =
        let l = lighter in
        let r = records_weight a.to in
        (omega (arith, a.end, h.out_room, h.weighs), omega (arith, a.noted_end, h.steps_room, h.weighs), omega (arith, a.end, h.light))

    -- the notes are taken out of the result
    pub whole_result : Whole note out' 0 e a.to
    whole_result =
        let l = lighter in
        let after = drop (e * 16) out' in
        record {
          there =
              record {
                wf = (run_lighter t a.to a.ks o τ (drives ed t) (drives_kept ed t h.wf) a.ran).0;
                light = omega (arith, h.light);
                stands = record { after = after; there = sym (take-append-drop (e * 16) out') ∙ ap (λ (x : List ℕ). x ++ after) a.wrote };
              };
          size = omega (arith, a.end);
        }

    module _ {out₁ : List ℕ} (s : out₁ ≡ put out' (0 * 16) (encode a.to)) (l₁ : length out₁ ≡ length out') where
      stripped : take (e * 16) out₁ ≡ encode a.to
      stripped =
          ap (take (e * 16)) s
          ∙ take_put_end out' 0 (encode a.to) (e * 16) (omega (arith, encode_length a.to, a.end)) (omega arith)

      out_cleared : put out₁ (e * 16) (replicate (length out₁ - e * 16) 0) ≡ filled (length out) (encode a.to)
      out_cleared =
          clear_end out₁ (encode a.to) (e * 16) stripped (omega (arith, encode_length a.to, a.end)) (omega (arith, done_fits.0))
          ∙ ap (λ i. filled i (encode a.to)) (l₁ ∙ lo)

      pub left_done : (out'' steps'' : List ℕ) (x o' τ' : ℕ)
          → out'' ≡ put out₁ (e * 16) (replicate (length out₁ - e * 16) 0) → steps'' ≡ put steps' n (replicate (length steps' - n) 0)
          → x ≡ note a.to / 65536 % 65536 → o' ≡ 0 + o → τ' ≡ 0 + τ
          → Leaves (drives ed t) w
          (record { number = 0; place = 0; flaw = None; records = e; steps = n; openings = o'; weight_in = w; weight_out = x; tries = τ' })
          out out'' steps steps''
      unfolding paper.ran_answer paper.written paper.noted
      left_done out'' steps'' x o' τ' co cz cx eo et =
          let z : e ≡ records a.to = omega (arith, a.end) in
          let k : n ≡ length a.ks = omega (arith, a.noted_end) in
          let i : o' ≡ o = omega arith in
          let j : τ' ≡ τ = omega arith in
          let g : x ≡ weight a.to = cx ∙ note_weight a.to whole_result.there.light in
          record {
            answer = rw (z, k, g, i, j, a.ran) refl;
            out_is = co ∙ out_cleared ∙ ap (λ r. filled (length out) (paper.written r)) (sym a.ran);
            steps_is =
                cz ∙ clear_end steps' a.ks n a.noted (sym k) done_fits.1 ∙ ap (λ i. filled i a.ks) lz
                ∙ ap (λ r. filled (length steps) (paper.noted r)) (sym a.ran);
          }
