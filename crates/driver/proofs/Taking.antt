-- A gathered node is taken up: where its keys tell that no rule applies, it stays where it is; else it goes back in front of what is pending, and
-- where no step is taken it moves to where it was.
use Prim.Native.Nat.{ℕ, ◌+◌, ◌-◌, ◌*◌, ◌≤◌}
use mathlib.Core.Path.{◌≡◌, sym, ap, ◌∙◌, subst}
use mathlib.Core.List.{List, [], ◌++◌, append-nil, append_assoc}
use native.Mathlib.Omega.{arith}
use lib.ListN.{length, take, drop, length-append, take-append-drop}
use lib.Seq.{drop-drop, drop_at, length-take-le}
use Rattle.paper.specs.Tree.{Tree, records, weight}
use Rattle.paper.specs.Rules.{rules_of}
use Rattle.paper.proofs.EncodeLaws.{records_pos, records_weight}
use Rattle.stretch.specs.Put.{part, put}
use Rattle.stretch.proofs.Laws.{take_put_end}
use Rattle.note.specs.Note.{note}
use Rattle.note.specs.Noted.{TreeBy}
use Rattle.still.specs.Keys.{Scratched}
use Rattle.note.proofs.NotedLaws.{encode_by_length}
use Rattle.driver.specs.Driven.{with_notes, Set, Back, Came}
use Rattle.driver.proofs.Forests.{few_records, tree_once}
use Rattle.driver.proofs.Places.{none_of, advance, part_there, part_end, ends_after, put_before}
use Rattle.driver.proofs.Stepping.{nothing_taken}

-- ---- a gathered node
-- which node is gathered is determined
pub back_for_every : {out work steps : List ℕ} {d e q s : ℕ} {g : Tree} {rest : List ℕ} → Back out work steps d e q s g rest
    → (Q : Tree → List ℕ → Type 0) → Q g rest → (u : Tree) (r : List ℕ) → Back out work steps d e q s u r → Q u r
back_for_every {out = out} {d = d} {g = g} {rest = rest} a Q x u r b =
    let front : length (take (d * 16) out) ≡ d * 16 = length-take-le (d * 16) out (omega (arith, a.out_room)) in
    let same : with_notes g ≡ with_notes u
    = sym (drop_at (take (d * 16) out) (with_notes g) (d * 16) front) ∙ ap (drop (d * 16)) (sym a.there ∙ b.there)
    ∙ drop_at (take (d * 16) out) (with_notes u) (d * 16) front in
    let t = tree_once g u [] [] a.wf b.wf (few_records g a.light) (few_records u b.light) (ap (λ (y : List ℕ). y ++ []) same) in
    subst (λ y. Q u y) (sym a.left ∙ b.left) (subst (λ y. Q y rest) t.0 x)

module _ {out work steps : List ℕ} {d e q s : ℕ} {g : Tree} {rest : List ℕ} (b : Back out work steps d e q s g rest) where
  front_long : length (take (d * 16) out) ≡ d * 16
  front_long = length-take-le (d * 16) out (omega (arith, b.out_room))

  pub tree_done : TreeBy note out d g
  tree_done =
      let after = drop (e * 16) out in
      record {
        wf = b.wf;
        light = b.light;
        stands =
            record {
              after = after;
              there =
                  ap (drop (d * 16)) (sym (take-append-drop (e * 16) out) ∙ ap (λ (x : List ℕ). x ++ after) b.there
                  ∙ append_assoc (take (d * 16) out) (with_notes g) after)
                  ∙ drop_at (take (d * 16) out) (with_notes g ++ after) (d * 16) front_long;
            };
      }

  pub scratch_room : 0 + 16 * weight g ≤ length work
  scratch_room = omega (arith, b.work_room)

  pub size_fits : (e - d ≡ records g) × (e - d ≤ q) × (e * 16 ≤ length out) × (q * 16 ≤ length work) × (d ≤ e)
  size_fits =
      let r = records_weight g in (
        omega (arith, b.end),
        omega (arith, b.end, b.place, b.work_room),
        omega (arith, b.end, b.out_room),
        omega (arith, b.place),
        omega (arith, b.end),
      )

  -- where it went back, it ends where it ended
  pub ends_quiet : q - (e - d) + records g ≡ q
  ends_quiet = let f0 = size_fits.0 in let f1 = size_fits.1 in omega arith

  -- scratch in work is in front of what is pending
  module _ {work' : List ℕ} (c : Scratched work work' 0 (16 * weight g)) where
    pub left_alone : drop (q * 16) work' ≡ rest
    left_alone =
        let n : ℕ = q * 16 - 16 * weight g in
        let fits : q * 16 ≡ 0 + 16 * weight g + n = omega (arith, b.place, b.work_room) in
        ap (λ i. drop i work') fits ∙ sym (drop-drop n (0 + 16 * weight g) work') ∙ ap (drop n) c.past ∙ drop-drop n (0 + 16 * weight g) work
        ∙ ap (λ i. drop i work) (sym fits) ∙ b.left

    pub place_kept : q * 16 + length rest ≡ length work'
    place_kept = b.place ∙ sym c.long

    -- it goes back in front of what is pending
    pub set_back : (work'' : List ℕ) → work'' ≡ put work' ((q - (e - d)) * 16) (part out (d * 16) ((e - d) * 16)) → length work'' ≡ length work'
        → Set out work'' steps d (q - (e - d)) s g rest
    set_back work'' w l =
        let f = size_fits in
        let f0 = f.0 in
        let f1 = f.1 in
        let f4 = f.4 in
        let long : length (with_notes g) ≡ (e - d) * 16 = omega (arith, encode_by_length note g) in
        let ends : e * 16 ≡ d * 16 + (e - d) * 16 = omega arith in
        let room : (q - (e - d)) * 16 + length (with_notes g) ≡ q * 16 = omega arith in
        record {
          ready =
              record {
                wf = b.wf;
                light = b.light;
                stands =
                    ap (drop ((q - (e - d)) * 16))
                    (w ∙ ap (put work' ((q - (e - d)) * 16))
                    (part_end out (take (d * 16) out) (with_notes g) (d * 16) ((e - d) * 16) (e * 16) b.there ends front_long long (omega (arith, f.2))))
                    ∙ put_before work' (with_notes g) rest ((q - (e - d)) * 16) (q * 16) room left_alone (omega (arith, f.3, c.long));
                out_room = b.out_room;
                work_room = omega (arith, b.work_room, c.long);
              };
          steps_room = b.steps_room;
        }

  -- no step was taken: it moves to where it was
  module _ (ed : ℕ) {u : Tree} {out' work' steps' : List ℕ} {r m : ℕ} (c : Came (rules_of ed) g u rest out out' work' steps steps' d s r m)
      (lo : length out' ≡ length out) (none : m ≤ s) where
    no_steps : c.ks ≡ []
    no_steps = none_of c.ks (omega (arith, c.noted_end))

    pub same_tree : g ≡ u
    same_tree = nothing_taken c.taken (ap length no_steps)

    pub same_steps : take s steps' ≡ take s steps
    same_steps =
        let z : s ≡ m = omega (arith, c.noted_end) in
        ap (λ i. take i steps') z ∙ c.noted ∙ ap (λ (x : List ℕ). take s steps ++ x) no_steps ∙ append-nil (take s steps)

    stands_same : drop (r * 16) work' ≡ with_notes g ++ rest
    stands_same = c.stands ∙ ap (λ x. with_notes x ++ rest) (sym same_tree)

    tree_long : length (with_notes g) ≡ (e - d) * 16
    tree_long = let f0 = size_fits.0 in omega (arith, encode_by_length note g)

    pub ends_there : (r + (e - d)) * 16 + length rest ≡ length work'
    ends_there =
        let f0 = size_fits.0 in
        let l = length-append (with_notes g) rest in
        omega (arith, tree_long, records_pos g, ends_after work' (with_notes g ++ rest) (r * 16) stands_same (omega (arith, tree_long, records_pos g)))

    pub left_there : drop ((r + (e - d)) * 16) work' ≡ rest
    left_there = advance work' (with_notes g) rest r (e - d) stands_same (omega (arith, tree_long))

    pub done_again : (out'' : List ℕ) → out'' ≡ put out' (d * 16) (part work' (r * 16) ((e - d) * 16)) → take (e * 16) out'' ≡ take (e * 16) out
    done_again out'' w =
        let f4 = size_fits.4 in
        let ends : e * 16 ≡ d * 16 + length (with_notes g) = omega (arith, tree_long) in
        ap (take (e * 16)) (w ∙ ap (put out' (d * 16)) (part_there work' (with_notes g) rest (r * 16) ((e - d) * 16) stands_same tree_long))
        ∙ take_put_end out' (d * 16) (with_notes g) (e * 16) ends (omega (arith, size_fits.2))
        ∙ ap (λ (x : List ℕ). x ++ with_notes g) c.kept ∙ sym b.there
