-- The states of the walk: what has come out, what is being looked at and what is left, so that the rest of the walk from here, put onto
-- what was done, is the whole walk. Each step of the code leads from one such state to the next, by the law of the paper's walk for that
-- step; where it ends, the whole walk's outcome is known.
use Rattle.std.proofs.Common.{◌≡◌, ℕ, zero, suc, ◌+◌, ◌*◌, ◌≤◌, Bool, true, false, ◌&&◌, List, [], ◌∷◌, ◌++◌, map, length, take, drop, sym, refl, ap}
use Rattle.std.proofs.Common.{◌∙◌, arith, length-append, take-take}
use Rattle.paper.specs.Tree.{Tree, of_list, records, recordses}
use Rattle.paper.specs.Walk.{WalkEnd, walk}
use Rattle.paper.specs.Rules as paper
use Rattle.paper.specs.Rules.{all_in_range, rebuilt, outcome, combine}
use Rattle.note.specs.Note.{note}
use Rattle.note.specs.Noted.{encode_by, encodes_by}
use Rattle.stretch.specs.Put.{put}
use Rattle.stretch.proofs.Laws.{take_put}
use Rattle.part.specs.Like.{Like, node_of, split, merge, join}
use Rattle.part.specs.Part.{Shows, From}
use Rattle.part.specs.declared.Part.{Part}
use Rattle.part.specs.declared.Part.TheVariants as part
use Rattle.rebuilt.proofs.Encoded.{recordses_snoc, built_more}
use Rattle.walk.specs.Walked.{combined}
use Rattle.walk.proofs.EntryLaws.{tree_still}

-- ---- the outcome of the whole walk
abbrev pub walked : (b : Bool) → List Tree → WalkEnd (Like b)
walked b l = walk (merge b) (length l) (map (split b) l)

-- the members that parts become
abbrev pub outs : (b : Bool) → List (Like b) → List Tree
outs b done = map (λ r. r.0) (map (join b) done)

module _ (b : Bool) (l : List Tree) (done : List (Like b)) (r : ℕ) (w : walked b l ≡ record { parts = done; removed = r }) (μ : ℕ) where
  as_outcome : combined b μ l ≡ outcome (node_of b μ) (map (join b) done) r
  unfolding combine
  as_outcome = ap (λ w. outcome (node_of b μ) (map (join b) w.parts) w.removed) w

  pub idle_outcome : r ≡ 0 → combined b μ l ≡ paper.does_not_apply
  unfolding outcome
  idle_outcome e = as_outcome ∙ ap (outcome (node_of b μ) (map (join b) done)) e

  judged : 1 ≤ r → outcome (node_of b μ) (map (join b) done) r ≡ rebuilt (node_of b μ) (map (join b) done) (all_in_range (map (join b) done))
  unfolding outcome
  judged h = go r h
    where
      go : (r : ℕ) → 1 ≤ r → outcome (node_of b μ) (map (join b) done) r ≡ rebuilt (node_of b μ) (map (join b) done) (all_in_range (map (join b) done))
      go zero h = absurd (omega arith)
      go (suc r) h = refl

  pub over_outcome : 1 ≤ r → all_in_range (map (join b) done) ≡ false → combined b μ l ≡ paper.range_exceeded
  unfolding rebuilt
  over_outcome h e = as_outcome ∙ judged h ∙ ap (rebuilt (node_of b μ) (map (join b) done)) e

  pub done_outcome : 1 ≤ r → all_in_range (map (join b) done) ≡ true → combined b μ l ≡ paper.applies (node_of b μ (outs b done))
  unfolding rebuilt
  done_outcome h e = as_outcome ∙ judged h ∙ ap (rebuilt (node_of b μ) (map (join b) done)) e

pub all_snoc : (b : Bool) (done rest : List (Like b)) (c : Like b) → (join b c).1 ≡ false → all_in_range (map (join b) (done ++ (c ∷ rest))) ≡ false
unfolding all_in_range
all_snoc b [] rest c e = ap (λ t. t && all_in_range (map (join b) rest)) e
all_snoc b (x ∷ done) rest c e = go (join b x).1 (all_snoc b done rest c e)
  where
    go : (t : Bool) {u : Bool} → u ≡ false → t && u ≡ false
    go true h = h
    go false h = refl

still_bad : (b : Bool) (done : List (Like b)) (c : Like b) → all_in_range (map (join b) done) ≡ false → all_in_range (map (join b) (done ++ (c ∷ []))) ≡ false
unfolding all_in_range
still_bad b [] c e = absurd (let o : ◌≡◌ {A = ℕ} 0 1 = cc in omega arith)
still_bad b (x ∷ done) c e = go (join b x).1 e (still_bad b done c)
  where
    go : (t : Bool) {u v : Bool} → t && u ≡ false → (u ≡ false → v ≡ false) → t && v ≡ false
    go true h f = f h
    go false h f = refl

all_good : (b : Bool) (done : List (Like b)) (c : Like b) → all_in_range (map (join b) done) ≡ true → (join b c).1 ≡ true
    → all_in_range (map (join b) (done ++ (c ∷ []))) ≡ true
unfolding all_in_range
all_good b [] c e f = ap (λ t. t && true) f
all_good b (x ∷ done) c e f = go (join b x).1 e (λ h. all_good b done c h f)
  where
    go : (t : Bool) {u v : Bool} → t && u ≡ true → (u ≡ true → v ≡ true) → t && v ≡ true
    go true h f = f h
    go false h f = h

pub outs_snoc : (b : Bool) (done : List (Like b)) (c : Like b) → outs b (done ++ (c ∷ [])) ≡ outs b done ++ ((join b c).0 ∷ [])
outs_snoc b [] c = refl
outs_snoc b (x ∷ done) c = ap (λ m. (join b x).0 ∷ m) (outs_snoc b done c)

pub outs_many : (b : Bool) (done : List (Like b)) → length (outs b done) ≡ length done
outs_many b [] = refl
outs_many b (x ∷ done) = ap suc (outs_many b done)

-- ---- what stands in `out`: the members that came out, as long as all are in range
abbrev pub Came : (b : Bool) (d : ℕ) (o₀ o : List ℕ) (e : ℕ) (done : List (Like b)) → Bool → Type 0
Came b d o₀ o e done true = all_in_range (map (join b) done) ≡ false
Came b d o₀ o e done false =
    (all_in_range (map (join b) done) ≡ true)
    × (take (e * 16) o ≡ take ((d + 1) * 16) o₀ ++ encodes_by note (of_list (outs b done)))
    × (e ≡ d + 1 + recordses (of_list (outs b done)))

pub record Common (b : Bool) (o₀ w₀ : List ℕ) (d p : ℕ) (o w : List ℕ) (i e : ℕ) (late : Bool) (done : List (Like b)) : Type 0 where
  pub many : length done ≡ i
  pub pending : drop (p * 16) w ≡ drop (p * 16) w₀
  pub low : d + 1 ≤ e
  pub front : take ((d + 1) * 16) o ≡ take ((d + 1) * 16) o₀
  pub came : Came b d o₀ o e done late

module _ {b : Bool} {o₀ w₀ : List ℕ} {d p : ℕ} {o w : List ℕ} {i e : ℕ} {late : Bool} {done : List (Like b)}
    (v : Common b o₀ w₀ d p o w i e late done) where
  -- ticks past what has come out, and entries before what is pending
  pub common_ticks : (o' w' : List ℕ) → take (e * 16) o' ≡ take (e * 16) o → drop (p * 16) w' ≡ drop (p * 16) w
      → Common b o₀ w₀ d p o' w' i e late done
  common_ticks o' w' s t =
      record {
        many = v.many;
        pending = t ∙ v.pending;
        low = v.low;
        front = shorter o' ∙ ap (take ((d + 1) * 16)) s ∙ sym (shorter o) ∙ v.front;
        came = go late v.came;
      }
    where
      shorter : (x : List ℕ) → take ((d + 1) * 16) x ≡ take ((d + 1) * 16) (take (e * 16) x)
      shorter x = sym (take-take ((d + 1) * 16) (e * 16) x (omega (arith, v.low)))

      go : (late : Bool) → Came b d o₀ o e done late → Came b d o₀ o' e done late
      go true h = h
      go false h = (h.0, s ∙ h.1, h.2)

  -- the member that c becomes is written
  pub common_written : (o' : List ℕ) (c : Like b) (x : ℕ) → e * 16 ≤ length o → (join b c).1 ≡ true → x ≡ e + records (join b c).0
      → o' ≡ put o (e * 16) (encode_by note (join b c).0) → Common b o₀ w₀ d p o' w (i + 1) x late (done ++ (c ∷ []))
  common_written o' c x r g q s =
      record {
        many = length-append done (c ∷ []) ∙ omega (arith, v.many);
        pending = v.pending;
        low = omega (arith, v.low);
        front = ap (take ((d + 1) * 16)) s ∙ take_put o (e * 16) (encode_by note (join b c).0) ((d + 1) * 16) (omega (arith, v.low)) r ∙ v.front;
        came = go late v.came;
      }
    where
      go : (late : Bool) → Came b d o₀ o e done late → Came b d o₀ o' x (done ++ (c ∷ [])) late
      go true h = still_bad b done c h
      go false h = (
        all_good b done c h.0 g,
        built_more o o' (take ((d + 1) * 16) o₀) e x (outs b done) (join b c).0 h.1 r s q
            ∙ ap (λ m. take ((d + 1) * 16) o₀ ++ encodes_by note (of_list m)) (sym (outs_snoc b done c)),
        omega (arith, h.2, ap (λ m. recordses (of_list m)) (outs_snoc b done c), recordses_snoc (outs b done) (join b c).0),
      )

  -- it is out of range, and not written
  pub common_late : (o' : List ℕ) (c : Like b) → (join b c).1 ≡ false → o' ≡ o → Common b o₀ w₀ d p o' w (i + 1) e true (done ++ (c ∷ []))
  common_late o' c g s =
      record {
        many = length-append done (c ∷ []) ∙ omega (arith, v.many);
        pending = v.pending;
        low = v.low;
        front = ap (take ((d + 1) * 16)) s ∙ v.front;
        came = all_snoc b done [] c g;
      }

  -- what is done stays
  pub common_done : take (d * 16) o ≡ take (d * 16) o₀
  common_done =
      let less : d * 16 ≤ (d + 1) * 16 = omega arith in
      sym (take-take (d * 16) ((d + 1) * 16) o less) ∙ ap (take (d * 16)) v.front ∙ take-take (d * 16) ((d + 1) * 16) o₀ less

-- ---- a part that stands in a record is shown as long as what is pending stays
pub shows_still : (b : Bool) (w w' : List ℕ) (p : ℕ) (c : Part) (x : Like b) → drop (p * 16) w' ≡ drop (p * 16) w → From p c
    → Shows b w c x → Shows b w' c x
shows_still true w w' p (part.Term n i) x s f h =
    record {
      member = h.member;
      there = tree_still w w' p s i h.member f h.there;
      mark = h.mark;
      rest = h.rest;
      coefficient = h.coefficient;
      bits = h.bits;
      good = h.good;
    }
shows_still true w w' p (part.Wide i) x s f h =
    record { member = h.member; there = tree_still w w' p s i h.member f h.there; rest = h.rest; wide = h.wide }
shows_still true w w' p (part.Power e i k m) x s f h = h
shows_still true w w' p (part.Number e v a m) x s f h = h
shows_still false w w' p (part.Term n i) x s f h = h
shows_still false w w' p (part.Wide i) x s f h = h
shows_still false w w' p (part.Power e i k m) x s f h =
    record {
      mark = h.mark;
      sized = record { there = tree_still w w' p s i x.base f h.sized.there; size = h.sized.size };
      other = h.other;
      exponent = h.exponent;
      most = h.most;
      good = h.good;
      wf = h.wf;
    }
shows_still false w w' p (part.Number e v a m) x s f h = h
