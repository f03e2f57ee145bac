-- The turns of both loops: the pairs done and the pairs ahead are all the pairs. A turn where two records agree leaves the pairs done as they
-- are, one where they do not adds theirs.
use Prim.Native.Nat.{ℕ, ◌+◌, ◌/◌, ◌<◌, ◌≤◌}
use mathlib.Core.Path.{◌≡◌, refl, sym, ap, ◌∙◌}
use mathlib.Core.Bool.{Bool, true, false}
use mathlib.Core.List.{List, [], ◌∷◌, ◌++◌, append-nil, append_assoc}
use native.Mathlib.Omega.{arith}
use lib.ListN.{length, length-append}
use Rattle.paper.specs.Tree.{Tree, records}
use Rattle.paper.specs.Standing.{TreeIn, SomeTree}
use Rattle.note.specs.Told.{Told}
use Rattle.note.proofs.ToldLaws.{plain_told}
use Rattle.paper_differ.specs.Differ.{alike, differences_of}
use Rattle.paper.proofs.EncodeLaws.{records_pos}
use Rattle.differ.specs.Together.{Together}
use Rattle.differ.proofs.StepLaws.{Ahead, Next, ahead_start, ahead_next, ahead_done, turn_alike, turn_unlike}

-- the walk stands at record i of a and record j of b; the p pairs `done` lie behind it
pub record Walked (a b : List ℕ) (i j p : ℕ) (done : List (ℕ × ℕ)) : Type 0 where
  pub todo : List (ℕ × ℕ)
  pub whole : differences_of a b ≡ done ++ todo
  pub ahead : Ahead a b i j todo
  pub many : length done ≡ p
  pub few : p ≤ i

pub walked_start : {a b : List ℕ} → Together a b → Walked a b 0 0 0 []
walked_start {a} {b} h = record { todo = differences_of a b; whole = refl; ahead = ahead_start h; many = refl; few = omega arith }

-- what `agree` and `skip_tree` promise of the records i and j
abbrev pub Agree : List ℕ → List ℕ → ℕ → ℕ → Bool → Type 0
Agree a b i j r = (t u : Tree) → TreeIn a i t → TreeIn b j u → r ≡ alike t u

abbrev pub Past : List ℕ → ℕ → ℕ → Type 0
Past s i q = (how : Tree → ℕ) (t : Tree) → Told how s i t → q ≡ i + records t

module _ {a b : List ℕ} {i j p : ℕ} {done : List (ℕ × ℕ)} (h : Walked a b i j p done) where
  -- where no record is left, all pairs are done
  pub walked_all : length a / 16 ≤ i → differences_of a b ≡ done
  walked_all l = h.whole ∙ ap (λ (ds : List (ℕ × ℕ)). done ++ ds) (ahead_done h.ahead l) ∙ append-nil done

  module _ (l : i < length a / 16) where
    next : Next a b i j h.todo
    next = ahead_next h.ahead l

    -- where one is left, a tree stands at either record
    pub walked_tree : SomeTree a i
    walked_tree = record { tree = next.t; there = next.one }

    pub walked_other : SomeTree b j
    walked_other = record { tree = next.u; there = next.other }

    pub walked_alike : Agree a b i j true → Walked a b (i + 1) (j + 1) p done
    walked_alike e =
        record {
          todo = h.todo;
          whole = h.whole;
          ahead = turn_alike next (sym (e next.t next.u next.one next.other));
          many = h.many;
          few = omega (arith, h.few);
        }

    unlike_whole : Agree a b i j false → differences_of a b ≡ done ++ ((i, j) ∷ next.past)
    unlike_whole e =
        h.whole
        ∙ ap (λ (ds : List (ℕ × ℕ)). done ++ ds) (turn_unlike next (sym (e next.t next.u next.one next.other)))

    pub walked_further : (q : ℕ) → Past a i q → i < q
    walked_further q x = omega (arith, x (λ t. 0) next.t (plain_told next.one), records_pos next.t)

    pub walked_unlike : Agree a b i j false → (q r : ℕ) → Past a i q → Past b j r → Walked a b q r (p + 1) (done ++ ((i, j) ∷ []))
    walked_unlike e q r x y =
        let s = x (λ t. 0) next.t (plain_told next.one) in
        let v = y (λ t. 0) next.u (plain_told next.other) in
        record {
          todo = next.past;
          whole = unlike_whole e ∙ sym (append_assoc done ((i, j) ∷ []) next.past);
          ahead = rw (s, v) next.after;
          many = length-append done ((i, j) ∷ []) ∙ omega (arith, h.many);
          few = omega (arith, h.few, walked_further q x);
        }

    -- a pair more is one of all
    pub walked_room : Agree a b i j false → p + 1 ≤ length (differences_of a b)
    walked_room e = omega (arith, ap length (unlike_whole e), length-append done ((i, j) ∷ next.past), h.many)
