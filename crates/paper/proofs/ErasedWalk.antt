-- A walk over parts that are changed by a map which the merge respects is the walk, changed: the same parts merge, and as many are
-- removed. So a rule that walks answers alike on members without their marks.
use Prim.Native.Nat.{ℕ, zero, suc}
use mathlib.Core.Path.{◌≡◌, refl, sym, ap, ◌∙◌}
use mathlib.Core.Bool.{Bool, true, false, ◌&&◌}
use mathlib.Core.List.{List, [], ◌∷◌, ◌++◌, map, map-append}
use mathlib.Core.Option
use mathlib.Core.Option.{Option, none, some}
use lib.ListN.{length, length-map}
use Rattle.paper.specs.Tree.{Tree}
use Rattle.paper.specs.Walk.{last_of, init_of, last_first, Turn, WalkEnd, one_removed, turn, walk}
use Rattle.paper.specs.Walk as Walk
use Rattle.paper.specs.Rules.{applies, all_in_range, rebuilt, outcome, combine}
use Rattle.paper.specs.Erased.{erase}
use Rattle.paper.proofs.ErasedTrees.{erased_tried}

map_map : {A B C D : Type 0} (f : A → B) (g : B → D) (h : A → C) (k : C → D) → ((x : A) → g (f x) ≡ k (h x)) → (l : List A) → map g (map f l) ≡ map k (map h l)
map_map f g h k e [] = refl
map_map f g h k e (x ∷ l) = rw (e x, map_map f g h k e l) refl

module _ {A : Type 0} (f : A → A) where
  last_map : (a : A) (l : List A) → last_of (f a) (map f l) ≡ f (last_of a l)
  unfolding last_of
  last_map a [] = refl
  last_map a (b ∷ l) = last_map b l

  init_map : (a : A) (l : List A) → init_of (f a) (map f l) ≡ map f (init_of a l)
  unfolding init_of
  init_map a [] = refl
  init_map a (b ∷ l) = ap (λ k. f a ∷ k) (init_map b l)

  first_map : (l : List A) → last_first (map f l) ≡ map f (last_first l)
  unfolding last_first
  first_map [] = refl
  first_map (a ∷ l) = rw (last_map a l, init_map a l) refl

module _ {P : Type 0} (e : P → P) (merge : P → P → Option P) (h : (c x : P) → merge (e c) (e x) ≡ Option.map e (merge c x)) where
  turned : Turn P → Turn P
  turned t = record { current = e t.current; later = map e t.later; removed = t.removed }

  walked : WalkEnd P → WalkEnd P
  walked w = record { parts = map e w.parts; removed = w.removed }

  turn_map : (n : ℕ) (c : P) (passed l : List P) → turn merge n (e c) (map e passed) (map e l) ≡ turned (turn merge n c passed l)
  unfolding turn turned
  turn_map zero c passed l = ap (λ k. record { current = e c; later = k; removed = 0 }) (sym (map-append e passed l))
  turn_map (suc n) c passed [] = refl
  turn_map (suc n) c passed (x ∷ l) =
      go (merge (e c) (e x)) (merge c x) (h c x)
      (ap (λ k. turn merge n (e c) k (map e l)) (sym (map-append e passed (x ∷ []))) ∙ turn_map n c (passed ++ (x ∷ [])) l)
      (λ d. ap (turn merge n (e d) (map e passed)) (first_map e l) ∙ turn_map n d passed (last_first l))
    where
      go : (o' o : Option P) → o' ≡ Option.map e o
          → turn merge n (e c) (map e passed ++ (e x ∷ [])) (map e l) ≡ turned (turn merge n c (passed ++ (x ∷ [])) l)
          → ((d : P) → turn merge n (e d) (map e passed) (last_first (map e l)) ≡ turned (turn merge n d passed (last_first l)))
          → ◌≡◌ {A = Turn P}
          (elim o' as (λ o. Turn P) [
            | none ↦ turn merge n (e c) (map e passed ++ (e x ∷ [])) (map e l)
            | some d ↦ one_removed (turn merge n d (map e passed) (last_first (map e l)))
          ])
          (turned (elim o as (λ o. Turn P) [ none ↦ turn merge n c (passed ++ (x ∷ [])) l | some d ↦ one_removed (turn merge n d passed (last_first l)) ]))
      go o' none q k j = rw q k
      go o' (some d) q k j = rw q (removed_one _ _ (j d))
        where
          removed_one : (s t : Turn P) → s ≡ turned t → one_removed s ≡ turned (one_removed t)
          removed_one s t q = unfold one_removed turned in ap one_removed q

  walk_map : (n : ℕ) (l : List P) → walk merge n (map e l) ≡ walked (walk merge n l)
  unfolding walk walked Walk.then_walk turned
  walk_map zero l = refl
  walk_map (suc n) [] = refl
  walk_map (suc n) (c ∷ l) =
      let t = turn merge (length l) c [] l in
      let q : turn merge (length (map e l)) (e c) [] (map e l) ≡ turned t =
      ap (λ k. turn merge k (e c) [] (map e l)) (length-map l e) ∙ turn_map (length l) c [] l in
      ap (λ (s : Turn P). Walk.then_walk s (walk merge n s.later)) q
      ∙ ap (Walk.then_walk (turned t)) (walk_map n t.later)

-- ---- what a walk gives
unfoldable joined : Tree × Bool → Tree × Bool
joined r = (erase r.0, r.1)

range_map : (l : List (Tree × Bool)) → all_in_range (map joined l) ≡ all_in_range l
unfolding all_in_range joined
range_map [] = refl
range_map (r ∷ l) = ap (λ b. r.1 && b) (range_map l)

module _ (node node' : List Tree → Tree) (nodes : (l : List Tree) → node' (map erase l) ≡ erase (node l)) where
  rebuilt_erased : (l : List (Tree × Bool)) (b : Bool) → rebuilt node' (map joined l) b ≡ erased_tried (rebuilt node l b)
  unfolding rebuilt erased_tried joined
  rebuilt_erased l true = ap applies (ap node' (map_map joined (λ r. r.0) (λ r. r.0) erase (λ r. refl) l) ∙ nodes (map (λ r. r.0) l))
  rebuilt_erased l false = refl

  outcome_erased : (l : List (Tree × Bool)) (n : ℕ) → outcome node' (map joined l) n ≡ erased_tried (outcome node l n)
  unfolding outcome erased_tried
  outcome_erased l zero = refl
  outcome_erased l (suc n) = rw (range_map l) (rebuilt_erased l (all_in_range l))

  pub combine_erased : {P : Type 0} (e : P → P) (split : Tree → P) (merge : P → P → Option P) (join : P → Tree × Bool)
      → ((t : Tree) → split (erase t) ≡ e (split t)) → ((c x : P) → merge (e c) (e x) ≡ Option.map e (merge c x))
      → ((c : P) → join (e c) ≡ (erase (join c).0, (join c).1))
      → (l : List Tree) → combine node' split merge join (map erase l) ≡ erased_tried (combine node split merge join l)
  unfolding combine joined walked
  combine_erased {P} e split merge join s m j l =
      let w = walk merge (length l) (map split l) in
      let q : walk merge (length (map erase l)) (map split (map erase l)) ≡ walked e merge m w =
      ap (λ n. walk merge n (map split (map erase l))) (length-map l erase)
      ∙ ap (walk merge (length l)) (map_map erase split split e s l) ∙ walk_map e merge m (length l) (map split l) in
      ap (λ (v : WalkEnd P). outcome node' (map join v.parts) v.removed) q
      ∙ ap (λ k. outcome node' k w.removed) (map_map e join join joined j w.parts)
      ∙ outcome_erased (map join w.parts) w.removed
