-- The paper's walk, step by step, as a program goes through it: the parts that came out so far, how many were removed, and the rest of
-- the walk from here make up the whole walk. One law for each way that a step goes; the bounds on the number of steps do not matter,
-- since the members that are left are never more than that.
use Rattle.std.proofs.Common.{◌≡◌, ℕ, zero, suc, ◌+◌, List, [], ◌∷◌, ◌++◌, map, length, sym, refl, ap, ◌∙◌, append_assoc, append-nil, arith}
use mathlib.Core.Option.{Option, none, some}
use Rattle.paper.specs.Walk.{last_of, init_of, last_first, Turn, WalkEnd, one_removed, then_walk, turn, walk}
use Rattle.paper.proofs.WalkFuel.{turn_later, walk_fuel}
use Rattle.note.proofs.ApartLaws.{unturned}

module _ {A B : Type 0} (f : A → B) where
  map_last : (a : A) (l : List A) → map f (init_of a l) ≡ init_of (f a) (map f l)
  unfolding init_of
  map_last a [] = refl
  map_last a (b ∷ l) = ap (λ m. f a ∷ m) (map_last b l)

  last_map : (a : A) (l : List A) → f (last_of a l) ≡ last_of (f a) (map f l)
  unfolding last_of
  last_map a [] = refl
  last_map a (b ∷ l) = last_map b l

  pub map_last_first : (l : List A) → map f (last_first l) ≡ last_first (map f l)
  unfolding last_first
  map_last_first [] = refl
  map_last_first (a ∷ l) = rw (map_last a l, last_map a l) refl

  pub map-append : (l m : List A) → map f (l ++ m) ≡ map f l ++ map f m
  map-append [] m = refl
  map-append (a ∷ l) m = ap (λ x. f a ∷ x) (map-append l m)

-- ---- a walk with parts that came out before it
module _ {P : Type 0} where
  unfoldable pub resumed : List P → ℕ → WalkEnd P → WalkEnd P
  resumed done r w = record { parts = done ++ w.parts; removed = r + w.removed }

  pub resumed_none : (w : WalkEnd P) → resumed [] 0 w ≡ w
  unfolding resumed
  resumed_none w = ap (λ r. record { parts = w.parts; removed = r }) (omega arith)

  abbrev current_of : Turn P → P
  current_of t = t.current

module _ {P : Type 0} (merge : P → P → Option P) where
  -- what is left of the walk after a turn
  unfoldable pub after : Turn P → WalkEnd P
  after t = then_walk t (walk merge (length t.later) t.later)

  -- ---- one law for each step
  module _ (done : List P) (r : ℕ) where
    pub turn_begins : (c : P) (l : List P)
        → resumed done r (walk merge (length (c ∷ l)) (c ∷ l)) ≡ resumed done r (after (turn merge (length l) c [] l))
    unfolding after walk
    turn_begins c l =
        let t = turn merge (length l) c [] l in
        let few = turn_later merge (length l) c [] l in
        ap (λ w. resumed done r (then_walk t w)) (walk_fuel merge (length l) (length t.later) t.later (omega arith) (omega arith))

    pub passes_by : (n : ℕ) (c x : P) (passed l : List P) → merge c x ≡ none
        → resumed done r (after (turn merge (suc n) c passed (x ∷ l))) ≡ resumed done r (after (turn merge n c (passed ++ (x ∷ [])) l))
    unfolding turn
    passes_by n c x passed l e =
        ap (λ (m : Option P). resumed done r (after (elim m [
          | none ↦ turn merge n c (passed ++ (x ∷ [])) l
          | some d ↦ one_removed (turn merge n d passed (last_first l))
        ]))) e

    pub takes_up : (n : ℕ) (c x d : P) (passed l : List P) → merge c x ≡ some d
        → resumed done r (after (turn merge (suc n) c passed (x ∷ l))) ≡ resumed done (r + 1) (after (turn merge n d passed (last_first l)))
    unfolding turn one_removed after then_walk resumed
    takes_up n c x d passed l e =
        let t = turn merge n d passed (last_first l) in
        let w = walk merge (length t.later) t.later in
        ap (λ (m : Option P). resumed done r (after (elim m [
          | none ↦ turn merge n c (passed ++ (x ∷ [])) l
          | some d ↦ one_removed (turn merge n d passed (last_first l))
        ]))) e
        ∙ ap (λ k. record { parts = done ++ (t.current ∷ w.parts); removed = k }) (omega arith)

    pub turn_ends : (c : P) (passed : List P)
        → resumed done r (after (turn merge 0 c passed [])) ≡ resumed (done ++ (c ∷ [])) r (walk merge (length passed) passed)
    unfolding turn after then_walk resumed
    turn_ends c passed =
        let w = walk merge (length passed) passed in
        ap (λ (l : List P). record { parts = done ++ (c ∷ (walk merge (length l) l).parts); removed = r + (0 + (walk merge (length l) l).removed) })
        (append-nil passed)
        ∙ ap (λ (l : List P). record { parts = l; removed = r + (0 + w.removed) }) (sym (append_assoc done (c ∷ []) w.parts))
        ∙ ap (λ k. record { parts = (done ++ (c ∷ [])) ++ w.parts; removed = k }) (omega arith)

    -- a turn that removed nothing
    pub turn_over : (c : P) (l : List P) → resumed done r (after (unturned c l)) ≡ resumed (done ++ (c ∷ [])) r (walk merge (length l) l)
    unfolding after then_walk resumed
    turn_over c l =
        let w = walk merge (length l) l in
        ap (λ (m : List P). record { parts = m; removed = r + (0 + w.removed) }) (sym (append_assoc done (c ∷ []) w.parts))
        ∙ ap (λ k. record { parts = (done ++ (c ∷ [])) ++ w.parts; removed = k }) (omega arith)

    pub walk_ends : resumed done r (walk merge 0 []) ≡ record { parts = done; removed = r }
    unfolding walk resumed
    walk_ends =
        ap (λ (l : List P). record { parts = l; removed = r + 0 }) (append-nil done)
        ∙ ap (λ k. record { parts = done; removed = k }) (omega arith)

  -- ---- a part that takes up none of the later ones
  abbrev pub Refuses : P → List P → Type 0
  Refuses c [] = Unit {0}
  Refuses c (x ∷ l) = (merge c x ≡ none) × Refuses c l

  refused : (n : ℕ) (c : P) (passed l : List P) → Refuses c l → turn merge n c passed l ≡ unturned c (passed ++ l)
  unfolding turn
  refused zero c passed l h = refl
  refused (suc n) c passed [] h = ap (unturned c) (sym (append-nil passed))
  refused (suc n) c passed (x ∷ l) h =
      ap (λ (m : Option P). elim m [
        | none ↦ turn merge n c (passed ++ (x ∷ [])) l
        | some d ↦ one_removed (turn merge n d passed (last_first l))
      ]) h.0
      ∙ refused n c (passed ++ (x ∷ [])) l h.1
      ∙ ap (unturned c) (append_assoc passed (x ∷ []) l)

  pub turn_refused : (c : P) (l : List P) → Refuses c l → turn merge (length l) c [] l ≡ unturned c l
  turn_refused c l h = refused (length l) c [] l h

  -- ---- a property of the current part that merging keeps holds of it when its turn is done
  module _ (Q : P → Type 0) (kept : (c x d : P) → Q c → merge c x ≡ some d → Q d) where
    pub turn_keeps : (n : ℕ) (c : P) (passed l : List P) → Q c → Q (turn merge n c passed l).current
    unfolding turn one_removed
    turn_keeps zero c passed l q = q
    turn_keeps (suc n) c passed [] q = q
    turn_keeps (suc n) c passed (x ∷ l) q =
        go (merge c x) refl (turn_keeps n c (passed ++ (x ∷ [])) l q) (λ d h. turn_keeps n d passed (last_first l) h)
      where
        go : (r : Option P) → merge c x ≡ r → Q (turn merge n c (passed ++ (x ∷ [])) l).current
            → ((d : P) → Q d → Q (turn merge n d passed (last_first l)).current)
            → Q
            (current_of {P = P}
            (elim r [
              | none ↦ turn merge n c (passed ++ (x ∷ [])) l
              | some d ↦ one_removed (turn merge n d passed (last_first l))
            ]))
        go none e same more = same
        go (some d) e same more = more d (kept c x d q e)
