-- A walk over parts of which no two have one key removes nothing, and leaves them as they are: a part takes up another only where
-- their keys are the same. By induction along the walk.
use Rattle.std.proofs.Common.{◌≡◌, ℕ, zero, suc, List, [], ◌∷◌, ◌++◌, length, sym, refl, ap, ◌∙◌, append_assoc, append-nil}
use mathlib.Core.Option.{Option, none, some}
use Rattle.paper.specs.Walk.{last_first, Turn, WalkEnd, one_removed, then_walk, turn, walk}

-- nothing was removed
abbrev pub unturned : {P : Type 0} → P → List P → Turn P
unturned c l = record { current = c; later = l; removed = 0 }

abbrev pub unwalked : {P : Type 0} → List P → WalkEnd P
unwalked l = record { parts = l; removed = 0 }

module _ {P : Type 0} (key : P → ℕ) where
  -- no part of l has the key k
  abbrev pub Free : ℕ → List P → Type 0
  Free k [] = Unit {0}
  Free k (x ∷ l) = (k ≡ key x → ⊥) × Free k l

  -- no two parts have one key
  abbrev pub Apart : List P → Type 0
  Apart [] = Unit {0}
  Apart (c ∷ l) = Free (key c) l × Apart l

module _ {P : Type 0} (merge : P → P → Option P) (key : P → ℕ) (one_key : (c x d : P) → merge c x ≡ some d → key c ≡ key x) where
  turn_passes : (n : ℕ) (c : P) (passed l : List P) → Free key (key c) l → turn merge n c passed l ≡ unturned c (passed ++ l)
  unfolding turn
  turn_passes zero c passed l h = refl
  turn_passes (suc n) c passed [] h = ap (unturned c) (sym (append-nil passed))
  turn_passes (suc n) c passed (x ∷ l) h =
      go (merge c x) refl (turn_passes n c (passed ++ (x ∷ [])) l h.1)
    where
      go : (r : Option P) → merge c x ≡ r → turn merge n c (passed ++ (x ∷ [])) l ≡ unturned c ((passed ++ (x ∷ [])) ++ l)
          → elim r [
            | none ↦ turn merge n c (passed ++ (x ∷ [])) l
            | some d ↦ one_removed (turn merge n d passed (last_first l))
          ] ≡ unturned c (passed ++ (x ∷ l))
      go none e k = k ∙ ap (unturned c) (append_assoc passed (x ∷ []) l)
      go (some d) e k = absurd (h.0 (one_key c x d e))

  -- the turn of a part whose key no later part has
  pub turn_apart : (c : P) (l : List P) → Free key (key c) l → turn merge (length l) c [] l ≡ unturned c l
  turn_apart c l h = turn_passes (length l) c [] l h

  -- the walk over parts of which no two have one key
  pub walk_apart : (n : ℕ) (l : List P) → Apart key l → walk merge n l ≡ unwalked l
  unfolding walk then_walk
  walk_apart zero l h = refl
  walk_apart (suc n) [] h = refl
  walk_apart (suc n) (c ∷ l) h =
      ap (λ t. then_walk t (walk merge n t.later)) (turn_apart c l h.0)
      ∙ ap (λ w. then_walk (unturned c l) w) (walk_apart n l h.1)
