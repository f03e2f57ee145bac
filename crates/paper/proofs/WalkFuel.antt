-- The numbers that bound a walk are enough: with at least the length of the list, a turn and a walk do not depend on them. Each look
-- leaves one fewer to look at, and a turn leaves no more than it was given.
use Prim.Native.Nat.{ℕ, zero, suc, ◌+◌, ◌≤◌}
use mathlib.Core.Path.{◌≡◌, refl, ap}
use mathlib.Core.List.{List, [], ◌∷◌, ◌++◌, map}
use mathlib.Core.Bool.{Bool}
use Rattle.paper.specs.Tree.{Tree}
use Rattle.paper.specs.Rules.{outcome, combine}
use mathlib.Core.Option.{Option, none, some}
use native.Mathlib.Omega.{arith}
use lib.ListN.{length, length-append}
use Rattle.paper.specs.Walk.{init_of, last_first, Turn, WalkEnd, one_removed, then_walk, turn, walk}

module _ {A : Type 0} where
  pub init_length : (a : A) (l : List A) → length (init_of a l) ≡ length l
  unfolding init_of
  init_length a [] = refl
  init_length a (b ∷ l) = ap suc (init_length b l)

  pub last_first_length : (l : List A) → length (last_first l) ≡ length l
  unfolding last_first
  last_first_length [] = refl
  last_first_length (a ∷ l) = ap suc (init_length a l)

module _ {P : Type 0} (merge : P → P → Option P) where
  pub turn_later : (n : ℕ) (c : P) (passed l : List P) → length (turn merge n c passed l).later ≤ length passed + length l
  unfolding turn one_removed
  turn_later zero c passed l = omega (arith, length-append passed l)
  turn_later (suc n) c passed [] = omega arith
  turn_later (suc n) c passed (x ∷ l) =
      go (merge c x) (turn_later n c (passed ++ (x ∷ [])) l) (λ d. turn_later n d passed (last_first l))
    where
      go : (o : Option P)
          → length (turn merge n c (passed ++ (x ∷ [])) l).later ≤ length (passed ++ (x ∷ [])) + length l
          → ((d : P) → length (turn merge n d passed (last_first l)).later ≤ length passed + length (last_first l))
          → length
          (elim o as (λ o. Turn P) [ none ↦ turn merge n c (passed ++ (x ∷ [])) l | some d ↦ one_removed (turn merge n d passed (last_first l)) ]).later
          ≤ length passed + suc (length l)
      go none h k = omega (arith, h, length-append passed (x ∷ []))
      go (some d) h k = omega (arith, k d, last_first_length l)

  -- the length of what is still to be looked at is enough for a turn
  pub turn_fuel : (n m : ℕ) (c : P) (passed l : List P) → length l ≤ n → length l ≤ m → turn merge n c passed l ≡ turn merge m c passed l
  unfolding turn
  turn_fuel zero zero c passed l p q = refl
  turn_fuel zero (suc m) c passed [] p q = ap (λ s. record { current = c; later = s; removed = 0 }) (nothing_after passed)
    where
      nothing_after : (s : List P) → s ++ [] ≡ s
      nothing_after [] = refl
      nothing_after (y ∷ s) = ap (◌∷◌ y) (nothing_after s)
  turn_fuel zero (suc m) c passed (x ∷ l) p q = absurd (omega arith)
  turn_fuel (suc n) zero c passed [] p q = ap (λ s. record { current = c; later = s; removed = 0 }) (nothing_before passed)
    where
      nothing_before : (s : List P) → s ≡ s ++ []
      nothing_before [] = refl
      nothing_before (y ∷ s) = ap (◌∷◌ y) (nothing_before s)
  turn_fuel (suc n) zero c passed (x ∷ l) p q = absurd (omega arith)
  turn_fuel (suc n) (suc m) c passed [] p q = refl
  turn_fuel (suc n) (suc m) c passed (x ∷ l) p q =
      go (merge c x) (turn_fuel n m c (passed ++ (x ∷ [])) l (omega arith) (omega arith))
      (λ d. turn_fuel n m d passed (last_first l) (omega (arith, last_first_length l)) (omega (arith, last_first_length l)))
    where
      go : (o : Option P) → turn merge n c (passed ++ (x ∷ [])) l ≡ turn merge m c (passed ++ (x ∷ [])) l
          → ((d : P) → turn merge n d passed (last_first l) ≡ turn merge m d passed (last_first l))
          → ◌≡◌ {A = Turn P}
          (elim o as (λ o. Turn P) [ none ↦ turn merge n c (passed ++ (x ∷ [])) l | some d ↦ one_removed (turn merge n d passed (last_first l)) ])
          (elim o as (λ o. Turn P) [ none ↦ turn merge m c (passed ++ (x ∷ [])) l | some d ↦ one_removed (turn merge m d passed (last_first l)) ])
      go none h k = h
      go (some d) h k = ap one_removed (k d)

  -- and for the whole walk
  pub walk_fuel : (n m : ℕ) (l : List P) → length l ≤ n → length l ≤ m → walk merge n l ≡ walk merge m l
  unfolding walk
  walk_fuel zero zero l p q = refl
  walk_fuel zero (suc m) [] p q = refl
  walk_fuel zero (suc m) (c ∷ l) p q = absurd (omega arith)
  walk_fuel (suc n) zero [] p q = refl
  walk_fuel (suc n) zero (c ∷ l) p q = absurd (omega arith)
  walk_fuel (suc n) (suc m) [] p q = refl
  walk_fuel (suc n) (suc m) (c ∷ l) p q =
      let t = turn merge (length l) c [] l in
      ap (then_walk t) (walk_fuel n m t.later (omega (arith, turn_later (length l) c [] l)) (omega (arith, turn_later (length l) c [] l)))

  -- a walk is the turn of its first part, with any bound that is enough, and then the walk over what is left
  pub walk_turns : (n m : ℕ) (c : P) (l : List P) → length l ≤ n
      → walk merge (suc m) (c ∷ l) ≡ then_walk (turn merge n c [] l) (walk merge m (turn merge n c [] l).later)
  unfolding walk
  walk_turns n m c l h = ap (λ (t : Turn P). then_walk t (walk merge m t.later)) (turn_fuel (length l) n c [] l (omega arith) h)

pub map_length : {A B : Type 0} (f : A → B) (l : List A) → length (map f l) ≡ length l
map_length f [] = refl
map_length f (a ∷ l) = ap suc (map_length f l)

-- the rules that walk: any bound that is at least the number of members says the same
pub combine_fuel : {P : Type 0} (node : List Tree → Tree) (split : Tree → P) (merge : P → P → Option P) (join : P → Tree × Bool)
    (l : List Tree) (n : ℕ) → length l ≤ n
    → combine node split merge join l
    ≡ outcome node (map join (walk merge n (map split l)).parts) (walk merge n (map split l)).removed
unfolding combine
combine_fuel {P} node split merge join l n h =
    ap (λ (w : WalkEnd P). outcome node (map join w.parts) w.removed)
    (walk_fuel merge (length l) n (map split l) (omega (arith, map_length split l)) (omega (arith, map_length split l)))
