-- The walk of steps 2 and 6, once, over any parts: "From the first member on, compare its rest with each later one. Where equal,
-- add the coefficient to the current one and remove the later member; the last member moves into its place and is looked at
-- next. ... Then the next member." `merge c x` is what the current part c becomes where it takes up the later part x; none
-- where it does not.
use Rattle.std.specs.Prelude.{ℕ, zero, suc, ◌+◌, List, [], ◌∷◌, ◌++◌, length}
use Rattle.std.proofs.Math.Option.{Option, none, some}

module _ {A : Type 0} where
  unfoldable pub last_of : A → List A → A
  last_of a [] = a
  last_of a (b ∷ l) = last_of b l

  unfoldable pub init_of : A → List A → List A
  init_of a [] = []
  init_of a (b ∷ l) = a ∷ init_of b l

  -- "the last member moves into its place": the last first, the others in order
  unfoldable pub last_first : List A → List A
  last_first [] = []
  last_first (a ∷ l) = last_of a l ∷ init_of a l

-- after the turn of a current part: what it became, the later members that are left, how many were removed
pub record Turn (P : Type 0) : Type 0 where
  pub current : P
  pub later : List P
  pub removed : ℕ

-- after the whole walk: the parts that come out, how many members were removed
pub record WalkEnd (P : Type 0) : Type 0 where
  pub parts : List P
  pub removed : ℕ

module _ {P : Type 0} where
  unfoldable pub one_removed : Turn P → Turn P
  one_removed t = record { current = t.current; later = t.later; removed = suc t.removed }

  unfoldable pub then_walk : Turn P → WalkEnd P → WalkEnd P
  then_walk t w = record { parts = t.current ∷ w.parts; removed = t.removed + w.removed }

module _ {P : Type 0} (merge : P → P → Option P) where
  -- the turn of the current part c: `passed` were looked at and stay, l are still to be looked at; n bounds the length of l
  unfoldable pub turn : ℕ → P → List P → List P → Turn P
  turn zero c passed l = record { current = c; later = passed ++ l; removed = 0 }
  turn (suc n) c passed [] = record { current = c; later = passed; removed = 0 }
  turn (suc n) c passed (x ∷ l) =
      elim (merge c x) [
        | none ↦ turn n c (passed ++ (x ∷ [])) l
        | some d ↦ one_removed (turn n d passed (last_first l))
      ]

  -- the whole walk; n bounds the length of l
  unfoldable pub walk : ℕ → List P → WalkEnd P
  walk zero l = record { parts = l; removed = 0 }
  walk (suc n) [] = record { parts = []; removed = 0 }
  walk (suc n) (c ∷ l) = let t = turn (length l) c [] l in then_walk t (walk n t.later)
