-- What `same_bag` says, for any test that is an equivalence: every element occurs as often in the one list as in the other. Each
-- element of the first list takes away one that it equals, which lowers both counts by the same.
use Prim.Native.Nat.{◌+◌}
use mathlib.Core.Path.{◌≡◌, refl, sym, ap, ◌∙◌}
use mathlib.Core.Bool.{Bool, true, false}
use mathlib.Core.List.{List, [], ◌∷◌}
use mathlib.Core.Option.{Option, none, some}
use native.Mathlib.Omega.{arith}
use Rattle.paper.specs.Equal.{one, keeping, take_if, remove_first, go_on, is_empty, same_bag, occurs}
use Rattle.paper.proofs.Tests.{never, both_ways}

-- taking y out of the first list leaves the second
pub data Taken {A : Type 0} : A → List A → List A → Type 0 where
  here : {y : A} {l : List A} → Taken y (y ∷ l) l
  there : {x y : A} {l m : List A} → Taken y l m → Taken y (x ∷ l) (x ∷ m)

module _ {A : Type 0} where
  pub taken_occurs : {y : A} {l m : List A} (q : A → Bool) → Taken y l m → occurs q l ≡ one (q y) + occurs q m
  unfolding occurs
  taken_occurs q here = refl
  taken_occurs q (there r) = omega (arith, taken_occurs q r)

  -- what is left of l when its first member that p holds of is taken out
  abbrev pub First : (A → Bool) → List A → Option (List A) → Type 0
  First p l none = occurs p l ≡ 0
  First p l (some m) = (y : A) × (p y ≡ true) × Taken y l m

  -- `remove_first` takes out one member that p holds of, and fails only where there is none
  pub remove_first_first : (p : A → Bool) (l : List A) → First p l (remove_first p l)
  unfolding remove_first take_if keeping occurs one
  remove_first_first p [] = refl
  remove_first_first p (x ∷ l) = go (p x) refl (remove_first p l) (remove_first_first p l)
    where
      go : (b : Bool) → p x ≡ b → (r : Option (List A)) → First p l r → First p (x ∷ l) (take_if b x l r)
      go true e r h = (x, e, here)
      go false e none h = rw (e, h)
      go false e (some m) h = (h.0, h.1, there h.2)

-- a test that is an equivalence
pub record Equivalence {A : Type 0} (same : A → A → Bool) : Type 0 where
  pub self : (x : A) → same x x ≡ true
  pub alike : (x y z : A) → same x y ≡ true → same z x ≡ same z y

module _ {A : Type 0} {same : A → A → Bool} where
  pub equivalence_sym : Equivalence same → (x y : A) → same x y ≡ true → same y x ≡ true
  equivalence_sym q x y e = q.alike x y y e ∙ q.self y

  pub equivalence_trans : Equivalence same → (x y z : A) → same x y ≡ true → same y z ≡ true → same x z ≡ true
  equivalence_trans q x y z e h = sym (q.alike y z x h) ∙ e

  pub equivalence_by : ((x : A) → same x x ≡ true) → ((x y : A) → same x y ≡ true → same y x ≡ true)
      → ((x y z : A) → same x y ≡ true → same y z ≡ true → same x z ≡ true) → Equivalence same
  equivalence_by reflexive symmetric transitive =
      record {
        self = reflexive;
        alike = λ x y z e. both_ways (same z x) (same z y)
            (λ h. transitive z x y h e)
            (λ h. transitive z y x h (symmetric x y e));
      }

module _ {A : Type 0} (same : A → A → Bool) (q : Equivalence same) where
  -- one element takes away another that it equals: every count falls by the same
  alike_occurs : (x : A) (l m : List A) → First (same x) l (some m) → (z : A)
      → occurs (same z) l ≡ one (same z x) + occurs (same z) m
  alike_occurs x l m h z = taken_occurs (same z) h.2 ∙ ap (λ b. one b + occurs (same z) m) (sym (q.alike x h.0 z h.1))

  -- the same bag: every element occurs equally often
  pub bag_counts : (k l : List A) → same_bag same k l ≡ true → (z : A) → occurs (same z) k ≡ occurs (same z) l
  unfolding same_bag is_empty go_on occurs
  bag_counts [] [] e z = refl
  bag_counts [] (y ∷ l) e z = never e
  bag_counts (x ∷ k) l e z = go (remove_first (same x) l) (remove_first_first (same x) l) e (λ m h. bag_counts k m h z)
    where
      go : (r : Option (List A)) → First (same x) l r → go_on r (λ m. same_bag same k m) ≡ true
          → ((m : List A) → same_bag same k m ≡ true → occurs (same z) k ≡ occurs (same z) m)
          → one (same z x) + occurs (same z) k ≡ occurs (same z) l
      go none h e ih = never e
      go (some m) h e ih = omega (arith, ih m e, alike_occurs x l m h z)

  -- every element equally often: the same bag
  pub counts_bag : (k l : List A) → ((z : A) → occurs (same z) k ≡ occurs (same z) l) → same_bag same k l ≡ true
  unfolding same_bag is_empty go_on occurs one
  counts_bag [] [] e = refl
  counts_bag [] (y ∷ l) e = absurd (omega (arith, e y, ap one (q.self y)))
  counts_bag (x ∷ k) l e = go (remove_first (same x) l) (remove_first_first (same x) l) (counts_bag k)
    where
      go : (r : Option (List A)) → First (same x) l r
          → ((m : List A) → ((z : A) → occurs (same z) k ≡ occurs (same z) m) → same_bag same k m ≡ true)
          → go_on r (λ m. same_bag same k m) ≡ true
      go none h ih = absurd (omega (arith, e x, h, ap one (q.self x)))
      go (some m) h ih = ih m (λ z. omega (arith, e z, alike_occurs x l m h z))

  -- being the same bag is an equivalence
  pub bag_equivalence : Equivalence (same_bag same)
  bag_equivalence =
      equivalence_by
      (λ k. counts_bag k k (λ z. refl))
      (λ k l e. counts_bag l k (λ z. sym (bag_counts k l e z)))
      (λ k l m e h. counts_bag k m (λ z. bag_counts k l e z ∙ bag_counts l m h z))
