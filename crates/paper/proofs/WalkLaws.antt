-- What a walk keeps, once for both rules that walk. A merge takes up one part into another, and the last member moves into its
-- place; so a commutative fold stays as it was, up to a relation that it respects, if each merge keeps it; a cost that each merge
-- lowers has fallen by as much as was removed; and what holds of every part that goes in holds of every part that comes out, if
-- merging keeps it. By induction along the walk.
use Prim.Native.Nat.{ℕ, zero, suc, ◌+◌, ◌≤◌}
use mathlib.Core.Path.{◌≡◌, refl, sym, ap, ◌∙◌}
use mathlib.Core.List.{List, [], ◌∷◌, ◌++◌}
use mathlib.Core.Option.{Option, none, some}
use native.Mathlib.Omega.{arith}
use lib.ListN.{length}
use Rattle.paper.specs.Walk.{last_of, init_of, last_first, Turn, one_removed, then_walk, turn, walk}

-- a commutative operation on numbers
pub record Commutes (op : ℕ → ℕ → ℕ) (e : ℕ) : Type 0 where
  pub unit : (x : ℕ) → op e x ≡ x
  pub comm : (x y : ℕ) → op x y ≡ op y x
  pub assoc : (x y z : ℕ) → op (op x y) z ≡ op x (op y z)

pub plus_laws : Commutes ◌+◌ 0
plus_laws = record { unit = λ x. omega arith; comm = λ x y. omega arith; assoc = λ x y z. omega arith }

module _ {A : Type 0} (op : ℕ → ℕ → ℕ) (e : ℕ) (m : A → ℕ) where
  unfoldable pub fold : List A → ℕ
  fold [] = e
  fold (a ∷ l) = op (m a) (fold l)

module _ {A : Type 0} {op : ℕ → ℕ → ℕ} {e : ℕ} (C : Commutes op e) (m : A → ℕ) where
  pub fold_append : (s t : List A) → fold op e m (s ++ t) ≡ op (fold op e m s) (fold op e m t)
  unfolding fold
  fold_append [] t = sym (C.unit _)
  fold_append (a ∷ s) t = ap (op (m a)) (fold_append s t) ∙ sym (C.assoc (m a) (fold op e m s) (fold op e m t))

  swap : (x y z : ℕ) → op x (op y z) ≡ op y (op x z)
  swap x y z = sym (C.assoc x y z) ∙ ap (λ n. op n z) (C.comm x y) ∙ C.assoc y x z

  last_init : (a : A) (l : List A) → op (m (last_of a l)) (fold op e m (init_of a l)) ≡ op (m a) (fold op e m l)
  unfolding fold last_of init_of
  last_init a [] = refl
  last_init a (b ∷ l) = swap (m (last_of b l)) (m a) (fold op e m (init_of b l)) ∙ ap (op (m a)) (last_init b l)

  pub fold_last_first : (l : List A) → fold op e m (last_first l) ≡ fold op e m l
  unfolding fold last_first
  fold_last_first [] = refl
  fold_last_first (a ∷ l) = last_init a l

-- a relation that op respects
pub record Respects (op : ℕ → ℕ → ℕ) (Rel : ℕ → ℕ → Type 0) : Type 0 where
  pub of : {x y : ℕ} → x ≡ y → Rel x y
  pub then : {x y z : ℕ} → Rel x y → Rel y z → Rel x z
  pub both : {x y u v : ℕ} → Rel x y → Rel u v → Rel (op x u) (op y v)

-- a fold that each merge keeps up to Rel: the walk keeps it up to Rel
module _ {P : Type 0} (merge : P → P → Option P)
    {op : ℕ → ℕ → ℕ} {e : ℕ} (C : Commutes op e) {Rel : ℕ → ℕ → Type 0} (R : Respects op Rel)
    (m : P → ℕ) (merged : (c x d : P) → merge c x ≡ some d → Rel (m d) (op (m c) (m x))) where
  abbrev all : List P → ℕ
  all l = fold op e m l

  abbrev turned : Turn P → ℕ
  turned s = op (m s.current) (all s.later)

  turn_keeps : (n : ℕ) (c : P) (passed l : List P) → Rel (turned (turn merge n c passed l)) (op (m c) (op (all passed) (all l)))
  unfolding turn fold one_removed
  turn_keeps zero c passed l = R.of (ap (op (m c)) (fold_append C m passed l))
  turn_keeps (suc n) c passed [] = R.of (ap (op (m c)) (sym (C.comm (all passed) e ∙ C.unit (all passed))))
  turn_keeps (suc n) c passed (x ∷ l) =
      go (merge c x) refl (turn_keeps n c (passed ++ (x ∷ [])) l) (λ d. turn_keeps n d passed (last_first l))
    where
      goal : ℕ
      goal = op (m c) (op (all passed) (op (m x) (all l)))

      looked_at : all (passed ++ (x ∷ [])) ≡ op (all passed) (m x)
      looked_at = fold_append C m passed (x ∷ []) ∙ ap (op (all passed)) (C.comm (m x) e ∙ C.unit (m x))

      moved : op (all (passed ++ (x ∷ []))) (all l) ≡ op (all passed) (op (m x) (all l))
      moved = ap (λ n. op n (all l)) looked_at ∙ C.assoc (all passed) (m x) (all l)

      taken_up : op (op (m c) (m x)) (op (all passed) (all (last_first l))) ≡ goal
      taken_up =
          C.assoc (m c) (m x) (op (all passed) (all (last_first l)))
          ∙ ap (op (m c)) (swap C m (m x) (all passed) (all (last_first l)))
          ∙ ap (λ n. op (m c) (op (all passed) (op (m x) n))) (fold_last_first C m l)

      go : (r : Option P) → merge c x ≡ r
          → Rel (turned (turn merge n c (passed ++ (x ∷ [])) l)) (op (m c) (op (all (passed ++ (x ∷ []))) (all l)))
          → ((d : P) → Rel (turned (turn merge n d passed (last_first l))) (op (m d) (op (all passed) (all (last_first l)))))
          → Rel
          (turned
          (elim r [
            | none ↦ turn merge n c (passed ++ (x ∷ [])) l
            | some d ↦ one_removed (turn merge n d passed (last_first l))
          ]))
          goal
      go none h same more = R.then same (R.of (ap (op (m c)) moved))
      go (some d) h same more = R.then (more d) (R.then (R.both (merged c x d h) (R.of refl)) (R.of taken_up))

  pub walk_keeps : (n : ℕ) (l : List P) → Rel (all (walk merge n l).parts) (all l)
  unfolding walk fold then_walk
  walk_keeps zero l = R.of refl
  walk_keeps (suc n) [] = R.of refl
  walk_keeps (suc n) (c ∷ l) =
      let s = turn merge (length l) c [] l in
      R.then (R.both (R.of refl) (walk_keeps n s.later))
      (R.then (turn_keeps (length l) c [] l) (R.of (ap (op (m c)) (C.unit (all l)))))

-- a cost that each merge lowers: what a walk removes, it has lowered the cost by
module _ {P : Type 0} (merge : P → P → Option P)
    (m : P → ℕ) (lower : (c x d : P) → merge c x ≡ some d → m d + 1 ≤ m c + m x) where
  abbrev costs : List P → ℕ
  costs l = fold ◌+◌ 0 m l

  abbrev turn_cost : Turn P → ℕ
  turn_cost s = m s.current + costs s.later + s.removed

  turn_lowers : (n : ℕ) (c : P) (passed l : List P) → turn_cost (turn merge n c passed l) ≤ m c + (costs passed + costs l)
  unfolding turn fold one_removed
  turn_lowers zero c passed l = omega (arith, fold_append plus_laws m passed l)
  turn_lowers (suc n) c passed [] = omega arith
  turn_lowers (suc n) c passed (x ∷ l) =
      go (merge c x) refl (turn_lowers n c (passed ++ (x ∷ [])) l) (λ d. turn_lowers n d passed (last_first l))
    where
      go : (r : Option P) → merge c x ≡ r
          → turn_cost (turn merge n c (passed ++ (x ∷ [])) l) ≤ m c + (costs (passed ++ (x ∷ [])) + costs l)
          → ((d : P) → turn_cost (turn merge n d passed (last_first l)) ≤ m d + (costs passed + costs (last_first l)))
          → turn_cost
          (elim r [
            | none ↦ turn merge n c (passed ++ (x ∷ [])) l
            | some d ↦ one_removed (turn merge n d passed (last_first l))
          ])
          ≤ m c + (costs passed + (m x + costs l))
      go none h same more = omega (arith, fold_append plus_laws m passed (x ∷ []))
      go (some d) h same more = omega (arith, more d, lower c x d h, fold_last_first plus_laws m l)

  pub walk_lowers : (n : ℕ) (l : List P) → costs (walk merge n l).parts + (walk merge n l).removed ≤ costs l
  unfolding walk fold then_walk
  walk_lowers zero l = omega arith
  walk_lowers (suc n) [] = omega arith
  walk_lowers (suc n) (c ∷ l) = omega (arith, turn_lowers (length l) c [] l, walk_lowers n (turn merge (length l) c [] l).later)

-- Q holds of every member of the list
abbrev pub All : {P : Type 0} → (P → Type 0) → List P → Type 0
All Q [] = Unit {0}
All Q (a ∷ l) = Q a × All Q l

module _ {P : Type 0} (Q : P → Type 0) where
  pub all_append : (s t : List P) → All Q s → All Q t → All Q (s ++ t)
  all_append [] t p q = q
  all_append (a ∷ s) t p q = (p.0, all_append s t p.1 q)

  all_last_init : (a : P) (l : List P) → Q a → All Q l → Q (last_of a l) × All Q (init_of a l)
  unfolding last_of init_of
  all_last_init a [] p q = (p, tt)
  all_last_init a (b ∷ l) p q = let r = all_last_init b l q.0 q.1 in (r.0, (p, r.1))

  all_last_first : (l : List P) → All Q l → All Q (last_first l)
  unfolding last_first
  all_last_first [] q = tt
  all_last_first (a ∷ l) q = all_last_init a l q.0 q.1

-- a property that merging keeps: if it holds of every part that goes into a walk, it holds of every part that comes out
module _ {P : Type 0} (merge : P → P → Option P)
    (Q : P → Type 0) (kept : (c x d : P) → Q c → Q x → merge c x ≡ some d → Q d) where
  abbrev Turned : Turn P → Type 0
  Turned s = Q s.current × All Q s.later

  turn_all : (n : ℕ) (c : P) (passed l : List P) → Q c → All Q passed → All Q l → Turned (turn merge n c passed l)
  unfolding turn one_removed
  turn_all zero c passed l q p h = (q, all_append Q passed l p h)
  turn_all (suc n) c passed [] q p h = (q, p)
  turn_all (suc n) c passed (x ∷ l) q p h =
      go (merge c x) refl
      (turn_all n c (passed ++ (x ∷ [])) l q (all_append Q passed (x ∷ []) p (h.0, tt)) h.1)
      (λ d e. turn_all n d passed (last_first l) e p (all_last_first Q l h.1))
    where
      go : (r : Option P) → merge c x ≡ r → Turned (turn merge n c (passed ++ (x ∷ [])) l)
          → ((d : P) → Q d → Turned (turn merge n d passed (last_first l)))
          → Turned
          (elim r [
            | none ↦ turn merge n c (passed ++ (x ∷ [])) l
            | some d ↦ one_removed (turn merge n d passed (last_first l))
          ])
      go none e same more = same
      go (some d) e same more = more d (kept c x d q h.0 e)

  pub walk_all : (n : ℕ) (l : List P) → All Q l → All Q (walk merge n l).parts
  unfolding walk then_walk
  walk_all zero l h = h
  walk_all (suc n) [] h = tt
  walk_all (suc n) (c ∷ l) h =
      let s = turn_all (length l) c [] l h.0 tt h.1 in
      (s.0, walk_all n (turn merge (length l) c [] l).later s.1)
