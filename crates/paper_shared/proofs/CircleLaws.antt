-- 17 is given exactly when there is a circle. A tree from which a circle is reached has a defined symbol from whose tree it is reached
-- again, so no depth opens it. A tree that is not opened n deep has a chain of n + 1 defined symbols; out of n definitions one comes
-- twice, and leads back to itself.
use Prim.Native.Nat.{ℕ, zero, suc, ◌<◌}
use mathlib.Core.Path.{◌≡◌, refl, sym, ap, ◌∙◌, subst}
use mathlib.Core.Bool.{Bool, true, false, cond}
use mathlib.Core.List.{List, [], ◌∷◌}
use mathlib.Core.Option.{Option, none, some}
use mathlib.Core.Logic.{◌⊎◌, inl, inr}
use native.Mathlib.Omega.{arith}
use borrow.Author.Tests.{eqb-true, eqb-false}
use lib.Dec.{eqb}
use lib.ListN.{length}
use Rattle.paper.specs.Tree.{Tree, Forest, integer, symbol, sum, product, power, nil, cons}
use Rattle.paper_shared.proofs.SharedLaws.{reached_from}
use Rattle.paper_shared.specs.Shared.{Definition, defined, both, make, replaced, open_by, opens_by}
use Rattle.paper_shared.specs.Shared.{open_within, opened, Stands, Among, Reached, stands, leads, Circle}

-- ---- a defined symbol that stands in t and cannot be opened
pub record Stuck (ds : List Definition) (again : Tree → Option Tree) (In : ℕ → Type 0) : Type 0 where
  pub name : ℕ
  pub tree : Tree
  pub in_it : In name
  pub is : defined ds name ≡ some tree
  pub shut : again tree ≡ none

widen : {ds : List Definition} {again : Tree → Option Tree} {In In' : ℕ → Type 0} → ((s : ℕ) → In s → In' s) → Stuck ds again In → Stuck ds again In'
widen f k = record { name = k.name; tree = k.tree; in_it = f k.name k.in_it; is = k.is; shut = k.shut }

some_none : {A : Type 0} {a : A} → some a ≡ none → ⊥
some_none {A} {a} e = let z : ◌≡◌ {A = ℕ} 0 1 = cc in omega arith

make_none : {A B : Type 0} (g : A → B) (o : Option A) → make g o ≡ none → o ≡ none
unfolding make
make_none g none e = refl
make_none g (some a) e = absurd (some_none e)

both_none : (o : Option Tree) (p : Option Forest) → both o p ≡ none → (o ≡ none) ⊎ (p ≡ none)
unfolding both
both_none none p e = inl refl
both_none (some t) none e = inr refl
both_none (some t) (some f) e = absurd (some_none e)

module _ (ds : List Definition) (again : Tree → Option Tree) where
  symbol_stuck : (μ s : ℕ) (o : Option Tree) → defined ds s ≡ o → replaced again μ s o ≡ none → Stuck ds again (λ r. Stands r (symbol μ s))
  unfolding replaced
  symbol_stuck μ s none d e = absurd (some_none e)
  symbol_stuck μ s (some u) d e = record { name = s; tree = u; in_it = refl; is = d; shut = e }

  either : (t : Tree) (f : Forest) → (open_by ds again t ≡ none) ⊎ (opens_by ds again f ≡ none)
      → (open_by ds again t ≡ none → Stuck ds again (λ s. Stands s t)) → (opens_by ds again f ≡ none → Stuck ds again (λ s. Among s f))
      → Stuck ds again (λ s. Among s (cons t f))
  either t f (inl e) g h = widen (λ s i. inl i) (g e)
  either t f (inr e) g h = widen (λ s i. inr i) (h e)

  mutual
    unfolding open_by

    stuck : (t : Tree) → open_by ds again t ≡ none → Stuck ds again (λ s. Stands s t)
    stuck (integer μ z) e = absurd (some_none e)
    stuck (symbol μ s) e = symbol_stuck μ s (defined ds s) refl e
    stuck (sum μ f) e = widen (λ s i. i) (stucks f (make_none (sum μ) (opens_by ds again f) e))
    stuck (product μ f) e = widen (λ s i. i) (stucks f (make_none (product μ) (opens_by ds again f) e))
    stuck (power μ b ξ n) e = widen (λ s i. i) (stuck b (make_none (λ u. power μ u ξ n) (open_by ds again b) e))

    stucks : (f : Forest) → opens_by ds again f ≡ none → Stuck ds again (λ s. Among s f)
    stucks nil e = absurd (some_none e)
    stucks (cons t f) e = either t f (both_none (open_by ds again t) (opens_by ds again f) e) (λ q. stuck t q) (λ q. stucks f q)

  make_shut : {A B : Type 0} (g : A → B) (o : Option A) → o ≡ none → make g o ≡ none
  unfolding make
  make_shut g o e = rw e

  both_left : (o : Option Tree) (p : Option Forest) → o ≡ none → both o p ≡ none
  unfolding both
  both_left o p e = rw e

  both_right : (o : Option Tree) (p : Option Forest) → p ≡ none → both o p ≡ none
  unfolding both
  both_right none p e = refl
  both_right (some t) p e = rw e

  -- and where there is one, the tree cannot be opened
  module _ (s : ℕ) (u : Tree) (d : defined ds s ≡ some u) (h : again u ≡ none) where
    here : (μ r : ℕ) → r ≡ s → replaced again μ r (defined ds r) ≡ none
    unfolding replaced
    here μ r e = rw (e, d, h)

    one_of : (o : Option Tree) (p : Option Forest) → (o ≡ none) ⊎ (p ≡ none) → both o p ≡ none
    one_of o p (inl e) = both_left o p e
    one_of o p (inr e) = both_right o p e

    on_either : {A B C D : Type 0} → (A → C) → (B → D) → A ⊎ B → C ⊎ D
    on_either f g (inl a) = inl (f a)
    on_either f g (inr b) = inr (g b)

    mutual
      unfolding open_by

      shuts : (t : Tree) → Stands s t → open_by ds again t ≡ none
      shuts (integer μ z) i = absurd i
      shuts (symbol μ r) i = here μ r i
      shuts (sum μ f) i = make_shut (sum μ) (opens_by ds again f) (shuts_all f i)
      shuts (product μ f) i = make_shut (product μ) (opens_by ds again f) (shuts_all f i)
      shuts (power μ b ξ n) i = make_shut (λ v. power μ v ξ n) (open_by ds again b) (shuts b i)

      shuts_all : (f : Forest) → Among s f → opens_by ds again f ≡ none
      shuts_all nil i = absurd i
      shuts_all (cons t f) i = one_of (open_by ds again t) (opens_by ds again f) (on_either (λ j. shuts t j) (λ j. shuts_all f j) i)

-- ---- from a circle: its first symbol, and the circle is reached from what that stands for
pub record FirstStep (ds : List Definition) (t : Tree) (s : ℕ) (u : Tree) : Type 0 where
  pub name : ℕ
  pub tree : Tree
  pub in_it : Stands name t
  pub is : defined ds name ≡ some tree
  pub then_on : ((name ≡ s) × (tree ≡ u)) ⊎ Reached ds tree s u

extend : {ds : List Definition} {t : Tree} {r s : ℕ} {v u : Tree} → FirstStep ds t r v → Stands s v → defined ds s ≡ some u → FirstStep ds t s u
extend {ds} {t} {r} {s} {v} {u} k j d = record { name = k.name; tree = k.tree; in_it = k.in_it; is = k.is; then_on = go k.then_on }
  where
    go : ((k.name ≡ r) × (k.tree ≡ v)) ⊎ Reached ds k.tree r v → ((k.name ≡ s) × (k.tree ≡ u)) ⊎ Reached ds k.tree s u
    go (inl e) = inr (stands (subst (λ (y : Tree). Stands s y) (sym e.1) j) d)
    go (inr q) = inr (leads q j d)

first_step : (ds : List Definition) (t : Tree) (s : ℕ) (u : Tree) → Reached ds t s u → FirstStep ds t s u
first_step ds t s u (stands i d) = record { name = s; tree = u; in_it = i; is = d; then_on = inl (refl, refl) }
first_step ds t s u (leads q j d) = extend (first_step ds t _ _ q) j d

goes_round : (ds : List Definition) (t : Tree) (c : Circle ds t) (k : FirstStep ds t c.name c.tree) → Circle ds k.tree
goes_round ds t c k = record { name = c.name; tree = c.tree; reached = go k.then_on; back = c.back }
  where
    go : ((k.name ≡ c.name) × (k.tree ≡ c.tree)) ⊎ Reached ds k.tree c.name c.tree → Reached ds k.tree c.name c.tree
    go (inl e) = subst (λ (y : Tree). Reached ds y c.name c.tree) (sym e.1) c.back
    go (inr q) = q

pub circle_shuts : (ds : List Definition) (n : ℕ) (t : Tree) → Circle ds t → open_within ds n t ≡ none
unfolding open_within
circle_shuts ds zero t c =
    let k = first_step ds t c.name c.tree c.reached in
    shuts ds (λ u. none) k.name k.tree k.is refl t k.in_it
circle_shuts ds (suc n) t c =
    let k = first_step ds t c.name c.tree c.reached in
    shuts ds (λ u. open_within ds n u) k.name k.tree k.is (circle_shuts ds n k.tree (goes_round ds t c k)) t k.in_it

-- ---- to a circle: a chain of defined symbols, each standing in the tree of the one before
abbrev Chain : List Definition → Tree → List ℕ → Type 0
Chain ds t [] = Unit {0}
Chain ds t (s ∷ l) = (u : Tree) × Stands s t × (defined ds s ≡ some u) × Chain ds u l

record LongChain (ds : List Definition) (t : Tree) (n : ℕ) : Type 0 where
  names : List ℕ
  long : length names ≡ suc n
  chain : Chain ds t names

chain_of : (ds : List Definition) (n : ℕ) (t : Tree) → open_within ds n t ≡ none → LongChain ds t n
unfolding open_within
chain_of ds zero t e =
    let k = stuck ds (λ u. none) t e in
    record { names = k.name ∷ []; long = refl; chain = (k.tree, k.in_it, k.is, tt) }
chain_of ds (suc n) t e =
    let k = stuck ds (λ u. open_within ds n u) t e in
    let c = chain_of ds n k.tree k.shut in
    record { names = k.name ∷ c.names; long = ap suc c.long; chain = (k.tree, k.in_it, k.is, c.chain) }

-- ---- of more names than there are definitions one comes twice
abbrev In : ℕ → List ℕ → Type 0
In x [] = ⊥
In x (y ∷ l) = (y ≡ x) ⊎ In x l

abbrev AllIn : List ℕ → List ℕ → Type 0
AllIn [] pool = Unit {0}
AllIn (x ∷ l) pool = In x pool × AllIn l pool

abbrev Repeats : List ℕ → Type 0
Repeats [] = ⊥
Repeats (x ∷ l) = In x l ⊎ Repeats l

unfoldable without : ℕ → List ℕ → List ℕ
without x [] = []
without x (y ∷ l) = cond (eqb y x) l (y ∷ without x l)

is_in : (x : ℕ) (l : List ℕ) → In x l ⊎ (In x l → ⊥)
is_in x [] = inr (λ i. i)
is_in x (y ∷ l) = go (eqb y x) refl (is_in x l)
  where
    neither : (y ≡ x → ⊥) → (In x l → ⊥) → In x (y ∷ l) → ⊥
    neither f g (inl e) = f e
    neither f g (inr i) = g i

    go : (b : Bool) → eqb y x ≡ b → In x l ⊎ (In x l → ⊥) → In x (y ∷ l) ⊎ (In x (y ∷ l) → ⊥)
    go true e r = inl (inl (eqb-true y x e))
    go false e (inl i) = inl (inr i)
    go false e (inr n) = inr (neither (eqb-false y x e) n)

one_less : (x : ℕ) (l : List ℕ) → In x l → suc (length (without x l)) ≡ length l
unfolding without
one_less x [] i = absurd i
one_less x (y ∷ l) i = go (eqb y x) refl i (λ j. one_less x l j)
  where
    go : (b : Bool) → eqb y x ≡ b → In x (y ∷ l) → (In x l → suc (length (without x l)) ≡ length l) → suc (length (cond b l (y ∷ without x l))) ≡ length (y ∷ l)
    go true e i ih = refl
    go false e (inl q) ih = absurd (eqb-false y x e q)
    go false e (inr j) ih = ap suc (ih j)

kept : (x z : ℕ) (l : List ℕ) → (z ≡ x → ⊥) → In z l → In z (without x l)
unfolding without
kept x z [] n i = absurd i
kept x z (y ∷ l) n i = go (eqb y x) refl i (λ j. kept x z l n j)
  where
    go : (b : Bool) → eqb y x ≡ b → In z (y ∷ l) → (In z l → In z (without x l)) → In z (cond b l (y ∷ without x l))
    go true e (inl q) ih = absurd (n (sym q ∙ eqb-true y x e))
    go true e (inr j) ih = j
    go false e (inl q) ih = inl q
    go false e (inr j) ih = inr (ih j)

all_kept : (x : ℕ) (l pool : List ℕ) → (In x l → ⊥) → AllIn l pool → AllIn l (without x pool)
all_kept x [] pool n a = tt
all_kept x (z ∷ l) pool n a = (kept x z pool (λ e. n (inl e)) a.0, all_kept x l pool (λ i. n (inr i)) a.1)

pigeonhole : (l pool : List ℕ) → AllIn l pool → length pool < length l → Repeats l
pigeonhole [] pool a h = absurd (omega (arith, h))
pigeonhole (x ∷ l) pool a h =
    go (is_in x l) (λ n. pigeonhole l (without x pool) (all_kept x l pool n a.1) (let o = one_less x pool a.0 in omega (arith, o, h)))
  where
    go : In x l ⊎ (In x l → ⊥) → ((In x l → ⊥) → Repeats l) → In x l ⊎ Repeats l
    go (inl i) g = inl i
    go (inr n) g = inr (g n)

-- ---- the names of definitions
unfoldable names_of : List Definition → List ℕ
names_of [] = []
names_of (d ∷ ds) = d.name ∷ names_of ds

names_long : (ds : List Definition) → length (names_of ds) ≡ length ds
unfolding names_of
names_long [] = refl
names_long (d ∷ ds) = ap suc (names_long ds)

has_name : (ds : List Definition) (s : ℕ) (u : Tree) → defined ds s ≡ some u → In s (names_of ds)
unfolding names_of defined
has_name [] s u e = absurd (some_none (sym e))
has_name (d ∷ ds) s u e = go (eqb d.name s) refl e (λ q. has_name ds s u q)
  where
    go : (b : Bool) → eqb d.name s ≡ b → cond b (some d.tree) (defined ds s) ≡ some u
        → (defined ds s ≡ some u → In s (names_of ds)) → In s (d.name ∷ names_of ds)
    go true q e ih = inl (eqb-true d.name s q)
    go false q e ih = inr (ih e)

chain_names : (ds : List Definition) (t : Tree) (l : List ℕ) → Chain ds t l → AllIn l (names_of ds)
chain_names ds t [] c = tt
chain_names ds t (s ∷ l) c = (has_name ds s c.0 c.2, chain_names ds c.0 l c.3)

-- ---- a name that comes again in a chain is reached; one that comes twice is a circle
record Again (ds : List Definition) (t : Tree) (x : ℕ) : Type 0 where
  tree : Tree
  reached : Reached ds t x tree
  is : defined ds x ≡ some tree

again_in : (ds : List Definition) (t : Tree) (x : ℕ) (l : List ℕ) → Chain ds t l → In x l → Again ds t x
again_in ds t x [] c i = absurd i
again_in ds t x (y ∷ l) c i = go i (λ j. again_in ds c.0 x l c.3 j)
  where
    go : (y ≡ x) ⊎ In x l → (In x l → Again ds c.0 x) → Again ds t x
    go (inl e) ih =
        let d : defined ds x ≡ some c.0 = subst (λ (z : ℕ). defined ds z ≡ some c.0) e c.2 in
        record { tree = c.0; reached = stands (subst (λ (z : ℕ). Stands z t) e c.1) d; is = d }
    go (inr j) ih =
        let k = ih j in
        record { tree = k.tree; reached = reached_from ds t y x c.0 k.tree c.1 c.2 k.reached; is = k.is }

abbrev unsome : Tree → Option Tree → Tree
unsome t none = t
unsome t (some u) = u

twice_circle : (ds : List Definition) (t : Tree) (l : List ℕ) → Chain ds t l → Repeats l → Circle ds t
twice_circle ds t [] c r = absurd r
twice_circle ds t (x ∷ l) c r = go r (λ q. twice_circle ds c.0 l c.3 q)
  where
    go : In x l ⊎ Repeats l → (Repeats l → Circle ds c.0) → Circle ds t
    go (inl i) ih =
        let k = again_in ds c.0 x l c.3 i in
        let e : k.tree ≡ c.0 = ap (unsome t) (sym k.is ∙ c.2) in
        record { name = x; tree = c.0; reached = stands c.1 c.2; back = subst (λ (y : Tree). Reached ds c.0 x y) e k.reached }
    go (inr q) ih =
        let k = ih q in
        record { name = k.name; tree = k.tree; reached = reached_from ds t x k.name c.0 k.tree c.1 c.2 k.reached; back = k.back }

-- 17 "exactly when there is one"
pub shut_circle : (ds : List Definition) (t : Tree) → opened ds t ≡ none → Circle ds t
unfolding opened
shut_circle ds t e =
    let c = chain_of ds (length ds) t e in
    let n = names_long ds in
    let l = c.long in
    twice_circle ds t c.names c.chain (pigeonhole c.names (names_of ds) (chain_names ds t c.names c.chain) (omega (arith, n, l)))

pub circle_exactly : (ds : List Definition) (t : Tree) → (opened ds t ≡ none → Circle ds t) × (Circle ds t → opened ds t ≡ none)
unfolding opened
circle_exactly ds t = (shut_circle ds t, λ c. circle_shuts ds (length ds) t c)
