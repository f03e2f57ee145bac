-- The walk of two trees in step, at a node: that two first records agree is inverted once into evidence (`Alike`), and the pairs of two trees
-- are their own or those of their members in step (`differ_node`). So no pair is reported exactly when the trees are the same, and then the
-- tables' bytes are. Every law is proved of a tree from its members' (`by_members`).
use Prim.Native.Nat.{ℕ, ◌+◌}
use mathlib.Core.Path.{◌≡◌, refl, sym, ap, ap₂, ◌∙◌, subst}
use mathlib.Core.Bool.{Bool, true, false}
use mathlib.Core.List.{List, [], ◌∷◌, ◌++◌, append-nil}
use mathlib.Core.Logic.{◌↔◌}
use native.Mathlib.Omega.{arith}
use borrow.Author.Tests.{eqb-true, eq-eqb}
use lib.ListN.{length}
use lib.IntN.{ℤ, pos}
use lib.Dec.{eqb}
use Rattle.paper.specs.Bytes.{Bytes}
use Rattle.paper.specs.Tree.{Tree, Forest, integer, symbol, sum, product, power, nil, cons, to_list, of_list, count, records, recordses, mark_of}
use Rattle.paper.specs.Equal.{on_integer, on_symbol, on_sum, on_product, on_power, equal}
use Rattle.paper.specs.Table.{encode, tree_of}
use Rattle.paper.specs.Verdict.{accepted, verdict}
use Rattle.paper.specs.Driver.{members}
use Rattle.paper_differ.specs.Differ.{same_fields, alike, or_pair, with_first, exponents, differences, in_step, between, differences_of}
use Rattle.paper.proofs.Tests.{never, and_both, eq_z_true, eq_z_self}
use Rattle.paper.proofs.WFLaws.{count_list, of_to_list}
pub use Rattle.paper.proofs.Fuel.{records_first}
use Rattle.paper.proofs.AcceptedLaws.{accepted_holds}
use Rattle.paper.proofs.Equality.{equal_refl}
use Rattle.paper.proofs.Computes.{trees_compute, equality_computes}

-- ---- two first records that agree, as evidence
pub data Alike : Tree → Tree → Type 0 where
  a_integer : {μ : ℕ} {z : ℤ} → Alike (integer μ z) (integer μ z)
  a_symbol : {μ s : ℕ} → Alike (symbol μ s) (symbol μ s)
  a_sum : {μ : ℕ} {f g : Forest} → count f ≡ length (to_list g) → Alike (sum μ f) (sum μ g)
  a_product : {μ : ℕ} {f g : Forest} → count f ≡ length (to_list g) → Alike (product μ f) (product μ g)
  a_power : {μ : ℕ} {b c : Tree} {ξ ζ n m : ℕ} → Alike (power μ b ξ n) (power μ c ζ m)

-- the mark given apart from the other fields
fields_view : (t u : Tree) → mark_of t ≡ mark_of u → same_fields t u ≡ true → Alike t u
unfolding mark_of same_fields on_integer on_symbol on_sum on_product on_power
fields_view (integer μ z) (integer ν y) h e =
    subst (λ k. Alike (integer μ z) (integer k y)) h (subst (λ w. Alike (integer μ z) (integer μ w)) (eq_z_true z y e) a_integer)
fields_view (integer μ z) (symbol ν r) h e = never e
fields_view (integer μ z) (sum ν g) h e = never e
fields_view (integer μ z) (product ν g) h e = never e
fields_view (integer μ z) (power ν c ζ m) h e = never e
fields_view (symbol μ s) (integer ν y) h e = never e
fields_view (symbol μ s) (symbol ν r) h e =
    subst (λ k. Alike (symbol μ s) (symbol k r)) h (subst (λ w. Alike (symbol μ s) (symbol μ w)) (eqb-true s r e) a_symbol)
fields_view (symbol μ s) (sum ν g) h e = never e
fields_view (symbol μ s) (product ν g) h e = never e
fields_view (symbol μ s) (power ν c ζ m) h e = never e
fields_view (sum μ f) (integer ν y) h e = never e
fields_view (sum μ f) (symbol ν r) h e = never e
fields_view (sum μ f) (sum ν g) h e = subst (λ k. Alike (sum μ f) (sum k g)) h (a_sum (eqb-true (count f) (length (to_list g)) e))
fields_view (sum μ f) (product ν g) h e = never e
fields_view (sum μ f) (power ν c ζ m) h e = never e
fields_view (product μ f) (integer ν y) h e = never e
fields_view (product μ f) (symbol ν r) h e = never e
fields_view (product μ f) (sum ν g) h e = never e
fields_view (product μ f) (product ν g) h e = subst (λ k. Alike (product μ f) (product k g)) h (a_product (eqb-true (count f) (length (to_list g)) e))
fields_view (product μ f) (power ν c ζ m) h e = never e
fields_view (power μ b ξ n) (integer ν y) h e = never e
fields_view (power μ b ξ n) (symbol ν r) h e = never e
fields_view (power μ b ξ n) (sum ν g) h e = never e
fields_view (power μ b ξ n) (product ν g) h e = never e
fields_view (power μ b ξ n) (power ν c ζ m) h e = subst (λ k. Alike (power μ b ξ n) (power k c ζ m)) h a_power

pub alike_view : (t u : Tree) → alike t u ≡ true → Alike t u
unfolding alike
alike_view t u e =
    let both = and_both (eqb (mark_of t) (mark_of u)) (same_fields t u) e in
    fields_view t u (eqb-true (mark_of t) (mark_of u) both.0) both.1

fields_self : (t : Tree) → same_fields t t ≡ true
unfolding same_fields on_integer on_symbol on_sum on_product on_power
fields_self (integer μ z) = eq_z_self z
fields_self (symbol μ s) = eq-eqb s s refl
fields_self (sum μ f) = eq-eqb (count f) (length (to_list f)) (sym (count_list f))
fields_self (product μ f) = eq-eqb (count f) (length (to_list f)) (sym (count_list f))
fields_self (power μ b ξ e) = refl

alike_self : (t : Tree) → alike t t ≡ true
unfolding alike
alike_self t = rw (eq-eqb (mark_of t) (mark_of t) refl) (fields_self t)

-- trees whose first records agree have as many members, and are the same where these are
pub as_many : {t u : Tree} → Alike t u → length (members t) ≡ length (members u)
unfolding members
as_many a_integer = refl
as_many a_symbol = refl
as_many (a_sum {f = f} {g = g} e) = count_list f ∙ e
as_many (a_product {f = f} {g = g} e) = count_list f ∙ e
as_many a_power = refl

forest_same : (f g : Forest) → to_list f ≡ to_list g → f ≡ g
forest_same f g e = sym (of_to_list f) ∙ ap of_list e ∙ of_to_list g

members_same : {t u : Tree} → Alike t u → members t ≡ members u → t ≡ u
unfolding members
members_same a_integer e = refl
members_same a_symbol e = refl
members_same (a_sum {μ = μ} {f = f} {g = g} h) e = ap (sum μ) (forest_same f g e)
members_same (a_product {μ = μ} {f = f} {g = g} h) e = ap (product μ) (forest_same f g e)
members_same (a_power {μ = μ} {b = b} {c = c} {ξ = ξ} {ζ = ζ} {n = n} {m = m}) e =
    let p : b ≡ c = cc in
    let x : ξ ≡ ζ = cc in
    let q : n ≡ m = cc in
    ap₂ (λ k l. power μ b k l) x q ∙ ap (λ d. power μ d ζ m) p

-- ---- of every tree, from its members
abbrev pub Every : (Tree → Type 0) → List Tree → Type 0
Every P [] = Unit {0}
Every P (t ∷ l) = P t × Every P l

module _ (P : Tree → Type 0) (step : (t : Tree) → Every P (members t) → P t) where
  mutual
    unfolding members to_list

    pub by_members : (t : Tree) → P t
    by_members (integer μ z) = step (integer μ z) tt
    by_members (symbol μ s) = step (symbol μ s) tt
    by_members (sum μ f) = step (sum μ f) (by_each f)
    by_members (product μ f) = step (product μ f) (by_each f)
    by_members (power μ b ξ e) = step (power μ b ξ e) (by_members b, (step (integer ξ (pos e)) tt, tt))

    by_each : (f : Forest) → Every P (to_list f)
    by_each nil = tt
    by_each (cons t f) = (by_members t, by_each f)

-- the records of trees one after the other
abbrev pub records_all : List Tree → ℕ
records_all l = recordses (of_list l)

-- ---- the walk: at a node, and over members in step
unfoldable pub steps : List Tree → List Tree → ℕ → ℕ → List (ℕ × ℕ)
steps [] m i j = []
steps (t ∷ l) [] i j = []
steps (t ∷ l) (u ∷ m) i j = differences t u i j ++ steps l m (i + records t) (j + records u)

in_step_lem : (f : Forest) (l : List Tree) (i j : ℕ) → in_step f l i j ≡ steps (to_list f) l i j
unfolding in_step steps to_list with_first
in_step_lem nil l i j = refl
in_step_lem (cons t f) [] i j = refl
in_step_lem (cons t f) (u ∷ l) i j =
    ap (λ (ds : List (ℕ × ℕ)). differences t u i j ++ ds) (in_step_lem f l (i + records t) (j + records u))

in_step_power : (b : Tree) (ξ e : ℕ) (l : List Tree) (i j : ℕ)
    → with_first l (λ c m. differences b c i j ++ exponents ξ e m (i + records b) (j + records c)) ≡ steps (b ∷ integer ξ (pos e) ∷ []) l i j
unfolding with_first exponents steps differences
in_step_power b ξ e [] i j = refl
in_step_power b ξ e (c ∷ []) i j = refl
in_step_power b ξ e (c ∷ (x ∷ l)) i j =
    ap (λ (ds : List (ℕ × ℕ)). differences b c i j ++ ds)
    (sym (append-nil (or_pair (alike (integer ξ (pos e)) x) (i + records b) (j + records c) [])))

-- "Where kind, count and number agree it goes on to the members; where they do not it reports the pair of record numbers"
pub differ_node : (t u : Tree) (i j : ℕ) → differences t u i j ≡ or_pair (alike t u) i j (steps (members t) (members u) (i + 1) (j + 1))
unfolding differences members steps
differ_node (integer μ z) u i j = refl
differ_node (symbol μ s) u i j = refl
differ_node (sum μ f) u i j = ap (or_pair (alike (sum μ f) u) i j) (in_step_lem f (members u) (i + 1) (j + 1))
differ_node (product μ f) u i j = ap (or_pair (alike (product μ f) u) i j) (in_step_lem f (members u) (i + 1) (j + 1))
differ_node (power μ b ξ e) u i j = ap (or_pair (alike (power μ b ξ e) u) i j) (in_step_power b ξ e (members u) (i + 1) (j + 1))

-- ---- none exactly when the trees are the same
empty_left : (a b : List (ℕ × ℕ)) → a ++ b ≡ [] → a ≡ []
empty_left [] b e = refl
empty_left (x ∷ a) b e = cc

empty_right : (a b : List (ℕ × ℕ)) → a ++ b ≡ [] → b ≡ []
empty_right [] b e = e
empty_right (x ∷ a) b e = cc

abbrev Itself : Tree → Type 0
Itself t = (i j : ℕ) → differences t t i j ≡ []

steps_itself : (l : List Tree) → Every Itself l → (i j : ℕ) → steps l l i j ≡ []
unfolding steps
steps_itself [] h i j = refl
steps_itself (t ∷ l) h i j = rw (h.0 i j) (steps_itself l h.1 (i + records t) (j + records t))

pub itself_none : (t : Tree) (i j : ℕ) → differences t t i j ≡ []
unfolding or_pair
itself_none =
    by_members Itself
    (λ t h i j. differ_node t t i j ∙ rw (alike_self t) (steps_itself (members t) h (i + 1) (j + 1)))

abbrev OnlyItself : Tree → Type 0
OnlyItself t = (u : Tree) (i j : ℕ) → differences t u i j ≡ [] → t ≡ u

steps_none : (l : List Tree) → Every OnlyItself l → (m : List Tree) (i j : ℕ) → length l ≡ length m → steps l m i j ≡ [] → l ≡ m
unfolding steps
steps_none [] h [] i j n e = refl
steps_none [] h (u ∷ m) i j n e = absurd (omega arith)
steps_none (t ∷ l) h [] i j n e = absurd (omega arith)
steps_none (t ∷ l) h (u ∷ m) i j n e =
    ap₂ (λ (x : Tree) (y : List Tree). x ∷ y) (h.0 u i j (empty_left (differences t u i j) _ e))
    (steps_none l h.1 m (i + records t) (j + records u) (omega arith) (empty_right (differences t u i j) _ e))

pub none_itself : (t u : Tree) (i j : ℕ) → differences t u i j ≡ [] → t ≡ u
unfolding or_pair
none_itself = by_members OnlyItself (λ t h u i j e. go t h u i j (alike t u) refl (sym (differ_node t u i j) ∙ e))
  where
    go : (t : Tree) → Every OnlyItself (members t) → (u : Tree) (i j : ℕ) (b : Bool) → alike t u ≡ b
        → or_pair b i j (steps (members t) (members u) (i + 1) (j + 1)) ≡ [] → t ≡ u
    go t h u i j true a e =
        let v = alike_view t u a in
        members_same v (steps_none (members t) h (members u) (i + 1) (j + 1) (as_many v) e)
    go t h u i j false a e = cc

-- "Two tables yield an empty list exactly when their bytes agree."
pub none_exactly : (lim : ℕ) (a b : List ℕ) → Bytes a → Bytes b → verdict lim a ≡ accepted → verdict lim b ≡ accepted → (differences_of a b ≡ []) ↔ (a ≡ b)
unfolding differences_of between
none_exactly lim a b x y p q =
    let h = accepted_holds lim a x p in
    let k = accepted_holds lim b y q in (
      λ e. h.written ∙ ap encode (none_itself h.tree k.tree 0 0 (rw (h.read, k.read) at e)) ∙ sym k.written,
      λ e. subst (λ (s : List ℕ). between (tree_of a) (tree_of s) ≡ []) e (rw h.read (itself_none h.tree 0 0)),
    )

-- an empty list means equal trees; not conversely, so that there is a second mode
pub equal_still : (t u : Tree) (i j : ℕ) → differences t u i j ≡ [] → equal t u ≡ true
equal_still t u i j e = subst (λ (v : Tree). equal t v ≡ true) (none_itself t u i j e) (equal_refl t)

-- a+b and b+a
pub not_conversely : let t = sum 0 (cons (symbol 0 0) (cons (symbol 0 1) nil)) in let u = sum 0 (cons (symbol 0 1) (cons (symbol 0 0) nil)) in
    (equal t u ≡ true) × (differences t u 0 0 ≡ (1, 1) ∷ (2, 2) ∷ [])
unfolding equality_computes trees_compute differences in_step with_first or_pair alike mark_of same_fields members
not_conversely = (refl, refl)
