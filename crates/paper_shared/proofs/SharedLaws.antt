-- What is opened has the value of the original where the registers of the defined symbols reached hold the values of
-- their definitions. By induction on the depth, and on the tree.
use Prim.Native.Nat.{ℕ, zero, suc, ◌%◌, ◌^◌}
use mathlib.Core.Path.{◌≡◌, refl, sym, ap, ◌∙◌}
use mathlib.Core.List.{List}
use mathlib.Core.Option.{Option, none, some}
use mathlib.Core.Logic.{inl, inr}
use lib.ListN.{length}
use Rattle.paper.specs.Limits.{modulus}
use Rattle.paper.specs.Tree.{Tree, Forest, integer, symbol, sum, product, power, nil, cons, value, sum_value, product_value}
use Rattle.paper_shared.specs.Shared.{Definition, defined, both, make, replaced, open_by, opens_by}
use Rattle.paper_shared.specs.Shared.{open_within, opened, Stands, Among, Reached, stands, leads, Holds, Tells}

-- every defined symbol that stands in t holds the value of what `again` gives for its definition
module _ (ds : List Definition) (again : Tree → Option Tree) (ρ : ℕ → ℕ) where
  abbrev Held : (ℕ → Type 0) → Type 0
  Held In = (s : ℕ) (u : Tree) → In s → defined ds s ≡ some u → Tells (λ v. value v ρ ≡ ρ s % modulus) (again u)

  symbol_value : (μ s : ℕ) (o : Option Tree) → defined ds s ≡ o → Held (λ r. Stands r (symbol μ s))
      → Tells (λ v. value v ρ ≡ value (symbol μ s) ρ) (replaced again μ s o)
  unfolding replaced value
  symbol_value μ s none e h = refl
  symbol_value μ s (some u) e h = h s u refl e

  pub make_told : {A B : Type 0} (P : A → Type 0) (Q : B → Type 0) (g : A → B) (o : Option A) → Tells P o → ((a : A) → P a → Q (g a)) → Tells Q (make g o)
  unfolding make
  make_told P Q g none h f = tt
  make_told P Q g (some a) h f = f a h

  both_told : (t : Tree) (f : Forest) (o : Option Tree) (p : Option Forest) → Tells (λ v. value v ρ ≡ value t ρ) o
      → Tells (λ g. (sum_value g ρ ≡ sum_value f ρ) × (product_value g ρ ≡ product_value f ρ)) p
      → Tells (λ g. (sum_value g ρ ≡ sum_value (cons t f) ρ) × (product_value g ρ ≡ product_value (cons t f) ρ)) (both o p)
  unfolding both value
  both_told t f none p h g = tt
  both_told t f (some v) none h g = tt
  both_told t f (some v) (some k) h g = (rw (h, g.0), rw (h, g.1))

  mutual
    unfolding open_by value

    open_value : (t : Tree) → Held (λ s. Stands s t) → Tells (λ v. value v ρ ≡ value t ρ) (open_by ds again t)
    open_value (integer μ z) h = refl
    open_value (symbol μ s) h = symbol_value μ s (defined ds s) refl h
    open_value (sum μ f) h =
        make_told (λ g. (sum_value g ρ ≡ sum_value f ρ) × (product_value g ρ ≡ product_value f ρ)) (λ v. value v ρ ≡ sum_value f ρ) (sum μ)
        (opens_by ds again f)
        (opens_value f (λ s u i e. h s u i e)) (λ g e. e.0)
    open_value (product μ f) h =
        make_told (λ g. (sum_value g ρ ≡ sum_value f ρ) × (product_value g ρ ≡ product_value f ρ)) (λ v. value v ρ ≡ product_value f ρ)
        (product μ) (opens_by ds again f)
        (opens_value f (λ s u i e. h s u i e)) (λ g e. e.1)
    open_value (power μ b ξ n) h =
        make_told (λ v. value v ρ ≡ value b ρ) (λ v. value v ρ ≡ value (power μ b ξ n) ρ) (λ u. power μ u ξ n) (open_by ds again b)
        (open_value b (λ s u i e. h s u i e)) (λ v e. ap (λ (y : ℕ). y ^ n % modulus) e)

    opens_value : (f : Forest) → Held (λ s. Among s f) → Tells (λ g. (sum_value g ρ ≡ sum_value f ρ) × (product_value g ρ ≡ product_value f ρ))
        (opens_by ds again f)
    opens_value nil h = (refl, refl)
    opens_value (cons t f) h =
        both_told t f (open_by ds again t) (opens_by ds again f) (open_value t (λ s u i e. h s u (inl i) e)) (opens_value f (λ s u i e. h s u (inr i) e))

trans_told : (x y : ℕ) (ρ : ℕ → ℕ) (o : Option Tree) → x ≡ y → Tells (λ v. value v ρ ≡ x) o → Tells (λ v. value v ρ ≡ y) o
trans_told x y ρ none e h = tt
trans_told x y ρ (some v) e h = h ∙ e

reached_through : (ds : List Definition) (t : Tree) (s : ℕ) (u : Tree) (r : ℕ) (v : Tree) → Stands s t → defined ds s ≡ some u → Reached ds u r v →
    Reached ds t r v
reached_through ds t s u r v i e (stands j d) = leads (stands i e) j d
reached_through ds t s u r v i e (leads k j d) = leads (reached_through ds t s u _ _ i e k) j d

pub reached_from : (ds : List Definition) (t : Tree) (s r : ℕ) (u v : Tree) → Stands s t → defined ds s ≡ some u → Reached ds u r v → Reached ds t r v
reached_from ds t s r u v = reached_through ds t s u r v

pub within_value : (ds : List Definition) (n : ℕ) (t : Tree) (ρ : ℕ → ℕ) → Holds ds t ρ → Tells (λ v. value v ρ ≡ value t ρ) (open_within ds n t)
unfolding open_within
within_value ds zero t ρ h = open_value ds (λ u. none) ρ t (λ s u i e. tt)
within_value ds (suc n) t ρ h =
    open_value ds (λ u. open_within ds n u) ρ t
    (λ s u i e. trans_told (value u ρ) (ρ s % modulus) ρ (open_within ds n u) (sym (h s u (stands i e)))
    (within_value ds n u ρ (λ r v k. h r v (reached_from ds t s r u v i e k))))

pub opened_value : (ds : List Definition) (t : Tree) (ρ : ℕ → ℕ) → Holds ds t ρ → Tells (λ v. value v ρ ≡ value t ρ) (opened ds t)
unfolding opened
opened_value ds t ρ h = within_value ds (length ds) t ρ h
