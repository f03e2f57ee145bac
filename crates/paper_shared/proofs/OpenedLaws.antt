-- What holds of opened trees. A property that each node passes on from its members, and each replacement has, holds of what is opened
-- (`opens_so`); so what is opened is well-formed, has no defined symbol left, and stays the same where more may be opened.
-- From as deep as there are definitions on, more depth changes nothing: a tree that is not opened then has a circle, which no depth opens.
use Prim.Native.Nat.{ℕ, zero, suc, ◌+◌, ◌≤◌}
use mathlib.Core.Path.{◌≡◌, refl, sym, ap, ◌∙◌, subst}
use mathlib.Core.List.{List}
use mathlib.Core.Logic.{◌⊎◌, inl, inr}
use mathlib.Core.Option.{Option, none, some}
use native.Mathlib.Nat.{zero-add, suc-add}
use lib.ListN.{length}
use Rattle.paper.specs.Tree.{Tree, Forest, integer, symbol, sum, product, power, nil, cons, count}
use Rattle.paper.specs.WellFormed.{WF, WFs}
use Rattle.paper_shared.proofs.CircleLaws.{shut_circle, circle_shuts}
use Rattle.paper_shared.specs.Shared.{Definition, defined, both, make, replaced, open_by, opens_by, open_within, again_within, opened, Among, NoneLeft, Tells}

-- what is told of an answer carries over
pub tells : {A : Type 0} {P Q : A → Type 0} (o : Option A) → ((a : A) → P a → Q a) → Tells P o → Tells Q o
tells none f h = tt
tells (some a) f h = f a h

pub told_of : {A : Type 0} (P : A → Type 0) (o : Option A) (a : A) → o ≡ some a → Tells P o → P a
told_of P o a e h = subst (λ (x : Option _). Tells P x) e h

made : {A B : Type 0} (P : A → Type 0) (Q : B → Type 0) (g : A → B) (o : Option A) → ((a : A) → P a → Q (g a)) → Tells P o → Tells Q (make g o)
unfolding make
made P Q g none f h = tt
made P Q g (some a) f h = f a h

joined : (P : Tree → Type 0) (Q R : Forest → Type 0) (o : Option Tree) (p : Option Forest) → ((v : Tree) (g : Forest) → P v → Q g → R (cons v g))
    → Tells P o → Tells Q p → Tells R (both o p)
unfolding both
joined P Q R none p f h k = tt
joined P Q R (some v) none f h k = tt
joined P Q R (some v) (some g) f h k = f v g h k

-- P of a tree and what it is opened to, Ps of members: each node passes it on
pub record Passes (P : Tree → Tree → Type 0) (Ps : Forest → Forest → Type 0) : Type 0 where
  pub on_integer : (μ : ℕ) (z : _) → P (integer μ z) (integer μ z)
  pub on_sum : (μ : ℕ) (f g : Forest) → Ps f g → P (sum μ f) (sum μ g)
  pub on_product : (μ : ℕ) (f g : Forest) → Ps f g → P (product μ f) (product μ g)
  pub on_power : (μ : ℕ) (b v : Tree) (ξ e : ℕ) → P b v → P (power μ b ξ e) (power μ v ξ e)
  pub on_nil : Ps nil nil
  pub on_cons : (t v : Tree) (f g : Forest) → P t v → Ps f g → Ps (cons t f) (cons v g)

module _ (ds : List Definition) (again : Tree → Option Tree) {P : Tree → Tree → Type 0} {Ps : Forest → Forest → Type 0} (k : Passes P Ps)
    (on_symbol_lem : (μ s : ℕ) → Tells (P (symbol μ s)) (replaced again μ s (defined ds s))) where
  mutual
    unfolding open_by

    pub opens_so : (t : Tree) → Tells (P t) (open_by ds again t)
    opens_so (integer μ z) = k.on_integer μ z
    opens_so (symbol μ s) = on_symbol_lem μ s
    opens_so (sum μ f) = made (Ps f) (P (sum μ f)) (sum μ) (opens_by ds again f) (λ g h. k.on_sum μ f g h) (open_so f)
    opens_so (product μ f) = made (Ps f) (P (product μ f)) (product μ) (opens_by ds again f) (λ g h. k.on_product μ f g h) (open_so f)
    opens_so (power μ b ξ e) =
        made (P b) (P (power μ b ξ e)) (λ u. power μ u ξ e) (open_by ds again b) (λ v h. k.on_power μ b v ξ e h) (opens_so b)

    pub open_so : (f : Forest) → Tells (Ps f) (opens_by ds again f)
    open_so nil = k.on_nil
    open_so (cons t f) =
        joined (P t) (Ps f) (Ps (cons t f)) (open_by ds again t) (opens_by ds again f)
        (λ v g h i. k.on_cons t v f g h i) (opens_so t) (open_so f)

pub within_again : (ds : List Definition) (n : ℕ) (t : Tree) → open_within ds n t ≡ open_by ds (again_within ds n) t
unfolding open_within again_within
within_again ds zero t = refl
within_again ds (suc n) t = refl

-- ---- members stay as many
pub as_many : Passes (λ t v. Unit {0}) (λ f g. count g ≡ count f)
unfolding count
as_many = record {
  on_integer = λ μ z. tt;
  on_sum = λ μ f g h. tt;
  on_product = λ μ f g h. tt;
  on_power = λ μ b v ξ e h. tt;
  on_nil = refl;
  on_cons = λ t v f g h i. ap suc i;
}

always : {A : Type 0} (o : Option A) → Tells (λ a. Unit {0}) o
always none = tt
always (some a) = tt

pub opens_count : (ds : List Definition) (again : Tree → Option Tree) (f : Forest) → Tells (λ g. count g ≡ count f) (opens_by ds again f)
opens_count ds again f = open_so ds again as_many (λ μ s. always (replaced again μ s (defined ds s))) f

-- ---- well-formed
pub stays_wf : Passes (λ t v. WF t → WF v) (λ f g. WFs f → (count g ≡ count f) × WFs g)
unfolding count
stays_wf = record {
  on_integer = λ μ z h. h;
  on_sum = λ μ f g k h. let i = k h.1 in (subst (λ (n : ℕ). 2 ≤ n) (sym i.0) h.0, i.1, h.2);
  on_product = λ μ f g k h. let i = k h.1 in (subst (λ (n : ℕ). 2 ≤ n) (sym i.0) h.0, i.1, h.2);
  on_power = λ μ b v ξ e k h. (k h.0, h.1, h.2, h.3, h.4);
  on_nil = λ h. (refl, h);
  on_cons = λ t v f g k l h. (ap suc (l h.1).0, (k h.0, (l h.1).1));
}

abbrev pub AllWF : List Definition → Type 0
AllWF ds = (s : ℕ) (u : Tree) → defined ds s ≡ some u → WF u

module _ (ds : List Definition) (again : Tree → Option Tree) (h : (s : ℕ) (u : Tree) → defined ds s ≡ some u → Tells WF (again u)) where
  symbol_wf : (μ s : ℕ) (o : Option Tree) → defined ds s ≡ o → Tells (λ v. WF (symbol μ s) → WF v) (replaced again μ s o)
  unfolding replaced
  symbol_wf μ s none e = λ k. k
  symbol_wf μ s (some u) e = tells (again u) (λ v w k. w) (h s u e)

  open_wf : (t : Tree) → WF t → Tells WF (open_by ds again t)
  open_wf t w = tells (open_by ds again t) (λ v k. k w) (opens_so ds again stays_wf (λ μ s. symbol_wf μ s (defined ds s) refl) t)

pub within_wf : (ds : List Definition) (n : ℕ) (t : Tree) → AllWF ds → WF t → Tells WF (open_within ds n t)
unfolding open_within
within_wf ds zero t d w = open_wf ds (λ u. none) (λ s u e. tt) t w
within_wf ds (suc n) t d w = open_wf ds (λ u. open_within ds n u) (λ s u e. within_wf ds n u d (d s u e)) t w

pub opened_wf : (ds : List Definition) (t : Tree) → AllWF ds → WF t → Tells WF (opened ds t)
unfolding opened
opened_wf ds t d w = within_wf ds (length ds) t d w

-- ---- "until none is left"
none_stays : (ds : List Definition) → Passes (λ t v. NoneLeft ds v) (λ f g. (s : ℕ) → Among s g → defined ds s ≡ none)
none_stays ds = record {
  on_integer = λ μ z s i. absurd i;
  on_sum = λ μ f g k s i. k s i;
  on_product = λ μ f g k s i. k s i;
  on_power = λ μ b v ξ e k s i. k s i;
  on_nil = λ s i. absurd i;
  on_cons = λ t v f g k l s i. either (k s) (l s) i;
}
  where
    either : {A B C : Type 0} → (A → C) → (B → C) → A ⊎ B → C
    either f g (inl a) = f a
    either f g (inr b) = g b

module _ (ds : List Definition) (again : Tree → Option Tree) (h : (u : Tree) → Tells (NoneLeft ds) (again u)) where
  symbol_left : (μ s : ℕ) (o : Option Tree) → defined ds s ≡ o → Tells (NoneLeft ds) (replaced again μ s o)
  unfolding replaced
  symbol_left μ s none e = λ r i. subst (λ (x : ℕ). defined ds x ≡ none) i e
  symbol_left μ s (some u) e = h u

  none_left : (t : Tree) → Tells (NoneLeft ds) (open_by ds again t)
  none_left t = opens_so ds again (none_stays ds) (λ μ s. symbol_left μ s (defined ds s) refl) t

pub within_none_left : (ds : List Definition) (n : ℕ) (t : Tree) → Tells (NoneLeft ds) (open_within ds n t)
unfolding open_within
within_none_left ds zero t = none_left ds (λ u. none) (λ u. tt) t
within_none_left ds (suc n) t = none_left ds (λ u. open_within ds n u) (λ u. within_none_left ds n u) t

pub opened_none_left : (ds : List Definition) (t : Tree) → Tells (NoneLeft ds) (opened ds t)
unfolding opened
opened_none_left ds t = within_none_left ds (length ds) t

-- ---- more depth
both_some : (ds : List Definition) (again : Tree → Option Tree) (t v : Tree) (f g : Forest) → open_by ds again t ≡ some v → opens_by ds again f ≡ some g
    → opens_by ds again (cons t f) ≡ some (cons v g)
unfolding open_by both
both_some ds again t v f g h i = rw (h, i)

stays_open : (ds : List Definition) (again : Tree → Option Tree) → Passes (λ t v. open_by ds again t ≡ some v) (λ f g. opens_by ds again f ≡ some g)
unfolding open_by make
stays_open ds again = record {
  on_integer = λ μ z. refl;
  on_sum = λ μ f g h. rw h;
  on_product = λ μ f g h. rw h;
  on_power = λ μ b v ξ e h. rw h;
  on_nil = refl;
  on_cons = λ t v f g h i. both_some ds again t v f g h i;
}

module _ (ds : List Definition) (again more : Tree → Option Tree) (h : (u : Tree) → Tells (λ v. more u ≡ some v) (again u)) where
  symbol_more : (μ s : ℕ) (o : Option Tree) → defined ds s ≡ o → Tells (λ v. open_by ds more (symbol μ s) ≡ some v) (replaced again μ s o)
  unfolding open_by replaced
  symbol_more μ s none e = rw e
  symbol_more μ s (some u) e = tells (again u) (λ v k. rw e k) (h u)

  by_more : (t : Tree) → Tells (λ v. open_by ds more t ≡ some v) (open_by ds again t)
  by_more t = opens_so ds again (stays_open ds more) (λ μ s. symbol_more μ s (defined ds s) refl) t

pub open_more : (ds : List Definition) (n : ℕ) (t : Tree) → Tells (λ v. open_within ds (suc n) t ≡ some v) (open_within ds n t)
unfolding open_within
open_more ds zero t = by_more ds (λ u. none) (λ u. open_within ds 0 u) (λ u. tt) t
open_more ds (suc n) t = by_more ds (λ u. open_within ds n u) (λ u. open_within ds (suc n) u) (λ u. open_more ds n u) t

more_by : (ds : List Definition) (k n : ℕ) (t v : Tree) → open_within ds n t ≡ some v → open_within ds (k + n) t ≡ some v
more_by ds zero n t v e = rw (zero-add n) e
more_by ds (suc k) n t v e =
    rw (suc-add k n)
    (told_of (λ (u : Tree). open_within ds (suc (k + n)) t ≡ some u) (open_within ds (k + n) t) v (more_by ds k n t v e) (open_more ds (k + n) t))

-- from as many as there are definitions on, more depth changes nothing
pub open_enough : (ds : List Definition) (k : ℕ) (t : Tree) → open_within ds (k + length ds) t ≡ opened ds t
unfolding opened
open_enough ds k t = go (opened ds t) refl
  where
    go : (o : Option Tree) → opened ds t ≡ o → open_within ds (k + length ds) t ≡ open_within ds (length ds) t
    go none e = circle_shuts ds (k + length ds) t (shut_circle ds t e) ∙ sym e
    go (some v) e = more_by ds k (length ds) t v e ∙ sym e
