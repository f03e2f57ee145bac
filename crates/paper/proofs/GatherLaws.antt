-- Gathering: opening a sum among a sum's members, or a product among a product's, keeps the value and takes one off the weight
-- for each opening; and since what is opened has two members or more, a gathered list never has fewer than two. Each is one
-- induction on the list, over either kind of node.
use Prim.Native.Nat.{ℕ, suc, ◌+◌, ◌*◌, ◌≤◌, ◌<◌}
use mathlib.Core.Path.{◌≡◌, refl, sym, ap, ◌∙◌, subst}
use mathlib.Core.List.{List, [], ◌∷◌, ◌++◌}
use mathlib.Core.Option.{Option, none, some}
use native.Mathlib.Omega.{arith}
use lib.ListN.{length, length-append}
use lib.IntN.{pos}
use Rattle.paper.specs.Limits.{modulus}
use Rattle.paper.specs.Tree.{Tree, Forest, integer, symbol, sum, product, power, to_list, of_list, count, weight}
use Rattle.paper.specs.WellFormed.{WF, WFs, WFl}
use Rattle.paper.specs.Rules.{collapse}
use Rattle.paper.specs.Driver.{members, as_sum, as_product, open_one, opened, base_from, gather}
use Rattle.paper.specs.Good.{Kept}
use Rattle.paper.proofs.Congruence.{Agree, agree_refl, agree_of, agree_trans, agree_add, agree_mul, agree_pow}
use Rattle.paper.proofs.Value.{exact, total, multiplied, total_append, multiplied_append, sum_list, list_sum, product_list}
use Rattle.paper.proofs.Value.{list_product, weights_list, list_weights, weight_pos}
use Rattle.paper.proofs.KeptLaws.{value_of_exact, kept_exact}
use Rattle.paper.proofs.WFLaws.{wf_list, list_wf, wf_append, count_list, list_count, of_to_list}

-- ---- opening, over either kind: `inside` gives the members of a node of that kind
-- a fold over lists, g being what one tree counts for, that counts a node of the kind for what its members count for
pub record Folds (inside : Tree → Option (List Tree)) (op : ℕ → ℕ → ℕ) (F : List Tree → ℕ) (g : Tree → ℕ) : Type 0 where
  pub first : (t : Tree) (l : List Tree) → F (t ∷ l) ≡ op (g t) (F l)
  pub append : (l m : List Tree) → F (l ++ m) ≡ op (F l) (F m)
  pub node : (t : Tree) (l : List Tree) → inside t ≡ some l → F l ≡ g t

module _ {inside : Tree → Option (List Tree)} {op : ℕ → ℕ → ℕ} {F : List Tree → ℕ} {g : Tree → ℕ} (folds : Folds inside op F g) where
  open_one_folds : (t : Tree) (o : Option (List Tree)) (r : List Tree × ℕ) → inside t ≡ o → F (open_one o t r).0 ≡ op (g t) (F r.0)
  unfolding open_one
  open_one_folds t none r e = folds.first t r.0
  open_one_folds t (some l) r e = folds.append l r.0 ∙ ap (λ n. op n (F r.0)) (folds.node t l e)

  pub opened_folds : (l : List Tree) → F (opened inside l).0 ≡ F l
  unfolding opened
  opened_folds [] = refl
  opened_folds (t ∷ l) =
      open_one_folds t (inside t) (opened inside l) refl ∙ ap (op (g t)) (opened_folds l) ∙ sym (folds.first t l)

-- a node of the kind weighs one more than its members, and where it is well-formed they are, and there is one at least
pub record Opens (inside : Tree → Option (List Tree)) : Type 0 where
  pub heavier : (t : Tree) (l : List Tree) → inside t ≡ some l → weight t ≡ 1 + total weight l
  pub wf_members : (t : Tree) (l : List Tree) → inside t ≡ some l → WF t → WFl l × (1 ≤ length l)

module _ {inside : Tree → Option (List Tree)} (opens : Opens inside) where
  open_one_weight : (t : Tree) (o : Option (List Tree)) (r : List Tree × ℕ) → inside t ≡ o
      → total weight (open_one o t r).0 + (open_one o t r).1 ≡ weight t + (total weight r.0 + r.1)
  unfolding open_one total
  open_one_weight t none r e = omega arith
  open_one_weight t (some l) r e = omega (arith, total_append weight l r.0, opens.heavier t l e)

  -- each opening takes one off the weight
  pub opened_weight : (l : List Tree) → total weight (opened inside l).0 + (opened inside l).1 ≡ total weight l
  unfolding opened total
  opened_weight [] = refl
  opened_weight (t ∷ l) = open_one_weight t (inside t) (opened inside l) refl ∙ ap (λ n. weight t + n) (opened_weight l)

  open_one_wf : (t : Tree) (o : Option (List Tree)) (r : List Tree × ℕ) → inside t ≡ o → WF t → WFl r.0
      → WFl (open_one o t r).0 × (1 + length r.0 ≤ length (open_one o t r).0)
  unfolding open_one
  open_one_wf t none r e w v = ((w, v), omega arith)
  open_one_wf t (some l) r e w v =
      let m = opens.wf_members t l e w in
      (wf_append l r.0 m.0 v, omega (arith, length-append l r.0, m.1))

  -- opening leaves well-formed members, and no fewer of them
  pub opened_wf : (l : List Tree) → WFl l → WFl (opened inside l).0 × (length l ≤ length (opened inside l).0)
  unfolding opened
  opened_wf [] w = (tt, omega arith)
  opened_wf (t ∷ l) w =
      let ih = opened_wf l w.1 in
      let o = open_one_wf t (inside t) (opened inside l) refl w.0 ih.0 in
      (o.0, omega (arith, o.1, ih.1))

some_inj : {l m : List Tree} → ◌≡◌ {A = Option (List Tree)} (some l) (some m) → l ≡ m
some_inj e = cc

none_some {ℓ} : {X : Type ℓ} {l : List Tree} → none ≡ some l → X
none_some e = absurd (let z : ◌≡◌ {A = ℕ} 0 1 = cc in omega arith)

-- ---- the two kinds
-- what holds of the members of a sum holds wherever as_sum gives members; the same of a product
pub as_sum_lem : (Q : Tree → List Tree → Type 0) → ((μ : ℕ) (f : Forest) → Q (sum μ f) (to_list f)) → (t : Tree) (l : List Tree) → as_sum t ≡ some l → Q t l
unfolding as_sum
as_sum_lem Q h (integer μ z) l e = none_some e
as_sum_lem Q h (symbol μ s) l e = none_some e
as_sum_lem Q h (sum μ f) l e = subst (Q (sum μ f)) (some_inj e) (h μ f)
as_sum_lem Q h (product μ f) l e = none_some e
as_sum_lem Q h (power μ b ξ x) l e = none_some e

pub as_product_lem : (Q : Tree → List Tree → Type 0) → ((μ : ℕ) (f : Forest) → Q (product μ f) (to_list f)) → (t : Tree) (l : List Tree)
    → as_product t ≡ some l → Q t l
unfolding as_product
as_product_lem Q h (integer μ z) l e = none_some e
as_product_lem Q h (symbol μ s) l e = none_some e
as_product_lem Q h (sum μ f) l e = none_some e
as_product_lem Q h (product μ f) l e = subst (Q (product μ f)) (some_inj e) (h μ f)
as_product_lem Q h (power μ b ξ x) l e = none_some e

pub sums_open : Opens as_sum
unfolding weight
sums_open =
    record {
      heavier = as_sum_lem (λ t l. weight t ≡ 1 + total weight l) (λ μ f. ap (λ n. 1 + n) (sym (weights_list f)));
      wf_members = as_sum_lem (λ t l. WF t → WFl l × (1 ≤ length l)) (λ μ f w. (wf_list f w.1, omega (arith, count_list f, w.0)));
    }

pub products_open : Opens as_product
unfolding weight
products_open =
    record {
      heavier = as_product_lem (λ t l. weight t ≡ 1 + total weight l) (λ μ f. ap (λ n. 1 + n) (sym (weights_list f)));
      wf_members = as_product_lem (λ t l. WF t → WFl l × (1 ≤ length l)) (λ μ f w. (wf_list f w.1, omega (arith, count_list f, w.0)));
    }

sums_fold : (ρ : ℕ → ℕ) → Folds as_sum ◌+◌ (total (λ t. exact t ρ)) (λ t. exact t ρ)
unfolding exact total
sums_fold ρ =
    record {
      first = λ t l. refl;
      append = total_append (λ t. exact t ρ);
      node = as_sum_lem (λ t l. total (λ t. exact t ρ) l ≡ exact t ρ) (λ μ f. sum_list f ρ);
    }

products_fold : (ρ : ℕ → ℕ) → Folds as_product ◌*◌ (multiplied (λ t. exact t ρ)) (λ t. exact t ρ)
unfolding exact multiplied
products_fold ρ =
    record {
      first = λ t l. refl;
      append = multiplied_append (λ t. exact t ρ);
      node = as_product_lem (λ t l. multiplied (λ t. exact t ρ) l ≡ exact t ρ) (λ μ f. product_list f ρ);
    }

-- ---- members and their results, one by one
-- each tree of the second list has the value of its fellow in the first, and all together weigh at least k less
pub data Kepts : ℕ → List Tree → List Tree → Type 0 where
  nothing : Kepts 0 [] []
  more : {j k : ℕ} {t u : Tree} {l m : List Tree} → Kept j t u → Kepts k l m → Kepts (j + k) (t ∷ l) (u ∷ m)

kepts_total : {k : ℕ} {l m : List Tree} → Kepts k l m → (ρ : ℕ → ℕ) → Agree modulus (total (λ t. exact t ρ) m) (total (λ t. exact t ρ) l)
unfolding total
kepts_total nothing ρ = agree_refl
kepts_total (more h r) ρ = agree_add (kept_exact h ρ) (kepts_total r ρ)

kepts_multiplied : {k : ℕ} {l m : List Tree} → Kepts k l m → (ρ : ℕ → ℕ)
    → Agree modulus (multiplied (λ t. exact t ρ) m) (multiplied (λ t. exact t ρ) l)
unfolding multiplied
kepts_multiplied nothing ρ = agree_refl
kepts_multiplied (more h r) ρ = agree_mul (kept_exact h ρ) (kepts_multiplied r ρ)

pub kepts_weight : {k : ℕ} {l m : List Tree} → Kepts k l m → total weight m + k ≤ total weight l
unfolding total
kepts_weight nothing = omega arith
kepts_weight (more h r) = omega (arith, h.lighter, kepts_weight r)

pub kepts_length : {k : ℕ} {l m : List Tree} → Kepts k l m → length m ≡ length l
kepts_length nothing = refl
kepts_length (more h r) = ap suc (kepts_length r)

-- ---- the gathered node
pub no_members : {k : ℕ} {l : List Tree} → Kepts k [] l → k ≡ 0
no_members nothing = refl

-- a power's exponent weighs 1, so its result can't have lost any weight
power_kept : (μ : ℕ) (b x : Tree) (ξ e k : ℕ) (l : List Tree) → weight x ≡ 1 → Kepts k (b ∷ x ∷ []) l
    → Kept (k + 0) (power μ b ξ e) (power μ (base_from b l) ξ e)
unfolding base_from exact weight
power_kept μ b x ξ e k l w (more {u = u} h (more {u = y} h' r)) =
    record {
      value_kept = value_of_exact (power μ b ξ e) (power μ u ξ e) (λ ρ. agree_pow e (kept_exact h ρ));
      lighter = omega (arith, no_members r, h.lighter, h'.lighter, weight_pos y);
    }

-- the gathered node keeps the value, and weighs less by what its members lost and by one for each opening
pub gather_kept : (t : Tree) (l : List Tree) (k : ℕ) → Kepts k (members t) l → Kept (k + (gather t l).1) t (gather t l).0
unfolding gather members exact weight
gather_kept (integer μ z) l k h = record { value_kept = λ ρ. refl; lighter = omega (arith, no_members h) }
gather_kept (symbol μ s) l k h = record { value_kept = λ ρ. refl; lighter = omega (arith, no_members h) }
gather_kept (sum μ f) l k h =
    let m = (opened as_sum l).0 in
    record {
      value_kept = value_of_exact (sum μ f) (sum μ (of_list m))
          (λ ρ. agree_trans (agree_of (list_sum m ρ ∙ opened_folds (sums_fold ρ) l)) (agree_trans (kepts_total h ρ) (agree_of (sum_list f ρ))));
      lighter = omega (arith, list_weights m, opened_weight sums_open l, kepts_weight h, weights_list f);
    }
gather_kept (product μ f) l k h =
    let m = (opened as_product l).0 in
    record {
      value_kept = value_of_exact (product μ f) (product μ (of_list m))
          (λ ρ. agree_trans (agree_of (list_product m ρ ∙ opened_folds (products_fold ρ) l))
          (agree_trans (kepts_multiplied h ρ) (agree_of (product_list f ρ))));
      lighter = omega (arith, list_weights m, opened_weight products_open l, kepts_weight h, weights_list f);
    }
gather_kept (power μ b ξ e) l k h = power_kept μ b (integer ξ (pos e)) ξ e k l (unfold weight in refl) h

pub members_wf : (t : Tree) → WF t → WFl (members t)
unfolding members
members_wf (integer μ z) w = tt
members_wf (symbol μ s) w = tt
members_wf (sum μ f) w = wf_list f w.1
members_wf (product μ f) w = wf_list f w.1
members_wf (power μ b ξ e) w = (w.0, ((w.2, w.4), tt))

base_from_wf : (b : Tree) (l : List Tree) → WF b → WFl l → WF (base_from b l)
unfolding base_from
base_from_wf b [] w v = w
base_from_wf b (u ∷ l) w v = v.0

-- opened members of well-formed ones, as many as a node has: two or more, well-formed
gathered_members : {ins : Tree → Option (List Tree)} → Opens ins → (f : Forest) (l : List Tree) → 2 ≤ count f → length l ≡ count f → WFl l
    → (2 ≤ count (of_list (opened ins l).0)) × WFs (of_list (opened ins l).0)
gathered_members {ins} o f l two many v =
    let w = opened_wf o l v in
    (omega (arith, w.1, list_count (opened ins l).0), list_wf (opened ins l).0 w.0)

-- the gathered node is well-formed, where there are as many results as members
pub gather_wf : (t : Tree) (l : List Tree) → WF t → length l ≡ length (members t) → WFl l → WF (gather t l).0
unfolding gather members
gather_wf (integer μ z) l w n v = w
gather_wf (symbol μ s) l w n v = w
gather_wf (sum μ f) l w n v = let g = gathered_members sums_open f l w.0 (n ∙ count_list f) v in (g.0, g.1, w.2)
gather_wf (product μ f) l w n v = let g = gathered_members products_open f l w.0 (n ∙ count_list f) v in (g.0, g.1, w.2)
gather_wf (power μ b ξ e) l w n v = (base_from_wf b l w.0 v, w.1, w.2, w.3, w.4)

-- the list that is gathered: what the members' results become, where a sum's or a product's are opened
unfoldable pub gathered_list : Tree → List Tree → List Tree
gathered_list (integer μ z) l = l
gathered_list (symbol μ s) l = l
gathered_list (sum μ f) l = (opened as_sum l).0
gathered_list (product μ f) l = (opened as_product l).0
gathered_list (power μ b ξ e) l = l

-- a gathered sum or product has two members or more
pub gathers_two : (t : Tree) (l : List Tree) (k : ℕ) → WF t → 0 < length (members t) → WFl l → Kepts k (members t) l → 2 ≤ length (gathered_list t l)
unfolding gathered_list members
gathers_two (integer μ z) l k w m v h = absurd (omega arith)
gathers_two (symbol μ s) l k w m v h = absurd (omega arith)
gathers_two (sum μ f) l k w m v h = omega (arith, (opened_wf sums_open l v).1, kepts_length h, count_list f, w.0)
gathers_two (product μ f) l k w m v h = omega (arith, (opened_wf products_open l v).1, kepts_length h, count_list f, w.0)
gathers_two (power μ b ξ e) l k w m v h = omega (arith, kepts_length h)

-- ---- where nothing is opened, gathering a node's own members gives the node back
open_one_none : (t : Tree) (o : Option (List Tree)) (r : List Tree × ℕ) → (open_one o t r).1 ≡ 0 → (r.1 ≡ 0) × ((open_one o t r).0 ≡ t ∷ r.0)
unfolding open_one
open_one_none t none r e = (e, refl)
open_one_none t (some l) r e = absurd (omega arith)

pub opened_none : (inside : Tree → Option (List Tree)) (l : List Tree) → (opened inside l).1 ≡ 0 → (opened inside l).0 ≡ l
unfolding opened
opened_none inside [] e = refl
opened_none inside (t ∷ l) e =
    let o = open_one_none t (inside t) (opened inside l) e in
    o.1 ∙ ap (λ m. t ∷ m) (opened_none inside l o.0)

pub collapse_none : (emptied : Tree) (node : Forest → Tree) (l : List Tree) → 2 ≤ length l → collapse emptied node l ≡ node (of_list l)
unfolding collapse
collapse_none emptied node [] h = absurd (omega arith)
collapse_none emptied node (t ∷ []) h = absurd (omega arith)
collapse_none emptied node (t ∷ u ∷ l) h = refl

pub gather_same : (t : Tree) → WF t → (gather t (members t)).1 ≡ 0 → (gather t (members t)).0 ≡ t
unfolding gather members base_from
gather_same (integer μ z) w e = refl
gather_same (symbol μ s) w e = refl
gather_same (sum μ f) w e =
    ap (λ l. sum μ (of_list l)) (opened_none as_sum (to_list f) e) ∙ ap (sum μ) (of_to_list f)
gather_same (product μ f) w e =
    ap (λ l. product μ (of_list l)) (opened_none as_product (to_list f) e) ∙ ap (product μ) (of_to_list f)
gather_same (power μ b ξ x) w e = refl
