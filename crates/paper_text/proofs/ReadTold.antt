-- What is read was written so: whatever a reader answers is well-formed, and the text is its text and what was left. Each reader is
-- followed along its own branches; only the depth and the lists need an induction.
use Prim.Native.Nat.{ℕ, zero, suc, ◌+◌, ◌-◌, ◌*◌, ◌/◌, ◌%◌, ◌^◌, ◌<◌, ◌≤◌}
use mathlib.Core.Path.{◌≡◌, refl, sym, ap, ◌∙◌, subst}
use mathlib.Core.Bool.{Bool, true, false, cond, ◌&&◌, not}
use mathlib.Core.List.{List, [], ◌∷◌, ◌++◌, append_assoc, append-nil}
use mathlib.Core.Option.{Option, none, some}
use native.Mathlib.Omega.{arith}
use borrow.Author.Tests.{ltb-true, ltb-false, lt-ltb, le-ltb, leb-true, eqb-true, eqb-false}
use lib.Dec.{eqb, ltb, leb, lit<}
use lib.ListN.{length}
use lib.IntN.{pos}
use Rattle.paper.proofs.Tests.{and_left, and_right}
use Rattle.paper.specs.Tree.{Tree, integer, symbol, sum, product, count, of_list}
use Rattle.paper.specs.WellFormed.{WF, WFs, Mark}
use Rattle.paper_text.specs.Text.{opens, closes, times, plus, minus, power_sign, ess, nought, digits, digits_of, signed_digits, Place, in_sum, in_product}
use Rattle.paper_text.specs.Text.{as_base, needs, enclosed, text, joined, others, Reading, then, begins, tail, digit_ahead, is_digit, read_digits, below}
use Rattle.paper_text.specs.Text.{read_number, negative, read_leaf, Item, bare, grouped, fit, fits, alone, also, all_fit, leaving, closed, exponent_after}
use Rattle.paper_text.specs.Text.{raised_by, read_others, read_base, read_power, product_from, read_product, sum_from, read_sum, read_within, whole, read_text}
use Rattle.paper_text.proofs.DigitLaws.{read_digit, read_end, digits_after, quotient_below}

-- ---- what a reading tells
module _ {A : Type 0} (P : A → List ℕ → Type 0) where
  abbrev pub Told : Reading A → Type 0
  Told none = Unit {0}
  Told (some r) = P r.0 r.1

pub then_told : {A B : Type 0} (P : A → List ℕ → Type 0) (Q : B → List ℕ → Type 0) (o : Reading A) (k : A → List ℕ → Reading B)
    → Told P o → ((a : A) (rest : List ℕ) → P a rest → Told Q (k a rest)) → Told Q (then o k)
unfolding then
then_told P Q none k h g = tt
then_told P Q (some r) k h g = g r.0 r.1 h

pub cond_told : {B : Type 0} (Q : B → List ℕ → Type 0) (b : Bool) (x y : Reading B)
    → (b ≡ true → Told Q x) → (b ≡ false → Told Q y) → Told Q (cond b x y)
cond_told Q true x y f g = f refl
cond_told Q false x y f g = g refl

pub begins_is : (c : ℕ) (s : List ℕ) → begins c s ≡ true → s ≡ c ∷ tail s
unfolding begins tail
begins_is c [] h = absurd (false_true h)
  where
    false_true : false ≡ true → ⊥
    false_true e = let z : ◌≡◌ {A = ℕ} 0 1 = cc in omega arith
begins_is c (x ∷ s) h = ap (λ (y : ℕ). y ∷ s) (eqb-true x c h)

-- ---- digits
digits_fuel : (n m v : ℕ) (after : List ℕ) → 0 < v → v < 10 ^ n → v < 10 ^ m → digits_of n v after ≡ digits_of m v after
unfolding digits_of
digits_fuel zero m v after p h g = absurd (omega (arith, h))
digits_fuel (suc n) zero v after p h g = absurd (omega (arith, g))
digits_fuel (suc n) (suc m) v after p h g =
    go (ltb v 10) refl (λ q. digits_fuel n m (v / 10) ((nought + v % 10) ∷ after) q (quotient_below n v h) (quotient_below m v g))
  where
    go : (b : Bool) → ltb v 10 ≡ b
        → (0 < v / 10 → digits_of n (v / 10) ((nought + v % 10) ∷ after) ≡ digits_of m (v / 10) ((nought + v % 10) ∷ after))
        → cond b ((nought + v) ∷ after) (digits_of n (v / 10) ((nought + v % 10) ∷ after))
        ≡ cond b ((nought + v) ∷ after) (digits_of m (v / 10) ((nought + v % 10) ∷ after))
    go true e ih = refl
    go false e ih = ih (let q : 10 ≤ v = ltb-false v 10 e in omega arith)

digits_more : (u x : ℕ) → 0 < u → x < 10 → 10 * u + x < 10 ^ 20 → digits (10 * u + x) ≡ digits u ++ ((nought + x) ∷ [])
unfolding digits digits_of
digits_more u x p h g =
    let q : (10 * u + x) / 10 ≡ u = omega (arith, h) in
    let r : (10 * u + x) % 10 ≡ x = omega (arith, h) in
    rw (le-ltb (10 * u + x) 10 (omega (arith, p)), q, r)
    (digits_fuel 19 20 u ((nought + x) ∷ []) p (omega (arith, g)) (omega (arith, g)) ∙ sym (digits_after 20 u [] ((nought + x) ∷ [])))

digit_of : (c : ℕ) → is_digit c ≡ true → (c - nought < 10) × (nought + (c - nought) ≡ c)
unfolding is_digit
digit_of c h =
    let a = leb-true 48 c (and_left (leb 48 c) (ltb c (48 + 10)) h) in
    let b = ltb-true c (48 + 10) (and_right (leb 48 c) (ltb c (48 + 10)) h) in
    (omega (arith, a, b), omega (arith, a, b))

read_grows : (s : List ℕ) (u : ℕ) → u ≤ (read_digits u s).0
unfolding read_digits
read_grows [] u = omega arith
read_grows (c ∷ s) u = go (is_digit c) (read_grows s (10 * u + (c - nought)))
  where
    go : (b : Bool) → 10 * u + (c - nought) ≤ (read_digits (10 * u + (c - nought)) s).0 → u ≤ (cond b (read_digits (10 * u + (c - nought)) s) (u, c ∷ s)).0
    go true ih = omega (arith, ih)
    go false ih = omega arith

read_spelt : (s : List ℕ) (u : ℕ) → 0 < u → (read_digits u s).0 < 10 ^ 20 → digits u ++ s ≡ digits (read_digits u s).0 ++ (read_digits u s).1
unfolding read_digits
read_spelt [] u p h = refl
read_spelt (c ∷ s) u p h =
    go (is_digit c) refl (read_grows s (10 * u + (c - nought))) (read_spelt s (10 * u + (c - nought)) (omega (arith, p))) h
  where
    go : (b : Bool) → is_digit c ≡ b → 10 * u + (c - nought) ≤ (read_digits (10 * u + (c - nought)) s).0
        → ((read_digits (10 * u + (c - nought)) s).0 < 10 ^ 20
        → digits (10 * u + (c - nought)) ++ s ≡ digits (read_digits (10 * u + (c - nought)) s).0 ++ (read_digits (10 * u + (c - nought)) s).1)
        → (cond b (read_digits (10 * u + (c - nought)) s) (u, c ∷ s)).0 < 10 ^ 20
        → digits u ++ (c ∷ s)
        ≡ digits (cond b (read_digits (10 * u + (c - nought)) s) (u, c ∷ s)).0 ++ (cond b (read_digits (10 * u + (c - nought)) s) (u, c ∷ s)).1
    go true e l ih h =
        let d = digit_of c e in
        let m = digits_more u (c - nought) p d.0 (omega (arith, l, h)) in
        ap (λ (y : ℕ). digits u ++ (y ∷ s)) (sym d.1)
        ∙ sym (append_assoc (digits u) ((nought + (c - nought)) ∷ []) s)
        ∙ ap (λ (y : List ℕ). y ++ s) (sym m)
        ∙ ih h
    go false e l ih h = refl

-- ---- a number
abbrev pub NumberIs : ℕ → List ℕ → ℕ → List ℕ → Type 0
NumberIs bound s v rest = (v < bound) × (s ≡ digits v ++ rest)

one_digit : (x : ℕ) → x < 10 → digits x ≡ (nought + x) ∷ []
unfolding digits digits_of
one_digit x h = rw (lt-ltb x 10 h)

below_told : (bound : ℕ) (s : List ℕ) (r : ℕ × List ℕ) → bound ≤ 10 ^ 20 → (r.0 < 10 ^ 20 → s ≡ digits r.0 ++ r.1)
    → Told (NumberIs bound s) (below bound r)
unfolding below
below_told bound s r h g =
    cond_told (NumberIs bound s) (ltb r.0 bound) (some r) none
    (λ e. let l = ltb-true r.0 bound e in (l, g (omega (arith, l, h)))) (λ e. tt)

starts_nought : (bound : ℕ) (s : List ℕ) → bound ≤ 10 ^ 20 → digit_ahead s ≡ false → Told (NumberIs bound (nought ∷ s))
    (below bound (read_digits 0 (nought ∷ s)))
unfolding digits digits_of
starts_nought bound s h d =
    let e : read_digits 0 (nought ∷ s) ≡ (0, s) = read_digit 0 0 s (omega arith) ∙ read_end 0 s d in
    rw e (below_told bound (nought ∷ s) (0, s) h (λ l. refl))

starts_other : (bound c : ℕ) (s : List ℕ) → bound ≤ 10 ^ 20 → is_digit c ≡ true → (c ≡ nought → ⊥)
    → Told (NumberIs bound (c ∷ s)) (below bound (read_digits 0 (c ∷ s)))
starts_other bound c s h d n =
    let x = digit_of c d in
    let e : read_digits 0 (c ∷ s) ≡ read_digits (c - nought) s
    = ap (λ (y : ℕ). read_digits 0 (y ∷ s)) (sym x.1) ∙ read_digit 0 (c - nought) s x.0 ∙ ap (λ (y : ℕ). read_digits y s) (omega arith) in
    let o : c ∷ s ≡ digits (c - nought) ++ s = ap (λ (y : ℕ). y ∷ s) (sym x.1) ∙ ap (λ (y : List ℕ). y ++ s) (sym (one_digit (c - nought) x.0)) in
    let q : 0 < c - nought = over c x.1 n in
    rw e (below_told bound (c ∷ s) (read_digits (c - nought) s) h (λ l. o ∙ read_spelt s (c - nought) q l))
  where
    over : (c : ℕ) → nought + (c - nought) ≡ c → (c ≡ nought → ⊥) → 0 < c - nought
    over c e n = go (ltb 0 (c - nought)) refl
      where
        go : (b : Bool) → ltb 0 (c - nought) ≡ b → 0 < c - nought
        go true f = ltb-true 0 (c - nought) f
        go false f = absurd (n (let z = ltb-false 0 (c - nought) f in omega (arith, z, e)))

pub number_told : (bound : ℕ) (s : List ℕ) → bound ≤ 10 ^ 20 → Told (NumberIs bound s) (read_number bound s)
unfolding read_number digit_ahead begins tail
number_told bound [] h = tt
number_told bound (c ∷ s) h =
    cond_told (NumberIs bound (c ∷ s)) (is_digit c) (cond (eqb c nought && digit_ahead s) none (below bound (read_digits 0 (c ∷ s)))) none
    (λ d. go d (eqb c nought) refl) (λ e. tt)
  where
    go : is_digit c ≡ true → (b : Bool) → eqb c nought ≡ b
        → Told (NumberIs bound (c ∷ s)) (cond (b && digit_ahead s) none (below bound (read_digits 0 (c ∷ s))))
    go d true e =
        cond_told (NumberIs bound (c ∷ s)) (digit_ahead s) none (below bound (read_digits 0 (c ∷ s))) (λ f. tt)
        (λ f. subst (λ (y : ℕ). Told (NumberIs bound (y ∷ s)) (below bound (read_digits 0 (y ∷ s)))) (sym (eqb-true c nought e)) (starts_nought bound s h f))
    go d false e = starts_other bound c s h d (eqb-false c nought e)

-- ---- a tree, and an item
abbrev pub TreeIs : List ℕ → Tree → List ℕ → Type 0
TreeIs s t rest = WF t × (s ≡ text t ++ rest)

unfoldable pub tree_in : Item → Tree
tree_in (bare t) = t
tree_in (grouped t) = t

unfoldable pub spelled : Item → List ℕ
spelled (bare t) = text t
spelled (grouped t) = enclosed true (text t)

abbrev pub ItemIs : List ℕ → Item → List ℕ → Type 0
ItemIs s i rest = WF (tree_in i) × (s ≡ spelled i ++ rest)

-- what is read has no mark
pub no_mark : Mark 0
no_mark = lit< tt

negative_told : (s : List ℕ) (v : ℕ) (rest : List ℕ) → v < 2 ^ 63 + 1 → s ≡ minus ∷ (digits v ++ rest) → Told (TreeIs s) (negative v rest)
unfolding negative text signed_digits
negative_told s zero rest h e = tt
negative_told s (suc n) rest h e = ((omega (arith, h), no_mark), e)

pub leaf_told : (s : List ℕ) → Told (TreeIs s) (read_leaf s)
unfolding read_leaf text signed_digits
leaf_told s =
    cond_told (TreeIs s) (begins ess s) (then (read_number 256 (tail s)) (λ v r. some (symbol 0 v, r)))
    (cond (begins minus s) (then (read_number (2 ^ 63 + 1) (tail s)) negative) (then (read_number (2 ^ 63) s) (λ v r. some (integer 0 (pos v), r))))
    (λ b. then_told (NumberIs 256 (tail s)) (TreeIs s) (read_number 256 (tail s)) (λ v r. some (symbol 0 v, r)) (number_told 256 (tail s) (omega arith))
    (λ v r h. ((h.0, no_mark), begins_is ess s b ∙ ap (λ (y : List ℕ). ess ∷ y) h.1)))
    (λ n. cond_told (TreeIs s) (begins minus s) (then (read_number (2 ^ 63 + 1) (tail s)) negative)
    (then (read_number (2 ^ 63) s) (λ v r. some (integer 0 (pos v), r)))
    (λ b. then_told (NumberIs (2 ^ 63 + 1) (tail s)) (TreeIs s) (read_number (2 ^ 63 + 1) (tail s)) negative (number_told (2 ^ 63 + 1) (tail s) (omega arith))
    (λ v r h. negative_told s v r h.0 (begins_is minus s b ∙ ap (λ (y : List ℕ). minus ∷ y) h.1)))
    (λ b. then_told (NumberIs (2 ^ 63) s) (TreeIs s) (read_number (2 ^ 63) s) (λ v r. some (integer 0 (pos v), r)) (number_told (2 ^ 63) s (omega arith))
    (λ v r h. ((h.0, no_mark), h.1))))

-- ---- members whose parentheses are right
abbrev FitIs : Place → Item → Option Tree → Type 0
FitIs p i none = Unit {0}
FitIs p i (some b) = WF b × (enclosed (needs p b) (text b) ≡ spelled i)

fit_told : (p : Place) (i : Item) → WF (tree_in i) → FitIs p i (fits p i)
unfolding fits fit tree_in spelled enclosed
fit_told p (bare t) w = go (needs p t) refl
  where
    go : (b : Bool) → needs p t ≡ b → FitIs p (bare t) (fit (not b) t)
    go true e = tt
    go false e = (w, rw e)
fit_told p (grouped t) w = go (needs p t) refl
  where
    go : (b : Bool) → needs p t ≡ b → FitIs p (grouped t) (fit b t)
    go true e = (w, rw e)
    go false e = tt

-- the items after a sign each
unfoldable spelled_all : ℕ → List Item → List ℕ
spelled_all sign [] = []
spelled_all sign (i ∷ l) = sign ∷ (spelled i ++ spelled_all sign l)

abbrev WFitems : List Item → Type 0
WFitems [] = Unit {0}
WFitems (i ∷ l) = WF (tree_in i) × WFitems l

abbrev ListIs : Place → ℕ → List Item → Option (List Tree) → Type 0
ListIs p sign l none = Unit {0}
ListIs p sign l (some ts) = WFs (of_list ts) × (count (of_list ts) ≡ length l) × (others p sign (of_list ts) ≡ spelled_all sign l)

list_told : (p : Place) (sign : ℕ) (l : List Item) → WFitems l → ListIs p sign l (all_fit p l)
unfolding all_fit spelled_all others of_list count also
list_told p sign [] w = (tt, refl, refl)
list_told p sign (i ∷ l) w = go (fits p i) (all_fit p l) (fit_told p i w.0) (list_told p sign l w.1)
  where
    go : (o : Option Tree) (q : Option (List Tree)) → FitIs p i o → ListIs p sign l q → ListIs p sign (i ∷ l) (also o q)
    go none q f g = tt
    go (some b) none f g = tt
    go (some b) (some ts) f g =
        ((f.0, g.0), ap suc g.1, ap (λ (y : List ℕ). sign ∷ (y ++ others p sign (of_list ts))) f.1 ∙ ap (λ (y : List ℕ). sign ∷ (spelled i ++ y)) g.2)

-- two members or more, joined
abbrev JoinedIs : Place → ℕ → Item → List Item → Option (List Tree) → Type 0
JoinedIs p sign i l none = Unit {0}
JoinedIs p sign i l (some ts) = WFs (of_list ts) × (count (of_list ts) ≡ suc (length l)) × (joined p sign (of_list ts) ≡ spelled i ++ spelled_all sign l)

joined_told : (p : Place) (sign : ℕ) (i : Item) (l : List Item) → WF (tree_in i) → WFitems l → JoinedIs p sign i l (all_fit p (i ∷ l))
unfolding all_fit joined of_list count also
joined_told p sign i l v w = go (fits p i) (all_fit p l) (fit_told p i v) (list_told p sign l w)
  where
    go : (o : Option Tree) (q : Option (List Tree)) → FitIs p i o → ListIs p sign l q → JoinedIs p sign i l (also o q)
    go none q f g = tt
    go (some b) none f g = tt
    go (some b) (some ts) f g =
        ((f.0, g.0), ap suc g.1, ap (λ (y : List ℕ). y ++ others p sign (of_list ts)) f.1 ∙ ap (λ (y : List ℕ). spelled i ++ y) g.2)

abbrev ItemsAre : ℕ → List ℕ → List Item → List ℕ → Type 0
ItemsAre sign s l rest = WFitems l × (s ≡ spelled_all sign l ++ rest)

others_told : (r : List ℕ → Reading Item) (sign k : ℕ) (s : List ℕ) → ((q : List ℕ) → Told (ItemIs q) (r q)) → Told (ItemsAre sign s) (read_others r sign k s)
unfolding read_others spelled_all
others_told r sign zero s g = (tt, refl)
others_told r sign (suc k) s g =
    cond_told (ItemsAre sign s) (begins sign s)
    (then (r (tail s)) (λ i s'. then (read_others r sign k s') (λ l s''. some (i ∷ l, s'')))) (some ([], s))
    (λ b. then_told (ItemIs (tail s)) (ItemsAre sign s) (r (tail s)) (λ i s'. then (read_others r sign k s') (λ l s''. some (i ∷ l, s''))) (g (tail s))
    (λ i s' h. then_told (ItemsAre sign s') (ItemsAre sign s) (read_others r sign k s') (λ l s''. some (i ∷ l, s'')) (others_told r sign k s' g)
    (λ l s'' m. (
      (h.0, m.0),
      begins_is sign s b ∙ ap (λ (y : List ℕ). sign ∷ y) h.1 ∙ ap (λ (y : List ℕ). sign ∷ (spelled i ++ y)) m.1
          ∙ ap (λ (y : List ℕ). sign ∷ y) (sym (append_assoc (spelled i) (spelled_all sign l) s'')),
    ))))
    (λ b. (tt, refl))

-- ---- the readers of one level
module _ (inner : List ℕ → Reading Tree) (told : (q : List ℕ) → Told (TreeIs q) (inner q)) where
  base_told : (s : List ℕ) → Told (ItemIs s) (read_base inner s)
  unfolding read_base closed tree_in spelled enclosed
  base_told s =
      cond_told (ItemIs s) (begins opens s) (then (inner (tail s)) closed) (then (read_leaf s) (λ t r. some (bare t, r)))
      (λ b. then_told (TreeIs (tail s)) (ItemIs s) (inner (tail s)) closed (told (tail s))
      (λ t r h. cond_told (ItemIs s) (begins closes r) (some (grouped t, tail r)) none
      (λ c. (
        h.0,
        begins_is opens s b ∙ ap (λ (y : List ℕ). opens ∷ y) h.1 ∙ ap (λ (y : List ℕ). opens ∷ (text t ++ y)) (begins_is closes r c)
            ∙ ap (λ (y : List ℕ). opens ∷ y) (sym (append_assoc (text t) (closes ∷ []) (tail r))),
      ))
      (λ c. tt)))
      (λ b. then_told (TreeIs s) (ItemIs s) (read_leaf s) (λ t r. some (bare t, r)) (leaf_told s) (λ t r h. h))

  exponent_told : (s q : List ℕ) (b : Tree) (e : ℕ) (r : List ℕ) → WF b → e < 2 ^ 63
      → s ≡ enclosed (needs as_base b) (text b) ++ (power_sign ∷ (digits e ++ r)) → Told (ItemIs s) (exponent_after b q e r)
  unfolding exponent_after tree_in spelled text
  exponent_told s q b zero r w h g = tt
  exponent_told s q b (suc e) r w h g =
      ((w, omega arith, h, no_mark, no_mark), g ∙ sym (append_assoc (enclosed (needs as_base b) (text b)) (power_sign ∷ digits (suc e)) r))

  raised_told : (s r : List ℕ) (i : Item) → (o : Option Tree) → FitIs as_base i o → s ≡ spelled i ++ r → begins power_sign r ≡ true
      → Told (ItemIs s) (raised_by (tail r) o)
  unfolding raised_by
  raised_told s r i none f e b = tt
  raised_told s r i (some u) f e b =
      then_told (NumberIs (2 ^ 63) (tail r)) (ItemIs s) (read_number (2 ^ 63) (tail r)) (exponent_after u (tail r))
      (number_told (2 ^ 63) (tail r) (omega arith))
      (λ v q h. exponent_told s (tail r) u v q f.0 h.0
      (e ∙ ap (λ (y : List ℕ). y ++ r) (sym f.1)
      ∙ ap (λ (y : List ℕ). enclosed (needs as_base u) (text u) ++ y) (begins_is power_sign r b ∙ ap (λ (y : List ℕ). power_sign ∷ y) h.1)))

  power_told : (s : List ℕ) → Told (ItemIs s) (read_power inner s)
  unfolding read_power
  power_told s =
      then_told (ItemIs s) (ItemIs s) (read_base inner s) (λ i r. cond (begins power_sign r) (raised_by (tail r) (fits as_base i)) (some (i, r))) (base_told s)
      (λ i r h. cond_told (ItemIs s) (begins power_sign r) (raised_by (tail r) (fits as_base i)) (some (i, r))
      (λ b. raised_told s r i (fits as_base i) (fit_told as_base i h.0) h.1 b) (λ b. h))

  product_from_lem : (s q : List ℕ) (i : Item) (l : List Item) → WF (tree_in i) → WFitems l → s ≡ spelled i ++ (spelled_all times l ++ q)
      → Told (ItemIs s) (product_from inner i q l)
  unfolding product_from spelled_all leaving tree_in spelled text
  product_from_lem s q i [] w v e = (w, e)
  product_from_lem s q i (j ∷ l) w v e = go (all_fit in_product (i ∷ j ∷ l)) (joined_told in_product times i (j ∷ l) w v)
    where
      go : (o : Option (List Tree)) → JoinedIs in_product times i (j ∷ l) o → Told (ItemIs s) (leaving q (λ ts. bare (product 0 (of_list ts))) o)
      go none h = tt
      go (some ts) h = (
        ((let c = h.1 in omega (arith, c)), h.0, no_mark),
        e ∙ sym (append_assoc (spelled i) (spelled_all times (j ∷ l)) q) ∙ ap (λ (y : List ℕ). y ++ q) (sym h.2),
      )

  product_told : (s : List ℕ) → Told (ItemIs s) (read_product inner s)
  unfolding read_product
  product_told s =
      then_told (ItemIs s) (ItemIs s) (read_power inner s)
      (λ i r. then (read_others (read_power inner) times (length r) r) (λ l q. product_from inner i q l)) (power_told s)
      (λ i r h. then_told (ItemsAre times r) (ItemIs s) (read_others (read_power inner) times (length r) r) (λ l q. product_from inner i q l)
      (others_told (read_power inner) times (length r) r power_told)
      (λ l q m. product_from_lem s q i l h.0 m.0 (h.1 ∙ ap (λ (y : List ℕ). spelled i ++ y) m.1)))

  sum_from_lem : (s q : List ℕ) (i : Item) (l : List Item) → WF (tree_in i) → WFitems l → s ≡ spelled i ++ (spelled_all plus l ++ q)
      → Told (TreeIs s) (sum_from inner i q l)
  unfolding sum_from spelled_all leaving tree_in spelled text alone
  sum_from_lem s q (bare t) [] w v e = (w, e)
  sum_from_lem s q (grouped t) [] w v e = tt
  sum_from_lem s q i (j ∷ l) w v e = go (all_fit in_sum (i ∷ j ∷ l)) (joined_told in_sum plus i (j ∷ l) w v)
    where
      go : (o : Option (List Tree)) → JoinedIs in_sum plus i (j ∷ l) o → Told (TreeIs s) (leaving q (λ ts. sum 0 (of_list ts)) o)
      go none h = tt
      go (some ts) h = (
        ((let c = h.1 in omega (arith, c)), h.0, no_mark),
        e ∙ sym (append_assoc (spelled i) (spelled_all plus (j ∷ l)) q) ∙ ap (λ (y : List ℕ). y ++ q) (sym h.2),
      )

  sum_told : (s : List ℕ) → Told (TreeIs s) (read_sum inner s)
  unfolding read_sum
  sum_told s =
      then_told (ItemIs s) (TreeIs s) (read_product inner s)
      (λ i r. then (read_others (read_product inner) plus (length r) r) (λ l q. sum_from inner i q l)) (product_told s)
      (λ i r h. then_told (ItemsAre plus r) (TreeIs s) (read_others (read_product inner) plus (length r) r) (λ l q. sum_from inner i q l)
      (others_told (read_product inner) plus (length r) r product_told)
      (λ l q m. sum_from_lem s q i l h.0 m.0 (h.1 ∙ ap (λ (y : List ℕ). spelled i ++ y) m.1)))

pub within_told : (n : ℕ) (s : List ℕ) → Told (TreeIs s) (read_within n s)
unfolding read_within
within_told zero s = tt
within_told (suc n) s = sum_told (λ q. read_within n q) (λ q. within_told n q) s

-- "writing what was read gives the same text": what is read of a whole text is a well-formed tree that has this text
abbrev pub TextIs : List ℕ → Option Tree → Type 0
TextIs s none = Unit {0}
TextIs s (some t) = WF t × (text t ≡ s)

pub read_text_lem : (s : List ℕ) → TextIs s (read_text s)
unfolding read_text whole
read_text_lem s = go (read_within (suc (length s)) s) (within_told (suc (length s)) s)
  where
    ends : (b : Bool) (t : Tree) (rest : List ℕ) → ltb 0 (length rest) ≡ b → TreeIs s t rest → TextIs s (cond b none (some t))
    ends true t rest e h = tt
    ends false t [] e h = (h.0, sym (h.1 ∙ append-nil (text t)))
    ends false t (x ∷ rest) e h = let z = ltb-false 0 (length (x ∷ rest)) e in absurd (omega (arith, z))

    go : (o : Reading Tree) → Told (TreeIs s) o → TextIs s (whole o)
    go none h = tt
    go (some r) h = ends (ltb 0 (length r.1)) r.0 r.1 refl h
