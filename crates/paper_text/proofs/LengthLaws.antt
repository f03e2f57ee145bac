-- How long a text is, and how light. A text has at most 21 characters for each unit of weight: an integer has 20 at the most, and the sign
-- after it; parentheses are paid by the record of their node. The other way, a tree weighs less than twice its characters. Both by
-- induction on the tree, with its members.
use Prim.Native.Nat.{ℕ, zero, suc, ◌+◌, ◌*◌, ◌/◌, ◌%◌, ◌^◌, ◌<◌, ◌≤◌}
use mathlib.Core.Path.{◌≡◌, refl}
use mathlib.Core.Bool.{Bool, true, false, cond}
use mathlib.Core.List.{List, [], ◌∷◌}
use native.Mathlib.Omega.{arith}
use borrow.Author.Tests.{ltb-false}
use lib.Dec.{ltb}
use lib.ListN.{length, length-append}
use lib.IntN.{pos, negsuc}
use Rattle.paper.specs.Tree.{Tree, Forest, integer, symbol, sum, product, power, nil, cons, count, weight, weights}
use Rattle.paper.specs.WellFormed.{WF, WFs}
use Rattle.paper_text.specs.Text.{closes, times, plus, power_sign, nought, digits, digits_of, signed_digits, Place, in_sum, in_product, as_base}
use Rattle.paper_text.specs.Text.{needs, enclosed, text, joined, others}
use Rattle.paper_text.proofs.DigitLaws.{quotient_below}
use Rattle.paper_text.proofs.RoundTrip.{digits_one, enclosed_long}

-- a number below 10^m has at most m digits
few_digits : (n m v : ℕ) (after : List ℕ) → v < 10 ^ m → 1 ≤ m → length (digits_of n v after) ≤ m + length after
unfolding digits_of
few_digits zero m v after h g = omega arith
few_digits (suc n) zero v after h g = absurd (omega (arith, g))
few_digits (suc n) (suc m) v after h g = go (ltb v 10) refl (λ k. few_digits n m (v / 10) ((nought + v % 10) ∷ after) (quotient_below m v h) k)
  where
    some_left : (m : ℕ) → v / 10 < 10 ^ m → 10 ≤ v → 1 ≤ m
    some_left zero q l = absurd (omega (arith, q, l))
    some_left (suc m) q l = omega arith

    go : (b : Bool) → ltb v 10 ≡ b → (1 ≤ m → length (digits_of n (v / 10) ((nought + v % 10) ∷ after)) ≤ m + length ((nought + v % 10) ∷ after))
        → length (cond b ((nought + v) ∷ after) (digits_of n (v / 10) ((nought + v % 10) ∷ after))) ≤ suc m + length after
    go true e ih = omega arith
    go false e ih = let i = ih (some_left m (quotient_below m v h) (ltb-false v 10 e)) in omega (arith, i)

-- a number of 63 bits, and 2^63 itself, has at most 19
pub digits_length : (v : ℕ) → v ≤ 2 ^ 63 → length (digits v) ≤ 19
unfolding digits
digits_length v h = let l = few_digits 20 19 v [] (omega (arith, h)) (omega arith) in omega (arith, l)

-- what a tree leaves of its 21 characters a unit
unfoldable pub spare : Tree → ℕ
spare (integer μ z) = 1
spare (symbol μ s) = 1
spare (sum μ f) = 22
spare (product μ f) = 22
spare (power μ b ξ e) = 21

-- a member with its parentheses and a sign; a base with its parentheses
member_length : (t : Tree) → (length (text t) + spare t ≤ 21 * weight t)
    → (length (enclosed (needs in_sum t) (text t)) + 1 ≤ 21 * weight t) × (length (enclosed (needs in_product t) (text t)) + 1 ≤ 21 * weight t)
    × (length (enclosed (needs as_base t) (text t)) ≤ 21 * weight t + 1)
unfolding needs enclosed spare
member_length (integer μ (pos n)) h = (h, h, omega (arith, h))
member_length (integer μ (negsuc n)) h = let e = length-append (text (integer μ (negsuc n))) (closes ∷ []) in (h, h, omega (arith, h, e))
member_length (symbol μ s) h = (h, h, omega (arith, h))
member_length (sum μ f) h = let e = length-append (text (sum μ f)) (closes ∷ []) in (omega (arith, h, e), omega (arith, h, e), omega (arith, h, e))
member_length (product μ f) h = let e = length-append (text (product μ f)) (closes ∷ []) in (omega (arith, h), omega (arith, h, e), omega (arith, h, e))
member_length (power μ b ξ n) h = let e = length-append (text (power μ b ξ n)) (closes ∷ []) in (omega (arith, h), omega (arith, h), omega (arith, h, e))

mutual
  unfolding text signed_digits weight count spare joined others

  pub spare_left : (t : Tree) → WF t → length (text t) + spare t ≤ 21 * weight t
  spare_left (integer μ (pos n)) w = let l = digits_length n (let h = w.0 in omega (arith, h)) in omega (arith, l)
  spare_left (integer μ (negsuc n)) w = let l = digits_length (suc n) (let h = w.0 in omega (arith, h)) in omega (arith, l)
  spare_left (symbol μ v) w = let l = digits_length v (let h = w.0 in omega (arith, h)) in omega (arith, l)
  spare_left (sum μ f) w = let l = sum_length f w.0 w.1 in omega (arith, l)
  spare_left (product μ f) w = let l = product_length f w.0 w.1 in omega (arith, l)
  spare_left (power μ b ξ n) w =
      let m = (member_length b (spare_left b w.0)).2 in
      let d = digits_length n (let h = w.2 in omega (arith, h)) in
      let e = length-append (enclosed (needs as_base b) (text b)) (power_sign ∷ digits n) in
      omega (arith, m, d, e)

  sum_length : (f : Forest) → 2 ≤ count f → WFs f → length (joined in_sum plus f) + 1 ≤ 21 * weights f
  sum_length nil h w = absurd (omega (arith, h))
  sum_length (cons t f) h w =
      let m = (member_length t (spare_left t w.0)).0 in
      let o = sum_others f w.1 in
      let e = length-append (enclosed (needs in_sum t) (text t)) (others in_sum plus f) in
      omega (arith, m, o, e)

  product_length : (f : Forest) → 2 ≤ count f → WFs f → length (joined in_product times f) + 1 ≤ 21 * weights f
  product_length nil h w = absurd (omega (arith, h))
  product_length (cons t f) h w =
      let m = (member_length t (spare_left t w.0)).1 in
      let o = product_others f w.1 in
      let e = length-append (enclosed (needs in_product t) (text t)) (others in_product times f) in
      omega (arith, m, o, e)

  sum_others : (f : Forest) → WFs f → length (others in_sum plus f) ≤ 21 * weights f
  sum_others nil w = omega arith
  sum_others (cons t f) w =
      let m = (member_length t (spare_left t w.0)).0 in
      let o = sum_others f w.1 in
      let e = length-append (enclosed (needs in_sum t) (text t)) (others in_sum plus f) in
      omega (arith, m, o, e)

  product_others : (f : Forest) → WFs f → length (others in_product times f) ≤ 21 * weights f
  product_others nil w = omega arith
  product_others (cons t f) w =
      let m = (member_length t (spare_left t w.0)).1 in
      let o = product_others f w.1 in
      let e = length-append (enclosed (needs in_product t) (text t)) (others in_product times f) in
      omega (arith, m, o, e)

-- the text of a tree is shorter than 21 times its weight
pub text_length : (t : Tree) → WF t → length (text t) + 1 ≤ 21 * weight t
unfolding spare
text_length t w = let h = spare_left t w in let s = spare_some t in omega (arith, h, s)
  where
    spare_some : (t : Tree) → 1 ≤ spare t
    spare_some (integer μ z) = omega arith
    spare_some (symbol μ s) = omega arith
    spare_some (sum μ f) = omega arith
    spare_some (product μ f) = omega arith
    spare_some (power μ b ξ e) = omega arith

-- ---- a tree weighs less than twice its characters
mutual
  unfolding text signed_digits weight count joined others

  pub weight_by_text : (t : Tree) → WF t → weight t + 1 ≤ 2 * length (text t)
  weight_by_text (integer μ (pos n)) w = let l = digits_one n in omega (arith, l)
  weight_by_text (integer μ (negsuc n)) w = omega arith
  weight_by_text (symbol μ v) w = let l = digits_one v in omega (arith, l)
  weight_by_text (sum μ f) w = let l = joined_weighs in_sum plus f w.0 w.1 in omega (arith, l)
  weight_by_text (product μ f) w = let l = joined_weighs in_product times f w.0 w.1 in omega (arith, l)
  weight_by_text (power μ b ξ e) w =
      let l = weight_by_text b w.0 in
      let c = enclosed_long (needs as_base b) (text b) in
      let d = digits_one e in
      let a = length-append (enclosed (needs as_base b) (text b)) (power_sign ∷ digits e) in
      omega (arith, l, c, d, a)

  joined_weighs : (p : Place) (sign : ℕ) (f : Forest) → 2 ≤ count f → WFs f → weights f + 2 ≤ 2 * length (joined p sign f)
  joined_weighs p sign nil h w = absurd (omega (arith, h))
  joined_weighs p sign (cons t f) h w =
      let l = weight_by_text t w.0 in
      let c = enclosed_long (needs p t) (text t) in
      let o = others_weigh p sign f w.1 in
      let a = length-append (enclosed (needs p t) (text t)) (others p sign f) in
      omega (arith, l, c, o, a, h)

  others_weigh : (p : Place) (sign : ℕ) (f : Forest) → WFs f → weights f + count f ≤ 2 * length (others p sign f)
  others_weigh p sign nil w = omega arith
  others_weigh p sign (cons t f) w =
      let l = weight_by_text t w.0 in
      let c = enclosed_long (needs p t) (text t) in
      let o = others_weigh p sign f w.1 in
      let a = length-append (enclosed (needs p t) (text t)) (others p sign f) in
      omega (arith, l, c, o, a)
