-- Walking over the text of a tree: what a walk does at each character that is no parenthesis, and at each group, tells what it does at the
-- whole text: it notes the rank of the tree. By induction on the tree, a group being handed the law of its own tree.
use Prim.Native.Nat.{ℕ, zero, suc, ◌+◌, ◌-◌, ◌/◌, ◌%◌, ◌<◌, ◌≤◌}
use mathlib.Core.Path.{◌≡◌, refl, sym, ap, ◌∙◌}
use mathlib.Core.Bool.{Bool, true, false, cond}
use mathlib.Core.List.{List, [], ◌∷◌, ◌++◌, append_assoc}
use native.Mathlib.Omega.{arith}
use borrow.Author.Tests.{ne_eqb, ltb-true}
use lib.Dec.{ltb}
use lib.IntN.{pos, negsuc}
use Rattle.paper.specs.Tree.{Tree, Forest, integer, symbol, sum, product, power, nil, cons, count, weight, weights}
use Rattle.paper.specs.WellFormed.{WF, WFs}
use Rattle.paper.proofs.Value.{weight_pos}
use Rattle.paper_text.specs.Text.{opens, closes, times, plus, minus, power_sign, ess, nought, digits, digits_of, signed_digits, Place, in_sum, in_product}
use Rattle.paper_text.specs.Text.{as_base, needs, enclosed, text, joined, others}
use Rattle.paper_text.specs.Levels.{rank, sign_rank}
use Rattle.paper_text.proofs.DigitLaws.{digits_after}
use Rattle.paper_text.proofs.Follows.{plain}

-- the rank that a member shows at its place
unfoldable pub shown : Place → Tree → ℕ
shown p t = cond (needs p t) 0 (rank t)

shown_in_sum : (t : Tree) → shown in_sum t ≤ 3
unfolding shown needs rank
shown_in_sum (integer μ (pos n)) = omega arith
shown_in_sum (integer μ (negsuc n)) = omega arith
shown_in_sum (symbol μ s) = omega arith
shown_in_sum (sum μ f) = omega arith
shown_in_sum (product μ f) = omega arith
shown_in_sum (power μ b ξ e) = omega arith

shown_in_product : (t : Tree) → shown in_product t ≤ 2
unfolding shown needs rank
shown_in_product (integer μ (pos n)) = omega arith
shown_in_product (integer μ (negsuc n)) = omega arith
shown_in_product (symbol μ s) = omega arith
shown_in_product (sum μ f) = omega arith
shown_in_product (product μ f) = omega arith
shown_in_product (power μ b ξ e) = omega arith

shown_as_base : (t : Tree) → shown as_base t ≤ 1
unfolding shown needs rank
shown_as_base (integer μ (pos n)) = omega arith
shown_as_base (integer μ (negsuc n)) = omega arith
shown_as_base (symbol μ s) = omega arith
shown_as_base (sum μ f) = omega arith
shown_as_base (product μ f) = omega arith
shown_as_base (power μ b ξ e) = omega arith

pub digit_plain : (x : ℕ) → x < 10 → plain (nought + x) ≡ true
unfolding plain
digit_plain x h = rw (ne_eqb (48 + x) 40 (λ e. absurd (omega (arith, e))), ne_eqb (48 + x) 41 (λ e. absurd (omega (arith, e))))

pub digit_rank : (x : ℕ) → x < 10 → sign_rank (nought + x) ≡ 0
unfolding sign_rank
digit_rank x h =
    rw (
      ne_eqb (48 + x) 43 (λ e. absurd (omega (arith, e))),
      ne_eqb (48 + x) 42 (λ e. absurd (omega (arith, e))),
      ne_eqb (48 + x) 94 (λ e. absurd (omega (arith, e, h))),
      ne_eqb (48 + x) 45 (λ e. absurd (omega (arith, e))),
    )

-- a walk F from a state, which notes ranks; Ok S w: from here groups of weight w are passed
pub record Walk {X S : Type 0} (F : S → List ℕ → X) (note : S → ℕ → S) (Ok : S → ℕ → Type 0) : Type 0 where
  pub lighter : (a : S) (v w : ℕ) → v ≤ w → Ok a w → Ok a v
  pub noted : (a : S) (r w : ℕ) → Ok a w → Ok (note a r) w
  pub none_noted : (a : S) → note a 0 ≡ a
  pub greater_later : (a : S) (r q : ℕ) → r ≤ q → note (note a r) q ≡ note a q
  pub lesser_later : (a : S) (r q : ℕ) → r ≤ q → note (note a q) r ≡ note a q
  pub step : (a : S) (c : ℕ) (s : List ℕ) → plain c ≡ true → F a (c ∷ s) ≡ F (note a (sign_rank c)) s
  pub into : (a : S) (t : Tree) (rest : List ℕ) → WF t → Ok a (weight t)
      → ((b : S) (more : List ℕ) → Ok b (weight t - 2) → F b (text t ++ more) ≡ F (note b (rank t)) more)
      → F a (opens ∷ (text t ++ (closes ∷ rest))) ≡ F a rest

module _ {X S : Type 0} (F : S → List ℕ → X) (note : S → ℕ → S) (Ok : S → ℕ → Type 0) (k : Walk F note Ok) where
  digit_passed : (a : S) (x : ℕ) (s : List ℕ) → x < 10 → F a ((nought + x) ∷ s) ≡ F a s
  digit_passed a x s h =
      k.step a (nought + x) s (digit_plain x h) ∙ ap (λ (r : ℕ). F (note a r) s) (digit_rank x h) ∙ ap (λ (b : S). F b s) (k.none_noted a)

  digits_of_passed : (a : S) (n v : ℕ) (after : List ℕ) → F a (digits_of n v after) ≡ F a after
  unfolding digits_of
  digits_of_passed a zero v after = refl
  digits_of_passed a (suc n) v after = go (ltb v 10) refl (digits_of_passed a n (v / 10) ((nought + v % 10) ∷ after))
    where
      go : (b : Bool) → ltb v 10 ≡ b → F a (digits_of n (v / 10) ((nought + v % 10) ∷ after)) ≡ F a ((nought + v % 10) ∷ after)
          → F a (cond b ((nought + v) ∷ after) (digits_of n (v / 10) ((nought + v % 10) ∷ after))) ≡ F a after
      go true e ih = digit_passed a v after (ltb-true v 10 e)
      go false e ih = ih ∙ digit_passed a (v % 10) after (omega arith)

  digits_passed : (a : S) (v : ℕ) (rest : List ℕ) → F a (digits v ++ rest) ≡ F a rest
  unfolding digits
  digits_passed a v rest = ap (F a) (digits_after 20 v [] rest) ∙ digits_of_passed a 20 v rest

  -- a member at its place, from the law of its text
  member_passed : (p : Place) (t : Tree) (a : S) (rest : List ℕ) → WF t → Ok a (weight t)
      → ((b : S) (more : List ℕ) → Ok b (weight t - 2) → F b (text t ++ more) ≡ F (note b (rank t)) more)
      → F a (enclosed (needs p t) (text t) ++ rest) ≡ F (note a (shown p t)) rest
  unfolding enclosed shown
  member_passed p t a rest w o ih = go (needs p t)
    where
      go : (b : Bool) → F a (enclosed b (text t) ++ rest) ≡ F (note a (cond b 0 (rank t))) rest
      go true =
          ap (λ (s : List ℕ). F a (opens ∷ s)) (append_assoc (text t) (closes ∷ []) rest) ∙ k.into a t rest w o ih
          ∙ sym (ap (λ (b : S). F b rest) (k.none_noted a))
      go false = ih a rest (k.lighter a (weight t - 2) (weight t) (omega arith) o)

  -- two members or more, from the laws of the first and of the others
  first_passed : (p : Place) (sign : ℕ) (t : Tree) (f : Forest) (a : S) (rest : List ℕ) → plain sign ≡ true → ((u : Tree) → shown p u ≤ sign_rank sign)
      → 2 ≤ count (cons t f) → WF t → Ok a (1 + weights (cons t f) - 2)
      → ((b : S) (more : List ℕ) → Ok b (weight t - 2) → F b (text t ++ more) ≡ F (note b (rank t)) more)
      → F (note a (sign_rank sign)) (others p sign f ++ rest) ≡ F (note a (sign_rank sign)) rest
      → F a (joined p sign (cons t f) ++ rest) ≡ F (note a (sign_rank sign)) rest
  unfolding joined others weight count
  first_passed p sign t nil a rest c l h w o ih oh = absurd (omega (arith, h))
  first_passed p sign t (cons u g) a rest c l h w o ih oh =
      let z = weight_pos u in
      let b = note a (shown p t) in
      let d = note a (sign_rank sign) in
      let x = (enclosed (needs p u) (text u) ++ others p sign g) ++ rest in
      ap (F a) (append_assoc (enclosed (needs p t) (text t)) (others p sign (cons u g)) rest)
      ∙ member_passed p t a (others p sign (cons u g) ++ rest) w (k.lighter a (weight t) (1 + weights (cons t (cons u g)) - 2) (omega (arith, z)) o) ih
      ∙ k.step b sign x c
      ∙ ap (λ (e : S). F e x)
      (k.greater_later a (shown p t) (sign_rank sign) (l t) ∙ sym (k.greater_later a (sign_rank sign) (sign_rank sign) (omega arith)))
      ∙ sym (k.step d sign x c)
      ∙ oh

  mutual
    unfolding text signed_digits rank weight count joined others plain sign_rank

    pub text_passed : (t : Tree) (a : S) (rest : List ℕ) → WF t → Ok a (weight t - 2) → F a (text t ++ rest) ≡ F (note a (rank t)) rest
    text_passed (integer μ (pos n)) a rest w o = digits_passed a n rest ∙ sym (ap (λ (b : S). F b rest) (k.none_noted a))
    text_passed (integer μ (negsuc n)) a rest w o = k.step a minus (digits (suc n) ++ rest) refl ∙ digits_passed (note a 1) (suc n) rest
    text_passed (symbol μ v) a rest w o = k.step a ess (digits v ++ rest) refl ∙ digits_passed (note a 0) v rest
    text_passed (sum μ f) a rest w o = joined_passed in_sum plus f a rest refl shown_in_sum w.0 w.1 o
    text_passed (product μ f) a rest w o = joined_passed in_product times f a rest refl shown_in_product w.0 w.1 o
    text_passed (power μ b ξ e) a rest w o =
        ap (F a) (append_assoc (enclosed (needs as_base b) (text b)) (power_sign ∷ digits e) rest)
        ∙ member_passed as_base b a ((power_sign ∷ digits e) ++ rest) w.0
        (k.lighter a (weight b) (2 + weight b - 2) (omega arith) o) (λ c more q. text_passed b c more w.0 q)
        ∙ k.step (note a (shown as_base b)) power_sign (digits e ++ rest) refl
        ∙ digits_passed (note (note a (shown as_base b)) 1) e rest
        ∙ ap (λ (c : S). F c rest) (k.greater_later a (shown as_base b) 1 (shown_as_base b))

    joined_passed : (p : Place) (sign : ℕ) (f : Forest) (a : S) (rest : List ℕ) → plain sign ≡ true → ((t : Tree) → shown p t ≤ sign_rank sign)
        → 2 ≤ count f → WFs f → Ok a (1 + weights f - 2) → F a (joined p sign f ++ rest) ≡ F (note a (sign_rank sign)) rest
    joined_passed p sign nil a rest c l h w o = absurd (omega (arith, h))
    joined_passed p sign (cons t f) a rest c l h w o =
        let q = weight_pos t in
        let d = note a (sign_rank sign) in
        first_passed p sign t f a rest c l h w.0 o (λ e more m. text_passed t e more w.0 m)
        (others_passed p sign f d rest c l (k.greater_later a (sign_rank sign) (sign_rank sign) (omega arith)) w.1
        (k.noted a (sign_rank sign) (weights f) (k.lighter a (weights f) (1 + weights (cons t f) - 2) (omega (arith, q)) o)))

    -- once the sign is noted, no member and no sign notes more
    others_passed : (p : Place) (sign : ℕ) (f : Forest) (a : S) (rest : List ℕ) → plain sign ≡ true → ((t : Tree) → shown p t ≤ sign_rank sign)
        → note a (sign_rank sign) ≡ a → WFs f → Ok a (weights f) → F a (others p sign f ++ rest) ≡ F a rest
    others_passed p sign nil a rest c l full w o = refl
    others_passed p sign (cons t f) a rest c l full w o =
        let same : note a (shown p t) ≡ a
        = ap (λ (b : S). note b (shown p t)) (sym full) ∙ k.lesser_later a (shown p t) (sign_rank sign) (l t) ∙ full in
        k.step a sign ((enclosed (needs p t) (text t) ++ others p sign f) ++ rest) c
        ∙ ap (λ (b : S). F b ((enclosed (needs p t) (text t) ++ others p sign f) ++ rest)) full
        ∙ ap (F a) (append_assoc (enclosed (needs p t) (text t)) (others p sign f) rest)
        ∙ member_passed p t a (others p sign f ++ rest) w.0 (k.lighter a (weight t) (weight t + weights f) (omega arith) o)
        (λ b more m. text_passed t b more w.0 m)
        ∙ ap (λ (b : S). F b (others p sign f ++ rest)) same
        ∙ others_passed p sign f a rest c l full w.1 (k.lighter a (weights f) (weight t + weights f) (omega arith) o)
